use Rattle.rules.specs.Shared.{latest_flagged}
use Rattle.laws.specs.Numbers.{number_fits}
use Rattle.interval.specs.Walks.{flagged_none, flagged_here, flagged_below}
use Rattle.std.proofs.Common.{◌≡◌, refl, sym, ap, ◌∙◌, arith, rules}
use Rattle.interval.proofs.latest_flagged.Goals as goal

pub number_of-requires : goal.number_of-requires
number_of-requires c = search (rules, number_fits)

pub returns-then-flag-eq1 : goal.returns-then-flag-eq1
returns-then-flag-eq1 c =
    c.number_of.ensures ∙ flagged_here _ _ _ _ refl (sym c.flag.ensures ∙ c.if-flag-eq1.true) ∙ ap (latest_flagged _ _) (omega arith) ∙ sym c.loop-q.invariant

pub loop-q-preserved : goal.loop-q-preserved
loop-q-preserved c = c.loop-q.invariant ∙ sym (flagged_below _ _ _ _ (omega arith) (λ e. c.if-flag-eq1.false (c.flag.ensures ∙ e)))

pub returns : goal.returns
returns c =
    let z : c.loop-q.q ≡ 0 = omega (arith, c.loop-q-test.false) in
    sym (c.loop-q.invariant ∙ ap (latest_flagged _ _) z ∙ sym (flagged_none _ _))
