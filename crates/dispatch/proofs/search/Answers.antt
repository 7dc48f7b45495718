use Rattle.dispatch.specs.Searching.{best_passed, chosen_all, chosen_first}
use Rattle.laws.specs.Facts.{form}
use Rattle.rules.specs.Limits.{house}
use Rattle.std.proofs.Common.{sym, ◌∙◌, le_refl}
use Rattle.dispatch.proofs.search.Goals as goal

pub returns-then-ahead_of-eq0 : goal.returns-then-ahead_of-eq0
returns-then-ahead_of-eq0 c =
    let a = c.requires in
    chosen_first _ (form house _ a.0.good) a.1.size_is c.better-best.ensures (sym c.ahead_of.ensures ∙ c.if-ahead_of-eq0.true)

pub returns : goal.returns
returns c =
    let a = c.requires in
    chosen_all _ (form house _ a.0.good) a.1.size_is (best_passed c.loop-r.invariant c.in_default.ensures) (le_refl _)
