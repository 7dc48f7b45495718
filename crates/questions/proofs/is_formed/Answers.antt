-- The tests are those of the definition: the length, and then the form, of which a head that isn't in form settles the
-- answer. By and-true the right answer in other words passes too, so that an edit is refused for its value.
use Rattle.questions.specs.Numbers.{formed, unformed, form_number}
use Rattle.laws.specs.Facts.{no_head}
use Rattle.std.proofs.Math.Bool.{and-true}
use Rattle.std.proofs.Common.{rules, sym, ap, ◌∙◌, Bool, cond, eq-eqb, ne_eqb}
use Rattle.questions.proofs.is_formed.Goals as goal

pub returns-in-None : goal.returns-in-None
unfolding form_number
returns-in-None c = rw (ne_eqb _ _ c.in-None.ensures.cases)

pub returns-then-head_ok : goal.returns-then-head_ok
unfolding form_number
returns-then-head_ok c =
    let whole = c.in-Some.ensures.cases in
    rw (eq-eqb _ _ whole.long, ← whole.same) (ap (λ (b : Bool). cond b formed unformed) (search (rules, and-true)))

pub returns-else-head_ok : goal.returns-else-head_ok
unfolding form_number
returns-else-head_ok c =
    let whole = c.in-Some.ensures.cases in
    rw (c.if-head_ok.false, eq-eqb _ _ whole.long, ← whole.same, no_head _ _ (sym c.head_ok.ensures ∙ c.if-head_ok.false))
