-- The length, and then the form, settle the answer, or the flag does.
use Rattle.questions.specs.Numbers.{form_number, checkpoint_number}
use Rattle.std.proofs.Common.{sym, ◌∙◌, eq-eqb, ne_eqb}
use Rattle.questions.proofs.is_checkpoint.Goals as goal

pub returns-in_default : goal.returns-in_default
unfolding checkpoint_number form_number
returns-in_default c = rw (ne_eqb _ _ c.in_default.ensures.cases)

pub returns-then-in_form : goal.returns-then-in_form
unfolding checkpoint_number form_number
returns-then-in_form c =
    let whole = c.in-Some.ensures.cases in
    rw (eq-eqb _ _ whole.long, ← whole.same, c.newest_flagged.ensures, sym c.in_form.ensures ∙ c.if-in_form.true)

pub returns-else-in_form : goal.returns-else-in_form
unfolding checkpoint_number form_number
returns-else-in_form c =
    let whole = c.in-Some.ensures.cases in
    rw (eq-eqb _ _ whole.long, ← whole.same, c.if-in_form.false, sym c.in_form.ensures ∙ c.if-in_form.false)
