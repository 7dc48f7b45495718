-- The two cases of the definition (form_short, form_long).
use Rattle.run.proofs.Running.{form_short, form_long}
use Rattle.run.proofs.form_of.Goals as goal

pub returns-in-None : goal.returns-in-None
returns-in-None c = form_short _ c.in-None.ensures.cases

pub returns-in-Some : goal.returns-in-Some
returns-in-Some c =
    let whole = c.in-Some.ensures.cases in
    rw (form_long _ whole.long, ← whole.same) c.in_form.ensures
