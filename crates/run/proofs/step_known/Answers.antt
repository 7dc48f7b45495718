-- A table of another length is refused (too_short) and stays; else what is known of the form is carried on (form_long).
use Rattle.laws.specs.Answering.{too_short}
use Rattle.run.proofs.Running.{form_short, form_long}
use Rattle.std.proofs.Common.{sym, ◌∙◌}
use Rattle.run.proofs.step_known.Goals as goal

pub returns-in_default : goal.returns-in_default
returns-in_default c =
    let short = c.in_default.ensures.cases in
    record { answered = rw c.from.ensures (too_short _ _ _ short); form_known = form_short _ short }

pub step_carried-requires : goal.step_carried-requires
step_carried-requires c =
    let whole = c.in-Some.ensures.cases in
    rw whole.same (whole.long, c.requires ∙ form_long _ whole.long)

pub returns : goal.returns
returns c =
    let e = c.step_carried.ensures in
    record { answered = rw c.in-Some.ensures.cases.same at e.answered; form_known = e.form_known.1 ∙ sym (form_long _ e.form_known.0) }
