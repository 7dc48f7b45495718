-- The host refuses (too_short; check_form), or the step is performed (answered), on the table that the slice is.
use Rattle.laws.specs.Answering.{too_short, answered}
use Rattle.std.proofs.Common.{◌≡◌, Err, rules}
use Rattle.machine.proofs.step_lent.Goals as goal

pub returns-in_default : goal.returns-in_default
returns-in_default c = too_short _ _ _ c.in_default.ensures.cases

pub returns-in_err-check_form : goal.returns-in_err-check_form
returns-in_err-check_form c =
    let e : c.from_residual.result ≡ Err c.in_err-check_form.field-0.0 = grind rules in
    rw (e, ← c.in-Some.ensures.cases.same) (c.in_err-check_form.ensures _)

pub returns : goal.returns
returns c = rw (← c.in-Some.ensures.cases.same) (answered _ _ _ _ c.in_ok-check_form.ensures c.perform.ensures)
