-- The step's number is stored, and its values come back in the part that was lent for them (step_done).
use Rattle.run.proofs.Running.{step_done}
use Rattle.std.proofs.Common.{◌∙◌, arith, length-set}
use Rattle.run.proofs.answer_step.Goals as goal

pub returns : goal.returns
returns c =
    let e = c.step_known-done.ensures in
    let f = c.report-number.ensures in
    record { answered = step_done _ _ _ c.args.d.now _ _ (simp length-set (omega (arith, c.requires.1))) e.answered f.0 (c.copy_from_slice.ensures.after ∙ f.1); form_known = e.form_known }
