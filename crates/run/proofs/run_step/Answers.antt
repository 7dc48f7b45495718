-- The letter is known, so the step is taken (step_called).
use Rattle.run.specs.Run.{known}
use Rattle.run.specs.Running.{in_answer}
use Rattle.run.proofs.Running.{step_called}
use Rattle.std.proofs.Common.{true≢false, sym, ap, ◌∙◌}
use Rattle.run.proofs.run_step.Goals as goal

pub returns-in_default : goal.returns-in_default
returns-in_default c = absurd (true≢false (sym c.requires.2 ∙ ap known (sym c.asked_by.ensures ∙ c.in_default.is)))

pub returns : goal.returns
returns c =
    let e = c.answer_step.ensures in
    record { answered = e.answered ∙ ap in_answer (step_called _ _ c.args.step.now 0 _ (sym c.asked_by.ensures ∙ c.in-Some.is)); form_known = e.form_known }
