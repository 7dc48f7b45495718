-- Each return is a case of a call: another length, an unknown letter, a step (wrong_values_lem, letter_taken).
use Rattle.run.specs.Call.{taken, call, wrong_values_lem, letter_taken, step_taken}
use Rattle.std.proofs.Common.{refl, sym, ◌∙◌}
use Rattle.goulvizad.proofs.goulvizad_step.Goals as goal

pub returns-in_default : goal.returns-in_default
unfolding call
returns-in_default c = rw c.from.ensures (wrong_values_lem _ _ _ _ c.in_default.ensures.cases)

pub returns-in_default-step_of : goal.returns-in_default-step_of
unfolding taken
returns-in_default-step_of c =
    let whole = c.in-Some.ensures.cases in
    rw (c.from-in_default-step_of.ensures, whole.same) (letter_taken _ _ _ _ _ _ _ _ whole.long (sym c.step_of.ensures ∙ c.in_default-step_of.is) refl)

pub returns : goal.returns
returns c =
    letter_taken _ _ _ _ _ _ _ _ c.in-Some.ensures.cases.long (sym c.step_of.ensures ∙ c.in-Some-step_of.is)
    (step_taken _ _ _ _ c.step.ensures c.give_answer.ensures.0 c.give_answer.ensures.1)
