-- The buffer has another length (wrong_values_lem), or the set's answer is given (answer_given).
use Rattle.goulvizad.specs.Call.{set_call}
use Rattle.run.specs.Call.{wrong_values_lem, right_values, answer_given}
use Rattle.goulvizad.proofs.goulvizad_release_set.Goals as goal

pub returns-in_default : goal.returns-in_default
unfolding set_call
returns-in_default c = rw c.from.ensures (wrong_values_lem _ _ _ _ c.in_default.ensures.cases)

pub returns : goal.returns
unfolding set_call
returns c = right_values _ _ _ _ c.in-Some.ensures.cases.long (answer_given _ c.release_set.ensures c.give_answer.ensures.0 c.give_answer.ensures.1)
