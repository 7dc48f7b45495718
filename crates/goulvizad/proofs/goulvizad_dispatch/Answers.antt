-- The buffer has another length (wrong_values_lem), or the call was made (right_values) beside whatever ledger.
use Rattle.goulvizad.specs.Call.{dispatch_call}
use Rattle.run.specs.Call.{wrong_values_lem, right_values, answer_given}
use Rattle.goulvizad.proofs.goulvizad_dispatch.Goals as goal

pub returns-in_default : goal.returns-in_default
unfolding dispatch_call
returns-in_default c = λ g. rw c.from.ensures (wrong_values_lem _ g _ _ c.in_default.ensures.cases)

pub returns : goal.returns
unfolding dispatch_call
returns c = λ g. right_values _ g _ _ c.in-Some.ensures.cases.long (answer_given _ (c.dispatch-said.ensures g) c.give_answer.ensures.0 c.give_answer.ensures.1)
