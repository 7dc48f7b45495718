-- One step, and the calls beside it: on a state and a ledger, and on the words of a lent table and a lent ledger.
use Rattle.std.specs.Prelude.{Bool, true, false, not, cond, ◌&&◌, List, ℕ, length, ◌==◌}
use Rattle.table.specs.Field.{State}
use Rattle.table.specs.Layout.{table_words}
use Rattle.table.specs.Words.{state, words}
use Rattle.rules.specs.Limits.{Limits, house}
use Rattle.rules.specs.Refusal.{LENGTH, FORM}
use Rattle.rules.specs.Form.{in_form}
use Rattle.rules.specs.Steps.{After, refuse, AfterBoth, beside, step_open, step_degree, step_send, step_release, step_deliver, step_log, step_checkpoint, step_tell, step_crash, step_hear, step_gap}
use Rattle.rules.specs.Sets.{step_set}
use Rattle.rules.specs.Dispatch.{dispatched}
use Rattle.rules.specs.declared.Answer.{Answer}
use Rattle.rules.specs.declared.Answer.TheVariants.{Refused}
use Rattle.rules.specs.declared.Command.{Command}
use Rattle.rules.specs.declared.Command.TheVariants.{Open, SetDegree, Send, Release, Deliver, Log, Checkpoint, Tell, Crash, Hear, SetGap}

-- a step after the host's refusals of the table; only O and R look at the ledger
unfoldable pub perform : Limits → State → List ℕ → Command → AfterBoth
perform L σ g (Open n k) = step_open L σ g n k
perform L σ g (SetDegree c k) = beside (step_degree σ c k) g
perform L σ g (Send sender receiver payload) = beside (step_send L σ sender receiver payload) g
perform L σ g (Release m) = step_release L σ g m
perform L σ g (Deliver m) = beside (step_deliver L σ m) g
perform L σ g (Log c q) = beside (step_log σ c q) g
perform L σ g (Checkpoint c) = beside (step_checkpoint σ c) g
perform L σ g (Tell owner holder) = beside (step_tell σ owner holder) g
perform L σ g (Crash c) = beside (step_crash L σ c) g
perform L σ g (Hear hearer owner i) = beside (step_hear σ hearer owner i) g
perform L σ g (SetGap q) = beside (step_gap σ q) g

-- "2 table not in form (not looked at by open)"
abbrev pub looks_at_form : Command → Bool
looks_at_form (Open n k) = false
looks_at_form (SetDegree c k) = true
looks_at_form (Send sender receiver payload) = true
looks_at_form (Release m) = true
looks_at_form (Deliver m) = true
looks_at_form (Log c q) = true
looks_at_form (Checkpoint c) = true
looks_at_form (Tell owner holder) = true
looks_at_form (Crash c) = true
looks_at_form (Hear hearer owner i) = true
looks_at_form (SetGap q) = true

unfoldable pub step_on : Limits → State → List ℕ → Command → AfterBoth
step_on L σ g x = cond (looks_at_form x && not (in_form L σ)) (beside (refuse FORM σ) g) (perform L σ g x)

-- an answer, and the table that is left: of a step beside which the ledger stays
pub record Out : Type 0 where
  pub answer : Answer
  pub table : List ℕ

abbrev pub out : Answer → List ℕ → Out
out a t = record { answer = a; table = t }

abbrev pub written : After → Out
written o = out o.answer (words o.left)

-- an answer, and both buffers that are left
pub record OutBoth : Type 0 where
  pub answer : Answer
  pub table : List ℕ
  pub ledger : List ℕ

abbrev pub out_both : Answer → List ℕ → List ℕ → OutBoth
out_both a t g = record { answer = a; table = t; ledger = g }

abbrev pub written_both : AfterBoth → OutBoth
written_both o = out_both o.answer (words o.left) o.ledger

-- "1 length is not 15,152": what a step does on the state of a table is done on the table.
unfoldable pub lent : List ℕ → List ℕ → (State → AfterBoth) → OutBoth
lent t g f = cond (length t == table_words) (written_both (f (state t))) (out_both (Refused LENGTH) t g)

-- The step function of a house over its two lent buffers, the table and the ledger: the answer, and every word that is left.
unfoldable pub step : List ℕ → List ℕ → Command → OutBoth
step t g x = lent t g (λ σ. step_on house σ g x)

-- W5: a set is released, of the messages in a list; "2 table not in form"
unfoldable pub set_on : Limits → State → List ℕ → List ℕ → AfterBoth
set_on L σ g l = cond (not (in_form L σ)) (beside (refuse FORM σ) g) (step_set L σ g l)

-- W7: a call of the dispatcher, which doesn't look at the ledger; "2 table not in form"
unfoldable pub dispatch_on : Limits → State → After
dispatch_on L σ = cond (not (in_form L σ)) (refuse FORM σ) (dispatched L σ)

-- What a list of demand 3 is made of. "A call that a request adds and that writes the table stands in the list too": a call that stands beside
-- the step function is a constructor.
pub data Call : Type 0 where
  asks : Command → Call
  release_set : List ℕ → Call
  dispatch : Call

-- a call over the lent buffers
unfoldable pub step_call : List ℕ → List ℕ → Call → OutBoth
step_call t g (asks x) = step t g x
step_call t g (release_set l) = lent t g (λ σ. set_on house σ g l)
step_call t g dispatch = lent t g (λ σ. beside (dispatch_on house σ) g)
