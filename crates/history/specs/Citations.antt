-- W2: what a house let out to the desk, read off the steps and their answers alone, as the history is; and the ledger that says
-- just that.
use Rattle.std.specs.Prelude.{cond, ℕ, length, get_or, ◌==◌}
use mathlib.Core.List.{List, [], ◌∷◌, ◌++◌, map, flatten}
use Rattle.base.specs.Lists.{tab}
use Rattle.table.specs.Field.{desk}
use Rattle.rules.specs.Limits.{house}
use Rattle.rules.specs.Ledger.{ledger_words}
use Rattle.rules.specs.Step.{Call, asks, release_set, dispatch}
use Rattle.rules.specs.declared.Answer.{Answer}
use Rattle.rules.specs.declared.Answer.TheVariants.{Done, Sent, Released, SetReleased}
use Rattle.rules.specs.declared.Command.{Command}
use Rattle.rules.specs.declared.Command.TheVariants.{Open, SetDegree, Send, Release, Deliver, Log, Checkpoint, Tell, Crash, Hear, SetGap}
use Rattle.history.specs.History.{changed_at, answers, value_at}

-- "message number and payload"
pub record Citation : Type 0 where
  pub message : ℕ
  pub payload : ℕ

-- each message's receiver and payload, as its send named them, and the messages for the desk that were let out, the first first
pub record Citations : Type 0 where
  pub receiver : ℕ → ℕ
  pub payload : ℕ → ℕ
  pub published : List Citation

-- in a house just opened
abbrev pub no_citations : Citations
no_citations = record { receiver = λ (m : ℕ). 0; payload = λ (m : ℕ). 0; published = [] }

-- message m for r was sent with payload p
unfoldable pub sent_with : Citations → ℕ → ℕ → ℕ → Citations
sent_with q m r p = record { receiver = changed_at q.receiver m r; payload = changed_at q.payload m p; published = q.published }

-- message m was let out; where it is for the desk, that is its publication
unfoldable pub let_out_to : Citations → ℕ → Citations
let_out_to q m =
    let citation : Citation = record { message = m; payload = q.payload m } in
    let more = cond (q.receiver m == desk) (citation ∷ []) [] in
    record { receiver = q.receiver; payload = q.payload; published = q.published ++ more }

-- fed each step, in order, with its numbers and its answer
unfoldable pub cited_step : Command → Answer → Citations → Citations
cited_step (Open n k) a q = cond (answers a Done) no_citations q
cited_step (Send s r p) a q = cond (answers a (Sent 0)) (sent_with q (value_at a 0) r p) q
cited_step (Release m) a q = cond (answers a (Released 0 0)) (let_out_to q m) q
cited_step (SetDegree c k) a q = q
cited_step (Deliver m) a q = q
cited_step (Log c n) a q = q
cited_step (Checkpoint c) a q = q
cited_step (Tell teller told) a q = q
cited_step (Crash c) a q = q
cited_step (Hear b crashed i) a q = q
cited_step (SetGap gap) a q = q

-- W5: the messages of a list were let out; "desk messages enter the ledger in the order given"
unfoldable pub all_let_out : Citations → List ℕ → Citations
all_let_out q [] = q
all_let_out q (m ∷ l) = all_let_out (let_out_to q m) l

unfoldable pub cited : Call → Answer → Citations → Citations
cited (asks x) a q = cited_step x a q
cited (release_set l) a q = cond (answers a (SetReleased 0)) (all_let_out q l) q
cited dispatch a q = q

-- "a count, then 128 pairs of message number and payload, in the order of publishing. Unused pairs are 0."
abbrev pub pair_of : Citation → List ℕ
pair_of c = c.message ∷ c.payload ∷ []

unfoldable pub ledger_of : List Citation → List ℕ
ledger_of cs = tab (ledger_words house) (λ (i : ℕ). get_or (length cs ∷ flatten (map pair_of cs)) i 0)
