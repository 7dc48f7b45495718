-- What the code of a run has to show.
use Rattle.std.specs.Prelude.{Bool, false, cond, List, ◌∷◌, ℕ, ◌==◌}
use Rattle.std.proofs.Math.ListN.{length}
use Rattle.table.specs.Layout.{table_words}
use Rattle.table.specs.Words.{state}
use Rattle.rules.specs.Limits.{house}
use Rattle.rules.specs.Form.{in_form}
use Rattle.run.specs.Call.{Returned, returned}
use Rattle.run.specs.Run.{ran_all}

-- whether a table has its length and is in form
unfoldable pub form_of : List ℕ → Bool
form_of t = cond (length t == table_words) (in_form house (state t)) false

-- a call whose number and values stand in the words of an answer
abbrev pub in_answer : Returned → Returned
in_answer r = returned ran_all r.table r.ledger (r.number ∷ r.values)
