-- What the passed refusals of a step say to the function that does it, and the answers of the steps on message m in
-- record r.
use Rattle.std.specs.Prelude.{◌≡◌, List, ℕ, ◌+◌, ◌<◌, ◌^◌, length, Result, Err}
use Rattle.std.proofs.Common.{arith}
use Rattle.base.specs.Cases.{first_of}
use Rattle.table.specs.Field.{State}
use Rattle.table.specs.Layout.{messages, table_words}
use Rattle.table.specs.Words.{state}
use Rattle.table.specs.Numbering.{used, last_given, record_of}
use Rattle.table.proofs.Numbering.{given_le}
use Rattle.rules.specs.Limits.{house}
use Rattle.rules.specs.Steps.{After, refusing, send_refusals, message_refusals}
use Rattle.rules.specs.Step.{out, written}
use Rattle.rules.specs.Refused.{number, refusal_of}
use Rattle.rules.specs.declared.Answer.{Answer}
use Rattle.rules.specs.declared.Answer.TheVariants.{Refused}
use Rattle.rules.specs.declared.refusal.Refusal.{Refusal}
use Rattle.laws.specs.Facts.{form}
use Rattle.laws.specs.Allowed.{send_allowed}
use Rattle.laws.specs.Answering.{Lent, turned_away, granted}
use Rattle.laws.specs.Chain.{Chain, chain_of_lem}

-- S: the sender has its chain, and a record is left
module _ (t : List ℕ) (l : Lent t) (sender receiver : ℕ) (e : 0 ≡ first_of (send_refusals house (state t) sender receiver)) where
  pub send_chain : Chain (state t) sender
  send_chain = chain_of_lem t sender l (send_allowed house (state t) sender receiver e).sender_lt

  pub send_room : used (state t) < messages
  send_room = (send_allowed house (state t) sender receiver e).room

-- the next number fits a word
pub next_fits : (σ : State) (c m : ℕ) → Chain σ c → m ≡ last_given σ → m + 1 < 2 ^ 32
next_fits σ c m h e = omega (arith, given_le σ h.used_le)

-- R and D: a record in use is one of the table
pub record_there : (t : List ℕ) (n r : ℕ) → Lent t → n ≡ used (state t) → r < n → r < messages
record_there t n r l e h = omega (arith, (form house (state t) l.good).used_le)

-- the step, by the record r that was found for message m: refused, or done
module _ (t : List ℕ) (m r wanted : ℕ) (q : r ≡ record_of (state t) m) where
  pub message_refused : (o : ℕ → After) (found : Result Unit Refusal) (refusal : Refusal) → length t ≡ table_words →
      refusal_of found ≡ first_of (message_refusals (state t) r wanted) → found ≡ Err refusal →
      out (Refused (number refusal)) t ≡ written (refusing (message_refusals (state t) (record_of (state t) m) wanted) (state t) (o (record_of (state t) m)))
  message_refused o found refusal l e w = rw (← q) (turned_away _ t (o r) found refusal l e w)

  pub message_granted : (o : ℕ → After) (a : Answer) (u : List ℕ) → 0 ≡ first_of (message_refusals (state t) r wanted) → out a u ≡ written (o r) →
      out a u ≡ written (refusing (message_refusals (state t) (record_of (state t) m) wanted) (state t) (o (record_of (state t) m)))
  message_granted o a u e h = rw (← q) (granted _ (state t) (o r) a u e h)
