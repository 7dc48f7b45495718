-- Why a release names a controller, which answers undo or drop, and which say that a crash is accepted.
use Rattle.std.proofs.Math.Path.{◌≡◌}
use Rattle.std.specs.Prelude.{true}
use Prim.Native.Nat.{ℕ, ◌<◌}
use Rattle.table.specs.Field.{Known}
use Rattle.table.specs.Words.{state}
use Rattle.rules.specs.declared.Answer.{Answer}
use Rattle.rules.specs.declared.Answer.TheVariants.{Dropped, Crashed, Rolled}
use Rattle.history.specs.History.{Interval}
use Rattle.history.specs.Demand.{Run}

-- Why a release of message m, in a run, names c: c owns an interval that the sending interval rests on, and that is not "known
-- stable" to the sender: its number is above the sender's known word for it.
pub record Reason (r : Run) (m c : ℕ) : Type 0 where
  pub on : Interval
  pub owner_is : on.owner ≡ c
  pub rests : r.history.rests (r.history.sending m) on ≡ true
  pub unknown : state r.table (Known (r.history.sending m).owner c on.incarnation) < on.number

-- answers that undo or drop
pub data Undoes : Answer → Type 0 where
  answers_rolled : (b k undone replayed owner i : ℕ) → Undoes (Rolled b k undone replayed owner i)
  answers_dropped : (m owner i : ℕ) → Undoes (Dropped m owner i)

-- a crash is accepted
pub data CrashAccepted : Answer → Type 0 where
  answers_crashed : (c i k lost replayed : ℕ) → CrashAccepted (Crashed c i k lost replayed)
