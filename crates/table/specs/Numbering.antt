-- The ways between a place or a record and its number. Every number that a rule makes from a place, a count or a record is
-- made here, and so is the way back. Rules, code and theorem use the laws of proofs/Numbering.antt and not the text of these
-- definitions.
use Rattle.std.specs.Prelude.{◌≡◌, Bool, not, ◌&&◌, List, ℕ, ◌+◌, ◌-◌}
use Rattle.std.proofs.Math.Bool.{false, cond}
use Rattle.base.specs.Choice.{◌≤?◌, ◌<?◌}
use Rattle.table.specs.Field.{Field, State, OfHead, OfController, Known, End, OfPlace, OfMessage, SentCount, Discarded, LiveCount, numberless}
use Rattle.table.specs.Change.{put, put_part}
use Rattle.table.specs.Layout.{controllers}

-- The count discarded of c. The eight controllers have a word for it each, and nobody else: the next word is the gap.
abbrev pub discarded : State → ℕ → ℕ
discarded σ c = cond (c <? controllers) (σ (Discarded c)) 0

-- "place p has number p + 1"; W11: "place p has that count plus p + 1". The number of the k-th live interval of c, counted from 1: place
-- p holds the (p + 1)-th.
unfoldable pub number_of : State → ℕ → ℕ → ℕ
number_of σ c k = discarded σ c + k

-- And back: the place of c with the number x. Numbers on a chain follow each other from that of place 0 on.
unfoldable pub place_of : State → ℕ → ℕ → ℕ
place_of σ c x = x - number_of σ c 1

-- the number of the newest live interval of c, the highest on its chain
abbrev pub last_live : State → ℕ → ℕ
last_live σ c = number_of σ c (σ (LiveCount c))

-- "Word 1: messages sent" has two meanings: the message records in use, which stand one after the other from record 0 on ..
unfoldable pub used : State → ℕ
used σ = σ SentCount

-- .. and the last message number given.
unfoldable pub last_given : State → ℕ
last_given σ = σ SentCount

-- the number that the next message gets
abbrev pub next_message : State → ℕ
next_message σ = last_given σ + 1

-- "Message m (from 1) stands at record m − 1": its record, or the records in use where no such message is there.
unfoldable pub record_of : State → ℕ → ℕ
record_of σ m = cond ((1 ≤? m) && (m ≤? last_given σ)) (m - 1) (used σ)

-- And back: the number of the message in record r.
unfoldable pub message_of : State → ℕ → ℕ
message_of σ r = r + 1

-- message m is there
abbrev pub present : State → ℕ → Bool
present σ m = record_of σ m <? used σ

-- a message with the words w is put into the first unused record, and the next number is given
unfoldable pub posted : State → List ℕ → State
posted σ w = put (put_part σ (OfMessage (used σ) 0) 0 w) SentCount (next_message σ)

-- UNTOUCHED BY OTHER WORDS
-- the words that numbering looks at, of the head alone
abbrev pub numbering : Field → Bool
numbering (OfHead i) = not (numberless i)
numbering (OfController c k) = false
numbering (Known holder owner i) = false
numbering (End holder owner i) = false
numbering (OfPlace c p k) = false
numbering (OfMessage r k) = false

-- σ and τ number alike
pub record Numbered (σ τ : State) : Type 0 where
  pub number : (c k : ℕ) → number_of σ c k ≡ number_of τ c k
  pub place : (c x : ℕ) → place_of σ c x ≡ place_of τ c x
  pub used_same : used σ ≡ used τ
  pub last : last_given σ ≡ last_given τ
  pub record_same : (m : ℕ) → record_of σ m ≡ record_of τ m
  pub message : (r : ℕ) → message_of σ r ≡ message_of τ r
