-- The limits of a house, which are parameters of the rules.
use Rattle.std.specs.Prelude.{ℕ}
use Rattle.table.specs.Layout.{places, messages}

-- How many places a controller has, how many message records the house, how far interval numbers run, and how many entries the
-- ledger has.
pub record Limits : Type 0 where
  pub places : ℕ
  pub messages : ℕ
  pub numbers : ℕ
  pub entries : ℕ

-- "An interval has an incarnation t (0 to 15) and a number x (1 to 64)."
abbrev pub last_incarnation : ℕ
last_incarnation = 15

abbrev pub last_number : ℕ
last_number = 64

-- W4: "a house-wide gap Q, 0 to 64"
abbrev pub last_gap : ℕ
last_gap = 64

-- W7: "Word 12 is in form up to 7"
abbrev pub last_served : ℕ
last_served = 7

-- W2: "the ledger has 257 words: a count, then 128 pairs"
abbrev pub last_entry : ℕ
last_entry = 128

abbrev pub house : Limits
house = record { places = places; messages = messages; numbers = last_number; entries = last_entry }
