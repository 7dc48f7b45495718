-- The table of a state and the state of a table.
use Rattle.std.specs.Prelude.{◌≡◌, List, ℕ, ◌+◌, ◌≤◌, ◌<◌, length, get_or}
use Rattle.base.specs.Lists.{tab}
use Rattle.table.specs.Field.{Field, State, word_of}
use Rattle.table.specs.Layout.{table_words, Valid, position, field_at}

-- the state of a table, and the table of a state
abbrev pub state : List ℕ → State
state t f = get_or t (position f) 0

unfoldable pub words : State → List ℕ
words σ = tab table_words (λ (i : ℕ). σ (field_at i))

-- the words of f's record from word k on, as many as r has, are in the table
pub record Fits (f : Field) (k : ℕ) (r : List ℕ) : Type 0 where
  pub end : position (word_of f k) + length r ≤ table_words
  pub valid : (i : ℕ) → i < length r → Valid (word_of f (k + i))

-- two states have the same words, and so one table
abbrev pub Agree : State → State → Type 0
Agree σ τ = (f : Field) → Valid f → σ f ≡ τ f
