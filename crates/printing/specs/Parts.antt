-- Bytes written at a place of a list, as the contracts of the code that writes them say it, and the room that they
-- need.
use Rattle.std.specs.Prelude.{◌≡◌, List, ℕ, ◌+◌, ◌*◌, ◌≤◌, length}
use Rattle.base.specs.Splice.{splice}
use Rattle.lines.specs.Lines.{most_digits}

-- a space and a number
abbrev pub number_room : ℕ
number_room = 1 + most_digits

-- the line of any answer: the longest is the six letters of `rolled` with six numbers, and a line feed
abbrev pub answer_room : ℕ
answer_room = 6 + 6 * number_room + 1

-- `bytes` stand from `at` on, the other bytes are as before, and `r` is where they end
pub record Written (before : List ℕ) (at : ℕ) (bytes : List ℕ) (after : List ℕ) (r : ℕ) : Type 0 where
  pub stands : after ≡ splice before at bytes
  pub ends : r ≡ at + length bytes

-- the same, within the room of an answer
pub record Short (before : List ℕ) (at : ℕ) (bytes : List ℕ) (after : List ℕ) (r : ℕ) : Type 0 where
  pub written : Written before at bytes after r
  pub fits : r ≤ at + answer_room
