-- The number that a field of a line is, as the contract of the code that reads it says it.
use Rattle.std.specs.Prelude.{cond, Option, Some, None, List, ℕ}
use Rattle.lines.specs.Lines.{value_of, is_number}

-- the number that a field is, if it is one
unfoldable pub number : List ℕ → Option ℕ
number w = cond (is_number w) (Some (value_of w)) None
