-- The same taken byte by byte, as it is read: what the contracts of the code cite. Whole.antt proves that it writes
-- what `house_writes` says, wherever the input is cut into reads.
use Rattle.std.specs.Prelude.{cond, ℕ, ◌+◌, length, take, ◌==◌}
use mathlib.Core.List.{List, [], ◌∷◌, ◌++◌, foldl}
use Rattle.lines.specs.Lines.{line_feed, longest_line}
use Rattle.lines.specs.Program.{reply, first_table, first_ledger}

-- what there is between two bytes: the table, the ledger, the bytes of a line that hasn't ended, and the answers that
-- are yet to be written
pub record Session : Type 0 where
  pub table : List ℕ
  pub ledger : List ℕ
  pub line : List ℕ
  pub owed : List ℕ

abbrev pub session : List ℕ → List ℕ → List ℕ → List ℕ → Session
session t g line owed = record { table = t; ledger = g; line = line; owed = owed }

abbrev pub begun : Session
begun = session first_table first_ledger [] []

-- room for a line: a byte more than it may have only says that there were more
abbrev pub line_room : ℕ
line_room = longest_line + 1

-- a line has ended
unfoldable pub ended : Session → Session
ended s = let r = reply s.table s.ledger s.line in session r.table r.ledger [] (s.owed ++ r.line)

-- one byte
unfoldable pub taken : Session → ℕ → Session
taken s b = cond (b == line_feed) (ended s) (session s.table s.ledger (take line_room (s.line ++ b ∷ [])) s.owed)

-- some bytes
abbrev pub taken_all : Session → List ℕ → Session
taken_all s bytes = foldl taken s bytes

-- the input has ended
unfoldable pub finished : Session → Session
finished s = cond (length s.line == 0) s (ended s)

-- a read: its bytes; where it has none, the input has ended
unfoldable pub served : Session → List ℕ → Session
served s [] = finished s
served s (b ∷ bytes) = taken_all s (b ∷ bytes)

-- what was owed has been written out
abbrev pub paid : Session → Session
paid s = session s.table s.ledger s.line []

-- the reads so far, what was owed after each having been written out
abbrev pub after : List (List ℕ) → Session
after reads = foldl (λ (s : Session) (bytes : List ℕ). paid (taken_all s bytes)) begun reads
