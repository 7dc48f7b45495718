-- The room that the program has for what it reads and for what it writes. With its table and its ledger it fits on a
-- stack of 128 KB.
use Rattle.std.specs.Prelude.{ℕ, ◌*◌}
use Rattle.printing.specs.Parts.{answer_room}

abbrev pub read_room : ℕ
read_room = 512

-- each byte that is read may end a line
abbrev pub out_room : ℕ
out_room = read_room * answer_room
