-- The table, the ledger and the line that hasn't ended are those after some reads (Reached): before the first, and
-- after each one more. The two buffers have the program's rooms.
use Rattle.std.proofs.Common.{◌≡◌, length}
use Rattle.session.proofs.Buffers.{Reached}
use Rattle.house.specs.Room.{read_room, out_room}
use Rattle.house.proofs.main.Given as goal

abbrev pub invariant-loop : goal.invariant-loop
invariant-loop l = record {
  reached : Reached l.house.table.now l.house.ledger.now l.house.line;
  bytes_long : length l.bytes ≡ read_room;
  out_long : length l.out ≡ out_room;
}
