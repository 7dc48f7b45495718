-- The cause's record gets its state (settle_write); where it can be no cause no word is written (settle_keep). One that
-- can be stands in a record of the table (causing_there).
use Rattle.std.proofs.Common.{rules, arith}
use Rattle.removal.specs.Settling.{settle_write, settle_keep, causing_there}
use Rattle.removal.proofs.settle_cause.Goals as goal

pub fate_of-s-requires : goal.fate_of-s-requires
fate_of-s-requires c = (search rules, causing_there _ _ _ _ c.requires.0 c.causing.ensures c.if-causing.true)

pub set_message_state-requires : goal.set_message_state-requires
set_message_state-requires c = causing_there _ _ _ _ c.requires.0 c.causing.ensures c.if-causing.true

pub returns-then-causing : goal.returns-then-causing
returns-then-causing c =
    settle_write _ _ _ _ _ _ _ _ c.cause-m.ensures c.find_record-r.ensures c.causing.ensures c.if-causing.true (grind (arith, c.from.ensures, c.fate_of-s.ensures))
    c.set_message_state.ensures

pub returns-else-causing : goal.returns-else-causing
returns-else-causing c = search settle_keep
