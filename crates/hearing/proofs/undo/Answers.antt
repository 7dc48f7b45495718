-- There is room, so that the number fits (room_fits). The answer's numbers are read before the words change
-- (undo_done); the latest checkpoint has a number of the kept intervals (flagged_le), so that the difference is the one
-- of the definition (replay_is).
use Rattle.std.proofs.Common.{arith}
use Rattle.laws.specs.Numbers.{room_fits}
use Rattle.table.specs.Words.{state}
use Rattle.laws.specs.Found.{flagged_le}
use Rattle.checkpoint.specs.Writes.{replay_is}
use Rattle.hearing.specs.Rolling.{undo_done}
use Rattle.hearing.proofs.undo.Goals as goal

pub number_of-x-requires : goal.number_of-x-requires
number_of-x-requires c = let s = c.requires.0 in (s.chain.named, room_fits s.room _ (omega arith))

pub overflow_sub-again : goal.overflow_sub-again
overflow_sub-again c = omega (arith, c.number_of-x.ensures, c.requires.1, flagged_le (state c.args.t.now) c.args.h.hearer c.args.k)

pub returns : goal.returns
returns c = search (undo_done, replay_is)
