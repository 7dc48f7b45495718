-- All messages of the blocks before this one are there (absent_next); the first block with an absent message settles
-- the answer (absent_stops).
use Rattle.table.specs.Words.{state}
use Rattle.sets.specs.Blocks.{block, absent_below}
use Rattle.std.proofs.Common.{◌≡◌, false, ◌*◌}
use Rattle.sets.proofs.some_absent.Given as goal

abbrev pub invariant-loop-block : goal.invariant-loop-block
invariant-loop-block l = false ≡ absent_below (state l.t) l.list (l.block-index * block)
