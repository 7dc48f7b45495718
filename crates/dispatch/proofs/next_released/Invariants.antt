-- No record from `low` up to r has a message for anybody (Passed).
use Rattle.dispatch.specs.Searching.{Passed}
use Rattle.table.specs.Words.{state}
use Rattle.dispatch.proofs.next_released.Given as goal

abbrev pub invariant-loop-r : goal.invariant-loop-r
invariant-loop-r l = Passed (state l.t) l.low l.r
