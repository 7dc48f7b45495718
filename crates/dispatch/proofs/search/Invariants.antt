-- As far as the records were looked at, the candidate is the best (Best).
use Rattle.dispatch.specs.Searching.{Best}
use Rattle.table.specs.Words.{state}
use Rattle.table.specs.Numbering.{used}
use Rattle.std.proofs.Common.{◌-◌}
use Rattle.dispatch.proofs.search.Given as goal

abbrev pub invariant-loop-r : goal.invariant-loop-r
invariant-loop-r l = Best (state l.t) l.turns.n l.low l.best

abbrev pub decreases-loop-r : goal.decreases-loop-r
decreases-loop-r l = used (state l.t) - l.low
