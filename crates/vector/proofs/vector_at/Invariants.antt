-- Each turn stores the pair of one owner, so that the array is filled from the front (Filled).
use Rattle.vector.specs.At.{pair_at}
use Rattle.base.specs.Lists.{Filled}
use Rattle.table.specs.Layout.{controllers}
use Rattle.std.proofs.Common.{[]}
use Rattle.vector.proofs.vector_at.Given as goal

abbrev pub invariant-loop-owner : goal.invariant-loop-owner
invariant-loop-owner l = Filled [] controllers (pair_at l.t l.at) l.owner l.v
