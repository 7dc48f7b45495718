-- Each turn stores the merged pair of one owner (Filled).
use Rattle.rules.specs.Vector.{pair_of, merge_pair}
use Rattle.base.specs.Lists.{Filled}
use Rattle.table.specs.Layout.{controllers}
use Rattle.std.proofs.Common.{ℕ, []}
use Rattle.vector.proofs.merge_vector.Given as goal

abbrev pub invariant-loop-owner : goal.invariant-loop-owner
invariant-loop-owner l = Filled [] controllers (λ (k : ℕ). merge_pair (pair_of l.v k) (pair_of l.w k)) l.owner l.both
