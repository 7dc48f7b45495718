-- Each turn stores the filtered pair of one owner (Filled).
use Rattle.rules.specs.Vector.{pair_of, filter_pair}
use Rattle.base.specs.Lists.{Filled}
use Rattle.table.specs.Words.{state}
use Rattle.table.specs.Layout.{controllers}
use Rattle.std.proofs.Common.{ℕ, []}
use Rattle.vector.proofs.filter_vector.Given as goal

abbrev pub invariant-loop-owner : goal.invariant-loop-owner
invariant-loop-owner l = Filled [] controllers (λ (k : ℕ). filter_pair (state l.t) l.holder k (pair_of l.v k)) l.owner l.w
