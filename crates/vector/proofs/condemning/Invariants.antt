-- Before each turn no owner before `owner` condemns, so that the one that does is the first (first_at), or there is none (first_none).
use Rattle.rules.specs.Vector.{pair_of, condemned_pair}
use Rattle.table.specs.Words.{state}
use Rattle.table.specs.Layout.{controllers}
use Rattle.std.proofs.Common.{ℕ, ◌≤◌, ◌<◌, false, ◌≡◌}
use Rattle.vector.proofs.condemning.Given as goal

abbrev pub invariant-loop-owner : goal.invariant-loop-owner
invariant-loop-owner l = (l.owner ≤ controllers) × ((k : ℕ) → k < l.owner → condemned_pair (state l.t) l.holder k (pair_of l.v k) ≡ false)
