-- The flag gathers the tests of the owners before `owner` (anyb_step).
use Rattle.rules.specs.Vector.{pair_of, condemned_pair}
use Rattle.base.specs.Ranges.{anyb}
use Rattle.table.specs.Words.{state}
use Rattle.table.specs.Layout.{controllers}
use Rattle.std.proofs.Common.{ℕ, ◌≤◌, ◌≡◌}
use Rattle.vector.proofs.condemned_vector.Given as goal

abbrev pub invariant-loop-owner : goal.invariant-loop-owner
invariant-loop-owner l = (l.owner ≤ controllers) × (l.some ≡ anyb l.owner (λ (k : ℕ). condemned_pair (state l.t) l.holder k (pair_of l.v k)))
