-- The flag gathers the tests of the pairs before `owner`; a pair read from the words is that of the vector there
-- (pair_at_lem).
use Rattle.vector.specs.At.{vector_at}
use Rattle.base.specs.Ranges.{allb}
use Rattle.rules.specs.Limits.{house}
use Rattle.rules.specs.Vector.{pair_of}
use Rattle.rules.specs.Form.{pair_ok}
use Rattle.std.proofs.Common.{◌≡◌, ℕ}
use Rattle.parts.proofs.vector_ok.Given as goal

abbrev pub invariant-loop-owner : goal.invariant-loop-owner
invariant-loop-owner l = l.ok ≡ allb l.owner (λ (k : ℕ). pair_ok house l.n k (pair_of (vector_at l.t l.at) k))
