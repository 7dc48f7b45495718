-- By computing: the tests are those of the definition, in its order.
use Rattle.rules.specs.Vector.{conflict_pair}
use Rattle.std.proofs.Common.{refl}
use Rattle.vector.proofs.conflict_pair.Goals as goal

pub returns : goal.returns
unfolding conflict_pair
returns c = refl
