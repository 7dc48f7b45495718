-- By computing: the tests are those of the definition, in its order.
use Rattle.rules.specs.Vector.{condemned_pair}
use Rattle.vector.proofs.condemned_pair.Goals as goal

pub returns : goal.returns
unfolding condemned_pair
returns c = rw c.end-end.ensures
