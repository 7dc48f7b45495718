-- The lent words come back as the vector (writes_vector).
use Rattle.release.specs.Releases.{writes_vector}
use Rattle.release.proofs.store_vector.Goals as goal

pub returns : goal.returns
returns c = search writes_vector
