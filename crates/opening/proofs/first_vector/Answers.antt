-- One pair is stored in a vector of empty pairs (own_stored).
use Rattle.opening.specs.Opened.{own_stored}
use Rattle.opening.proofs.first_vector.Goals as goal

pub returns : goal.returns
returns c = own_stored _ c.requires
