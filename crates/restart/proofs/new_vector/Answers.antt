-- The kept vector and the new pair are those of the definition (new_vector_is).
use Rattle.restart.specs.Anew.{new_vector_is}
use Rattle.restart.proofs.new_vector.Goals as goal

pub returns : goal.returns
returns c = search new_vector_is
