-- The place and the controller's words are those of the definition (begins).
use Rattle.restart.specs.Anew.{begins}
use Rattle.restart.proofs.begin_incarnation.Goals as goal

pub returns : goal.returns
returns c = search begins
