-- Four words are put, one after the other (enters).
use Rattle.restart.specs.Anew.{enters}
use Rattle.restart.proofs.enter.Goals as goal

pub returns : goal.returns
returns c = search enters
