-- By computing.
use Rattle.std.proofs.Common.{refl}
use Rattle.rules.specs.Steps.{no_place}
use Rattle.interval.proofs.no_place.Goals as goal

pub returns : goal.returns
unfolding no_place
returns c = refl
