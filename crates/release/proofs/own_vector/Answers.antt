-- The vector is filtered for the sender that was read (own_filtered).
use Rattle.release.specs.Releases.{own_filtered}
use Rattle.release.proofs.own_vector.Goals as goal

pub returns : goal.returns
returns c = search own_filtered
