-- The vector, then the state (writes_out).
use Rattle.release.specs.Releases.{writes_out}
use Rattle.release.proofs.let_out.Goals as goal

pub returns : goal.returns
returns c = search writes_out
