-- The test is the one of the definition.
use Rattle.rules.specs.Form.{highest}
use Rattle.parts.proofs.highest_known.Goals as goal

pub returns : goal.returns
unfolding highest
returns c = c.bound.ensures
