-- The lent record comes back as the message (writes_held).
use Rattle.message.specs.Writes.{writes_held}
use Rattle.message.proofs.write_held.Goals as goal

pub returns : goal.returns
returns c = search writes_held
