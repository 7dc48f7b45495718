-- A checkpoint is forced (caps), or not (caps_not).
use Rattle.checkpoint.specs.Writes.{caps, caps_not}
use Rattle.checkpoint.proofs.cap.Goals as goal

pub returns-then-forced : goal.returns-then-forced
returns-then-forced c = search caps

pub returns-else-forced : goal.returns-else-forced
returns-else-forced c = search caps_not
