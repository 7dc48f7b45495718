-- Refused (checkpoint_refused), or done by `flag_newest` (checkpoint_done).
use Rattle.controller.specs.Ready.{sized_counts}
use Rattle.controller.specs.Writes.{checkpoint_refused, checkpoint_done}
use Rattle.controller.proofs.checkpoint.Goals as goal

pub returns-then-size-c : goal.returns-then-size-c
returns-then-size-c c = search checkpoint_refused

pub flag_newest-requires : goal.flag_newest-requires
flag_newest-requires c = search sized_counts

pub returns-else-size-c : goal.returns-else-size-c
returns-else-size-c c = search checkpoint_done
