-- Some are not yet stable, or none (logs_some, logs_none).
use Rattle.checkpoint.specs.Writes.{logs_some, logs_none}
use Rattle.checkpoint.proofs.log_rest.Goals as goal

pub returns-then-stable_count-k : goal.returns-then-stable_count-k
returns-then-stable_count-k c = search logs_some

pub returns-else-stable_count-k : goal.returns-else-stable_count-k
returns-else-stable_count-k c = search logs_none
