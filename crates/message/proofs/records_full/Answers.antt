-- The count of records in use is that of the table.
use Rattle.rules.specs.Steps.{records_full}
use Rattle.message.proofs.records_full.Goals as goal

pub returns : goal.returns
unfolding records_full
returns c = rw (← c.records_used.ensures)
