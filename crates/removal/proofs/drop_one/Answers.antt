-- The record's state is put (drop_write), or it has it already (drop_keep).
use Rattle.removal.specs.Dropping.{drop_write, drop_keep}
use Rattle.removal.proofs.drop_one.Goals as goal

pub returns-then-orphaned : goal.returns-then-orphaned
returns-then-orphaned c = search drop_write

pub returns-else-orphaned : goal.returns-else-orphaned
returns-else-orphaned c = search drop_keep
