-- The test of the code is that of the definition.
use Rattle.table.proofs.Numbering.{record_found, record_missing}
use Rattle.base.specs.Choice.{and_left}
use borrow.Author.Tests.{leb-true}
use Rattle.table.proofs.find_record.Goals as goal

pub overflow_sub-result : goal.overflow_sub-result
overflow_sub-result c = leb-true _ _ (and_left _ _ c.if-m-last_given.true)

pub returns-then-m-last_given : goal.returns-then-m-last_given
returns-then-m-last_given c = record_found _ _ _ c.last_given.ensures c.if-m-last_given.true

pub returns-else-m-last_given : goal.returns-else-m-last_given
returns-else-m-last_given c = record_missing _ _ _ _ c.last_given.ensures c.records_used.ensures c.if-m-last_given.false
