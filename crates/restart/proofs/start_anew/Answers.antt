-- The start has its counts (begun_counts), so that it can be checkpointed; held messages are dropped on the table of
-- that (starts), whose records in use are those of before (begun_drops), and whose numbers are bounded (begun_numbers).
use Rattle.std.proofs.Common.{rules}
use Rattle.restart.specs.Anew.{begun_counts, begun_drops, begun_numbers, starts}
use Rattle.restart.proofs.start_anew.Goals as goal

pub cap-requires : goal.cap-requires
cap-requires c = search begun_counts

pub drop_held-requires : goal.drop_held-requires
drop_held-requires c = (search rules, search begun_drops, search begun_numbers, search rules)

pub returns : goal.returns
returns c = search starts
