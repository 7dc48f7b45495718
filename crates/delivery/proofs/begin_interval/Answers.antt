-- The new interval has its counts (added_counts), so that it can be checkpointed; what is answered was read before
-- (writes_begun).
use Rattle.delivery.specs.Delivers.{added_counts, writes_begun}
use Rattle.delivery.proofs.begin_interval.Goals as goal

pub cap-requires : goal.cap-requires
cap-requires c = search added_counts

pub returns : goal.returns
returns c = search writes_begun
