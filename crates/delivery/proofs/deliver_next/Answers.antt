-- The receiver has its chain (receiver_chain), and there is room, since an interval would begin (has_room); it begins
-- with the two vectors merged.
use Rattle.laws.specs.Chain.{chain_counts}
use Rattle.delivery.specs.Delivers.{receiver_chain, has_room, next_begins}
use Rattle.delivery.proofs.deliver_next.Goals as goal

pub begin_interval-requires : goal.begin_interval-requires
begin_interval-requires c = (chain_counts (receiver_chain _ _ _ c.requires.0 c.receiver-c.ensures), has_room _ _ _ c.requires.0 c.receiver-c.ensures c.requires.1, c.requires.0.record_lt)

pub returns : goal.returns
returns c =
    next_begins c.args.t.now _ _ _ c.receiver-c.ensures _ c.message_vector.ensures _ _ c.newest_vector-ours.ensures c.filter_vector-theirs.ensures _ c.merge_vector.ensures _ _
    c.begin_interval.ensures
