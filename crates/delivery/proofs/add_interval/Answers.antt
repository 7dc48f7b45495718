-- The place, the live count and the state are put, with what was read before (writes_added).
use Rattle.delivery.specs.Delivers.{writes_added}
use Rattle.delivery.proofs.add_interval.Goals as goal

pub returns : goal.returns
returns c =
    let a = c.args in
    writes_added a.t.now _ _ _ a.c a.m a.r _ _ _ a.v c.incarnation-i.ensures c.live_count-live.ensures c.number_of-x.ensures
    c.write_place.ensures c.set_live_count.ensures c.set_message_state.ensures
