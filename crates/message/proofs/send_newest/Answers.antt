-- The next number fits a word (next_fits), and all that was read before the record is written stands in the message
-- (writes_sent).
use Rattle.message.specs.Ready.{next_fits}
use Rattle.message.specs.Writes.{writes_sent}
use Rattle.message.proofs.send_newest.Goals as goal

pub overflow_add-m : goal.overflow_add-m
overflow_add-m c = search next_fits

pub returns : goal.returns
returns c =
    let a = c.args in
    writes_sent a.t.now _ _ a.sender a.receiver a.payload _ _ _ _ _ _ c.live_count.ensures c.place_incarnation.ensures c.place_number.ensures
    c.newest_vector.ensures c.records_used-r.ensures c.last_given-m.ensures c.write_held.ensures c.set_sent_count.ensures
