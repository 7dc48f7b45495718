-- Refused, or done by `deliver_record`.
use Rattle.laws.specs.Chain.{taken}
use Rattle.delivery.specs.Delivers.{deliver_refused, deliver_done}
use Rattle.std.proofs.Common.{◌≡◌, Err, rules}
use Rattle.delivery.proofs.deliver.Goals as goal

pub returns-in_err-check_message : goal.returns-in_err-check_message
returns-in_err-check_message c =
    let e : c.from_residual.result ≡ Err c.in_err-check_message.field-0.0 = grind rules in
    rw e (deliver_refused _ _ _ c.find_record-r.ensures _ _ c.requires.long c.check_message.ensures c.in_err-check_message.was)

pub deliver_record-requires : goal.deliver_record-requires
deliver_record-requires c = taken _ _ c.requires c.in_ok-check_message.ensures

pub returns : goal.returns
returns c = deliver_done _ _ _ c.find_record-r.ensures _ _ c.in_ok-check_message.ensures c.deliver_record.ensures
