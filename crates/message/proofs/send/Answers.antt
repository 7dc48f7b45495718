-- Refused, or sent by `send_newest`.
use Rattle.rules.specs.Steps.{step_send}
use Rattle.laws.specs.Answering.{turned_away, granted}
use Rattle.message.specs.Ready.{send_chain, send_room}
use Rattle.std.proofs.Common.{◌≡◌, Err, rules}
use Rattle.message.proofs.send.Goals as goal

pub returns-in_err-check_send : goal.returns-in_err-check_send
unfolding step_send
returns-in_err-check_send c =
    let e : c.from_residual.result ≡ Err c.in_err-check_send.field-0.0 = grind rules in
    rw e (turned_away _ _ _ _ _ c.requires.long c.check_send.ensures c.in_err-check_send.was)

pub send_newest-requires : goal.send_newest-requires
send_newest-requires c = let e = c.in_ok-check_send.ensures in (send_chain _ c.requires _ _ e, send_room _ c.requires _ _ e)

pub returns : goal.returns
unfolding step_send
returns c = granted _ _ _ _ _ c.in_ok-check_send.ensures c.send_newest.ensures
