-- Published or let out, by the receiver (out_to_desk, out_to_controller).
use Rattle.release.specs.Releases.{out_to_desk, out_to_controller}
use Rattle.release.proofs.go_out.Goals as goal

pub returns-then-receiver-eq-DESK : goal.returns-then-receiver-eq-DESK
returns-then-receiver-eq-DESK c = let p = c.publish.ensures in out_to_desk c.requires _ c.receiver.ensures c.if-receiver-eq-DESK.true p.0 p.1

pub returns : goal.returns
returns c = out_to_controller c.requires _ c.receiver.ensures c.if-receiver-eq-DESK.false c.let_out.ensures
