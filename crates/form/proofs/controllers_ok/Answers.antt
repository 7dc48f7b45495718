use Rattle.base.specs.Ranges.{allb_zero, allb_next, allb_stops}
use Rattle.std.proofs.Common.{ap, not}
use Rattle.form.proofs.controllers_ok.Goals as goal

pub loop-c-init : goal.loop-c-init
loop-c-init c = allb_zero _

pub returns-then-not-controller_ok : goal.returns-then-not-controller_ok
returns-then-not-controller_ok c = allb_stops _ _ _ _ c.loop-c-test.true c.controller_ok.ensures (ap not c.if-not-controller_ok.true)

pub loop-c-preserved : goal.loop-c-preserved
loop-c-preserved c = allb_next _ _ _ c.loop-c.invariant c.controller_ok.ensures (ap not c.if-not-controller_ok.false)
