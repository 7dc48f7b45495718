use Rattle.base.specs.Ranges.{allb_zero, allb_next, allb_stops}
use Rattle.std.proofs.Common.{ap, not}
use Rattle.form.proofs.rows_ok.Goals as goal

pub loop-owner-init : goal.loop-owner-init
loop-owner-init c = allb_zero _

pub returns-then-not-row_ok : goal.returns-then-not-row_ok
returns-then-not-row_ok c = allb_stops _ _ _ _ c.loop-owner-test.true c.row_ok.ensures (ap not c.if-not-row_ok.true)

pub loop-owner-preserved : goal.loop-owner-preserved
loop-owner-preserved c = allb_next _ _ _ c.loop-owner.invariant c.row_ok.ensures (ap not c.if-not-row_ok.false)
