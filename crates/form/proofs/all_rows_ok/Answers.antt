use Rattle.base.specs.Ranges.{allb_zero, allb_next, allb_stops}
use Rattle.std.proofs.Common.{ap, not}
use Rattle.form.proofs.all_rows_ok.Goals as goal

pub loop-holder-init : goal.loop-holder-init
loop-holder-init c = allb_zero _

pub returns-then-not-rows_ok : goal.returns-then-not-rows_ok
returns-then-not-rows_ok c = allb_stops _ _ _ _ c.loop-holder-test.true c.rows_ok.ensures (ap not c.if-not-rows_ok.true)

pub loop-holder-preserved : goal.loop-holder-preserved
loop-holder-preserved c = allb_next _ _ _ c.loop-holder.invariant c.rows_ok.ensures (ap not c.if-not-rows_ok.false)
