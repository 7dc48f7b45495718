use Rattle.base.specs.Ranges.{allb_zero, allb_next, allb_stops}
use Rattle.std.proofs.Common.{ap, not}
use Rattle.form.proofs.all_places_ok.Goals as goal

pub loop-c-init : goal.loop-c-init
loop-c-init c = allb_zero _

pub returns-then-not-places_ok : goal.returns-then-not-places_ok
returns-then-not-places_ok c = allb_stops _ _ _ _ c.loop-c-test.true c.places_ok.ensures (ap not c.if-not-places_ok.true)

pub loop-c-preserved : goal.loop-c-preserved
loop-c-preserved c = allb_next _ _ _ c.loop-c.invariant c.places_ok.ensures (ap not c.if-not-places_ok.false)
