-- No controller is begun in the cleared table (opened_none), each turn begins the next one (opened_next), and at last
-- all are (opened_all).
use Rattle.interval.specs.LentPlaces.{zero_words}
use Rattle.opening.specs.Opened.{opened_none, opened_next, opened_all}
use Rattle.std.proofs.Common.{ap, ◌∙◌}
use Rattle.opening.proofs.open_house.Goals as goal

pub loop-c-init : goal.loop-c-init
loop-c-init c = opened_none _ _ _ _ _ (c.clear.ensures ∙ ap zero_words c.told-t) c.set_served.ensures c.set_size.ensures

pub loop-c-preserved : goal.loop-c-preserved
loop-c-preserved c = opened_next _ _ _ _ _ c.loop-c.invariant c.open_controller.ensures

pub returns : goal.returns
returns c = opened_all _ _ _ _ c.loop-c.invariant c.loop-c.auto.c-end c.loop-c-test.false
