use Rattle.base.specs.Ranges.{anyb_zero, anyb_step, anyb_end}
use Rattle.rules.specs.Sets.{some_absent}
use Rattle.sets.proofs.absent_among.Goals as goal

pub loop-m-init : goal.loop-m-init
loop-m-init c = anyb_zero _

pub loop-m-preserved : goal.loop-m-preserved
loop-m-preserved c = anyb_step _ _ _ _ c.loop-m.invariant c.absent-some.ensures

pub returns : goal.returns
unfolding some_absent
returns c = anyb_end _ _ _ _ c.loop-m.invariant c.loop-m.auto.m-index-end c.loop-m-test.false
