use Rattle.sets.specs.Gathering.{gathered_none, gathered_more, gathered_all}
use Rattle.sets.proofs.union_of.Goals as goal

pub loop-m-init : goal.loop-m-init
loop-m-init c = gathered_none _ _

pub loop-m-preserved : goal.loop-m-preserved
loop-m-preserved c = gathered_more _ _ _ _ _ _ c.loop-m.invariant c.own_of.ensures c.merge_vector-both.ensures

pub returns : goal.returns
returns c = gathered_all _ _ _ _ _ c.loop-m.invariant c.loop-m.auto.m-index-end c.loop-m-test.false c.mask_of.ensures
