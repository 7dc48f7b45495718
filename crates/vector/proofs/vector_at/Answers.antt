use Rattle.vector.specs.At.{vector_at}
use Rattle.base.specs.Lists.{filled_none, filled_more, filled_done}
use Rattle.std.proofs.Common.{refl}
use Rattle.vector.proofs.vector_at.Goals as goal

pub loop-owner-init : goal.loop-owner-init
loop-owner-init c = filled_none _ _ _ _ refl

pub loop-owner-preserved : goal.loop-owner-preserved
loop-owner-preserved c = filled_more _ _ _ _ _ _ c.loop-owner.invariant c.loop-owner-test.true c.pair_at.ensures

pub returns : goal.returns
unfolding vector_at
returns c = filled_done _ _ _ _ _ c.loop-owner.invariant c.loop-owner-test.false
