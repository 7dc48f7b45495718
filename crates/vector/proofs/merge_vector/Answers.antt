use Rattle.rules.specs.Vector.{merged}
use Rattle.base.specs.Lists.{filled_none, filled_more, filled_done}
use Rattle.std.proofs.Common.{refl}
use Rattle.vector.proofs.merge_vector.Goals as goal

pub loop-owner-init : goal.loop-owner-init
loop-owner-init c = filled_none _ _ _ _ refl

pub loop-owner-preserved : goal.loop-owner-preserved
loop-owner-preserved c = filled_more _ _ _ _ _ _ c.loop-owner.invariant c.loop-owner-test.true c.merge_pair.ensures

pub returns : goal.returns
unfolding merged
returns c = filled_done _ _ _ _ _ c.loop-owner.invariant c.loop-owner-test.false
