use Rattle.rules.specs.Vector.{flat}
use Rattle.base.specs.Lists.{filled_none, filled_more, filled_done}
use Rattle.std.proofs.Common.{refl}
use Rattle.vector.proofs.write_vector.Goals as goal

pub loop-i-init : goal.loop-i-init
loop-i-init c = filled_none 0 _ _ _ c.requires

pub loop-i-preserved : goal.loop-i-preserved
loop-i-preserved c = filled_more _ _ _ _ _ _ c.loop-i.invariant c.loop-i-test.true refl

pub returns : goal.returns
unfolding flat
returns c = filled_done 0 _ _ _ _ c.loop-i.invariant c.loop-i-test.false
