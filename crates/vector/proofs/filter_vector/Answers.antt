use Rattle.rules.specs.Vector.{filtered}
use Rattle.base.specs.Lists.{filled_none, filled_more, filled_done}
use Rattle.std.proofs.Common.{rules, refl}
use Rattle.vector.proofs.filter_vector.Goals as goal

pub loop-owner-init : goal.loop-owner-init
loop-owner-init c = filled_none _ _ _ _ refl

pub filter_pair-requires : goal.filter_pair-requires
filter_pair-requires c = (search rules, search rules, c.requires.1 _ c.loop-owner-test.true)

pub loop-owner-preserved : goal.loop-owner-preserved
loop-owner-preserved c = filled_more _ _ _ _ _ _ c.loop-owner.invariant c.loop-owner-test.true c.filter_pair.ensures

pub returns : goal.returns
unfolding filtered
returns c = filled_done _ _ _ _ _ c.loop-owner.invariant c.loop-owner-test.false
