use Rattle.rules.specs.Vector.{condemned}
use Rattle.base.specs.Ranges.{anyb_zero, anyb_step, anyb_end}
use Rattle.std.proofs.Common.{rules}
use Rattle.vector.proofs.condemned_vector.Goals as goal

pub loop-owner-init : goal.loop-owner-init
loop-owner-init c = (search rules, anyb_zero _)

pub condemned_pair-some-requires : goal.condemned_pair-some-requires
condemned_pair-some-requires c = (search rules, search rules, c.requires.1 _ c.loop-owner-test.true)

pub loop-owner-preserved : goal.loop-owner-preserved
loop-owner-preserved c = (search rules, anyb_step _ _ _ _ c.loop-owner.invariant.1 c.condemned_pair-some.ensures)

pub returns : goal.returns
unfolding condemned
returns c = anyb_end _ _ _ _ c.loop-owner.invariant.1 c.loop-owner.invariant.0 c.loop-owner-test.false
