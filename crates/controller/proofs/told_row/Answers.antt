use Rattle.rules.specs.Steps.{told_row}
use Rattle.base.specs.Lists.{filled_more, filled_done}
use Rattle.std.proofs.Common.{rules}
use Rattle.controller.proofs.told_row.Goals as goal

pub loop-i-preserved : goal.loop-i-preserved
loop-i-preserved c = filled_more _ _ _ _ _ _ c.loop-i.invariant c.loop-i-test.true (search rules)

pub returns : goal.returns
unfolding told_row
returns c = filled_done 0 _ _ _ _ c.loop-i.invariant c.loop-i-test.false
