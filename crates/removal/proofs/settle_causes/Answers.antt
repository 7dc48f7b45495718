use Rattle.removal.specs.Settling.{walk_none, walk_asks, walk_more, walk_all}
use Rattle.removal.proofs.settle_causes.Goals as goal

pub loop-p-init : goal.loop-p-init
loop-p-init c = search walk_none

pub settle_cause-requires : goal.settle_cause-requires
settle_cause-requires c = let a = walk_asks c.loop-p.invariant c.loop-p-test.true in (a.1, a.2)

pub loop-p-preserved : goal.loop-p-preserved
loop-p-preserved c = walk_more c.loop-p.invariant c.loop-p-test.true c.settle_cause.ensures

pub returns : goal.returns
returns c = walk_all c.loop-p.invariant c.loop-p-test.false
