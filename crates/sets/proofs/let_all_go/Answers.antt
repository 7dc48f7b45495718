use Rattle.sets.specs.Going.{gone_none, gone_asks, gone_more}
use Rattle.sets.proofs.let_all_go.Goals as goal

pub loop-m-init : goal.loop-m-init
loop-m-init c = let h = c.requires in gone_none _ _ _ h.0 h.1

pub let_go-requires : goal.let_go-requires
let_go-requires c = gone_asks c.loop-m.invariant c.loop-m-test.true

pub loop-m-preserved : goal.loop-m-preserved
loop-m-preserved c =
    let e = c.let_go.ensures in
    gone_more c.loop-m.invariant c.loop-m-test.true e.0 e.1
