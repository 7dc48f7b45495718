-- The calls have found the union, how many are for the desk, and whether the set may go (Found); the three cases are
-- those of the rule.
use Rattle.sets.specs.Desks.{desks_bound}
use Rattle.sets.specs.Returns.{Found, held, used_up, all_go}
use Rattle.table.specs.Words.{state}
use Rattle.rules.specs.Limits.{house}
use Rattle.laws.specs.Ledger.{ledger_form}
use Rattle.std.proofs.Common.{length, arith, ap, not}
use Rattle.sets.proofs.release_all.Goals as goal
use Rattle.sets.proofs.release_all.Goals.{After-set_may_go}

found : (c : After-set_may_go) → Found c.args.t.now c.args.list.now c.union_of-mask.result c.desk_count-n.result c.set_may_go.result
found c = record { union_is = c.union_of-mask.ensures; desks_are = c.desk_count-n.ensures; goes = c.set_may_go.ensures }

pub returns-then-not-set_may_go : goal.returns-then-not-set_may_go
returns-then-not-set_may_go c = held (found (goal.at.returns-then-not-set_may_go c).After-set_may_go) _ (ap not c.if-not-set_may_go.true) c.requires.listed.long

-- at most 128 entries, and 16 messages
pub overflow_add-count : goal.overflow_add-count
overflow_add-count c =
    let w = c.requires.allowed in
    omega (arith, w.most, c.desk_count-n.ensures, desks_bound (state c.args.t.now) c.args.list.now (length c.args.list.now), c.count.ensures, (ledger_form house c.args.g.now w.sound).count_le)

pub returns-then-count-n : goal.returns-then-count-n
returns-then-count-n c =
    used_up (found (goal.at.returns-then-count-n c).After-set_may_go) _ (ap not c.if-not-set_may_go.false) c.count.ensures c.if-count-n.true c.requires.listed.long

pub returns : goal.returns
returns c =
    let e = c.let_all_go.ensures in
    all_go (found (goal.at.returns c).After-set_may_go) _ (ap not c.if-not-set_may_go.false) c.count.ensures c.if-count-n.false e.0 e.1
