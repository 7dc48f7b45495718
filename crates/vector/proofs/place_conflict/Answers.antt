use Rattle.vector.specs.Conflict.{conflict_one, conflict_none}
use Rattle.table.specs.Words.{state}
use Rattle.std.proofs.Common.{arith, rules, sym, ◌∙◌}
use borrow.Author.Count.{below_none, below_more}
use Rattle.vector.proofs.place_conflict.Goals as goal

pub loop-owner-init : goal.loop-owner-init
loop-owner-init c = (search rules, below_none _)

pub returns-then-place_pair_conflict : goal.returns-then-place_pair_conflict
returns-then-place_pair_conflict c =
    let a = c.args in
    conflict_one (state a.t.now) a.c a.p _ _ _ c.loop-owner-test.true c.place_pair_conflict.ensures c.if-place_pair_conflict.true

pub loop-owner-preserved : goal.loop-owner-preserved
loop-owner-preserved c = (search rules, below_more _ _ c.loop-owner.invariant.1 (sym c.place_pair_conflict.ensures ∙ c.if-place_pair_conflict.false))

pub returns : goal.returns
returns c =
    let l = c.loop-owner in
    let a = c.args in
    conflict_none (state a.t.now) a.c a.p _ (λ k h. l.invariant.1 k (omega (arith, c.loop-owner-test.false)))
