use Rattle.rules.specs.Vector.{condemning}
use Rattle.base.specs.Ranges.{first_at, first_none}
use Rattle.table.specs.Layout.{controllers}
use Rattle.std.proofs.Common.{arith, rules, sym, ◌∙◌}
use borrow.Author.Count.{below_none, below_more}
use Rattle.vector.proofs.condemning.Goals as goal

pub loop-owner-init : goal.loop-owner-init
loop-owner-init c = (search rules, below_none _)

pub condemned_pair-requires : goal.condemned_pair-requires
condemned_pair-requires c = (search rules, search rules, c.requires.1 _ c.loop-owner-test.true)

pub returns-then-condemned_pair : goal.returns-then-condemned_pair
unfolding condemning
returns-then-condemned_pair c = sym (first_at controllers _ _ c.loop-owner-test.true c.loop-owner.invariant.1 (sym c.condemned_pair.ensures ∙ c.if-condemned_pair.true))

pub loop-owner-preserved : goal.loop-owner-preserved
loop-owner-preserved c = (search rules, below_more _ _ c.loop-owner.invariant.1 (sym c.condemned_pair.ensures ∙ c.if-condemned_pair.false))

pub returns : goal.returns
unfolding condemning
returns c = sym (first_none controllers _ (λ k h. c.loop-owner.invariant.1 k (omega (arith, c.loop-owner-test.false))))
