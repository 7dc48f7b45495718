use Rattle.base.specs.Ranges.{anyb_zero, anyb_step, anyb_at, anyb_end}
use Rattle.rules.specs.Sets.{some_not_held}
use Rattle.std.proofs.Common.{sym, ◌∙◌}
use Rattle.sets.proofs.some_not_held.Goals as goal

pub loop-m-init : goal.loop-m-init
loop-m-init c = anyb_zero _

pub returns-then-not_held : goal.returns-then-not_held
unfolding some_not_held
returns-then-not_held c = sym (anyb_at _ _ _ c.loop-m-test.true (sym c.not_held.ensures ∙ c.if-not_held.true))

pub loop-m-preserved : goal.loop-m-preserved
loop-m-preserved c = sym c.if-not_held.false ∙ anyb_step _ _ _ _ c.loop-m.invariant c.not_held.ensures

pub returns : goal.returns
unfolding some_not_held
returns c = anyb_end _ _ _ _ c.loop-m.invariant c.loop-m.auto.m-index-end c.loop-m-test.false
