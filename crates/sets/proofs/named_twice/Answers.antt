use Rattle.base.specs.Ranges.{anyb_zero, anyb_step, anyb_at, anyb_end}
use Rattle.rules.specs.Sets.{named_twice}
use Rattle.std.proofs.Common.{sym, ◌∙◌}
use Rattle.sets.proofs.named_twice.Goals as goal

pub loop-i-init : goal.loop-i-init
loop-i-init c = anyb_zero _

pub returns-then-named_before : goal.returns-then-named_before
unfolding named_twice
returns-then-named_before c = sym (anyb_at _ _ _ c.loop-i-test.true (sym c.named_before.ensures ∙ c.if-named_before.true))

pub loop-i-preserved : goal.loop-i-preserved
loop-i-preserved c = sym c.if-named_before.false ∙ anyb_step _ _ _ _ c.loop-i.invariant c.named_before.ensures

pub returns : goal.returns
unfolding named_twice
returns c = anyb_end _ _ _ _ c.loop-i.invariant c.loop-i.auto.i-end c.loop-i-test.false
