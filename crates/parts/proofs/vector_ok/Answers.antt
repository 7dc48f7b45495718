use Rattle.vector.specs.At.{pair_at_lem}
use Rattle.base.specs.Ranges.{allb_zero, allb_step, allb_end}
use Rattle.rules.specs.Limits.{house}
use Rattle.rules.specs.Form.{pair_ok, vector_ok}
use Rattle.std.proofs.Common.{sym, ap, ◌∙◌}
use Rattle.parts.proofs.vector_ok.Goals as goal

pub loop-owner-init : goal.loop-owner-init
loop-owner-init c = allb_zero _

pub loop-owner-preserved : goal.loop-owner-preserved
loop-owner-preserved c = allb_step _ _ _ _ c.loop-owner.invariant (c.pair_ok-ok.ensures ∙ sym (ap (pair_ok house _ _) (pair_at_lem _ _ _ c.loop-owner-test.true)))

pub returns : goal.returns
unfolding vector_ok
returns c = allb_end _ _ _ _ c.loop-owner.invariant c.loop-owner.auto.owner-end c.loop-owner-test.false
