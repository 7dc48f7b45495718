use Rattle.parts.specs.Zeros.{all_zero}
use Rattle.base.specs.Ranges.{allb_zero, allb_step, allb_end}
use Rattle.rules.specs.Form.{zeros}
use Rattle.std.specs.Prelude.{refl}
use Rattle.parts.proofs.words_zero.Goals as goal

pub loop-x-init : goal.loop-x-init
loop-x-init c = allb_zero _

pub loop-x-preserved : goal.loop-x-preserved
loop-x-preserved c = allb_step _ _ _ _ c.loop-x.invariant refl

pub returns : goal.returns
unfolding all_zero zeros
returns c = allb_end _ _ _ _ c.loop-x.invariant c.loop-x.auto.x-index-end c.loop-x-test.false
