use Rattle.base.specs.Ranges.{allb_zero, allb_step, allb_end}
use Rattle.run.specs.Run.{known}
use Rattle.run.proofs.Running.{asked_in}
use Rattle.std.proofs.Common.{sym, ap, ◌∙◌}
use Rattle.run.proofs.letters_known.Goals as goal

pub loop-step-init : goal.loop-step-init
loop-step-init c = allb_zero _

pub loop-step-preserved : goal.loop-step-preserved
loop-step-preserved c = allb_step _ _ _ _ c.loop-step.invariant (c.is_some-all.ensures ∙ ap known (c.asked_by.ensures ∙ sym (asked_in _ _ c.told-steps c.loop-step-test.true)))

pub returns : goal.returns
returns c = allb_end _ _ _ _ c.loop-step.invariant c.loop-step.auto.step-index-end c.loop-step-test.false
