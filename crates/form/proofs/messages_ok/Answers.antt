use Rattle.base.specs.Ranges.{allb_zero, allb_next, allb_stops, allb_end}
use Rattle.form.specs.Runs.{all_messages}
use Rattle.parts.specs.Zeros.{zeros_part}
use Rattle.std.proofs.Common.{◌∙◌, ◌-◌, arith, ap, not}
use Rattle.form.proofs.messages_ok.Goals as goal

pub loop-r-init : goal.loop-r-init
loop-r-init c = allb_zero _

pub returns-then-not-message_ok : goal.returns-then-not-message_ok
returns-then-not-message_ok c = allb_stops _ _ _ _ (omega arith) c.message_ok.ensures (ap not c.if-not-message_ok.true)

pub loop-r-preserved : goal.loop-r-preserved
loop-r-preserved c = allb_next _ _ _ c.loop-r.invariant c.message_ok.ensures (ap not c.if-not-message_ok.false)

pub returns : goal.returns
returns c =
    all_messages _ _ _ _ _ _ (rw c.records_used.ensures at c.min-sent.ensures) (allb_end _ _ _ _ c.loop-r.invariant c.loop-r.auto.r-end c.loop-r-test.false)
    c.message_at.ensures (c.all_zero.ensures ∙ zeros_part c.args.t.now c.message_at.result (c.message_at-2.result - c.message_at.result) _ (omega (arith, c.min-sent.ensures, c.message_at.ensures, c.message_at-2.ensures)) (omega (arith, c.told-t, c.min-sent.ensures, c.message_at.ensures)))
