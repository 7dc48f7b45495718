use Rattle.base.specs.Ranges.{anyb_zero, anyb_step, anyb_at, anyb_end}
use Rattle.rules.specs.Sets.{many_senders}
use Rattle.std.proofs.Common.{sym, eq-eqb, ne_eqb}
use Rattle.sets.proofs.many_senders.Goals as goal

pub loop-m-init : goal.loop-m-init
loop-m-init c = anyb_zero _

pub returns-then-sender_of-sender : goal.returns-then-sender_of-sender
unfolding many_senders
returns-then-sender_of-sender c =
    sym (anyb_at _ _ _ c.loop-m-test.true (rw (← c.sender_of.ensures, ← c.sender_of-sender.ensures, ne_eqb _ _ c.if-sender_of-sender.true)))

pub loop-m-preserved : goal.loop-m-preserved
loop-m-preserved c = anyb_step _ _ _ _ c.loop-m.invariant (rw (← c.sender_of.ensures, ← c.sender_of-sender.ensures, eq-eqb _ _ c.if-sender_of-sender.false))

pub returns : goal.returns
unfolding many_senders
returns c = anyb_end _ _ _ _ c.loop-m.invariant c.loop-m.auto.m-index-end c.loop-m-test.false
