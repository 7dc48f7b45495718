-- The tests stand in the order of the cases; what was read is put for the words, and each test has its outcome.
use Rattle.base.specs.Cases.{first_of}
use borrow.Author.Tests.{eq-eqb, ne_eqb}
use Rattle.message.proofs.check_send.Goals as goal

pub returns-then-n-sender : goal.returns-then-n-sender
unfolding first_of
returns-then-n-sender c = rw (← c.size-n.ensures, c.if-n-sender.true)

pub returns-then-sender-receiver : goal.returns-then-sender-receiver
unfolding first_of
returns-then-sender-receiver c = rw (← c.size-n.ensures, c.if-n-sender.false, eq-eqb _ _ c.if-sender-receiver.true)

pub returns-then-records_full : goal.returns-then-records_full
unfolding first_of
returns-then-records_full c = rw (← c.size-n.ensures, c.if-n-sender.false, ne_eqb _ _ c.if-sender-receiver.false, ← c.records_full.ensures, c.if-records_full.true)

pub returns : goal.returns
unfolding first_of
returns c = rw (← c.size-n.ensures, c.if-n-sender.false, ne_eqb _ _ c.if-sender-receiver.false, ← c.records_full.ensures, c.if-records_full.false)
