-- The tests stand in the order of the cases; what was read is put for the words, and each test has its outcome. A
-- record in use is one of the table (record_there).
use Rattle.base.specs.Cases.{first_of}
use borrow.Author.Tests.{le-leb, lt-leb, eq-eqb, ne_eqb}
use Rattle.message.specs.Ready.{record_there}
use Rattle.message.proofs.check_message.Goals as goal

pub returns-then-records_used-r : goal.returns-then-records_used-r
unfolding first_of
returns-then-records_used-r c = rw (← c.records_used.ensures, le-leb _ _ c.if-records_used-r.true)

pub message_state-requires : goal.message_state-requires
message_state-requires c = search record_there

pub returns-then-message_state-wanted : goal.returns-then-message_state-wanted
unfolding first_of
returns-then-message_state-wanted c = rw (← c.records_used.ensures, lt-leb _ _ c.if-records_used-r.false, ← c.message_state.ensures, ne_eqb _ _ c.if-message_state-wanted.true)

pub returns : goal.returns
unfolding first_of
returns c = rw (← c.records_used.ensures, lt-leb _ _ c.if-records_used-r.false, ← c.message_state.ensures, eq-eqb _ _ c.if-message_state-wanted.false)
