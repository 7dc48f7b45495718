-- Each branch computes what the definition names there; vector and zeros stand together (message_vector_lem,
-- zeros_message).
use Rattle.base.specs.Cases.{all_of}
use Rattle.rules.specs.Limits.{house}
use Rattle.rules.specs.Form.{vector_ok, message_ok}
use Rattle.vector.specs.At.{message_vector_lem}
use Rattle.parts.specs.Zeros.{zeros_part, zeros_message}
use Rattle.table.specs.Layout.{message_words}
use Rattle.std.proofs.Common.{ap, ◌∙◌, lt-ltb, le-ltb, arith}
use Rattle.records.proofs.message_ok.Goals as goal

pub returns-then-r-records_used : goal.returns-then-r-records_used
unfolding message_ok all_of
returns-then-r-records_used c =
    let v = c.vector_ok.ensures ∙ ap (vector_ok house _) (message_vector_lem _ _ _ c.message_vector_at.ensures) in
    let in_use = rw c.records_used.ensures at c.if-r-records_used.true in
    rw (lt-ltb _ _ in_use, v, c.sending_incarnation.ensures, c.sender.ensures, c.state_ok.ensures, c.message_state.ensures, c.sending_number-number.ensures, c.receiver-receiver.ensures)

pub returns-else-r-records_used : goal.returns-else-r-records_used
unfolding message_ok
returns-else-r-records_used c = rw (le-ltb _ _ (rw c.records_used.ensures at c.if-r-records_used.false)) (c.all_zero.ensures ∙ zeros_part _ _ _ message_words (omega arith) (omega (arith, c.told-t, c.message_at-from.ensures)) ∙ zeros_message _ _ _ c.message_at-from.ensures)
