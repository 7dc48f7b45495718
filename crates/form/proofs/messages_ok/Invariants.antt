-- All sent messages before r have passed, or the first that doesn't settles the answer (allb_next, allb_stops); the
-- rest is one run of zeros (all_messages).
use Rattle.base.specs.Ranges.{allb}
use Rattle.table.specs.Words.{state}
use Rattle.rules.specs.Limits.{house}
use Rattle.rules.specs.Form.{message_ok}
use Rattle.std.proofs.Common.{◌≡◌, true}
use Rattle.form.proofs.messages_ok.Given as goal

abbrev pub invariant-loop-r : goal.invariant-loop-r
invariant-loop-r l = true ≡ allb l.r (message_ok house l.n (state l.t))
