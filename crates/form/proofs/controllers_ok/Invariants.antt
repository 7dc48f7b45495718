-- All controllers before c have passed (allb_next); the first that doesn't settles the answer (allb_stops).
use Rattle.base.specs.Ranges.{allb}
use Rattle.table.specs.Words.{state}
use Rattle.rules.specs.Limits.{house}
use Rattle.rules.specs.Form.{controller_ok}
use Rattle.std.proofs.Common.{◌≡◌, true}
use Rattle.form.proofs.controllers_ok.Given as goal

abbrev pub invariant-loop-c : goal.invariant-loop-c
invariant-loop-c l = true ≡ allb l.c (controller_ok house l.n (state l.t))
