-- All owners before `owner` have passed (allb_next); the first that doesn't settles the answer (allb_stops).
use Rattle.base.specs.Ranges.{allb}
use Rattle.table.specs.Words.{state}
use Rattle.rules.specs.Limits.{house}
use Rattle.rules.specs.Form.{row_ok}
use Rattle.std.proofs.Common.{◌≡◌, true}
use Rattle.form.proofs.rows_ok.Given as goal

abbrev pub invariant-loop-owner : goal.invariant-loop-owner
invariant-loop-owner l = true ≡ allb l.owner (row_ok house l.n (state l.t) l.holder)
