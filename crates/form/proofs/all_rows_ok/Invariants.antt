-- All holders before `holder` have passed (allb_next); the first that doesn't settles the answer (allb_stops).
use Rattle.base.specs.Ranges.{allb}
use Rattle.table.specs.Layout.{controllers}
use Rattle.table.specs.Words.{state}
use Rattle.rules.specs.Limits.{house}
use Rattle.rules.specs.Form.{row_ok}
use Rattle.std.proofs.Common.{◌≡◌, true, ℕ}
use Rattle.form.proofs.all_rows_ok.Given as goal

abbrev pub invariant-loop-holder : goal.invariant-loop-holder
invariant-loop-holder l = true ≡ allb l.holder (λ (holder : ℕ). allb controllers (row_ok house l.n (state l.t) holder))
