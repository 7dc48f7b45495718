-- All controllers before c have passed (allb_next); the first that doesn't settles the answer (allb_stops).
use Rattle.base.specs.Ranges.{allb}
use Rattle.table.specs.Layout.{places}
use Rattle.table.specs.Words.{state}
use Rattle.rules.specs.Limits.{house}
use Rattle.rules.specs.Form.{place_ok}
use Rattle.std.proofs.Common.{◌≡◌, true, ℕ}
use Rattle.form.proofs.all_places_ok.Given as goal

abbrev pub invariant-loop-c : goal.invariant-loop-c
invariant-loop-c l = true ≡ allb l.c (λ (c : ℕ). allb places (place_ok house l.n (state l.t) c))
