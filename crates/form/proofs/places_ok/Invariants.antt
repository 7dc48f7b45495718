-- All live places before p have passed, or the first that doesn't settles the answer (allb_next, allb_stops); the rest
-- is one run of zeros (all_places).
use Rattle.base.specs.Ranges.{allb}
use Rattle.table.specs.Words.{state}
use Rattle.rules.specs.Limits.{house}
use Rattle.rules.specs.Form.{place_ok}
use Rattle.std.proofs.Common.{◌≡◌, true}
use Rattle.form.proofs.places_ok.Given as goal

abbrev pub invariant-loop-p : goal.invariant-loop-p
invariant-loop-p l = true ≡ allb l.p (place_ok house l.n (state l.t) l.c)
