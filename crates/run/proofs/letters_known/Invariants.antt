-- The flag gathers the letters of the steps before this one (allb_step).
use Rattle.base.specs.Ranges.{allb}
use Rattle.run.specs.Run.{asked_by, known}
use Rattle.std.specs.List.{concat}
use Rattle.std.proofs.Common.{◌≡◌, ℕ}
use Rattle.run.proofs.letters_known.Given as goal

abbrev pub invariant-loop-step : goal.invariant-loop-step
invariant-loop-step l = l.all ≡ allb l.step-index (λ (k : ℕ). known (asked_by (concat l.steps) k))
