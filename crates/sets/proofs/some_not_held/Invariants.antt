-- All messages before m are held (anyb_step).
use Rattle.base.specs.Ranges.{anyb}
use Rattle.table.specs.Words.{state}
use Rattle.rules.specs.Sets.{nth, not_held}
use Rattle.std.proofs.Common.{◌≡◌, false, ℕ}
use Rattle.sets.proofs.some_not_held.Given as goal

abbrev pub invariant-loop-m : goal.invariant-loop-m
invariant-loop-m l = false ≡ anyb l.m-index (λ (k : ℕ). not_held (state l.t) (nth l.list k))
