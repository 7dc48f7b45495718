-- The flag gathers the tests of the messages before m (anyb_step).
use Rattle.base.specs.Ranges.{anyb}
use Rattle.table.specs.Words.{state}
use Rattle.rules.specs.Sets.{nth, absent}
use Rattle.std.proofs.Common.{◌≡◌, ℕ}
use Rattle.sets.proofs.absent_among.Given as goal

abbrev pub invariant-loop-m : goal.invariant-loop-m
invariant-loop-m l = l.some ≡ anyb l.m-index (λ (k : ℕ). absent (state l.t) (nth l.block k))
