-- All blocks before this one are 0 (allb_next); the first that isn't settles the answer (allb_stops).
use Rattle.parts.specs.Zeros.{block, zeros_from}
use Rattle.base.specs.Ranges.{allb}
use Rattle.std.proofs.Common.{◌≡◌, true, ℕ, ◌*◌}
use Rattle.parts.proofs.all_zero.Given as goal

abbrev pub invariant-loop-block : goal.invariant-loop-block
invariant-loop-block l = true ≡ allb l.block-index (λ (j : ℕ). zeros_from l.part (j * block) block)
