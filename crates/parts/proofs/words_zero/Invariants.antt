-- The flag gathers the tests of the words before x (allb_step).
use Rattle.base.specs.Ranges.{allb}
use Rattle.std.proofs.Common.{◌≡◌, ℕ, get_or, ◌==◌}
use Rattle.parts.proofs.words_zero.Given as goal

abbrev pub invariant-loop-x : goal.invariant-loop-x
invariant-loop-x l = l.ok ≡ allb l.x-index (λ (j : ℕ). get_or l.part j 0 == 0)
