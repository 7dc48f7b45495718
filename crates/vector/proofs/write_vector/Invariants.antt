-- Each turn stores one word of the flat vector (Filled).
use Rattle.rules.specs.Vector.{pair_of}
use Rattle.base.specs.Lists.{Filled}
use Rattle.table.specs.Layout.{vector_words}
use Rattle.std.proofs.Common.{◌/◌, ◌%◌, ℕ, get_or}
use Rattle.vector.proofs.write_vector.Given as goal

abbrev pub invariant-loop-i : goal.invariant-loop-i
invariant-loop-i l = Filled 0 vector_words (λ (j : ℕ). get_or (pair_of l.v (j / 2)) (j % 2) 0) l.i l.d
