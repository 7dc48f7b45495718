-- Before each turn no owner before `owner` conflicts; the first that does settles it (conflict_one), or none does (conflict_none).
use Rattle.vector.specs.Conflict.{at}
use Rattle.table.specs.Words.{state}
use Rattle.table.specs.Layout.{controllers}
use Rattle.std.proofs.Common.{ℕ, ◌≤◌, ◌<◌, false, ◌≡◌}
use Rattle.vector.proofs.place_conflict.Given as goal

abbrev pub invariant-loop-owner : goal.invariant-loop-owner
invariant-loop-owner l = (l.owner ≤ controllers) × ((k : ℕ) → k < l.owner → at (state l.t) l.c l.p l.w k ≡ false)
