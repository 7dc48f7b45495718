-- Each turn stores the larger of the two words of one incarnation (Filled).
use Rattle.table.specs.Layout.{incarnations}
use Rattle.table.specs.Words.{state}
use Rattle.table.specs.Field.{Known}
use Rattle.base.specs.Lists.{Filled}
use Rattle.std.proofs.Common.{max, ℕ}
use Rattle.controller.proofs.told_row.Given as goal

abbrev pub invariant-loop-i : goal.invariant-loop-i
invariant-loop-i l = Filled 0 incarnations (λ (j : ℕ). max (state l.t (Known l.holder l.owner j)) (state l.t (Known l.owner l.owner j))) l.i l.row
