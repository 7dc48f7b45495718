-- Numbers of c are bounded, so that this one fits (number_fits). Before record r the records below r have been looked
-- at (dropped_to), and no other word has changed. Those from the last one sent on hold no message (drop_all).
use Rattle.std.proofs.Common.{◌≡◌}
use Rattle.table.specs.Words.{state, words}
use Rattle.removal.specs.Dropping.{dropped_to}
use Rattle.removal.proofs.drop_held.Given as goal

abbrev pub invariant-loop-r : goal.invariant-loop-r
invariant-loop-r l = l.t ≡ words (dropped_to (state l.initial.t) l.c l.x l.r)
