-- Before place p the causes of the places from k on and below p have their states (Walk), and no other word has
-- changed.
use Rattle.table.specs.Words.{state}
use Rattle.removal.specs.Settling.{Walk}
use Rattle.removal.proofs.settle_causes.Given as goal

abbrev pub invariant-loop-p : goal.invariant-loop-p
invariant-loop-p l = Walk (state l.initial.t) l.c l.k l.live l.t l.p
