-- Before each turn the messages before m have gone out (Gone).
use Rattle.sets.specs.Going.{Gone}
use Rattle.sets.proofs.let_all_go.Given as goal

abbrev pub invariant-loop-m : goal.invariant-loop-m
invariant-loop-m l = Gone l.initial.t l.initial.g l.list l.t l.g l.m-index
