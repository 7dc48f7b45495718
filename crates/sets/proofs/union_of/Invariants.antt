-- The vector gathers the filtered vectors of the messages before m (Gathered).
use Rattle.table.specs.Words.{state}
use Rattle.sets.specs.Gathering.{Gathered}
use Rattle.sets.proofs.union_of.Given as goal

abbrev pub invariant-loop-m : goal.invariant-loop-m
invariant-loop-m l = Gathered (state l.t) l.list l.m-index l.v
