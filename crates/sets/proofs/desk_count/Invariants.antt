-- The number is that of the messages before m that are for the desk (desks_more); there are no more of them than
-- messages (desks_fit).
use Rattle.table.specs.Words.{state}
use Rattle.rules.specs.Sets.{desks}
use Rattle.std.proofs.Common.{◌≡◌}
use Rattle.sets.proofs.desk_count.Given as goal

abbrev pub invariant-loop-m : goal.invariant-loop-m
invariant-loop-m l = l.n ≡ desks (state l.t) l.list l.m-index
