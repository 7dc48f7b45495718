-- At turn c the table is that of the opened state with only the controllers below c begun (opened_to).
use Rattle.table.specs.Words.{words}
use Rattle.opening.specs.Opened.{opened_to}
use Rattle.std.proofs.Common.{◌≡◌}
use Rattle.opening.proofs.open_house.Given as goal

abbrev pub invariant-loop-c : goal.invariant-loop-c
invariant-loop-c l = l.t ≡ words (opened_to l.n l.k l.c)
