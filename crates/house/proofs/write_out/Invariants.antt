-- No more is written than there is.
use Rattle.std.proofs.Common.{◌≤◌, length}
use Rattle.house.proofs.write_out.Given as goal

abbrev pub invariant-loop : goal.invariant-loop
invariant-loop l = l.done ≤ length l.bytes
