-- At b the reader has the value of the digits before it, and finds what `number` says with the digits that are left
-- (Reader).
use Rattle.parsing.proofs.Digits.{Reader}
use Rattle.parsing.proofs.number.Given as goal

abbrev pub invariant-loop-b : goal.invariant-loop-b
invariant-loop-b l = Reader l.field l.v l.b-index
