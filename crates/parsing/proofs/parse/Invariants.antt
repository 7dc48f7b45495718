-- Behind each field that was a number, the line asks what its letter asks with the numbers read and the fields left
-- (Line).
use Rattle.std.proofs.Common.{◌≡◌, length}
use Rattle.parsing.proofs.Reading.{Line}
use Rattle.parsing.proofs.parse.Given as goal

abbrev pub invariant-loop-field : goal.invariant-loop-field
invariant-loop-field l = record {
  counts : l.n ≡ length l.yielded;
  line : Line l.s l.letter l.ns l.n;
}
