-- The digits are stored from the last one: writing those of rest behind the space would complete the number (Storing).
use Rattle.std.proofs.Common.{◌≡◌}
use Rattle.printing.proofs.Writing.{Storing}
use Rattle.printing.proofs.Output.number.Given as goal

abbrev pub invariant-loop-rest : goal.invariant-loop-rest
invariant-loop-rest l =
    record {
      stored : Storing l.initial.self.bytes.now l.initial.self.end l.v l.rest l.i l.self.bytes.now;
      same_reference : l.self.bytes.ghost_name ≡ l.initial.self.bytes.ghost_name;
    }

abbrev pub decreases-loop-rest : goal.decreases-loop-rest
decreases-loop-rest l = l.rest
