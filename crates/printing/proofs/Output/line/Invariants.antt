-- Before a value those before it stand behind the word (Listing), with room for the others.
use Rattle.std.proofs.Common.{◌≡◌}
use Rattle.printing.proofs.Writing.{Listing}
use Rattle.printing.proofs.Output.line.Given as goal

abbrev pub invariant-loop-value : goal.invariant-loop-value
invariant-loop-value l =
    record {
      listed : Listing l.initial.self.bytes.now l.initial.self.end l.values l.value-index l.self.bytes.now l.self.end;
      same_reference : l.self.bytes.ghost_name ≡ l.initial.self.bytes.ghost_name;
    }
