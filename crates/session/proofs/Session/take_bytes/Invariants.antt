-- After each byte one more is taken (taken_next), and no byte owes more than an answer.
use Rattle.std.proofs.Common.{◌≡◌, ◌*◌, take}
use Rattle.printing.specs.Parts.{answer_room}
use Rattle.session.specs.Taking.{taken_all}
use Rattle.session.specs.Driven.{owing, Added, SameReferences}
use Rattle.session.proofs.Session.take_bytes.Given as goal

abbrev pub invariant-loop-b : goal.invariant-loop-b
invariant-loop-b l =
    record {
      answers : owing l.self l.out ≡ taken_all (owing l.initial.self l.initial.out) (take l.b-index l.bytes);
      room : Added l.initial.out (answer_room * l.b-index) l.out;
      same_references : SameReferences l.initial.self l.self;
    }
