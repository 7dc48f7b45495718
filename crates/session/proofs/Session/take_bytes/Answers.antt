use Rattle.std.proofs.Common.{◌∙◌, arith}
use Rattle.session.proofs.Buffers.{taken_next, added_more}
use Rattle.session.proofs.Session.take_bytes.Goals as goal

pub loop-b-preserved : goal.loop-b-preserved
loop-b-preserved c =
    let e = c.take_byte.ensures in
    let inv = c.loop-b.invariant in
    record {
      answers = taken_next _ _ _ inv.answers e.answers c.loop-b-test.true;
      room = added_more inv.room e.room (omega arith);
      same_references = (e.same_references.0 ∙ inv.same_references.0, e.same_references.1 ∙ inv.same_references.1);
    }
