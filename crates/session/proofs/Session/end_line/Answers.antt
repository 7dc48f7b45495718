-- A line's answer is the one of a line that has ended (ended_asked, ended_bad).
use Rattle.std.proofs.Common.{rules, arith}
use Rattle.session.proofs.Buffers.{ended_asked, ended_bad, added_answer}
use Rattle.session.proofs.Session.end_line.Goals as goal

pub returns-in_default-clause-answers : goal.returns-in_default-clause-answers
returns-in_default-clause-answers c = rw c.clear.ensures (ended_bad _ _ _ (search rules) c.bad.ensures.written (omega arith))

pub returns-in_default-clause-room : goal.returns-in_default-clause-room
returns-in_default-clause-room c = added_answer c.bad.ensures.written c.requires c.bad.ensures.same_reference

pub returns-clause-answers : goal.returns-clause-answers
returns-clause-answers c = rw c.clear.ensures (ended_asked _ _ _ (search rules) c.step_carried-r.ensures.answered c.answer.ensures.written (omega arith))

pub returns-clause-room : goal.returns-clause-room
returns-clause-room c = added_answer c.answer.ensures.written c.requires c.answer.ensures.same_reference
