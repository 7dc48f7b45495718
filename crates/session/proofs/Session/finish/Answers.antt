-- Without a line there is nothing more; else it ends (finished_none, finished_more).
use Rattle.std.proofs.Common.{rules}
use Rattle.session.proofs.Buffers.{finished_none, finished_more}
use Rattle.session.proofs.Session.finish.Goals as goal

pub returns-else-not-is_empty-clause-answers : goal.returns-else-not-is_empty-clause-answers
returns-else-not-is_empty-clause-answers c = finished_none _ _ _ _ (search rules)

pub returns-then-not-is_empty-clause-answers : goal.returns-then-not-is_empty-clause-answers
returns-then-not-is_empty-clause-answers c = finished_more _ _ _ _ (search rules) c.end_line.ensures.answers
