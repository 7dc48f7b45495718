-- A read without bytes is the end of the input, and another one is taken (served_none, served_some).
use Rattle.std.proofs.Common.{sym, eqb-true, rules}
use Rattle.std.proofs.lemmas.Bool.{eqb-false}
use Rattle.session.proofs.Buffers.{served_none, served_some}
use Rattle.session.proofs.Session.serve.Goals.{then-is_empty, else-is_empty}
use Rattle.session.proofs.Session.serve.Goals as goal

pub returns-clause-answers : goal.returns-clause-answers
returns-clause-answers c =
    elim c.if-is_empty.branch [
      | then-is_empty w ↦ served_none _ _ (eqb-true _ 0 (sym w.if-is_empty.ensures)) (search rules)
      | else-is_empty w ↦ served_some _ _ (eqb-false _ 0 (sym w.if-is_empty.ensures)) (search rules)
    ]
