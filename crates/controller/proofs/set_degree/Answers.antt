-- Refused, or one word is put.
use Rattle.rules.specs.Steps.{step_degree}
use Rattle.laws.specs.Answering.{turned_away, granted, leaves}
use Rattle.controller.specs.Ready.{degree_named}
use Rattle.std.proofs.Common.{◌≡◌, Err, rules}
use Rattle.controller.proofs.set_degree.Goals as goal

pub returns-in_err-check_degree : goal.returns-in_err-check_degree
unfolding step_degree
returns-in_err-check_degree c =
    let e : c.from_residual.result ≡ Err c.in_err-check_degree.field-0.0 = grind rules in
    rw e (turned_away _ _ _ _ _ c.requires.long c.check_degree.ensures c.in_err-check_degree.was)

pub set_degree-requires : goal.set_degree-requires
set_degree-requires c = degree_named _ c.requires _ _ c.in_ok-check_degree.ensures

pub returns : goal.returns
unfolding step_degree
returns c = granted _ _ _ _ _ c.in_ok-check_degree.ensures (leaves _ _ _ c.set_degree.ensures)
