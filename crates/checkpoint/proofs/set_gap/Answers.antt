-- Refused, or one word is put.
use Rattle.rules.specs.Steps.{step_gap}
use Rattle.laws.specs.Answering.{turned_away, granted, leaves}
use Rattle.std.proofs.Common.{◌≡◌, Err, rules}
use Rattle.checkpoint.proofs.set_gap.Goals as goal

pub returns-in_err-check_gap : goal.returns-in_err-check_gap
unfolding step_gap
returns-in_err-check_gap c =
    let e : c.from_residual.result ≡ Err c.in_err-check_gap.field-0.0 = grind rules in
    rw e (turned_away _ _ _ _ _ c.requires.long c.check_gap.ensures c.in_err-check_gap.was)

pub returns : goal.returns
unfolding step_gap
returns c = granted _ _ _ _ _ c.in_ok-check_gap.ensures (leaves _ _ _ c.set_gap.ensures)
