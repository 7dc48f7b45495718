-- Refused, or told by `store_row`.
use Rattle.rules.specs.Steps.{step_tell}
use Rattle.laws.specs.Answering.{turned_away, granted, leaves}
use Rattle.controller.specs.Ready.{tell_owner, tell_holder}
use Rattle.std.proofs.Common.{◌≡◌, Err, rules}
use Rattle.controller.proofs.tell.Goals as goal

pub returns-in_err-check_tell : goal.returns-in_err-check_tell
unfolding step_tell
returns-in_err-check_tell c =
    let e : c.from_residual.result ≡ Err c.in_err-check_tell.field-0.0 = grind rules in
    rw e (turned_away _ _ _ _ _ c.requires.long c.check_tell.ensures c.in_err-check_tell.was)

pub store_row-requires : goal.store_row-requires
store_row-requires c = let e = c.in_ok-check_tell.ensures in (tell_owner _ c.requires _ _ e, tell_holder _ c.requires _ _ e)

pub returns : goal.returns
unfolding step_tell
returns c = granted _ _ _ _ _ c.in_ok-check_tell.ensures (leaves _ _ _ c.store_row.ensures)
