-- Refused, or opened as the refusals that were passed allow, with the ledger cleared.
use Rattle.rules.specs.Steps.{step_open}
use Rattle.rules.specs.Limits.{house}
use Rattle.laws.specs.Allowed.{open_allowed}
use Rattle.laws.specs.Answering.{turned_away_both}
use Rattle.opening.specs.Opened.{open_done}
use Rattle.std.proofs.Common.{◌≡◌, Err, rules}
use Rattle.opening.proofs.open.Goals as goal

pub returns-in_err-check_open : goal.returns-in_err-check_open
unfolding step_open
returns-in_err-check_open c =
    let e : c.from_residual.result ≡ Err c.in_err-check_open.field-0.0 = grind rules in
    rw e (turned_away_both _ _ _ _ _ _ c.told-t c.check_open.ensures c.in_err-check_open.was)

pub open_house-requires : goal.open_house-requires
open_house-requires c = open_allowed house _ _ _ c.in_ok-check_open.ensures

pub returns : goal.returns
returns c = open_done _ _ _ c.in_ok-check_open.ensures _ _ _ c.open_house.ensures c.clear.ensures
