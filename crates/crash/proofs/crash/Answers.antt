-- Refused, or what the passed refusals say is what the crash counts on (crashes).
use Rattle.rules.specs.Steps.{step_crash}
use Rattle.laws.specs.Answering.{turned_away}
use Rattle.crash.specs.Crashing.{crashes}
use Rattle.std.proofs.Common.{◌≡◌, Err, rules}
use Rattle.crash.proofs.crash.Goals as goal

pub returns-in_err-check_crash : goal.returns-in_err-check_crash
unfolding step_crash
returns-in_err-check_crash c =
    let e : c.from_residual.result ≡ Err c.in_err-check_crash.field-0.0 = grind rules in
    rw e (turned_away _ _ _ _ _ c.requires.long c.check_crash.ensures c.in_err-check_crash.was)

pub crash_controller-requires : goal.crash_controller-requires
crash_controller-requires c = crashes _ _ c.requires c.in_ok-check_crash.ensures
