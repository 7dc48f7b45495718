-- Refused, or logged by `log_oldest`.
use Rattle.rules.specs.Steps.{step_log}
use Rattle.laws.specs.Answering.{turned_away, granted, leaves}
use Rattle.controller.specs.Ready.{log_counts, log_some}
use Rattle.std.proofs.Common.{◌≡◌, Err, rules}
use Rattle.controller.proofs.log.Goals as goal

pub returns-in_err-check_log : goal.returns-in_err-check_log
unfolding step_log
returns-in_err-check_log c =
    let e : c.from_residual.result ≡ Err c.in_err-check_log.field-0.0 = grind rules in
    rw e (turned_away _ _ _ _ _ c.requires.long c.check_log.ensures c.in_err-check_log.was)

pub log_oldest-requires : goal.log_oldest-requires
log_oldest-requires c = let e = c.in_ok-check_log.ensures in (log_counts _ c.requires _ _ e, log_some _ c.requires _ _ e)

pub returns : goal.returns
unfolding step_log
returns c = granted _ _ _ _ _ c.in_ok-check_log.ensures (leaves _ _ _ c.log_oldest.ensures)
