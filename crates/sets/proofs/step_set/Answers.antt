-- Refused, or done by `release_all`.
use Rattle.sets.specs.Ready.{passed}
use Rattle.sets.specs.Returns.{ledger_refused, set_refused, set_granted}
use Rattle.std.proofs.Common.{◌≡◌, Err, rules}
use Rattle.sets.proofs.step_set.Goals as goal

pub returns-in_default : goal.returns-in_default
returns-in_default c = ledger_refused _ _ _ c.requires.long c.in_default.ensures.cases

pub returns-in_err-check_set : goal.returns-in_err-check_set
returns-in_err-check_set c =
    let e : c.from_residual.result ≡ Err c.in_err-check_set.field-0.0 = grind rules in
    rw e (set_refused _ _ _ _ c.in-Some.ensures.cases.same _ _ c.requires.long c.check_set.ensures c.in_err-check_set.was)

pub release_all-requires : goal.release_all-requires
release_all-requires c = passed _ _ _ c.requires c.in_ok-check_set.ensures

pub returns : goal.returns
returns c = set_granted _ _ _ _ c.in-Some.ensures.cases.same _ _ _ c.in_ok-check_set.ensures c.release_all.ensures
