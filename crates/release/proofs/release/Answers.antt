-- Refused, or done by `release_record`.
use Rattle.laws.specs.Chain.{releasable}
use Rattle.release.specs.Releases.{ledger_refused, release_refused, release_done}
use Rattle.std.proofs.Common.{◌≡◌, Err, rules}
use Rattle.release.proofs.release.Goals as goal

pub returns-in_default : goal.returns-in_default
returns-in_default c = ledger_refused _ _ _ _ c.find_record-r.ensures c.requires.long c.in_default.ensures.cases

pub returns-in_err-check_release : goal.returns-in_err-check_release
returns-in_err-check_release c =
    let e : c.from_residual.result ≡ Err c.in_err-check_release.field-0.0 = grind rules in
    rw e (release_refused _ _ _ _ c.find_record-r.ensures _ c.in-Some.ensures.cases.same _ _ c.requires.long c.check_release.ensures c.in_err-check_release.was)

pub release_record-requires : goal.release_record-requires
release_record-requires c = releasable _ _ _ c.requires c.in_ok-check_release.ensures

pub returns : goal.returns
returns c = release_done _ _ _ _ c.find_record-r.ensures _ c.in-Some.ensures.cases.same _ _ _ c.in_ok-check_release.ensures c.release_record.ensures
