-- Refused, or what the passed refusals say is what the hearing counts on (hears), its bounds among that.
use Rattle.rules.specs.Steps.{step_hear}
use Rattle.laws.specs.Answering.{turned_away, granted}
use Rattle.hearing.specs.Hearing.{hears}
use Rattle.std.proofs.Common.{◌≡◌, Err, rules}
use Rattle.hearing.proofs.hear.Goals as goal

pub returns-in_err-check_hear : goal.returns-in_err-check_hear
unfolding step_hear
returns-in_err-check_hear c =
    let e : c.from_residual.result ≡ Err c.in_err-check_hear.field-0.0 = grind rules in
    rw e (turned_away _ _ _ _ _ c.requires.long c.check_hear.ensures c.in_err-check_hear.was)

pub invariant_of-h : goal.invariant_of-h
invariant_of-h c =
    let w = hears _ _ _ _ c.requires c.in_ok-check_hear.ensures in
    record { hearer_lt = w.chain.named; owner_lt = w.owner_lt; incarnation_lt = w.incarnation_lt }

pub hear_crash-requires : goal.hear_crash-requires
hear_crash-requires c = hears _ _ _ _ c.requires c.in_ok-check_hear.ensures

pub returns : goal.returns
unfolding step_hear
returns c = granted _ _ _ _ _ c.in_ok-check_hear.ensures c.hear_crash.ensures
