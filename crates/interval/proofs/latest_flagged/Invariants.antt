-- The places from q on and below k are not flagged, so that the answer for k is that for q. Numbers of c are bounded,
-- so that this one fits (number_fits).
use Rattle.table.specs.Words.{state}
use Rattle.rules.specs.Shared.{latest_flagged}
use Rattle.std.proofs.Common.{◌≡◌}
use Rattle.interval.proofs.latest_flagged.Given as goal

abbrev pub invariant-loop-q : goal.invariant-loop-q
invariant-loop-q l = latest_flagged (state l.t) l.c l.k ≡ latest_flagged (state l.t) l.c l.q
