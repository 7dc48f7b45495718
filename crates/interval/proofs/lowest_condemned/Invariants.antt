-- At place p none below it holds a condemned entry, and the figure is the highest flagged number below it (Come); at
-- each owner none before it condemns p (Judged).
use Rattle.interval.specs.Walks.{Come, Judged}
use Rattle.std.proofs.Common.{◌-◌}
use Rattle.interval.proofs.lowest_condemned.Given as goal

abbrev pub invariant-loop-owner : goal.invariant-loop-owner
invariant-loop-owner l = Judged l.t l.hearer l.live l.flagged l.p l.owner

abbrev pub invariant-places : goal.invariant-places
invariant-places l = Come l.t l.hearer l.live l.flagged l.p

abbrev pub decreases-places : goal.decreases-places
decreases-places l = l.live - l.p
