-- The test is that of the one case.
use Rattle.base.specs.Cases.{none, hit, skip}
use Rattle.rules.specs.Limits.{last_gap}
use Rattle.std.proofs.Common.{lt-ltb, le-ltb, arith}
use Rattle.checkpoint.proofs.check_gap.Goals as goal

pub returns-then-q-gt-LAST_GAP : goal.returns-then-q-gt-LAST_GAP
returns-then-q-gt-LAST_GAP c = hit _ _ _ (lt-ltb last_gap c.args.q (omega (arith, c.if-q-gt-LAST_GAP.true)))

pub returns : goal.returns
returns c = skip _ _ _ _ (le-ltb last_gap c.args.q (omega (arith, c.if-q-gt-LAST_GAP.false))) none
