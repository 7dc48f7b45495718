-- Numbers of c are bounded, so that this one fits (number_fits). The latest checkpoint has a number of the first k
-- places (flagged_le), so that the difference is the one of the definition.
use Rattle.std.proofs.Common.{arith, rules}
use Rattle.table.specs.Words.{state}
use Rattle.laws.specs.Numbers.{number_fits}
use Rattle.laws.specs.Found.{flagged_le}
use Rattle.checkpoint.specs.Writes.{replay_is}
use Rattle.checkpoint.proofs.replay.Goals as goal

pub number_of-x-requires : goal.number_of-x-requires
number_of-x-requires c = search (rules, number_fits)

pub overflow_sub-result : goal.overflow_sub-result
overflow_sub-result c = let s = c.args in omega (arith, c.latest_flagged-flagged.ensures, c.number_of-x.ensures, flagged_le (state s.t.now) s.c s.k)

pub returns : goal.returns
returns c = search replay_is
