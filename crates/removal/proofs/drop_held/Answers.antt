use Rattle.std.proofs.Common.{arith, rules}
use Rattle.laws.specs.Numbers.{number_fits}
use Rattle.removal.specs.Dropping.{drop_none, drop_more, drop_all}
use Rattle.removal.proofs.drop_held.Goals as goal

pub number_of-x-requires : goal.number_of-x-requires
number_of-x-requires c = search (rules, number_fits)

pub loop-r-init : goal.loop-r-init
loop-r-init c = search (rules, drop_none)

pub loop-r-preserved : goal.loop-r-preserved
loop-r-preserved c = drop_more _ _ _ _ _ _ _ c.loop-r.invariant c.loop-r-test.true (omega (arith, c.requires.1.used_le)) c.drop_one.ensures

pub returns : goal.returns
returns c = search (drop_all)
