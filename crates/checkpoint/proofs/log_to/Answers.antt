-- Numbers of c are bounded, so that this one fits (number_fits). Two words are put, with what was read before
-- (writes_logged).
use Rattle.laws.specs.Numbers.{number_fits}
use Rattle.checkpoint.specs.Writes.{writes_logged}
use Rattle.std.proofs.Common.{rules}
use Rattle.checkpoint.proofs.log_to.Goals as goal

pub number_of-x-requires : goal.number_of-x-requires
number_of-x-requires c = search (rules, number_fits)

pub returns : goal.returns
returns c = search writes_logged
