-- Word 1.
use Rattle.table.specs.Numbering.{last_given}
use Rattle.std.proofs.Common.{refl}
use Rattle.table.proofs.last_given.Goals as goal

pub returns : goal.returns
unfolding last_given
returns c = refl
