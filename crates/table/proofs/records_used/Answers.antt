-- Word 1.
use Rattle.table.specs.Numbering.{used}
use Rattle.std.proofs.Common.{refl}
use Rattle.table.proofs.records_used.Goals as goal

pub returns : goal.returns
unfolding used
returns c = refl
