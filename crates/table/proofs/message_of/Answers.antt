-- Records are counted from 0, and messages from 1.
use Rattle.table.specs.Numbering.{message_of}
use Rattle.std.proofs.Common.{refl}
use Rattle.table.proofs.message_of.Goals as goal

pub returns : goal.returns
unfolding message_of
returns c = refl
