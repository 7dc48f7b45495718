-- One word was stored.
use Rattle.table.specs.Field.{Gap}
use Rattle.table.proofs.Words.{stored}
use Rattle.std.proofs.Common.{arith}
use Rattle.table.proofs.set_gap.Goals as goal

pub returns : goal.returns
returns c = stored c.args.t.now Gap c.args.x c.told-t (omega arith)
