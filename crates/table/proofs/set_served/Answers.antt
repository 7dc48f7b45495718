-- One word was stored.
use Rattle.table.specs.Field.{Served}
use Rattle.table.proofs.Words.{stored}
use Rattle.std.proofs.Common.{arith}
use Rattle.table.proofs.set_served.Goals as goal

pub returns : goal.returns
returns c = stored c.args.t.now Served c.args.x c.told-t (omega arith)
