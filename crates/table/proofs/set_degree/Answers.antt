-- One word was stored.
use Rattle.table.specs.Field.{Degree}
use Rattle.table.proofs.Words.{stored}
use Rattle.std.proofs.Common.{arith}
use Rattle.table.proofs.set_degree.Goals as goal

pub returns : goal.returns
returns c = stored c.args.t.now (Degree c.args.c) c.args.x c.told-t (c.requires, omega arith)
