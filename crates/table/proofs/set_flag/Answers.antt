-- One word was stored.
use Rattle.table.specs.Field.{Flag}
use Rattle.table.proofs.Words.{stored}
use Rattle.std.proofs.Common.{arith}
use Rattle.table.proofs.set_flag.Goals as goal

pub returns : goal.returns
returns c = stored c.args.t.now (Flag c.args.c c.args.p) c.args.x c.told-t (c.requires.0, c.requires.1, omega arith)
