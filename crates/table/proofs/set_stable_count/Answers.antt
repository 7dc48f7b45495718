-- One word was stored.
use Rattle.table.specs.Field.{StableCount}
use Rattle.table.proofs.Words.{stored}
use Rattle.std.proofs.Common.{arith}
use Rattle.table.proofs.set_stable_count.Goals as goal

pub returns : goal.returns
returns c = stored c.args.t.now (StableCount c.args.c) c.args.x c.told-t (c.requires, omega arith)
