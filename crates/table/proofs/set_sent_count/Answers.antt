-- One word was stored.
use Rattle.table.specs.Field.{SentCount}
use Rattle.table.proofs.Words.{stored}
use Rattle.std.proofs.Common.{arith}
use Rattle.table.proofs.set_sent_count.Goals as goal

pub returns : goal.returns
returns c = stored c.args.t.now SentCount c.args.x c.told-t (omega arith)
