-- One word was stored.
use Rattle.table.specs.Field.{MessageState}
use Rattle.table.proofs.Words.{stored}
use Rattle.std.proofs.Common.{arith}
use Rattle.table.proofs.set_message_state.Goals as goal

pub returns : goal.returns
returns c = stored c.args.t.now (MessageState c.args.r) c.args.x c.told-t (c.requires, omega arith)
