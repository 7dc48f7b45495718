-- One word was stored.
use Rattle.table.specs.Field.{End}
use Rattle.table.proofs.Words.{stored}
use Rattle.table.proofs.set_end.Goals as goal

pub returns : goal.returns
returns c = stored c.args.t.now (End c.args.holder c.args.owner c.args.i) c.args.x c.told-t (c.requires.0, c.requires.1, c.requires.2)
