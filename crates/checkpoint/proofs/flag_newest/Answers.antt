-- After the logging one word is put (writes_flag).
use Rattle.checkpoint.specs.Writes.{writes_flag}
use Rattle.checkpoint.proofs.flag_newest.Goals as goal

pub returns : goal.returns
returns c = search writes_flag
