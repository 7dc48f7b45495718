-- Two words are put, one after the other (takes_back).
use Rattle.hearing.specs.Hearing.{takes_back}
use Rattle.hearing.proofs.take_back.Goals as goal

pub returns : goal.returns
returns c = search takes_back
