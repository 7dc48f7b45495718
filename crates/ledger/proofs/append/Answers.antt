-- The entry behind the others, then the count (writes_entry).
use Rattle.ledger.specs.Appending.{writes_entry}
use Rattle.ledger.proofs.append.Goals as goal

pub returns : goal.returns
returns c = search writes_entry
