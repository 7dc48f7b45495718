-- The lent row comes back as what the holder is told (writes_told).
use Rattle.controller.specs.Writes.{writes_told}
use Rattle.controller.proofs.store_row.Goals as goal

pub returns : goal.returns
returns c = search writes_told
