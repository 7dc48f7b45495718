-- Places are freed, and then place k is written (places).
use Rattle.restart.specs.Anew.{places}
use Rattle.restart.proofs.write_start.Goals as goal

pub returns : goal.returns
returns c = search places
