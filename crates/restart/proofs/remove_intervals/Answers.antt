-- The start is made on the table where the causes have their states (removes).
use Rattle.restart.specs.Anew.{settled_starts, removes}
use Rattle.restart.proofs.remove_intervals.Goals as goal

pub start_anew-requires : goal.start_anew-requires
start_anew-requires c = search settled_starts

pub returns : goal.returns
returns c = search removes
