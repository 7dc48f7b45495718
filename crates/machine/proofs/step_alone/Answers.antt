-- What is done beside the empty ledger is done beside any other (beside_any).
use Rattle.laws.specs.Beside.{beside_any}
use Rattle.machine.proofs.step_alone.Goals as goal

pub returns : goal.returns
returns c = λ g. beside_any _ _ _ g _ _ _ c.requires c.step.ensures
