-- The two cases are those of the definition (goes_by_desk, goes_by_degree).
use Rattle.release.specs.Releases.{goes_by_desk, goes_by_degree}
use Rattle.release.proofs.may_go.Goals as goal

pub returns-then-receiver-eq-DESK : goal.returns-then-receiver-eq-DESK
returns-then-receiver-eq-DESK c = goes_by_desk _ _ _ _ c.receiver-receiver.ensures c.if-receiver-eq-DESK.true

pub returns : goal.returns
returns c = search goes_by_degree
