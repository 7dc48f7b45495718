-- In no record in use, or one in use and not for the desk (causes_none, causes_some).
use Rattle.removal.specs.Settling.{causes_none, causes_some}
use Rattle.removal.proofs.causing.Goals as goal

pub returns-then-records_used-r : goal.returns-then-records_used-r
returns-then-records_used-r c = causes_none _ _ _ c.records_used.ensures c.if-records_used-r.true

pub returns : goal.returns
returns c = causes_some _ _ _ c.records_used.ensures _ c.if-records_used-r.false c.receiver.ensures
