-- What would come of it is asked, and comes of it (delivered).
use Rattle.delivery.specs.Delivers.{delivered}
use Rattle.delivery.proofs.deliver_record.Goals as goal

pub returns : goal.returns
returns c = search delivered
