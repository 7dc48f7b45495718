-- As sizes the word of c and k have room, and they make the number (number_tested).
use Rattle.table.proofs.Numbering.{number_tested}
use Rattle.table.proofs.is_number_of.Goals as goal

pub returns : goal.returns
returns c = search number_tested
