-- Each branch returns the state that the definition names there; the vector read is that of the record.
use Rattle.std.proofs.Common.{sym, subst}
use Rattle.laws.specs.Facts.{Near}
use Rattle.removal.specs.Settling.{gets_dropped, gets_released}
use Rattle.removal.proofs.fate_of.Goals as goal

pub condemned_vector-requires : goal.condemned_vector-requires
condemned_vector-requires c = let s = c.requires in (s.0.named, subst Near (sym c.message_vector-v.ensures) (s.0.message_near _ s.1))

pub returns-then-condemned_vector : goal.returns-then-condemned_vector
returns-then-condemned_vector c = search gets_dropped

pub returns-else-condemned_vector : goal.returns-else-condemned_vector
returns-else-condemned_vector c = search gets_released
