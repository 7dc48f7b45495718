-- The word that each state of a message has.
use Rattle.std.specs.Prelude.{ℕ}
use Rattle.table.specs.declared.status.Status.{Status}
use Rattle.table.specs.declared.status.Status.TheVariants.{Held, Released, Delivered, Dropped, Published}

abbrev pub word : Status → ℕ
word Held = 1
word Released = 2
word Delivered = 3
word Dropped = 5
word Published = 6
