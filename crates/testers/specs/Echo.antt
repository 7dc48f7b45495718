-- A delivery that echoes: it begins the interval with the receiver's own vector, whatever the message brings.
use Rattle.std.specs.Prelude.{ℕ}
use Rattle.table.specs.Field.{State, Receiver}
use Rattle.table.specs.Numbering.{record_of}
use Rattle.rules.specs.Vector.{place_vector, filtered}
use Rattle.rules.specs.Shared.{newest_place}
use Rattle.rules.specs.Steps.{After, interval_begins}

abbrev pub echoed : State → ℕ → After
echoed σ m =
    let r = record_of σ m in
    let c = σ (Receiver r) in
    interval_begins σ c m r (filtered σ c (place_vector σ c (newest_place σ c)))
