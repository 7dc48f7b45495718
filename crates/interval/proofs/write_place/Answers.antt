-- The lent part comes back as the record, and the other words are as they were (lent_interval).
use Rattle.interval.specs.LentPlaces.{lent_interval}
use Rattle.std.proofs.Common.{refl}
use Rattle.interval.proofs.write_place.Goals as goal

pub returns : goal.returns
returns c =
    let w = c.requires in
    lent_interval _ _ _ _ _ _ _ _ _ _ _ c.told-t w.0 w.1 c.write_interval.ensures c.place_at-from.ensures refl
