-- The lent part comes back as zeros, and the other words are as they were (lent_cleared).
use Rattle.interval.specs.LentPlaces.{lent_cleared}
use Rattle.std.proofs.Common.{length-take, length-drop, arith}
use Rattle.interval.proofs.clear_places.Goals as goal

pub returns : goal.returns
returns c =
    let w = c.requires in
    lent_cleared _ _ _ _ _ _ _ _ c.told-t w.0 w.1 w.2 c.clear.ensures (simp (length-take, length-drop) (omega arith)) c.place_at-from.ensures c.place_at-to.ensures
