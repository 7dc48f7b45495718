-- Four words are stored one by one, and the part after them comes back as the flat vector (headed).
use Rattle.std.proofs.Common.{refl, [], ◌∷◌}
use Rattle.rules.specs.Vector.{flat}
use Rattle.rules.specs.Shared.{place_record}
use Rattle.base.specs.Splice.{headed}
use Rattle.interval.proofs.write_interval.Goals as goal

pub returns : goal.returns
unfolding place_record
returns c =
    let it = c.args.it.now in
    rw c.write_vector.ensures (headed (it.incarnation ∷ it.number ∷ it.cause ∷ it.flag ∷ []) c.args.d.now (flat _) 4 16 refl c.requires)
