-- Six words are stored one by one, and the part after them comes back as the flat vector (headed).
use Rattle.table.specs.Field.{message_head}
use Rattle.table.specs.Layout.{vector_words}
use Rattle.rules.specs.Vector.{flat}
use Rattle.rules.specs.Steps.{message_record}
use Rattle.base.specs.Splice.{headed}
use Rattle.std.proofs.Common.{refl, [], ◌∷◌}
use Rattle.message.proofs.write_message.Goals as goal

pub returns : goal.returns
unfolding message_record
returns c =
    let it = c.args.it.now in
    rw c.write_vector.ensures
    (headed (c.args.state ∷ it.sender ∷ it.receiver ∷ it.incarnation ∷ it.number ∷ it.payload ∷ []) c.args.d.now (flat _) message_head vector_words refl c.requires)
