-- The pair stands in the place's vector (place_vector_lem), which begins after the head of the place.
use Rattle.vector.specs.At.{pair_at_lem, place_vector_lem}
use Rattle.rules.specs.Vector.{pair_of}
use Rattle.std.proofs.Common.{sym, ap, ◌∙◌}
use Rattle.vector.proofs.place_pair.Goals as goal

pub returns : goal.returns
returns c = c.pair_at.ensures ∙ sym (pair_at_lem _ _ _ c.requires.2) ∙ ap (λ v. pair_of v c.args.owner) (place_vector_lem c.args.t.now _ _ _ c.place_vector_at.ensures)
