-- The words after the head of a place are its vector (place_vector_lem).
use Rattle.vector.specs.At.{place_vector_lem}
use Rattle.std.proofs.Common.{◌∙◌}
use Rattle.vector.proofs.place_vector.Goals as goal

pub returns : goal.returns
returns c = c.vector_at.ensures ∙ place_vector_lem _ _ _ _ c.place_vector_at.ensures
