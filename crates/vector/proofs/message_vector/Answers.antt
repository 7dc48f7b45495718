-- The words after the head of a message are its vector (message_vector_lem).
use Rattle.vector.specs.At.{message_vector_lem}
use Rattle.std.proofs.Common.{◌∙◌}
use Rattle.vector.proofs.message_vector.Goals as goal

pub returns : goal.returns
returns c = c.vector_at.ensures ∙ message_vector_lem _ _ _ c.message_vector_at.ensures
