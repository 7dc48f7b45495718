-- The end word is copied, and the known word is the larger one: stored (note_raised), or already there (note_enough).
use Rattle.hearing.specs.Hearing.{note_raised, note_enough}
use Rattle.hearing.proofs.note.Goals as goal

pub returns-then-known-end : goal.returns-then-known-end
returns-then-known-end c = search note_raised

pub returns-else-known-end : goal.returns-else-known-end
returns-else-known-end c = search note_enough
