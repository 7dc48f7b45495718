-- The ledger's case is the first; the others are those of the message.
use Rattle.base.specs.Cases.{hit, skip}
use Rattle.std.proofs.Common.{ap, not}
use Rattle.release.proofs.check_release.Goals as goal

pub returns-then-not-is_sound : goal.returns-then-not-is_sound
returns-then-not-is_sound c = hit _ _ _ (rw (← c.is_sound.ensures, (ap not c.if-not-is_sound.true)))

pub returns : goal.returns
returns c = skip _ _ _ _ (rw (← c.is_sound.ensures, (ap not c.if-not-is_sound.false))) c.check_message.ensures
