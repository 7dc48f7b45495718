-- The gap is off (gap_off), or it is compared with the replay figure (gap_on).
use Rattle.checkpoint.specs.Writes.{gap_off, gap_on}
use Rattle.checkpoint.proofs.forced.Goals as goal

pub returns-then-gap-eq0 : goal.returns-then-gap-eq0
returns-then-gap-eq0 c = search gap_off

pub returns : goal.returns
returns c = search gap_on
