-- The kept intervals are logged, and the others are removed on a table with that (undone_words).
use Rattle.hearing.specs.Rolling.{undone_starts, undone_words}
use Rattle.hearing.proofs.roll_back.Goals as goal

pub remove_intervals-requires : goal.remove_intervals-requires
remove_intervals-requires c = search undone_starts

pub returns : goal.returns
returns c = search undone_words
