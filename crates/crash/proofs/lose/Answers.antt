-- There is room, so that the number fits (room_fits). The end word is that of the rule, and the intervals are removed
-- on a table with it (lost_words).
use Rattle.std.proofs.Common.{arith}
use Rattle.laws.specs.Numbers.{room_fits}
use Rattle.crash.specs.Crashing.{lost_starts, lost_words}
use Rattle.crash.proofs.lose.Goals as goal

pub number_of-x-requires : goal.number_of-x-requires
number_of-x-requires c = let s = c.requires in (s.chain.named, room_fits s.room _ (omega (arith, c.stable_count-k.ensures)))

pub remove_intervals-requires : goal.remove_intervals-requires
remove_intervals-requires c = lost_starts c.args.t.now _ _ _ _ _ c.requires c.stable_count-k.ensures c.set_end.ensures

pub returns : goal.returns
returns c = search lost_words
