-- There is room, so that the number fits (room_fits). The answer's numbers are read before the words change, and these
-- are those of the rule (crash_done).
use Rattle.std.proofs.Common.{arith}
use Rattle.laws.specs.Numbers.{room_fits}
use Rattle.crash.specs.Crashing.{crash_done}
use Rattle.crash.proofs.crash_controller.Goals as goal

pub number_of-x-requires : goal.number_of-x-requires
number_of-x-requires c = let s = c.requires in (s.starts.chain.named, room_fits s.starts.room _ (omega (arith, c.stable_count-k.ensures)))

pub returns : goal.returns
returns c = search crash_done
