-- What a tester looks for by name in the dispatcher (W7). Which messages would be delivered or dropped is said by what D would answer.
use Rattle.std.specs.Prelude.{◌-◌}
use Rattle.history.specs.Fair.{ServesInTurn, IdleIfNobodyHas, FairIn, Fair, IdleLeavesNothing}
use Rattle.history.specs.Emptied.{Drains}
use Rattle.fairness.specs.Fair.{fair, idle_leaves_nothing}
use Rattle.fairness.specs.InTurn.{serves_in_turn, idle_if_nobody_has}
use Rattle.fairness.proofs.Example.{n_calls_needed}
use Rattle.fairness.proofs.Drained.{drains}

-- 1. "Each call goes round from the controller that is word 12 plus 1, less n as often as needed, and takes the first that has a released message for
-- it which would be delivered or dropped. Of these it takes the lowest number and performs that delivery", as D does; word 12 is the controller that
-- was served, and no other word is another. On every table.
pub serves_the_first_in_turn : ServesInTurn
serves_the_first_in_turn = serves_in_turn

-- 2. "If no controller has one, it says idle and changes no word."
pub says_idle_if_nobody_has_one : IdleIfNobodyHas
says_idle_if_nobody_has_one = idle_if_nobody_has

-- 3. "A controller that has such a message at each of n calls running is served in one of them. Other steps but openings may come between the calls."
-- From every table, whatever its word 12 has, and among whatever other calls.
pub starves_nobody : Fair
starves_nobody = fair

-- n calls are needed: there are a house and a controller that n - 1 calls don't serve (Example.antt in `fairness`, where n serve it)
pub n_calls_are_needed : FairIn (λ n. n - 1) → ⊥
n_calls_are_needed = n_calls_needed

-- 4. Beyond the request: after idle every message that is released waits, or would be refused with 12.
pub idle_leaves_nothing_deliverable : IdleLeavesNothing
idle_leaves_nothing_deliverable = idle_leaves_nothing

-- 128 calls leave that in every table in form. Where all have heard, written and told, none of these waits: `empties_house` in crate `paper`.
pub all_calls_leave_nothing_deliverable : Drains
all_calls_leave_nothing_deliverable = drains
