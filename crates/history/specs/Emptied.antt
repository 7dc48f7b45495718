-- Beyond W7: what many calls of the dispatcher leave, in any table in form, and where all have heard every crash, written and told.
use Rattle.std.specs.Prelude.{◌≡◌, true, cond, List, [], ◌∷◌, ◌++◌, ◌≢◌, ℕ, zero, suc, ◌<◌, length, replicate, ◌==◌}
use Rattle.table.specs.Layout.{messages, table_words}
use Rattle.table.specs.Words.{state}
use Rattle.rules.specs.Limits.{house}
use Rattle.rules.specs.Refusal.{PLACES_USED_UP}
use Rattle.rules.specs.Form.{in_form}
use Rattle.rules.specs.Step.{Call, asks, dispatch}
use Rattle.rules.specs.declared.Answer.TheVariants.{Refused}
use Rattle.rules.specs.declared.Command.TheVariants.{Deliver, Checkpoint, Tell}
use Rattle.history.specs.Demand.{Run, step_in, runs, FromOpening, up_to}
use Rattle.history.specs.Progress.{HasHeard}
use Rattle.history.specs.Asked.{Spreads}
use Rattle.history.specs.Fair.{PassedOver, IsReleased}

-- As many calls of the dispatcher as there are message records, one after the other,
abbrev pub drained : Run → Run
drained r = runs r (replicate messages dispatch)

-- leave nothing that could be delivered.
abbrev pub Drains : Type 0
Drains = (r : Run) → length r.table ≡ table_words → in_form house (state r.table) ≡ true → (m : ℕ) → IsReleased (drained r) m →
    PassedOver m (step_in (drained r) (Deliver m)).answer

-- WHERE ALL HAVE HEARD, WRITTEN AND TOLD
-- C c stands in a list, and T c b after it
pub record CheckpointThenTell (l : List Call) (c b : ℕ) : Type 0 where
  pub before : List Call
  pub between : List Call
  pub after : List Call
  pub is_in : l ≡ before ++ asks (Checkpoint c) ∷ (between ++ asks (Tell c b) ∷ after)

-- C by all and T by all to all, in a house of n controllers: a list of these two steps alone, in which each controller tells each other after a
-- checkpoint of its own, in whatever order;
pub record AllTellAll (n : ℕ) (l : List Call) : Type 0 where
  pub alone : (before : List Call) (x : Call) (after : List Call) → l ≡ before ++ x ∷ after → Spreads x
  pub each : (c b : ℕ) → c < n → b < n → c ≢ b → CheckpointThenTell l c b

-- such as this one: C by each, the highest first,
unfoldable pub all_checkpoint : ℕ → List Call
all_checkpoint zero = []
all_checkpoint (suc c) = asks (Checkpoint c) ∷ all_checkpoint c

-- T to b by each but b,
unfoldable pub all_tell : ℕ → ℕ → List Call
all_tell zero b = []
all_tell (suc c) b = cond (c == b) (all_tell c b) (asks (Tell c b) ∷ all_tell c b)

-- and that for each b
unfoldable pub all_tell_up_to : ℕ → ℕ → List Call
all_tell_up_to n zero = []
all_tell_up_to n (suc b) = all_tell n b ++ all_tell_up_to n b

abbrev pub checkpoints_and_tellings : ℕ → List Call
checkpoints_and_tellings n = all_checkpoint n ++ all_tell_up_to n n

-- Where every controller has heard every crash in a list, these steps after it, and then as many calls of the dispatcher as there are message records,
-- leave no released message but those that would be refused with 12: none waits.
abbrev pub EmptiesHouse : Type 0
EmptiesHouse = (t g : List ℕ) (n k : ℕ) (l more : List Call) → FromOpening t g n k l → ((b : ℕ) → b < n → HasHeard t g n k l b) → AllTellAll n more →
    let r = drained (up_to t g n k (l ++ more)) in
    (m : ℕ) → IsReleased r m → (step_in r (Deliver m)).answer ≡ Refused PLACES_USED_UP
