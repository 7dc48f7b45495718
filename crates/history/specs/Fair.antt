-- W7: what a call of the dispatcher does, and that it starves nobody, in any run, whatever its table. Which messages would be delivered or dropped is
-- said by what D would answer, and not by the dispatcher's own search.
use Rattle.std.specs.Prelude.{◌≡◌, true, List, [], ◌∷◌, ◌++◌, ℕ, suc, ◌+◌, ◌%◌, ◌≤◌, ◌<◌, length, set}
use Rattle.table.specs.Field.{Size, Served, MessageState, Receiver}
use Rattle.table.specs.Layout.{messages, table_words, position}
use Rattle.table.specs.Words.{state}
use Rattle.table.specs.Numbering.{used, record_of}
use Rattle.rules.specs.Limits.{house}
use Rattle.rules.specs.Refusal.{PLACES_USED_UP}
use Rattle.rules.specs.Form.{state_released, in_form}
use Rattle.rules.specs.Step.{out_both, Call, asks, release_set, dispatch}
use Rattle.rules.specs.declared.Answer.{Answer}
use Rattle.rules.specs.declared.Answer.TheVariants.{Delivered, Dropped, Waits, Refused, Idle}
use Rattle.rules.specs.declared.Command.TheVariants.{Deliver}
use Rattle.history.specs.Demand.{Run, call_in, step_in, runs, NoOpening}

-- how many controllers the house of a run has, and the controller that its message m is for
abbrev pub size_in : Run → ℕ
size_in r = state r.table Size

abbrev pub receiver_in : Run → ℕ → ℕ
receiver_in r m = let σ = state r.table in σ (Receiver (record_of σ m))

-- an answer that delivers or drops message m
pub data DeliveredOrDropped (m : ℕ) : Answer → Type 0 where
  delivered : (i x : ℕ) → DeliveredOrDropped m (Delivered m i x)
  dropped : (crashed i : ℕ) → DeliveredOrDropped m (Dropped m crashed i)

-- controller c "has a released message for it which would be delivered or dropped"
pub record Has (r : Run) (c : ℕ) : Type 0 where
  pub message : ℕ
  pub for : receiver_in r message ≡ c
  pub would : DeliveredOrDropped message (step_in r (Deliver message)).answer

-- a call of the dispatcher in run r serves c
pub record Serves (r : Run) (c : ℕ) : Type 0 where
  pub message : ℕ
  pub for : receiver_in r message ≡ c
  pub does : DeliveredOrDropped message (call_in r dispatch).answer

-- ONE CALL
-- "Each call goes round from the controller that is word 12 plus 1, less n as often as needed": the i-th controller of that round
abbrev pub turn_in : Run → ℕ → ℕ
turn_in r i = (state r.table Served + 1 + i) % size_in r

-- a call that serves c
pub record InTurn (r : Run) (c : ℕ) (s : Serves r c) : Type 0 where
  -- "takes the first that has" such a message: nobody has one whose turn is before;
  pub place : ℕ
  pub short : place < size_in r
  pub whose : turn_in r place ≡ c
  pub first : (i : ℕ) → i < place → Has r (turn_in r i) → ⊥
  -- "Of these it takes the lowest number
  pub lowest : (other : Has r c) → s.message ≤ other.message
  -- and performs that delivery", as D does. "It keeps the controller last served .. in word 12", and no other word is another.
  pub performs : call_in r dispatch ≡ (let o = step_in r (Deliver s.message) in out_both o.answer (set o.table (position Served) c) o.ledger)

abbrev pub ServesInTurn : Type 0
ServesInTurn = (r : Run) (c : ℕ) (s : Serves r c) → InTurn r c s

-- "If no controller has one, it says idle and changes no word." A table of another length, or not in form, is refused.
abbrev pub IdleIfNobodyHas : Type 0
IdleIfNobodyHas = (r : Run) → length r.table ≡ table_words → in_form house (state r.table) ≡ true → ((c : ℕ) → Has r c → ⊥) →
    call_in r dispatch ≡ out_both Idle r.table r.ledger

-- LISTS OF CALLS
-- how many calls of the dispatcher a list has
unfoldable pub dispatches : List Call → ℕ
dispatches [] = 0
dispatches (asks x ∷ l) = dispatches l
dispatches (release_set messages ∷ l) = dispatches l
dispatches (dispatch ∷ l) = suc (dispatches l)

-- one of those in the list l, from run r on, serves c
pub record ServedIn (r : Run) (l : List Call) (c : ℕ) : Type 0 where
  pub before : List Call
  pub after : List Call
  pub here : l ≡ before ++ dispatch ∷ after
  pub serves : Serves (runs r before) c

-- A controller that has such a message at each of so many calls running, by the number of controllers, is served in one of them. "Other steps but
-- openings may come between the calls": crashes too, sets, and openings that are refused.
abbrev pub FairIn : (ℕ → ℕ) → Type 0
FairIn calls = (r : Run) (l : List Call) (c : ℕ) → NoOpening r l → c < size_in r → calls (size_in r) ≤ dispatches l →
    ((before after : List Call) → l ≡ before ++ dispatch ∷ after → Has (runs r before) c) → ServedIn r l c

-- "A controller that has such a message at each of n calls running is served in one of them."
abbrev pub Fair : Type 0
Fair = FairIn (λ n. n)

-- BEYOND THE REQUEST
-- A dispatcher that says idle leaves nothing that could be delivered. Each message that is released waits, or its receiver has no place left.
pub data PassedOver (m : ℕ) : Answer → Type 0 where
  waits : PassedOver m (Waits m)
  no_place_lem : PassedOver m (Refused PLACES_USED_UP)

-- message m is there and released
pub record IsReleased (r : Run) (m : ℕ) : Type 0 where
  pub there : record_of (state r.table) m < used (state r.table)
  pub released : state r.table (MessageState (record_of (state r.table) m)) ≡ state_released

abbrev pub IdleLeavesNothing : Type 0
IdleLeavesNothing = (r : Run) → (call_in r dispatch).answer ≡ Idle → (m : ℕ) → IsReleased r m → PassedOver m (step_in r (Deliver m)).answer
