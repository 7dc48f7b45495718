-- What brings a held message out, and a released one in, wherever these steps stand in a list: an operator asks the controllers that the mask
-- names (`Asked`: C c, and then T c b). Told by the steps of the list, their answers and the history alone; whatever else stands before,
-- between and after them is free: sends, deliveries, crashes, hearings, refused steps. Progress.antt has the words for messages and crashes.
use Rattle.std.specs.Prelude.{◌≡◌, Bool, true, false, cond, ◌&&◌, List, ◌∷◌, ◌++◌, ◌⊎◌, ◌↔◌, ℕ, ◌+◌, ◌<◌, ◌≤◌, length, ◌==◌}
use Rattle.base.specs.Choice.{◌≤?◌}
use Rattle.table.specs.Field.{desk}
use Rattle.rules.specs.Limits.{house, last_entry}
use Rattle.rules.specs.Refusal.{STATE, PLACES_USED_UP, LEDGER_USED_UP}
use Rattle.rules.specs.Step.{Call, asks}
use Rattle.rules.specs.declared.Answer.{Answer}
use Rattle.rules.specs.declared.Answer.TheVariants.{Done, Released, Held, Delivered, Crashed, Rolled, Refused}
use Rattle.rules.specs.declared.Command.{Command}
use Rattle.rules.specs.declared.Command.TheVariants.{Release, Deliver, Checkpoint, Tell, Crash, Hear}
use Rattle.history.specs.History.{Interval, History, newest}
use Rattle.history.specs.Demand.{Run, call_in, step_in, named, up_to, end}
use Rattle.history.specs.Progress.{Orphan, Drops, SendingLive, HeldIn, LetOutIn, NotLetOut, HasHeard}

-- A step with this answer secures controller c, so that all its live intervals are stable then: C c that is done; or a crash of c, or a hearing
-- at which c undoes intervals.
pub data Secures (c : ℕ) : Command → Answer → Type 0 where
  checkpoints : Secures c (Checkpoint c) Done
  crashes : (echoed i kept lost replayed : ℕ) → Secures c (Crash c) (Crashed echoed i kept lost replayed)
  undoes : (crashed i echoed kept undone replayed owner ended : ℕ) → Secures c (Hear c crashed i) (Rolled echoed kept undone replayed owner ended)

-- an answer to a release that shows a mask
pub data Names : ℕ → Answer → Type 0 where
  names_held : (echoed mask : ℕ) → Names mask (Held echoed mask)
  names_out : (echoed mask : ℕ) → Names mask (Released echoed mask)

-- a checkpoint, or a telling
pub data Spreads : Call → Type 0 where
  by_checkpoint : (c : ℕ) → Spreads (asks (Checkpoint c))
  by_telling : (teller told : ℕ) → Spreads (asks (Tell teller told))

-- lists from the opening of t, beside the ledger g, with n and k
module _ (t g : List ℕ) (n k : ℕ) (l : List Call) where
  -- the run at the end of the list, and its history
  abbrev last : Run
  last = up_to t g n k l

  abbrev h : History
  h = end t g n k l

  -- WHAT IS ASKED
  -- a step of the list that secures c, when the sending interval of m had begun (as it has once m is sent)
  pub record SecuredIn (m c : ℕ) : Type 0 where
    pub before : List Call
    pub step : Command
    pub after : List Call
    pub is_in : l ≡ before ++ asks step ∷ after
    pub secures : Secures c step (step_in (up_to t g n k before) step).answer
    pub began : (up_to t g n k before).history.begun (h.sending m) ≡ true

  -- after that, c tells b, which is done
  pub record TellAfter (m b c : ℕ) (point : SecuredIn m c) : Type 0 where
    pub between : List Call
    pub after : List Call
    pub is_in : point.after ≡ between ++ asks (Tell c b) ∷ after
    pub answer : (step_in (up_to t g n k (point.before ++ asks point.step ∷ between)) (Tell c b)).answer ≡ Done

  -- what an operator does about controller c: c checkpoints, and tells b after that, where it is not b
  pub record Asked (m b c : ℕ) : Type 0 where
    pub point : SecuredIn m c
    pub tell : (c ≡ b) ⊎ TellAfter m b c point

  -- each controller that a mask names was asked for b
  abbrev pub AllAsked : ℕ → ℕ → ℕ → Type 0
  AllAsked m mask b = (c : ℕ) → c < n → named mask c ≡ true → Asked m b c

  -- Controller b has word of interval z, that it is stable or lost: z is its own and stable; or the controller of z told it, when z was stable; or
  -- b has heard the crash that ended the incarnation of z.
  pub data Learned (b : ℕ) (z : Interval) : Type 0 where
    its_own : z.owner ≡ b → h.stable z ≡ true → Learned b z
    was_told : (before after : List Call) → l ≡ before ++ asks (Tell z.owner b) ∷ after → (step_in (up_to t g n k before) (Tell z.owner b)).answer ≡ Done →
        (up_to t g n k before).history.stable z ≡ true → Learned b z
    has_heard : h.heard b z.owner z.incarnation ≡ true → Learned b z

  -- Controller c is cleared of message m for b, its sender or its receiver: b need not wait for c any more.
  pub data Cleared (m b c : ℕ) : Type 0 where
    -- a release of m was held and didn't name c (b is the sender),
    held_without : (mask : ℕ) → HeldIn t g n k l m mask → named mask c ≡ false → b ≡ (h.sending m).owner → Cleared m b c
    -- or let m out and didn't name c;
    out_without : (mask : ℕ) → LetOutIn t g n k l m mask → named mask c ≡ false → Cleared m b c
    -- c was asked;
    was_asked : Asked m b c → Cleared m b c
    -- or, weakest of all, b has word of each interval of c that the sending interval rests on.
    each_learned : ((z : Interval) → z.owner ≡ c → h.rests (h.sending m) z ≡ true → Learned b z) → Cleared m b c

  -- every controller is
  abbrev pub AllCleared : ℕ → ℕ → Type 0
  AllCleared m b = (c : ℕ) → c < n → Cleared m b c

  -- why a mask names c: the sending interval of m rests on an interval of c of which b has no word
  pub record Unlearned (m b c : ℕ) : Type 0 where
    pub on : Interval
    pub owner_is : on.owner ≡ c
    pub rests : h.rests (h.sending m) on ≡ true
    pub no_word : Learned b on → ⊥

  -- WHAT COMES OF IT
  -- The release of m at the end of the list answers `released m 0`, so for the desk it is published (or 18, where the ledger is full). What a
  -- release lets out for the desk is published by definition (Citations.antt).
  abbrev pub GoesOut : ℕ → Type 0
  GoesOut m =
      (step_in last (Release m)).answer
      ≡ cond ((h.receiver m == desk) && (last_entry ≤? length last.citations.published)) (Refused LEDGER_USED_UP) (Released m 0)

  -- it lets m out, and names only controllers that pass a test
  pub record GoesOutWithin (m : ℕ) (left : ℕ → Bool) : Type 0 where
    pub mask : ℕ
    pub answer : (step_in last (Release m)).answer ≡ Released m mask
    pub within : (c : ℕ) → named mask c ≡ true → left c ≡ true

  -- its state is not that of a held one
  abbrev pub NotHeld : ℕ → Type 0
  NotHeld m = (step_in last (Release m)).answer ≡ Refused STATE

  -- The delivery of m at the end of the list begins the next interval of its receiver, or is refused with 12, and that only where the receiver's
  -- numbers have come to that of the last place.
  abbrev pub Begins : ℕ → Type 0
  Begins m =
      let c = h.receiver m in
      let a = (step_in last (Deliver m)).answer in
      (a ≡ Delivered m (h.incarnation c) ((newest (h.chain c)).number + 1)) ⊎ ((a ≡ Refused PLACES_USED_UP) × (house.places ≤ (newest (h.chain c)).number))

  -- it answers `dropped` exactly where its sending interval rests on a lost one, and otherwise doesn't wait
  pub record Arrives (m : ℕ) : Type 0 where
    pub dropped : Drops m (step_in last (Deliver m)).answer ↔ Orphan h (h.sending m)
    pub otherwise : (Orphan h (h.sending m) → ⊥) → Begins m

  -- "Eventually": from where one stands, after some more checkpoints and tellings, each of which is done.
  pub record Eventually (P : List Call → Type 0) : Type 0 where
    pub more : List Call
    pub each : (before : List Call) (x : Call) (after : List Call) → more ≡ before ++ x ∷ after → Spreads x × ((call_in (up_to t g n k (l ++ before)) x).answer ≡ Done)
    pub then : P (l ++ more)

  -- What has become of a message, by the end of the list: "either lost in a failure, or discarded as an orphan, or eventually sent."
  pub data Fate (m : ℕ) : Type 0 where
    -- a release in the list let it out;
    was_let_out : (mask : ℕ) → LetOutIn t g n k l m mask → Fate m
    -- or none did, and its sending interval is live no more: it is held no more;
    is_discarded : NotLetOut t g n k l m → (SendingLive t g n k l m → ⊥) → NotHeld m → Fate m
    -- or none did, and it is: it goes out once its sender has heard every crash and the controllers are cleared.
    still_held : NotLetOut t g n k l m → SendingLive t g n k l m → (HasHeard t g n k l (h.sending m).owner → AllCleared m (h.sending m).owner → GoesOut m) → Fate m
