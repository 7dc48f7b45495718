-- Nothing is held for ever. The paper, Theorem A.2: "Each message in Send_buffer is either lost in a failure, or discarded as an orphan, or
-- eventually sent." In steps, without a word of time. This page has what the theorems speak of at the end of any list of calls: a message
-- that was sent, one that was let out or held, one that can be delivered, crashes, and who has heard them. Asked.antt has what brings a
-- held message out and a released one in. All is told by the steps of the list, their answers and the history.
--
-- What can stand against it: a crash that the controller can't hear any more, since it would have to undo and is in the last
-- incarnation (refusal 13). Every other crash in the list it can hear at its end (`CanHear`).
use Rattle.std.specs.Prelude.{◌≡◌, true, false, List, ◌∷◌, ◌++◌, ◌≢◌, ◌⊎◌, ℕ, ◌≤◌, ◌<◌, length}
use Rattle.rules.specs.Limits.{last_incarnation}
use Rattle.rules.specs.Refusal.{MESSAGE, STATE, INCARNATIONS_USED_UP}
use Rattle.rules.specs.Sets.{nth}
use Rattle.rules.specs.Step.{Call, asks, release_set}
use Rattle.rules.specs.declared.Answer.{Answer}
use Rattle.rules.specs.declared.Answer.TheVariants.{Sent, Held, Dropped, Crashed, Refused, SetHeld}
use Rattle.rules.specs.declared.Command.TheVariants.{Send, Release, Deliver, Crash, Hear}
use Rattle.history.specs.History.{Interval, History, member}
use Rattle.history.specs.Demand.{Run, call_in, step_in, Accepted, LetsGo, up_to, end}

-- the paper, Definition 1: "orphan(s) ≡ ∃u: lost(u) ∧ u → s": y rests on a lost interval (a lost one rests on itself)
pub record Orphan (h : History) (y : Interval) : Type 0 where
  pub on : Interval
  pub crash : ℕ
  pub rests : h.rests y on ≡ true
  pub lost : h.lost on crash ≡ true

-- A call with this answer holds message m back, and shows this mask: a release, or a set that m is one of. (What lets it out is `LetsGo`,
-- in Demand.antt.)
pub data HoldsBack : Call → Answer → ℕ → ℕ → Type 0 where
  held_alone : (m echoed mask : ℕ) → HoldsBack (asks (Release m)) (Held echoed mask) m mask
  held_together : (messages : List ℕ) (i mask : ℕ) → i < length messages → HoldsBack (release_set messages) (SetHeld mask) (nth messages i) mask

-- the answer `dropped`, whatever crash it names (Blame.antt says which)
pub data Drops (m : ℕ) : Answer → Type 0 where
  drops : (crashed i : ℕ) → Drops m (Dropped m crashed i)

-- lists from the opening of t, beside the ledger g, with n and k
module _ (t g : List ℕ) (n k : ℕ) (l : List Call) where
  -- the run at the end of the list, and its history
  abbrev last : Run
  last = up_to t g n k l

  abbrev h : History
  h = end t g n k l

  -- MESSAGES
  -- message m was sent in the list
  pub record SentIn (m : ℕ) : Type 0 where
    pub before : List Call
    pub after : List Call
    pub sender : ℕ
    pub receiver : ℕ
    pub payload : ℕ
    pub is_in : l ≡ before ++ asks (Send sender receiver payload) ∷ after
    pub answer : (step_in (up_to t g n k before) (Send sender receiver payload)).answer ≡ Sent m

  -- its sending interval is live at the end
  abbrev pub SendingLive : ℕ → Type 0
  SendingLive m = let y = h.sending m in member y (h.chain y.owner) ≡ true

  -- a release of m in the list, or a set with m, was held, and showed this mask
  pub record HeldIn (m mask : ℕ) : Type 0 where
    pub before : List Call
    pub call : Call
    pub after : List Call
    pub is_in : l ≡ before ++ call ∷ after
    pub holds_back : HoldsBack call (call_in (up_to t g n k before) call).answer m mask

  -- a release of m in the list, or a set with m, let it out, and showed this mask
  pub record LetOutIn (m mask : ℕ) : Type 0 where
    pub before : List Call
    pub call : Call
    pub after : List Call
    pub is_in : l ≡ before ++ call ∷ after
    pub lets_go : LetsGo call (call_in (up_to t g n k before) call).answer m mask

  -- none in the list let m out
  abbrev pub NotLetOut : ℕ → Type 0
  NotLetOut m = (mask : ℕ) → LetOutIn m mask → ⊥

  -- m can be delivered at the end: its delivery would not be refused with 4 or 7
  pub record Deliverable (m : ℕ) : Type 0 where
    pub is_there : (step_in last (Deliver m)).answer ≢ Refused MESSAGE
    pub is_released_lem : (step_in last (Deliver m)).answer ≢ Refused STATE

  -- CRASHES
  -- a crash in the list, which ended incarnation i of controller c
  pub record CrashIn (c i : ℕ) : Type 0 where
    pub before : List Call
    pub after : List Call
    pub echoed : ℕ
    pub kept : ℕ
    pub lost : ℕ
    pub replayed : ℕ
    pub is_in : l ≡ before ++ asks (Crash c) ∷ after
    pub answer : (step_in (up_to t g n k before) (Crash c)).answer ≡ Crashed echoed i kept lost replayed

  -- b has heard every crash in the list
  abbrev pub HasHeard : ℕ → Type 0
  HasHeard b = (c i : ℕ) → CrashIn c i → h.heard b c i ≡ true

  -- what stands against that: each crash in the list that b hasn't heard it can hear now, unless it must undo in the last incarnation
  abbrev pub CanHear : ℕ → Type 0
  CanHear b = (c i : ℕ) → CrashIn c i → h.heard b c i ≡ false →
      let a = (step_in last (Hear b c i)).answer in
      Accepted a ⊎ ((a ≡ Refused INCARNATIONS_USED_UP) × (last_incarnation ≤ h.incarnation b))
