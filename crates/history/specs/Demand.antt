-- Demand 3 of the minutes with what requests W2 and W5 add to it, about lists of calls over the words of a lent table and a lent ledger.
use Rattle.std.specs.Prelude.{◌≡◌, Bool, true, false, List, [], ◌∷◌, ◌++◌, ◌↔◌, ◌≢◌, ℕ, ◌^◌, ◌/◌, ◌%◌, ◌≤◌, ◌<◌, length, ◌==◌}
use Rattle.std.specs.Int.Count.{ones}
use Rattle.table.specs.Field.{desk}
use Rattle.rules.specs.Sets.{nth}
use Rattle.rules.specs.Step.{OutBoth, step, Call, asks, release_set, step_call}
use Rattle.rules.specs.declared.Answer.{Answer}
use Rattle.rules.specs.declared.Answer.TheVariants.{Done, Released, Heard, Rolled, SetReleased}
use Rattle.rules.specs.declared.Command.{Command}
use Rattle.rules.specs.declared.Command.TheVariants.{Open, Release, Hear}
use Rattle.history.specs.History.{Interval, History, member, opening, fed}
use Rattle.history.specs.Citations.{Citations, no_citations, cited, ledger_of}

-- "each getting the table the last one left", and the ledger: both, and the history and the citations, fed with the steps and
-- their answers
pub record Run : Type 0 where
  pub table : List ℕ
  pub ledger : List ℕ
  pub history : History
  pub citations : Citations

-- what a call does in a run, and what one step does
abbrev pub call_in : Run → Call → OutBoth
call_in r x = step_call r.table r.ledger x

abbrev pub step_in : Run → Command → OutBoth
step_in r x = step r.table r.ledger x

unfoldable pub next : Call → Run → Run
next x r =
    let o = call_in r x in
    record { table = o.table; ledger = o.ledger; history = fed x o.answer r.history; citations = cited x o.answer r.citations }

unfoldable pub runs : Run → List Call → Run
runs r [] = r
runs r (x ∷ l) = runs (next x r) l

-- "in a house just opened": from the table and the ledger that the opening left, whatever stood in them before
unfoldable pub just_opened : List ℕ → List ℕ → ℕ → ℕ → Run
just_opened t g n k =
    let o = step t g (Open n k) in
    record { table = o.table; ledger = o.ledger; history = opening n k; citations = no_citations }

-- no opening in a list is done
abbrev pub NoOpening : Run → List Call → Type 0
NoOpening r l = (before after : List Call) (size degree : ℕ) → l ≡ before ++ asks (Open size degree) ∷ after → (step_in (runs r before) (Open size degree)).answer ≢ Done

-- a hearing is accepted
pub data Accepted : Answer → Type 0 where
  answers_heard : (hearer : ℕ) → Accepted (Heard hearer)
  answers_rolled : (hearer k undone replayed owner i : ℕ) → Accepted (Rolled hearer k undone replayed owner i)

-- y rests on one lost, as the history `whole` tells, in a crash that the hearer has heard by the history `then`; a crash is told
-- by its controller and the incarnation that it ended
pub record RestsOnLost (whole then : History) (hearer : ℕ) (y : Interval) : Type 0 where
  pub on : Interval
  pub crash : ℕ
  pub rests : whole.rests y on ≡ true
  pub lost : whole.lost on crash ≡ true
  pub heard : then.heard hearer on.owner crash ≡ true

-- "named are the controllers c whose 2 to the power c is in the mask"
abbrev pub named : ℕ → ℕ → Bool
named mask c = (mask / 2 ^ c) % 2 == 1

-- A call with this answer lets message m out, and shows this mask: a release, or a set that m is one of. W5: "The limit of K controllers now
-- speaks of the set as it did of one message": the union is shown for each message of the set.
pub data LetsGo : Call → Answer → ℕ → ℕ → Type 0 where
  alone : (m echoed mask : ℕ) → LetsGo (asks (Release m)) (Released echoed mask) m mask
  together : (messages : List ℕ) (i mask : ℕ) → i < length messages → LetsGo (release_set messages) (SetReleased mask) (nth messages i) mask

-- lists from the opening of t, beside the ledger g, with n and k
module _ (t g : List ℕ) (n k : ℕ) where
  -- the run after the first part of a list
  abbrev pub up_to : List Call → Run
  up_to before = runs (just_opened t g n k) before

  -- The opening is done, and no opening in the list is: a done opening begins a new list.
  pub record FromOpening (l : List Call) : Type 0 where
    pub done : (step t g (Open n k)).answer ≡ Done
    pub no_opening : NoOpening (just_opened t g n k) l

  module _ (l : List Call) where
    -- the history at the end of the list
    abbrev pub end : History
    end = (up_to l).history

    pub record Demand3 : Type 0 where
      -- "Every accepted hearing in the list undid exactly those live intervals of its controller that rest, through deliveries and
      -- their controllers' earlier intervals, on one lost in a crash which that controller has heard by then."
      pub hearings : (before after : List Call) (hearer crashed i : ℕ) → l ≡ before ++ asks (Hear hearer crashed i) ∷ after →
          Accepted (step_in (up_to before) (Hear hearer crashed i)).answer →
          (y : Interval) → member y ((up_to before).history.chain hearer) ≡ true →
          let then = (next (asks (Hear hearer crashed i)) (up_to before)).history in
          (member y (then.chain hearer) ≡ false) ↔ RestsOnLost end then hearer y
      -- "No live interval rests on one lost in a crash its controller has heard."
      pub live : (c : ℕ) → c < n → (y : Interval) → member y (end.chain c) ≡ true → RestsOnLost end end c y → ⊥
      -- "Each message that a release in the list let out under a degree K was let out with at most K controllers named";
      pub degrees : (before after : List Call) (x : Call) (m mask : ℕ) → l ≡ before ++ x ∷ after → LetsGo x (call_in (up_to before) x).answer m mask →
          let h = (up_to before).history in
          ones mask ≤ h.degree (h.sending m).owner
      -- "these own every interval that its sending interval rests on, that wasn't stable at that release, and that is lost
      -- anywhere in the list, before it or after."
      pub releases : (before after : List Call) (x : Call) (m mask : ℕ) → l ≡ before ++ x ∷ after → LetsGo x (call_in (up_to before) x).answer m mask →
          (y : Interval) (crash : ℕ) → end.rests (end.sending m) y ≡ true → (up_to before).history.stable y ≡ false → end.lost y crash ≡ true →
          named mask y.owner ≡ true
      -- W2: "the sending interval of a published message is never lost or undone in any later steps before an opening": a message
      -- for the desk that a release in the list let out was let out with nobody named, and its sending interval is live at the end
      -- of the list, and lost in no crash. (Each first part of a list is a list, so it was live after every step from there on.)
      pub published : (before after : List Call) (x : Call) (m mask : ℕ) → l ≡ before ++ x ∷ after → LetsGo x (call_in (up_to before) x).answer m mask →
          (up_to before).history.receiver m ≡ desk →
          let y = (up_to before).history.sending m in
          (mask ≡ 0) × (member y (end.chain y.owner) ≡ true) × ((crash : ℕ) → end.lost y crash ≡ false)

    -- W2, beyond demand 3: what a scholar cites is what was sent. At the end of the list the ledger has, in their order, exactly the
    -- messages for the desk that the list's releases and sets let out, with the payloads of their sends.
    abbrev pub Cited : Type 0
    Cited = (up_to l).ledger ≡ ledger_of (up_to l).citations.published
