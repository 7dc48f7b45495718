-- Demand 3 for every list of calls, from what one call in a run is to the model. What the words have to give is one record;
-- the rest is an induction over the list.
use Rattle.std.specs.Prelude.{◌≡◌, refl, false, ◌≢◌, ◌↔◌, ℕ, ◌^◌, ◌/◌, ◌≤◌, ◌<◌}
use Rattle.std.proofs.Common.{sym, ◌∙◌, ap, arith}
use Rattle.std.proofs.Math.Path.{subst}
use mathlib.Core.List.{List, [], ◌∷◌, ◌++◌, append_assoc}
use Rattle.std.specs.Int.Count.{ones}
use Rattle.std.proofs.lemmas.Nat.{shr_le}
use Rattle.rules.specs.Step.{step, Call, asks, step_call}
use Rattle.rules.specs.declared.Answer.TheVariants.{Done}
use Rattle.rules.specs.declared.Command.{Command}
use Rattle.rules.specs.declared.Command.TheVariants.{Open, Hear}
use Rattle.history.specs.History.{member}
use Rattle.history.specs.Demand.{Run, call_in, step_in, next, runs, just_opened, Accepted, RestsOnLost, named, LetsGo, NoOpening, FromOpening, Demand3}
use Rattle.calls.specs.Sets.{runs_append}
use Rattle.calls.specs.Made.{NoDoneOpening, NotDone, PartOf, Unturned, call_ind, part_not_done}
use Rattle.model.specs.Model.{Model, open_model}
use Rattle.model.specs.Tests.{Is}
use Rattle.model.proofs.Tests.{contrary, fails}
use Rattle.model.proofs.Invariant.{Inv}
use Rattle.model.proofs.Keeping.{Keeps, keeps_refl, keeps_trans}
use Rattle.model.proofs.Steps.{LetUnder}
use Rattle.model.proofs.Opening.{inv_opened}
use Rattle.model.proofs.Consequences.{live_clean, hearing_exact, release_degree, release_covers}
use Rattle.model.proofs.Unnamed.{unnamed_stays}

-- A run of a house of n controllers is read as a model: `Reads` tells which.
module _ (n : ℕ) (Reads : Run → Model → Type 0) where
  -- a run with a model that it is read as, of which the invariant holds
  pub record Holds (r : Run) : Type 0 where
    pub model : Model
    pub reads : Reads r model
    pub inv : Inv n model r.history

  -- a later run of which it holds too, with what is kept from the one to the other
  pub record Later {r : Run} (s : Holds r) (r' : Run) : Type 0 where
    pub holds : Holds r'
    pub keeps : Keeps n s.model r.history holds.model r'.history

  -- A house just opened is read as the model just opened, and one step leads on, unless it is an opening that is done; the controller last
  -- served is not looked at.
  pub record Follows : Type 0 where
    pub open_reads : (t g : List ℕ) (k : ℕ) → (step t g (Open n k)).answer ≡ Done → Reads (just_opened t g n k) (open_model n k)
    pub step_keeps : {r : Run} (s : Holds r) (x : Command) → NoDoneOpening x (step_in r x).answer → Later s (next (asks x) r)
    pub turn_reads : (μ : Model) → Unturned (λ r. Reads r μ)
    pub hearer_below : {r : Run} (s : Holds r) (hearer crashed i : ℕ) → Accepted (step_in r (Hear hearer crashed i)).answer → hearer < n
    pub lets_out : {r : Run} (s : Holds r) (x : Call) (m mask : ℕ) → LetsGo x (call_in r x).answer m mask → LetUnder s.model m mask

-- no opening in the first part of a list is done, if none in the list is
no_opening_before : (r : Run) (l l' : List Call) → NoOpening r (l ++ l') → NoOpening r l
no_opening_before r l l' unopened before after size degree e =
    unopened before (after ++ l') size degree (ap (λ z. z ++ l') e ∙ append_assoc before (asks (Open size degree) ∷ after) l')

-- nor in its second part
pub no_opening_after : (r : Run) (l l' : List Call) → NoOpening r (l ++ l') → NoOpening (runs r l) l'
no_opening_after r l l' unopened before after size degree e =
    subst (λ q. (step_in q (Open size degree)).answer ≢ Done) (runs_append r l before)
    (unopened (l ++ before) after size degree (ap (λ z. l ++ z) e ∙ sym (append_assoc l before (asks (Open size degree) ∷ after))))

-- nor is its first call
pub not_done : (r : Run) (x : Call) (l : List Call) → NoOpening r (x ∷ l) → NotDone r x
unfolding runs step_call
not_done r x l unopened size degree e = subst (λ y. (call_in r y).answer ≢ Done) (sym e) (unopened [] l size degree (ap (λ y. y ∷ l) e))

-- the first part of a list from an opening is one too
pub first_part : {t g : List ℕ} {n k : ℕ} (l l' : List Call) → FromOpening t g n k (l ++ l') → FromOpening t g n k l
first_part l l' O = record { done = O.done; no_opening = no_opening_before _ l l' O.no_opening }

-- a fact of a run that each call of a list keeps
runs_ind : (P : Run → Type 0) (l : List Call) (r : Run) → P r →
    ((before : List Call) (x : Call) (after : List Call) → l ≡ before ++ x ∷ after → P (runs r before) → P (next x (runs r before))) → P (runs r l)
unfolding runs
runs_ind P [] r p s = p
runs_ind P (x ∷ l) r p s = runs_ind P l (next x r) (s [] x l refl p) (λ before y after e. s (x ∷ before) y after (ap (λ z. x ∷ z) e))

-- a mask of 0 names nobody
unnamed : (mask a : ℕ) → mask ≡ 0 → named mask a ≡ false
unnamed mask a e = let z : mask / 2 ^ a ≡ 0 = omega (arith, shr_le mask a) in rw z

-- a run is later than itself, and what is later than a later run is later
later_refl : {n : ℕ} {Reads : Run → Model → Type 0} {r : Run} (s : Holds n Reads r) → Later n Reads s r
later_refl s = record { holds = s; keeps = keeps_refl s.inv }

later_trans : {n : ℕ} {Reads : Run → Model → Type 0} {r r' r'' : Run} {s : Holds n Reads r} (p : Later n Reads s r') → Later n Reads p.holds r'' → Later n Reads s r''
later_trans p q = record { holds = q.holds; keeps = keeps_trans p.keeps q.keeps }

module _ {n : ℕ} {Reads : Run → Model → Type 0} (F : Follows n Reads) where
  -- what is later is so whoever was served last
  later_turned : {r : Run} (s : Holds n Reads r) → Unturned (Later n Reads s)
  later_turned s q c lent low l =
      let h = l.holds in
      record { holds = record { model = h.model; reads = F.turn_reads h.model q c lent low h.reads; inv = h.inv }; keeps = l.keeps }

  -- a call, which is made of steps
  pub call_keeps : {r : Run} (s : Holds n Reads r) (x : Call) → NotDone r x → Later n Reads s (next x r)
  call_keeps {r} s x unopened =
      call_ind (Later n Reads s) r (later_turned s) x (later_refl s) (λ q y p l. later_trans l (F.step_keeps l.holds y (part_not_done p unopened)))

  -- a list of calls
  pub runs_keep : (l : List Call) {r : Run} (s : Holds n Reads r) → NoOpening r l → Later n Reads s (runs r l)
  unfolding runs
  runs_keep [] s unopened = later_refl s
  runs_keep (x ∷ l) {r} s unopened =
      let one = call_keeps s x (not_done r x l unopened) in
      later_trans one (runs_keep l one.holds (λ before after size degree e. unopened (x ∷ before) after size degree (ap (λ z. x ∷ z) e)))

  module _ (t g : List ℕ) (k : ℕ) where
    -- the run from which the list starts
    abbrev pub start : Run
    start = just_opened t g n k

    -- the run before call x of a list: the invariant holds of it, what the call keeps, and what the calls from there on keep
    pub record AtCall (before : List Call) (x : Call) (after : List Call) : Type 0 where
      pub holds : Holds n Reads (runs start before)
      pub unopened : NotDone (runs start before) x
      pub one : Later n Reads holds (next x (runs start before))
      pub rest : Later n Reads one.holds (runs start (before ++ x ∷ after))
      pub all : Later n Reads holds (runs start (before ++ x ∷ after))

    -- step y, in the run q, is one of those of call x in the list: the invariant holds of q, and what the step keeps
    pub record AtStep (before : List Call) (x : Call) (q : Run) (y : Command) : Type 0 where
      pub part : PartOf (runs start before) x q y
      pub holds : Holds n Reads q
      pub unopened : NoDoneOpening y (step_in q y).answer
      pub one : Later n Reads holds (next (asks y) q)

    module _ (done : (step t g (Open n k)).answer ≡ Done) where
      -- the invariant holds of it
      pub start_holds : Holds n Reads start
      unfolding just_opened
      start_holds = record { model = open_model n k; reads = F.open_reads t g k done; inv = inv_opened n k }

      -- these hold at each call of the list
      at_call : (before : List Call) (x : Call) (after : List Call) → NoOpening start (before ++ x ∷ after) → AtCall before x after
      unfolding runs
      at_call before x after unopened =
          let s = (runs_keep before start_holds (no_opening_before start before (x ∷ after) unopened)).holds in
          let after_unopened = no_opening_after start before (x ∷ after) unopened in
          let first = not_done (runs start before) x after after_unopened in
          let one = call_keeps s x first in
          let rest = runs_keep after one.holds (λ p q size degree e. after_unopened (x ∷ p) q size degree (ap (λ z. x ∷ z) e)) in
          let rest' = subst (Later n Reads one.holds) (sym (runs_append start before (x ∷ after))) rest in
          record { holds = s; unopened = first; one = one; rest = rest'; all = later_trans one rest' }

    module _ (l : List Call) (O : FromOpening t g n k l) where
      -- and at each call of a list from an opening
      pub in_list : (before : List Call) (x : Call) (after : List Call) → l ≡ before ++ x ∷ after → AtCall before x after
      in_list before x after e = at_call O.done before x after (subst (NoOpening start) e O.no_opening)

      -- after its first part
      pub part : (before rest : List Call) → l ≡ before ++ rest → Holds n Reads (runs start before)
      part before rest e =
          (runs_keep before (start_holds O.done) (no_opening_before start before rest (subst (NoOpening start) e O.no_opening))).holds

      -- and the run at its end is later than that
      pub later : (before rest : List Call) (e : l ≡ before ++ rest) → Later n Reads (part before rest e) (runs start l)
      later before rest e =
          subst (Later n Reads (part before rest e)) (sym (ap (runs start) e ∙ runs_append start before rest))
          (runs_keep rest (part before rest e) (no_opening_after start before rest (subst (NoOpening start) e O.no_opening)))

      -- A fact that holds of the house just opened, and that each step of each call of the list keeps, holds after each first part of the list.
      -- At a step its invariant is at hand, that it is no done opening, and what it keeps (`AtStep`). It must not look at the controller last served.
      pub along : (P : Run → Type 0) → Unturned P → P start →
          ((before : List Call) (x : Call) (after : List Call) → l ≡ before ++ x ∷ after → (q : Run) (y : Command) → AtStep before x q y → P q → P (next (asks y) q)) →
          (before rest : List Call) → l ≡ before ++ rest → P (runs start before)
      along P free p keeps before rest e =
          runs_ind P before start p
          (λ first x after d w. let f : l ≡ first ++ x ∷ (after ++ rest) = e ∙ ap (λ z. z ++ rest) d ∙ append_assoc first (x ∷ after) rest in
          let c = in_list first x (after ++ rest) f in
          (call_ind (λ q. Later n Reads c.holds q × P q) (runs start first)
          (λ q c₂ lent low so_far. (later_turned c.holds q c₂ lent low so_far.0, free q c₂ lent low so_far.1)) x (later_refl c.holds, w)
          (λ q y part so_far. let unopened = part_not_done part c.unopened in
          let one = F.step_keeps so_far.0.holds y unopened in
          (later_trans so_far.0 one, keeps first x (after ++ rest) f q y (record { part = part; holds = so_far.0.holds; unopened = unopened; one = one }) so_far.1))).1)

      -- at its end
      pub at_end : Holds n Reads (runs start l)
      at_end = (runs_keep l (start_holds O.done) O.no_opening).holds

    -- Demand 3: hearings by the invariant before and after them, live intervals by the invariant at the end, and releases, those to
    -- the desk too, by the invariant at each of them.
    pub demand3 : (l : List Call) → FromOpening t g n k l → Demand3 t g n k l
    demand3 l O =
        record {
          hearings = λ before after hearer crashed i e accepted y live.
              let s = in_list l O before (asks (Hear hearer crashed i)) after e in
              let then = (next (asks (Hear hearer crashed i)) (runs start before)).history in
              let below = F.hearer_below s.holds hearer crashed i accepted in
              subst (λ z. (member y (then.chain hearer) ≡ false) ↔ RestsOnLost (runs start z).history then hearer y) (sym e)
              (hearing_exact s.holds.inv s.one.keeps s.rest.keeps.ext hearer below y live);
          live = λ c below y. live_clean (at_end l O).inv c below y;
          degrees = λ before after x m mask e goes.
              let s = (in_list l O before x after e).holds in
              let o = F.lets_out s x m mask goes in
              subst (λ d. ones mask ≤ d) (sym (release_degree s.inv m o.pos o.sent)) o.within;
          releases = λ before after x m mask e goes y crash rests unstable lost.
              let s = in_list l O before x after e in
              let o = F.lets_out s.holds x m mask goes in
              let r = subst (λ z. Is ((runs start z).history.rests ((runs start z).history.sending m) y)) e rests in
              let c = release_covers s.holds.inv m o.pos o.sent s.all.keeps.ext (s.all.keeps.sending_same m o.sent) y r unstable in
              o.covers y.owner c.1;
          published = λ before after x m mask e goes desk.
              let s = in_list l O before x after e in
              let v = s.holds.inv in
              let o = F.lets_out s.holds x m mask goes in
              let zero = o.desk_none (sym (v.message_ok_lem m o.pos o.sent).receiver_is ∙ desk) in
              let y = (runs start before).history.sending m in
              let (live, kept) = unnamed_stays v m o.pos o.sent (λ a. fails _ (λ is. contrary (o.covers a is) (unnamed mask a zero))) s.all.keeps in
              subst (λ z. (mask ≡ 0) × Is (member y ((runs start z).history.chain y.owner)) × ((crash : ℕ) → (runs start z).history.lost y crash ≡ false)) (sym e)
              (zero, live, kept);
        }
