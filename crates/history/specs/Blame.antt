-- W6: "Operators read `dropped` and `rolled` and ask which controller to look at. Both answers now name the crash by controller and
-- incarnation." Who reads them looks at the right controller: for every list of calls, by its answers and the history, without a vector.
use Rattle.std.specs.Prelude.{◌≡◌, refl, true, false, List, ◌∷◌, ◌++◌, ◌⊎◌, ℕ, ◌<◌}
use Rattle.std.proofs.Common.{sym, subst}
use Rattle.rules.specs.Step.{Call, asks, dispatch}
use Rattle.rules.specs.declared.Answer.{Answer}
use Rattle.rules.specs.declared.Answer.TheVariants.{Dropped, Rolled}
use Rattle.rules.specs.declared.Command.TheVariants.{Deliver, Hear}
use Rattle.history.specs.History.{Interval, History, member, newest}
use Rattle.history.specs.Demand.{Run, step_in, next, RestsOnLost, up_to, call_in}

-- The hearer has heard the crash that ended incarnation i of the crashed controller, and y rests on an interval of that controller that was
-- lost in it.
pub record OrphanBy (h : History) (hearer : ℕ) (y : Interval) (crashed i : ℕ) : Type 0 where
  pub heard : h.heard hearer crashed i ≡ true
  pub on : Interval
  pub owner_is : on.owner ≡ crashed
  pub rests : h.rests y on ≡ true
  pub lost : h.lost on i ≡ true

-- so it rests on one lost in a crash that the hearer has heard,
pub orphan_rests : {h : History} {hearer : ℕ} {y : Interval} {crashed i : ℕ} → OrphanBy h hearer y crashed i → RestsOnLost h h hearer y
orphan_rests {h} {hearer} {i = i} o =
    record { on = o.on; crash = i; rests = o.rests; lost = o.lost; heard = subst (λ c. h.heard hearer c i ≡ true) (sym o.owner_is) o.heard }

-- and the other way round
pub rests_orphan : {h : History} {hearer : ℕ} {y : Interval} (r : RestsOnLost h h hearer y) → OrphanBy h hearer y r.on.owner r.crash
rests_orphan r = record { heard = r.heard; on = r.on; owner_is = refl; rests = r.rests; lost = r.lost }

-- "For a dropped delivery it is the lowest-numbered controller whose pair condemns the vector, with that pair's incarnation": message m is
-- dropped in run r, and this crash is named.
pub record DroppedFor (r : Run) (m crashed i : ℕ) : Type 0 where
  -- to the receiver the sending interval is an orphan by it,
  pub is_orphan : OrphanBy r.history (r.history.receiver m) (r.history.sending m) crashed i
  -- and by no other crash of a controller with the same or a lower number
  pub lowest : (other j : ℕ) → OrphanBy r.history (r.history.receiver m) (r.history.sending m) other j → (crashed < other) ⊎ ((other ≡ crashed) × (j ≡ i))

-- "For a rollback it is the crash just heard": this hearing in run r rolls its controller back.
pub record RolledFor (r : Run) (hearer crashed i : ℕ) : Type 0 where
  -- the crash was not heard before,
  pub unheard : r.history.heard hearer crashed i ≡ false
  -- the hearer's newest interval is undone,
  pub newest_undone : let then = (next (asks (Hear hearer crashed i)) r).history in
      member (newest (r.history.chain hearer)) (then.chain hearer) ≡ false
  -- and every interval that is undone is an orphan by this very crash
  pub each_orphan : let then = (next (asks (Hear hearer crashed i)) r).history in
      (y : Interval) → member y (r.history.chain hearer) ≡ true → member y (then.chain hearer) ≡ false → OrphanBy then hearer y crashed i

-- A call with this answer drops message m and names this crash: a delivery, or one that the dispatcher performs (W7).
pub data DropsNaming : Call → Answer → ℕ → ℕ → ℕ → Type 0 where
  by_delivery : (m echoed crashed i : ℕ) → DropsNaming (asks (Deliver m)) (Dropped echoed crashed i) m crashed i
  by_dispatcher : (m crashed i : ℕ) → DropsNaming dispatch (Dropped m crashed i) m crashed i

-- lists from the opening of t, beside the ledger g, with n and k
module _ (t g : List ℕ) (n k : ℕ) (l : List Call) where
  pub record Blame : Type 0 where
    pub dropped : (before after : List Call) (x : Call) (m crashed i : ℕ) → l ≡ before ++ x ∷ after →
        DropsNaming x (call_in (up_to t g n k before) x).answer m crashed i → DroppedFor (up_to t g n k before) m crashed i
    pub rolled : (before after : List Call) (hearer crashed i echoed kept undone replayed owner ended : ℕ) → l ≡ before ++ asks (Hear hearer crashed i) ∷ after →
        (step_in (up_to t g n k before) (Hear hearer crashed i)).answer ≡ Rolled echoed kept undone replayed owner ended →
        (owner ≡ crashed) × (ended ≡ i) × RolledFor (up_to t g n k before) hearer crashed i
