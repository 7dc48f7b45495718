-- W6 for every list: the crash that `dropped` or `rolled` names is the one to look at.
use Rattle.std.specs.Prelude.{◌≡◌, true, false, List, ◌∷◌, ◌++◌, ℕ, ◌≤◌}
use Rattle.std.proofs.Math.Path.{refl, subst}
use Rattle.std.proofs.Common.{sym, ap, ◌∙◌}
use Rattle.rules.specs.Report.{report}
use Rattle.rules.specs.Step.{Call, step_call}
use Rattle.rules.specs.declared.Answer.{Answer}
use Rattle.rules.specs.declared.Answer.TheVariants.{Dropped, Rolled}
use Rattle.rules.specs.declared.Command.{Command}
use Rattle.rules.specs.declared.Command.TheVariants.{Deliver, Hear}
use Rattle.history.specs.History.{Interval, History, member, newest, hearing, rolling_back, answers, value_at, fed_step, fed}
use Rattle.history.specs.Demand.{Run, step_in, next, FromOpening, up_to, end, call_in}
use Rattle.history.specs.Fair as F
use Rattle.history.specs.Fair.{DeliveredOrDropped}
use Rattle.history.specs.Blame.{DropsNaming, by_delivery, by_dispatcher, OrphanBy, orphan_rests, DroppedFor, Blame}
use Rattle.history.specs.Uses.{orphan_is_not_live}
use Rattle.model.specs.Model.{Model}
use Rattle.model.proofs.Invariant.{Inv, rests_on_lem}
use Rattle.model.proofs.Consequences.{sending_begun}
use Rattle.model.proofs.Blaming.{blamed_orphan, blamed_lowest, rolled_unheard, rolled_newest, rolled_orphan}
use Rattle.model.proofs.Runs.{Holds, in_list, later}
use Rattle.image.specs.Outcome.{Outcome, dropped, rolled}
use Rattle.image.proofs.Tables.{model_of, size_of}
use Rattle.demand.specs.Demanded.{ReadOff, outcome, follows, demand_3}
use Rattle.calls.specs.Dispatch.{answered_as}

-- what the outcome of a delivery says that answers `dropped`
dropping : {n : ℕ} {r : Run} {μ : Model} {m echoed crashed i j : ℕ} {μ' : Model} → Inv n μ r.history → Outcome n μ (Deliver m) (Dropped echoed crashed i) j μ' → DroppedFor r m crashed i
dropping v (dropped m owner pos sent below w) = record { is_orphan = blamed_orphan v m pos sent below w; lowest = blamed_lowest v m pos sent below w }

-- its message is one that was sent
was_sent : {n : ℕ} {μ : Model} {m echoed crashed i j : ℕ} {μ' : Model} → Outcome n μ (Deliver m) (Dropped echoed crashed i) j μ' → (1 ≤ m) × (m ≤ μ.sent)
was_sent (dropped m owner pos sent below w) = (pos, sent)

-- what a hearing leaves of history h that rolls back: an orphan by its crash is undone, and only such
abbrev Undone : History → ℕ → ℕ → ℕ → History → Type 0
Undone h hearer crashed i then =
    (member (newest (h.chain hearer)) (then.chain hearer) ≡ false)
    × ((y : Interval) → member y (h.chain hearer) ≡ true → member y (then.chain hearer) ≡ false → OrphanBy then hearer y crashed i)

-- so says its outcome, of the crash that it names, which was not heard before
rolling : {n : ℕ} {μ : Model} {h : History} {hearer crashed i echoed kept undone replayed owner ended j : ℕ} {μ' : Model} → Inv n μ h →
    Outcome n μ (Hear hearer crashed i) (Rolled echoed kept undone replayed owner ended) j μ' →
    (owner ≡ crashed) × (ended ≡ i) × (h.heard hearer crashed i ≡ false) × Undone h hearer crashed i (rolling_back (hearing h hearer crashed i) hearer kept)
rolling v (rolled hearer crashed i x undone f w) = (refl, refl, rolled_unheard v f w, (rolled_newest v f w, rolled_orphan v f w))

-- a call that drops m and names a crash answers as D of m would
drops_as : (r : Run) {x : Call} {a : Answer} {m crashed i : ℕ} → DropsNaming x a m crashed i → (call_in r x).answer ≡ a → (echoed : ℕ) × ((step_in r (Deliver m)).answer ≡ Dropped echoed crashed i)
unfolding step_call
drops_as r (by_delivery m echoed crashed i) e = (echoed, e)
drops_as r (by_dispatcher m crashed i) e = (m, sym (answered_as r.table r.ledger m (subst (DeliveredOrDropped m) (sym e) (F.dropped crashed i))) ∙ e)

module _ (t g : List ℕ) (n k : ℕ) (l : List Call) (O : FromOpening t g n k l) where
  -- the run before a call, and the outcome of a step there by its answer
  module _ (before after : List Call) (call : Call) (e : l ≡ before ++ call ∷ after) where
    holds : Holds n (ReadOff n) (up_to t g n k before)
    holds = (in_list (follows n) t g k l O before call after e).holds

    found : (x : Command) (a : Answer) → (step_in (up_to t g n k before) x).answer ≡ a →
        Outcome n holds.model x a (size_of (step_in (up_to t g n k before) x).table) (model_of (step_in (up_to t g n k before) x).table)
    found x a answer =
        subst (λ y. Outcome n holds.model x y (size_of (step_in (up_to t g n k before) x).table) (model_of (step_in (up_to t g n k before) x).table)) answer
        (outcome x holds.reads)

  -- Which crash it was, for every table, ledger, opening and list of calls.
  pub blame : Blame t g n k l
  unfolding next step_call fed fed_step answers value_at report
  blame =
      record {
        dropped = λ before after x m crashed i e drops.
            let (echoed, answer) = drops_as (up_to t g n k before) drops refl in
            dropping (holds before after x e).inv (found before after x e _ _ answer);
        rolled = λ before after hearer crashed i echoed kept undone replayed owner ended e answer.
            let h = (up_to t g n k before).history in
            let (owner_is, ended_is, unheard, gone) = rolling (holds before after _ e).inv (found before after _ e _ _ answer) in
            let (newest_gone, orphans) = subst (Undone h hearer crashed i) (sym (ap (λ a. fed_step (Hear hearer crashed i) a h) answer)) gone in
            (owner_is, ended_is, record { unheard = unheard; newest_undone = newest_gone; each_orphan = orphans });
      }

  -- Once the sender of a dropped message has heard the crash that was named, the interval that sent it is live no more.
  pub sender_undone : (before after : List Call) (x : Call) (m crashed i : ℕ) → l ≡ before ++ x ∷ after →
      DropsNaming x (call_in (up_to t g n k before) x).answer m crashed i →
      let y = (up_to t g n k before).history.sending m in
      (end t g n k l).heard y.owner crashed i ≡ true → member y ((end t g n k l).chain y.owner) ≡ false
  sender_undone before after x m crashed i e drops heard =
      let s = holds before after x e in
      let h = (up_to t g n k before).history in
      let (echoed, answer) = drops_as (up_to t g n k before) drops refl in
      let (pos, sent) = was_sent (found before after x e _ _ answer) in
      let begun = sending_begun s.inv m pos sent in
      let later = (later (follows n) t g k l O before (x ∷ after) e).keeps.ext in
      let o = (blame.dropped before after x m crashed i e drops).is_orphan in
      orphan_is_not_live t g n k l (demand_3 t g n k l O) (h.sending m).owner (s.inv.history.owner_below _ begun) (h.sending m)
      (orphan_rests (record { heard = heard; on = o.on; owner_is = o.owner_is; rests = rests_on_lem later _ o.on begun o.rests; lost = later.lost_stays _ _ o.lost }))
