-- What a release let out that named nobody is never lost, and never undone.
use Rattle.std.specs.Prelude.{◌≡◌, refl, false, ℕ, ◌≤◌}
use Rattle.std.proofs.Common.{⊎_elim}
use Rattle.history.specs.History.{Interval, History, member}
use Rattle.model.specs.Model.{Model, full, released_vec}
use Rattle.model.specs.Tests.{Is}
use Rattle.model.proofs.Tests.{contrary, fails, passes}
use Rattle.model.proofs.Invariant.{Inv, ext_refl, rests_back}
use Rattle.model.proofs.Keeping.{Keeps}
use Rattle.model.proofs.Consequences.{live_or_lost, sending_begun, release_covers}

module _ {n : ℕ} {μ : Model} {h : History} (v : Inv n μ h) (m : ℕ) (pos : 1 ≤ m) (sent : m ≤ μ.sent) where
  -- W2: where no pair of the released vector is full, all that the sending interval rests on is stable and never lost, and the sending
  -- interval itself stays live and is lost in no crash
  module _ (none : (a : ℕ) → full (released_vec μ m a) ≡ false) where
    pub unnamed_stays : {μ' : Model} {h' : History} → Keeps n μ h μ' h' → let y = h.sending m in
        Is (member y (h'.chain y.owner)) × ((crash : ℕ) → h'.lost y crash ≡ false)
    unnamed_stays {μ'} {h'} s =
        let begun = s.ext.begun_stays _ (sending_begun v m pos sent) in
        let order = s.inv.history in
        let live = ⊎_elim (λ z. z) (λ r. absurd (kept r.on r.crash r.rests r.lost)) (live_or_lost s.inv _ (order.owner_below _ begun) _ refl begun) in
        (live, λ crash. fails _ (kept _ crash (order.rests_self _ begun)))
      where
        stable : (y : Interval) → Is (h.rests (h.sending m) y) → Is (h.stable y)
        stable y r = passes _ (λ f. contrary (release_covers v m pos sent (ext_refl h) refl y r f).1 (none y.owner))

        kept : (y : Interval) (crash : ℕ) → Is (h'.rests (h.sending m) y) → Is (h'.lost y crash) → ⊥
        kept y crash r = s.inv.history.stable_not_lost y crash (s.ext.stable_stays y (stable y (rests_back s.ext _ y (sending_begun v m pos sent) r)))
