-- W6, of the model: to whom a dropped message and a rollback are put down. A condemned pair is that of an interval lost in its owner's
-- crash; and what a hearing undoes was no orphan by any crash that was heard before, so that it is one by this.
use Rattle.std.specs.Prelude.{◌≡◌, refl, false, ◌⊎◌, ℕ, ◌≤◌, ◌<◌}
use Rattle.std.proofs.Common.{sym, ◌∙◌, ap, inl, inr, arith}
use Rattle.std.proofs.Math.Path.{subst}
use Rattle.std.proofs.Math.Logic.{⊎_elim}
use Rattle.base.specs.Choice.{cond_ind, le?}
use Rattle.history.specs.History.{Interval, History, member, newest, joined, leaving, stabilized, hearing, flagging, checkpointing, forced_at, capping, beginning, restarting, rolling_back}
use Rattle.history.specs.Blame.{OrphanBy}
use Rattle.model.specs.Model.{Model}
use Rattle.model.specs.Tests.{Is}
use Rattle.model.proofs.Tests.{fails}
use Rattle.model.proofs.Invariant.{Spoilt, Inv, some_live, newest_is, ext_refl, spoilt_by, rests_back, rests_on_lem}
use Rattle.model.specs.Vectors.{LowestOwner}
use Rattle.model.proofs.Vectors.{condemned_orphan, orphan_condemned}
use Rattle.model.proofs.Hearing.{hearing_cases, hearing_new}
use Rattle.model.proofs.Recovery.{HearsOf, noted_controller, LowestCondemned, newest_spoilt, keeps_rolled}
use Rattle.model.proofs.Consequences.{chain_live, live_begun, live_clean, hearing_exact}

-- a checkpoint, forced or not, marks none as heard or lost
pub capped_heard : (h : History) (c : ℕ) → (capping h c).heard ≡ h.heard
unfolding capping checkpointing flagging stabilized
capped_heard h c = cond_ind (λ (q : History). q.heard ≡ h.heard) (forced_at h c) (λ e. refl) (λ e. refl)

capped_lost : (h : History) (c : ℕ) → (capping h c).lost ≡ h.lost
unfolding capping checkpointing flagging stabilized
capped_lost h c = cond_ind (λ (q : History). q.lost ≡ h.lost) (forced_at h c) (λ e. refl) (λ e. refl)

-- nor does a new start
pub restarted_heard : (h : History) (c : ℕ) → (restarting h c).heard ≡ h.heard
unfolding restarting beginning joined
restarted_heard h c = capped_heard _ c

restarted_lost : (h : History) (c : ℕ) → (restarting h c).lost ≡ h.lost
unfolding restarting beginning joined
restarted_lost h c = capped_lost _ c

-- D: message m is dropped, and this is the lowest owner whose pair condemns it
module _ {n : ℕ} {μ : Model} {h : History} (v : Inv n μ h) (m : ℕ) (pos : 1 ≤ m) (sent : m ≤ μ.sent) (below : (μ.message m).to < n) {a : ℕ}
    (w : LowestOwner n (μ.controller (μ.message m).to) (μ.message m).vec a) where
  -- an orphan by a crash, of the sending interval to the receiver: as the history has them, and as the model
  abbrev Orphaned : ℕ → ℕ → Type 0
  Orphaned other j = OrphanBy h (h.receiver m) (h.sending m) other j

  in_model : (other j : ℕ) → Orphaned other j ≡ OrphanBy h (μ.message m).to (μ.message m).from other j
  in_model other j = let g = v.message_ok_lem m pos sent in λ d. OrphanBy h (g.receiver_is d) (g.sending_is d) other j

  -- it is an orphan by that owner's crash,
  pub blamed_orphan : Orphaned a ((μ.message m).vec a).incarnation
  blamed_orphan =
      let g = v.message_ok_lem m pos sent in
      subst (λ T. T) (sym (in_model a _)) (condemned_orphan {controller = μ.controller} v.history v.controller_ok_lem v.agree below _ _ g.from_begun g.tracked w.by)

  -- and by no other of the same or of a lower controller
  pub blamed_lowest : (other j : ℕ) → Orphaned other j → (a < other) ⊎ ((other ≡ a) × (j ≡ ((μ.message m).vec a).incarnation))
  blamed_lowest other j o =
      let g = v.message_ok_lem m pos sent in
      let (by, is) = orphan_condemned {controller = μ.controller} v.history v.controller_ok_lem v.agree below _ _ g.from_begun g.tracked (subst (λ T. T) (in_model other j) o) in
      le? a other
      (λ l. le? other a (λ u. let same : other ≡ a = omega arith in inr (same, sym is ∙ ap (λ b. ((μ.message m).vec b).incarnation) same)) (λ u. inl u))
      (λ u. absurd (w.none_lower other u by))

-- H: the hearer b is rolled back to number j by the crash that ended incarnation i of a
module _ {n : ℕ} {μ : Model} {h : History} (v : Inv n μ h) {b a i j : ℕ} (O : HearsOf n μ b a i) (W : LowestCondemned n (noted_controller μ b a i) j) where
  -- the history after it
  abbrev then : History
  then = rolling_back (hearing h b a i) b j

  -- what is heard by then, and lost
  heard_is : then.heard ≡ (hearing h b a i).heard
  unfolding rolling_back leaving stabilized
  heard_is = restarted_heard _ b

  lost_is : then.lost ≡ h.lost
  unfolding rolling_back leaving stabilized hearing
  lost_is = restarted_lost _ b

  -- b had not heard it
  pub rolled_unheard : h.heard b a i ≡ false
  rolled_unheard = fails _ (λ z. let u = (v.controller_ok_lem b O.hearer_below).ended.heard_end a i z in omega (arith, O.unheard))

  -- a live interval is undone just where it is an orphan by then
  exact : (y : Interval) → Is (member y (h.chain b)) → (member y (then.chain b) ≡ false → Spoilt then b y) × (Spoilt then b y → member y (then.chain b) ≡ false)
  exact y live = hearing_exact v (keeps_rolled v O W) (ext_refl then) b O.hearer_below y live

  -- b has a newest
  newest_live : Is (member (newest (h.chain b)) (h.chain b))
  newest_live =
      let s = (v.controller_ok_lem b O.hearer_below).shape in
      subst (λ y. Is (member y (h.chain b))) (sym (newest_is s))
      (chain_live v b O.hearer_below _ (record { pos = some_live s; top = omega arith; is = refl }))

  -- which is undone,
  pub rolled_newest : member (newest (h.chain b)) (then.chain b) ≡ false
  unfolding hearing
  rolled_newest =
      let e = (keeps_rolled v O W).ext in
      let r = newest_spoilt v O W in
      let begun = live_begun v b O.hearer_below _ newest_live in
      (exact _ newest_live).1 (spoilt_by r (rests_on_lem e _ r.on begun r.rests) (e.lost_stays _ _ r.lost)
      (subst (λ f. Is (f b r.on.owner r.crash)) (sym heard_is) r.heard))

  -- and whatever is undone is an orphan by this crash
  pub rolled_orphan : (y : Interval) → Is (member y (h.chain b)) → member y (then.chain b) ≡ false → OrphanBy then b y a i
  unfolding hearing
  rolled_orphan y live gone =
      let r = (exact y live).0 gone in
      let begun = live_begun v b O.hearer_below y live in
      ⊎_elim
      (λ before. absurd (live_clean v b O.hearer_below y live (spoilt_by r (rests_back (keeps_rolled v O W).ext y r.on begun r.rests)
      (subst (λ f. Is (f r.on r.crash)) lost_is r.lost) before)))
      (λ now. record {
        heard = subst (λ f. Is (f b a i)) (sym heard_is) (hearing_new h b a i);
        on = r.on;
        owner_is = now.1;
        rests = r.rests;
        lost = subst (λ u. Is (then.lost r.on u)) now.2 r.lost;
      })
      (hearing_cases h b a i b r.on.owner r.crash (subst (λ f. Is (f b r.on.owner r.crash)) heard_is r.heard))
