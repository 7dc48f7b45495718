-- Filtering and merging keep a vector that tracks an interval, and such a vector is condemned exactly where the interval rests
-- on one lost in a crash that the holder has heard, by the pair of its owner.
use Rattle.std.specs.Prelude.{◌≡◌, refl, ◌⊎◌, ℕ, ◌≤◌, ◌<◌}
use Rattle.std.proofs.Math.Path.{sym}
use Rattle.std.proofs.Common.{◌∙◌, subst, inl, inr, ⊎_elim, ◌==◌}
use native.Mathlib.Omega.{arith}
use borrow.Author.Tests.{eqb-false, ne_eqb, leb-true, leb-false, ltb-true, ltb-false, not-true}
use Rattle.base.specs.Choice.{◌≤?◌, ◌<?◌, cond_ind, le?}
use Rattle.history.specs.History.{Interval, interval, History}
use Rattle.history.specs.Blame.{OrphanBy, orphan_rests, rests_orphan}
use Rattle.model.specs.Model.{Pair, pair, interval_of, Vec, Controller, full, filtered, larger}
use Rattle.model.specs.Tests.{Is}
use Rattle.model.proofs.Tests.{not_passes}
use Rattle.model.proofs.Invariant.{Spoilt, Covers, Tracks, InOrder, Knows, ControllerOk, EndsAgree}
use Rattle.model.specs.Vectors.{CondemnedBy, Condemned}

-- a pair is full where its number is not 0
pub full_pos : (p : Pair) → Is (full p) → 1 ≤ p.number
unfolding full
full_pos p e = let f = eqb-false p.number 0 (not-true (p.number == 0) e) in le? 1 p.number (λ l. l) (λ l. absurd (f (omega arith)))

-- and the other way round
pub pos_full : (p : Pair) → 1 ≤ p.number → Is (full p)
unfolding full
pos_full p l = not_passes (p.number == 0) (ne_eqb p.number 0 (λ e. omega arith))

-- a fact of a filtered pair: it is emptied where the holder knows it to be stable
pub filtered_ind : (P : Pair → Type 0) (k : Controller) (v : Vec) (a : ℕ) → ((v a).number ≤ k.known a (v a).incarnation → P (pair 0 0)) →
    (k.known a (v a).incarnation < (v a).number → P (v a)) → P (filtered k v a)
unfolding filtered
filtered_ind P k v a f g =
    let x = (v a).number in
    let x' = k.known a (v a).incarnation in
    cond_ind P (x ≤? x') (λ e. f (leb-true x x' e)) (λ e. g (leb-false x x' e))

-- Filtering keeps what is not stable: a covered interval whose pair is known stable is stable.
pub filtered_tracks : {n : ℕ} {h : History} (k : Controller) (v : Vec) (y : Interval) → InOrder n h → Knows h k.known → Is (h.begun y) → Tracks h v y →
    Tracks h (filtered k v) y
filtered_tracks {n} {h} k v y ho ko b o =
    record {
      sound = λ a.
          filtered_ind (λ q. Is (full q) → Is (h.rests y (interval_of a q))) k v a
          (λ l f. absurd (let z = full_pos (pair 0 0) f in omega arith)) (λ l f. o.sound a f);
      cover = λ j r. ⊎_elim (λ s. inl s) (covered j r) (o.cover j r);
    }
  where
    covered : (j : Interval) → Is (h.rests y j) → Covers (v j.owner) j → Is (h.stable j) ⊎ Covers (filtered k v j.owner) j
    covered j r c =
        filtered_ind (λ q. Is (h.stable j) ⊎ Covers q j) k v j.owner
        (λ l. let m : (v j.owner).number ≤ k.known j.owner j.incarnation = rw c.same at l in
        inl (ko.known_stable_lem j.owner j.incarnation j.number (ho.rests_begun y j b r) (omega (arith, c.upto))))
        (λ l. inr c)

-- the larger of two pairs is one of them, and covers what either covers if full ones have one incarnation
pub larger_ind : (P : Pair → Type 0) (p q : Pair) → P p → P q → P (larger p q)
unfolding larger
larger_ind P p q a b = cond_ind P (p.number <? q.number) (λ e. b) (λ e. a)

module _ (p q : Pair) (j : Interval) (pos : 1 ≤ j.number) (one : Is (full p) → Is (full q) → p.incarnation ≡ q.incarnation) where
  -- what the first covers
  pub larger_first : Covers p j → Covers (larger p q) j
  unfolding larger
  larger_first c =
      cond_ind (λ z. Covers z j) (p.number <? q.number)
      (λ e. let l = ltb-true p.number q.number e in let u = c.upto in
      record { same = sym (one (pos_full p (omega arith)) (pos_full q (omega arith))) ∙ c.same; upto = omega arith }) (λ e. c)

  -- what the second covers
  pub larger_second : Covers q j → Covers (larger p q) j
  unfolding larger
  larger_second c =
      cond_ind (λ z. Covers z j) (p.number <? q.number) (λ e. c)
      (λ e. let l = ltb-false p.number q.number e in let u = c.upto in
      record { same = one (pos_full p (omega arith)) (pos_full q (omega arith)) ∙ c.same; upto = omega arith })

-- a vector that tracks an interval is condemned to c exactly where the interval rests on one lost in a crash that c has heard
module _ {n : ℕ} {h : History} {c : ℕ} {controller : ℕ → Controller} (ho : InOrder n h) (controller_ok_lem : (c : ℕ) → c < n → ControllerOk h c (controller c)) (agree : EndsAgree controller)
    (below : c < n) (v : Vec) (y : Interval) (b : Is (h.begun y)) (o : Tracks h v y) where
  -- a condemned pair is an interval that y rests on, above the end of a crash that was heard
  pub condemned_orphan : {a : ℕ} → CondemnedBy n (controller c) v a → OrphanBy h c y a (v a).incarnation
  condemned_orphan {a} e =
      let p = v a in
      let l = e.ended in
      let u = e.above in
      let r = o.sound a (pos_full p (omega arith)) in
      let q = agree c a p.incarnation l in
      record {
        heard = (controller_ok_lem c below).ended.end_heard a p.incarnation l;
        on = interval a p.incarnation p.number;
        owner_is = refl;
        rests = r;
        lost = (controller_ok_lem a e.below).ended.above_lost p.incarnation p.number (ho.rests_begun y _ b r) (omega arith) (omega arith);
      }

  -- what is lost is not stable, so its pair covers it, in its incarnation, and it lies above the end of its crash
  pub orphan_condemned : {a i : ℕ} → OrphanBy h c y a i → CondemnedBy n (controller c) v a × ((v a).incarnation ≡ i)
  orphan_condemned {a} {i} r =
      subst (λ a. Is (h.heard c a i) → CondemnedBy n (controller c) v a × ((v a).incarnation ≡ i)) r.owner_is
      (λ heard. ⊎_elim (λ s. absurd (ho.stable_not_lost _ _ s r.lost)) (covered heard) (o.cover r.on r.rests)) r.heard
    where
      covered : Is (h.heard c r.on.owner i) → Covers (v r.on.owner) r.on → CondemnedBy n (controller c) v r.on.owner × ((v r.on.owner).incarnation ≡ i)
      covered heard g =
          let a = r.on.owner in
          let al = ho.owner_below _ (ho.rests_begun y _ b r.rests) in
          let (te, _, l, u) = (controller_ok_lem a al).ended.lost_above r.on.incarnation r.on.number i r.lost in
          let hd = (controller_ok_lem c below).ended.heard_end a i heard in
          let q = agree c a i hd in
          let is : (v a).incarnation ≡ i = g.same ∙ sym te in
          let w : (controller a).ends a i < r.on.number = rw te u in
          let z = g.upto in
          (record { below = al; ended = rw is hd; above = rw is (omega arith) }, is)

  -- so of the whole vector
  pub condemned_spoilt : Condemned n (controller c) v → Spoilt h c y
  condemned_spoilt e = orphan_rests (condemned_orphan e.by)

  pub spoilt_condemned : Spoilt h c y → Condemned n (controller c) v
  spoilt_condemned r = record { owner = r.on.owner; by = (orphan_condemned (rests_orphan r)).0 }
