-- Starting anew after kept number j, all kept being stable. The new interval's vector tracks it: what the kept newest one rests on
-- of its own controller is kept, so stable.
use Rattle.std.specs.Prelude.{◌≡◌, Bool, true, ◌⊎◌, ℕ, ◌+◌, ◌≤◌, ◌<◌}
use Rattle.std.proofs.Math.Path.{refl, ap}
use Rattle.std.proofs.Common.{◌∙◌, subst, eqb-true, eq-eqb, le-leb, ◌==◌}
use Rattle.std.proofs.Math.Logic.{inl, inr, ⊎_elim}
use native.Mathlib.Omega.{arith}
use Rattle.std.proofs.lemmas.Bool.{eqb-false, lt-leb}
use Rattle.base.specs.Choice.{cond_ind, le?}
use Rattle.history.specs.History.{Interval, interval, History, newest, those, joined, leaving, capping, beginning, restarting}
use Rattle.model.specs.Model.{interval_of, Controller, full, filtered, renewed, new_vec, anew_controller}
use Rattle.model.specs.Tests.{Is}
use Rattle.model.proofs.Tests.{changed_at_same}
use Rattle.model.proofs.Chain.{chain_of, OnChain, newest_chain}
use Rattle.model.proofs.Invariant.{Spoilt, Covers, Tracks, InOrder, ControllerOk, live_or_spoilt, knows_on, spoilt_up}
use Rattle.model.proofs.Vectors.{filtered_tracks}
use Rattle.model.proofs.Knowing.{knows_set}
use Rattle.model.proofs.Growing.{Grows, grown, grown_ext, grown_cases, grown_new, grown_stable}

-- what a new start keeps
pub renewed_old : {A : Type 0} (j : ℕ) (new none : A) (f : ℕ → A) (x : ℕ) → x ≤ j → renewed j new none f x ≡ f x
unfolding renewed
renewed_old j new none f x l = rw (le-leb x j l)

-- what it gives to the new number
pub renewed_new : {A : Type 0} (j : ℕ) (new none : A) (f : ℕ → A) → renewed j new none f (j + 1) ≡ new
unfolding renewed
renewed_new j new none f = rw (lt-leb (j + 1) j (omega arith), eq-eqb (j + 1) (j + 1) refl)

-- controller c, which is k, starts anew after number j, the test `kept` leaves the numbers up to j
pub record Renews (n : ℕ) (h : History) (c : ℕ) (k : Controller) (j : ℕ) (kept : Interval → Bool) : Type 0 where
  pub order : InOrder n h
  pub ok : ControllerOk h c k
  pub below : c < n
  pub pos : 1 ≤ j
  pub stable : j ≤ k.stable
  pub cut : those kept (h.chain c) ≡ chain_of c k.begun_in j
  pub clean : (x : ℕ) → 1 ≤ x → x ≤ j → Spoilt h c (interval c (k.begun_in x) x) → ⊥
  pub gone : (x : ℕ) → j < x → x ≤ k.live → Spoilt h c (interval c (k.begun_in x) x)

module _ {n : ℕ} {h : History} {c : ℕ} {k : Controller} {j : ℕ} {kept : Interval → Bool} (R : Renews n h c k j kept) where
  open R use {order, ok, below, pos, stable, cut, clean, gone}

  -- the newest that is kept
  abbrev last : Interval
  last = interval c (k.begun_in j) j

  -- the new interval
  abbrev new : Interval
  new = interval c (k.incarnation + 1) (j + 1)

  -- what is kept is live
  fits : j ≤ k.live
  fits = omega (arith, stable, ok.shape.stable_le)

  -- the newest that is kept is begun
  last_begun : Is (h.begun last)
  last_begun = ok.body.live_begun j pos fits

  -- nothing is begun in the new incarnation
  none : {A : Type 0} (x : ℕ) → Is (h.begun (interval c (k.incarnation + 1) x)) → A
  none x b = let z = ok.body.begun_le (k.incarnation + 1) x b in absurd (omega arith)

  -- what it rests on is not spoilt, since it is not
  rests_clean : (q : Interval) → Is (h.rests last q) → Spoilt h c q → ⊥
  rests_clean q r l = clean j pos (omega arith) (spoilt_up order last_begun r l)

  -- an interval of c that it rests on is live, so below it, so stable
  own_stable : (q : Interval) → q.owner ≡ c → Is (h.rests last q) → Is (h.stable q)
  own_stable q e r = ⊎_elim still_live (λ l. absurd (rests_clean q r l)) (live_or_spoilt order ok q e (order.rests_begun last q last_begun r))
    where
      still_live : OnChain c k.begun_in k.live q → Is (h.stable q)
      still_live o =
          let l = ok.body.rests_order q.number j o.pos o.top pos fits (subst (λ z. Is (h.rests last z)) o.is r) in
          rw o.is (ok.body.stable_upto q.number o.pos (omega (arith, stable)))

  -- its vector, filtered, tracks it
  kept_tracked : Tracks h (filtered k (k.vec j)) last
  kept_tracked = filtered_tracks k (k.vec j) last order ok.knows last_begun (ok.body.tracked j pos fits)

  -- a full pair of the new vector is the new interval, or a pair of the kept one
  new_sound : (a : ℕ) → Is (full (new_vec c k j a)) →
      (interval_of a (new_vec c k j a) ≡ new) ⊎ Is (h.rests last (interval_of a (new_vec c k j a)))
  unfolding new_vec
  new_sound a =
      cond_ind (λ q. Is (full q) → (interval_of a q ≡ new) ⊎ Is (h.rests last (interval_of a q))) (a == c)
      (λ e f. inl (ap (λ z. interval z (k.incarnation + 1) (j + 1)) (eqb-true a c e))) (λ e f. inr (kept_tracked.sound a f))

  -- what the new interval will rest on is stable or covered
  new_cover : (q : Interval) → Is (h.rests last q) → Is (h.stable q) ⊎ Covers (new_vec c k j q.owner) q
  unfolding new_vec
  new_cover q r =
      cond_ind (λ p. Is (h.stable q) ⊎ Covers p q) (q.owner == c) (λ e. inl (own_stable q (eqb-true q.owner c e) r))
      (λ e. kept_tracked.cover q r)

  -- the new interval is covered by its own pair
  new_own : Covers (new_vec c k j c) new
  unfolding new_vec
  new_own = cond_ind (λ q. Covers q new) (c == c) (λ e. record { same = refl; upto = omega arith }) (λ e. absurd (eqb-false c c e refl))

  -- so the chain grows by the new interval after the cut
  pub renews_grows : Grows n h c k (anew_controller c k j) j kept (h.rests last) true (new_vec c k j)
  unfolding anew_controller
  renews_grows =
      record {
        order = order;
        ok = ok;
        below = below;
        pos = pos;
        fits = fits;
        cut = cut;
        clean = clean;
        gone = gone;
        live_is = refl;
        degree_is = refl;
        ends_is = refl;
        begun_in_old = λ x l. renewed_old j _ _ k.begun_in x l;
        begun_in_new = renewed_new j _ _ k.begun_in;
        vec_old = λ x l. renewed_old j _ _ k.vec x l;
        flagged_old = λ x l. renewed_old j _ _ k.flagged x l;
        flagged_new = renewed_new j _ _ k.flagged;
        newer = omega arith;
        no_end = le? 1 (k.ends c (k.incarnation + 1)) (λ l. absurd (let z = ok.ended.end_le _ l in omega arith)) (λ l. omega arith);
        current = λ x b. none x b;
        stable_pos = omega arith;
        stable_le = omega arith;
        current_from = λ x p q. absurd (omega arith);
        stable_kept = λ x l. (λ q. omega (arith, stable), λ q. omega arith);
        stable_joined = (λ l. refl, λ e. omega arith);
        r_last = λ q r. r;
        r_begun = λ q r. order.rests_begun last q last_begun r;
        r_trans = λ p q e f. order.rests_trans last p q last_begun e f;
        r_clean = rests_clean;
        vec_new = renewed_new j _ _ k.vec;
        sound = new_sound;
        cover = new_cover;
        own = new_own;
      }

  -- the controller is in order again
  pub renewed_controller : ControllerOk (joined (leaving h c kept) c new (h.rests last) true) c (anew_controller c k j)
  unfolding anew_controller
  renewed_controller =
      grown renews_grows (knows_set c (k.incarnation + 1) (j + 1) (knows_on (grown_ext renews_grows) ok.knows)
      (record {
        begun = λ l. grown_new renews_grows;
        stable = λ x b l. ⊎_elim (λ e. rw e (grown_stable renews_grows)) (none x) (grown_cases renews_grows _ b);
      }))

  -- the history is fed just this, and a checkpoint where it is forced
  pub restarting_is : restarting (leaving h c kept) c ≡ capping (joined (leaving h c kept) c new (h.rests last) true) c
  unfolding restarting beginning leaving
  restarting_is =
      let last_is : newest ((leaving h c kept).chain c) ≡ last = ap newest (changed_at_same h.chain c _ ∙ cut) ∙ newest_chain c k.begun_in j pos in
      rw (ok.shape.incarnation_is, last_is)
