-- A delivery begins an interval. Its vector tracks it: of another owner's pairs the larger covers both, since full ones have one
-- incarnation; and what it rests on of its own controller is stable or live, so below its own pair.
use Rattle.std.specs.Prelude.{◌≡◌, refl, Bool, true, false, ◌||◌, List, [], ◌∷◌, ◌⊎◌, ◌≢◌, ℕ, ◌+◌, ◌≤◌, ◌<◌}
use Rattle.std.proofs.Common.{sym, ◌∙◌, ap, eqb-true, ◌==◌}
use Rattle.std.proofs.Math.Path.{fun_ext}
use Rattle.std.proofs.lemmas.Bool.{false≢true, eqb-false}
use Rattle.std.proofs.Math.Logic.{inl, inr, ⊎_elim}
use native.Mathlib.Omega.{arith}
use Rattle.base.specs.Choice.{cond_ind, le?}
use Rattle.history.specs.History.{Interval, interval, History, changed_at, those, joined, leaving, capping, beginning, delivering}
use Rattle.model.specs.Model.{Pair, pair, interval_of, Vec, Controller, full, filtered, larger, merged_for, begin_controller}
use Rattle.model.specs.Tests.{Is}
use Rattle.model.proofs.Tests.{or_cases, or_first, or_second, changed_at_ind, changed_at_same, changed_at_other}
use Rattle.model.proofs.Chain.{OnChain}
use Rattle.model.proofs.Invariant.{Spoilt, Covers, Tracks, InOrder, ControllerOk, Settled, live_or_spoilt, knows_on, spoilt_up, some_live, newest_is}
use Rattle.model.proofs.Vectors.{filtered_tracks, larger_ind, larger_first, larger_second}
use Rattle.model.proofs.Growing.{Grows, grown, grown_ext}
use Rattle.model.specs.Beginning.{Compatible}

-- nothing leaves the chain
abbrev pub every : Interval → Bool
every y = true

-- every interval of a list passes
those_every : (l : List Interval) → those every l ≡ l
unfolding those
those_every [] = refl
those_every (y ∷ l) = ap (λ q. y ∷ q) (those_every l)

-- a history in which nothing leaves
leaving_none : (h : History) (c : ℕ) → leaving h c every ≡ h
unfolding leaving
leaving_none h c =
    λ d.
    record {
      degree = h.degree;
      incarnation = h.incarnation;
      chain = same d;
      heard = h.heard;
      receiver = h.receiver;
      sending = h.sending;
      begun = h.begun;
      rests = h.rests;
      stable = h.stable;
      lost = h.lost;
      gap = h.gap;
      flagged = h.flagged;
    }
  where
    same : changed_at h.chain c (those every (h.chain c)) ≡ h.chain
    same = fun_ext (changed_at_ind (λ b l. l ≡ h.chain b) h.chain c (those every (h.chain c)) (those_every (h.chain c)) (λ b ne. refl))

-- a message from interval s with vector w, not condemned and not in conflict, comes to controller c, which is k
pub record Begins (n : ℕ) (h : History) (c : ℕ) (k : Controller) (w : Vec) (s : Interval) : Type 0 where
  pub order : InOrder n h
  pub ok : ControllerOk h c k
  pub settled : Settled h c k
  pub below : c < n
  pub from_begun : Is (h.begun s)
  pub from_tracked : Tracks h w s
  pub from_clean : Spoilt h c s → ⊥
  pub one : Compatible n c (filtered k (k.vec k.live)) (filtered k w)

module _ {n : ℕ} {h : History} {c : ℕ} {k : Controller} {w : Vec} {s : Interval} (B : Begins n h c k w s) where
  open B use {order, ok, settled, below, from_begun, from_tracked, from_clean, one}

  -- the highest live number
  abbrev live : ℕ
  live = k.live

  -- the newest interval
  abbrev last : Interval
  last = interval c (k.begun_in live) live

  -- the new interval in its own vector
  abbrev own : Pair
  own = pair k.incarnation (live + 1)

  -- what the new interval rests on, besides itself
  pub rests_on : Interval → Bool
  rests_on j = h.rests last j || h.rests s j

  -- it is what the newest interval or the sending one rests on
  rests_either : (j : Interval) → Is (rests_on j) → Is (h.rests last j) ⊎ Is (h.rests s j)
  unfolding rests_on
  rests_either j = or_cases (h.rests last j) (h.rests s j)

  -- from the newest interval
  by_last : (j : Interval) → Is (h.rests last j) → Is (rests_on j)
  unfolding rests_on
  by_last j = or_first (h.rests last j) (h.rests s j)

  -- from the sending interval
  by_sender : (j : Interval) → Is (h.rests s j) → Is (rests_on j)
  unfolding rests_on
  by_sender j = or_second (h.rests last j) (h.rests s j)

  -- there is a live interval
  live_pos : 1 ≤ live
  live_pos = some_live ok.shape

  -- the newest interval is begun
  last_begun : Is (h.begun last)
  last_begun = ok.body.live_begun live live_pos (omega arith)

  -- what the new interval will rest on is begun
  rests_begun : (j : Interval) → Is (rests_on j) → Is (h.begun j)
  rests_begun j e = ⊎_elim (order.rests_begun last j last_begun) (order.rests_begun s j from_begun) (rests_either j e)

  -- and not spoilt, since neither the newest nor the sending interval is
  rests_clean : (j : Interval) → Is (rests_on j) → Spoilt h c j → ⊥
  rests_clean j e l =
      ⊎_elim (λ q. settled.live_clean live live_pos (omega arith) (spoilt_up order last_begun q l))
      (λ q. from_clean (spoilt_up order from_begun q l)) (rests_either j e)

  -- an interval of c itself is stable, or live and so below the new one
  own_cover : (j : Interval) → j.owner ≡ c → Is (rests_on j) → Is (h.stable j) ⊎ Covers own j
  own_cover j e r = ⊎_elim still_live (λ q. absurd (rests_clean j r q)) (live_or_spoilt order ok j e (rests_begun j r))
    where
      still_live : OnChain c k.begun_in live j → Is (h.stable j) ⊎ Covers own j
      still_live o =
          let top = o.top in
          le? j.number k.stable (λ l. inl (rw o.is (ok.body.stable_upto j.number o.pos l)))
          (λ l. inr (record {
            same = sym (ok.shape.current_from j.number (omega arith) top) ∙ ap (λ z. z.incarnation) (sym o.is);
            upto = omega arith;
          }))

  -- the newest vector, filtered
  abbrev ours : Vec
  ours = filtered k (k.vec live)

  -- the message's vector, filtered
  abbrev theirs : Vec
  theirs = filtered k w

  -- it tracks the newest interval
  ours_tracked : Tracks h ours last
  ours_tracked = filtered_tracks k (k.vec live) last order ok.knows last_begun (ok.body.tracked live live_pos (omega arith))

  -- it tracks the sending interval
  theirs_tracked : Tracks h theirs s
  theirs_tracked = filtered_tracks k w s order ok.knows from_begun from_tracked

  -- the new interval
  abbrev new : Interval
  new = interval c k.incarnation (live + 1)

  -- a full pair of the merged vector is the new interval, or a pair of one of the two
  merged_sound : (a : ℕ) → Is (full (merged_for c own ours theirs a)) →
      (interval_of a (merged_for c own ours theirs a) ≡ new) ⊎ Is (rests_on (interval_of a (merged_for c own ours theirs a)))
  unfolding merged_for
  merged_sound a =
      cond_ind (λ q. Is (full q) → (interval_of a q ≡ new) ⊎ Is (rests_on (interval_of a q))) (a == c)
      (λ e f. inl (ap (λ z. interval z k.incarnation (live + 1)) (eqb-true a c e)))
      (λ e. larger_ind (λ q. Is (full q) → (interval_of a q ≡ new) ⊎ Is (rests_on (interval_of a q))) (ours a) (theirs a)
      (λ f. inr (by_last _ (ours_tracked.sound a f))) (λ f. inr (by_sender _ (theirs_tracked.sound a f))))

  -- what the new interval will rest on is stable or covered: of c by the own pair, of others by the larger one
  merged_cover : (j : Interval) → Is (rests_on j) → Is (h.stable j) ⊎ Covers (merged_for c own ours theirs j.owner) j
  unfolding merged_for
  merged_cover j r =
      cond_ind (λ q. Is (h.stable j) ⊎ Covers q j) (j.owner == c) (λ f. own_cover j (eqb-true j.owner c f) r)
      (λ f. other (eqb-false j.owner c f))
    where
      other : j.owner ≢ c → Is (h.stable j) ⊎ Covers (larger (ours j.owner) (theirs j.owner)) j
      other ne =
          let a = j.owner in
          let b = rests_begun j r in
          let pos = order.number_pos j b in
          let same = one a (order.owner_below j b) ne in
          ⊎_elim (λ e. ⊎_elim (λ z. inl z) (λ z. inr (larger_first (ours a) (theirs a) j pos same z)) (ours_tracked.cover j e))
          (λ e. ⊎_elim (λ z. inl z) (λ z. inr (larger_second (ours a) (theirs a) j pos same z)) (theirs_tracked.cover j e)) (rests_either j r)

  -- the new interval is covered by its own pair
  merged_own : Covers (merged_for c own ours theirs c) new
  unfolding merged_for
  merged_own = cond_ind (λ q. Covers q new) (c == c) (λ e. record { same = refl; upto = omega arith }) (λ e. absurd (eqb-false c c e refl))

  -- so the chain grows by the new interval, and nothing leaves it
  pub begins_grows : Grows n h c k (begin_controller c k w) live every rests_on false (merged_for c own ours theirs)
  unfolding begin_controller
  begins_grows =
      let sh = ok.shape in
      record {
        order = order;
        ok = ok;
        below = below;
        pos = live_pos;
        fits = omega arith;
        cut = those_every (h.chain c) ∙ sh.chain_is;
        clean = settled.live_clean;
        gone = λ x p q. absurd (omega arith);
        live_is = refl;
        degree_is = refl;
        ends_is = refl;
        begun_in_old = λ x l. changed_at_other _ _ _ _ (λ e. omega arith);
        begun_in_new = changed_at_same _ _ _;
        vec_old = λ x l. changed_at_other _ _ _ _ (λ e. omega arith);
        flagged_old = λ x l. changed_at_other _ _ _ _ (λ e. omega arith);
        flagged_new = changed_at_same _ _ _;
        newer = omega arith;
        no_end = settled.not_ended;
        current = ok.body.current_live;
        stable_pos = sh.stable_pos;
        stable_le = omega (arith, sh.stable_le);
        current_from = sh.current_from;
        stable_kept = λ x l. (λ q. q, λ q. q);
        stable_joined = (λ l. absurd (omega (arith, sh.stable_le)), λ e. absurd (false≢true e));
        r_last = by_last;
        r_begun = rests_begun;
        r_trans = λ p q e f.
            ⊎_elim (λ z. by_last q (order.rests_trans last p q last_begun z f)) (λ z. by_sender q (order.rests_trans s p q from_begun z f))
            (rests_either p e);
        r_clean = rests_clean;
        vec_new = changed_at_same _ _ _;
        sound = merged_sound;
        cover = merged_cover;
        own = merged_own;
      }

  -- the controller is in order again
  pub begun_controller : ControllerOk (joined (leaving h c every) c new rests_on false) c (begin_controller c k w)
  unfolding begin_controller
  begun_controller = grown begins_grows (knows_on (grown_ext begins_grows) ok.knows)

  -- the history is fed just this, and a checkpoint where it is forced
  pub delivering_is : (m : ℕ) → h.receiver m ≡ c → h.sending m ≡ s → delivering h m ≡ capping (joined (leaving h c every) c new rests_on false) c
  unfolding delivering beginning rests_on
  delivering_is m p q = rw (p, q, ok.shape.incarnation_is, newest_is ok.shape, leaving_none h c)
