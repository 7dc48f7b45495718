-- A controller's chain is cut after number j and grows by number j + 1. A delivery cuts nothing; a crash and a rollback cut what
-- is spoilt. What the two have in common is proved here once: the controller's part of the invariant holds again.
use Rattle.std.specs.Prelude.{◌≡◌, refl, Bool, false, ◌∷◌, ◌⊎◌, ◌≢◌, ◌↔◌, ℕ, ◌+◌, ◌≤◌, ◌<◌}
use Rattle.std.proofs.Math.Path.{sym, ap}
use Rattle.std.proofs.Common.{◌∙◌, subst, inl, inr, arith}
use Rattle.std.proofs.Math.Logic.{⊎_elim}
use Rattle.history.specs.History.{Interval, interval, History, those, joined, leaving}
use Rattle.base.specs.Choice.{le?}
use Rattle.model.specs.Model.{interval_of, Vec, Controller, full}
use Rattle.model.specs.Tests.{Is}
use Rattle.model.proofs.Tests.{eq?, changed_at_same}
use Rattle.model.proofs.Chain.{chain_of, chain_cong, chain_more}
use Rattle.model.proofs.Invariant.{Spoilt, Covers, Tracks, InOrder, Knows, Shape, Body, Ends, ControllerOk, Settled, Flags, Ext, Frame, tracks_on, spoilt_on, spoilt_by}
use Rattle.model.proofs.Joining.{Joins, fresh, new_begun, begun_cases, new_stable, old_stable, new_flagged, old_flagged, rests_cases, new_self, new_rests, joined_ext, joined_frame, joined_back, joined_order}

-- controller c, which is k, becomes k': of its chain the test `kept` leaves the numbers up to j, and number j + 1 joins, which rests on what r
-- says, is stable if s says so, and has vector w
pub record Grows (n : ℕ) (h : History) (c : ℕ) (k k' : Controller) (j : ℕ) (kept r : Interval → Bool) (s : Bool) (w : Vec) : Type 0 where
  pub order : InOrder n h
  pub ok : ControllerOk h c k
  pub below : c < n
  -- what is left is not spoilt, and what leaves is
  pub pos : 1 ≤ j
  pub fits : j ≤ k.live
  pub cut : those kept (h.chain c) ≡ chain_of c k.begun_in j
  pub clean : (x : ℕ) → 1 ≤ x → x ≤ j → Spoilt h c (interval c (k.begun_in x) x) → ⊥
  pub gone : (x : ℕ) → j < x → x ≤ k.live → Spoilt h c (interval c (k.begun_in x) x)
  -- the new controller, next to the old one
  pub live_is : k'.live ≡ j + 1
  pub degree_is : k'.degree ≡ k.degree
  pub ends_is : k'.ends ≡ k.ends
  pub begun_in_old : (x : ℕ) → x ≤ j → k'.begun_in x ≡ k.begun_in x
  pub begun_in_new : k'.begun_in (j + 1) ≡ k'.incarnation
  pub vec_old : (x : ℕ) → x ≤ j → k'.vec x ≡ k.vec x
  pub flagged_old : (x : ℕ) → x ≤ j → k'.flagged x ≡ k.flagged x
  pub flagged_new : k'.flagged (j + 1) ≡ false
  -- its incarnation has not ended, and what is begun in it is left on the chain
  pub newer : k.incarnation ≤ k'.incarnation
  pub no_end : k.ends c k'.incarnation ≡ 0
  pub current : (x : ℕ) → Is (h.begun (interval c k'.incarnation x)) → (x ≤ j) × (k.begun_in x ≡ k'.incarnation)
  -- its stable count
  pub stable_pos : 1 ≤ k'.stable
  pub stable_le : k'.stable ≤ j + 1
  pub current_from : (x : ℕ) → k'.stable ≤ x → x ≤ j → k.begun_in x ≡ k'.incarnation
  pub stable_kept : (x : ℕ) → x ≤ j → (x ≤ k'.stable) ↔ (x ≤ k.stable)
  pub stable_joined : (j + 1 ≤ k'.stable) ↔ Is s
  -- what the new interval rests on
  pub r_last : (q : Interval) → Is (h.rests (interval c (k.begun_in j) j) q) → Is (r q)
  pub r_begun : (q : Interval) → Is (r q) → Is (h.begun q)
  pub r_trans : (p q : Interval) → Is (r p) → Is (h.rests p q) → Is (r q)
  pub r_clean : (q : Interval) → Is (r q) → Spoilt h c q → ⊥
  -- its vector
  pub vec_new : k'.vec (j + 1) ≡ w
  pub sound : (a : ℕ) → Is (full (w a)) →
      (interval_of a (w a) ≡ interval c k'.incarnation (j + 1)) ⊎ Is (r (interval_of a (w a)))
  pub cover : (q : Interval) → Is (r q) → Is (h.stable q) ⊎ Covers (w q.owner) q
  pub own : Covers (w c) (interval c k'.incarnation (j + 1))

module _ {n : ℕ} {h : History} {c : ℕ} {k k' : Controller} {j : ℕ} {kept r : Interval → Bool} {s : Bool} {w : Vec} (G : Grows n h c k k' j kept r s w) where
  open G use {order, ok, below, pos, fits, cut, clean, gone}
  open G use {live_is, degree_is, ends_is, begun_in_old, begun_in_new, vec_old, flagged_old, flagged_new, newer, no_end, current}
  open G use {stable_pos, stable_le, current_from, stable_kept, stable_joined}
  open G use {r_last, r_begun, r_trans, r_clean, vec_new, sound, cover, own}

  -- the new interval
  abbrev new : Interval
  new = interval c k'.incarnation (j + 1)

  -- the history after it has joined
  abbrev h' : History
  h' = joined (leaving h c kept) c new r s

  -- it joins: by `current` it is new, with the highest number of its incarnation
  joins : Joins n h new r
  joins =
      record {
        order = order;
        below = below;
        pos = omega arith;
        above = λ y b. let z = current y b in omega arith;
        r_begun = r_begun;
        r_trans = r_trans;
      }

  -- the history is later
  pub grown_ext : Ext h h'
  grown_ext = joined_ext kept s joins

  -- it is in order
  pub grown_order : InOrder n h'
  grown_order = joined_order kept s joins

  -- it says no more of other controllers
  pub grown_frame : (b : ℕ) → b ≢ c → Frame h h' b
  grown_frame = joined_frame kept s joins

  -- an old interval is spoilt only if it was
  pub grown_back : (b : ℕ) (q : Interval) → Is (h.begun q) → Spoilt h' b q → Spoilt h b q
  grown_back = joined_back kept s joins

  -- what is begun is the new interval or was begun
  pub grown_cases : (q : Interval) → Is (h'.begun q) → (q ≡ new) ⊎ Is (h.begun q)
  grown_cases = begun_cases kept s joins

  -- the new interval is begun
  pub grown_new : Is (h'.begun new)
  grown_new = new_begun kept s joins

  -- it is stable if s says so
  pub grown_stable : h'.stable new ≡ s
  grown_stable = new_stable kept s joins

  -- what holds of the new number and of the old ones holds of every number of the new chain
  numbers : (P : ℕ → ℕ → Type 0) → P (j + 1) k'.incarnation → ((x : ℕ) → 1 ≤ x → x ≤ j → P x (k.begun_in x)) →
      (x : ℕ) → 1 ≤ x → x ≤ k'.live → P x (k'.begun_in x)
  numbers P f g x a b =
      eq? x (j + 1) (λ e. rw (e, begun_in_new) f)
      (λ ne. let l : x ≤ j = omega (arith, live_is) in rw (begun_in_old x l) (g x a l))

  -- the numbers that are left were begun
  live_old : (x : ℕ) → 1 ≤ x → x ≤ j → Is (h.begun (interval c (k.begun_in x) x))
  live_old x a b = ok.body.live_begun x a (omega (arith, fits))

  -- the chain is the one that is left, and the new interval on top
  grown_shape : Shape h' c k'.incarnation k'.degree k'.live k'.stable k'.begun_in
  unfolding joined leaving
  grown_shape =
      record {
        incarnation_is = changed_at_same _ _ _;
        degree_is = ok.shape.degree_is ∙ sym degree_is;
        chain_is =
            changed_at_same _ _ _ ∙ ap (λ l. new ∷ l) (changed_at_same _ _ _ ∙ cut ∙ chain_cong c k.begun_in k'.begun_in j (λ x l. sym (begun_in_old x l)))
            ∙ longer;
        stable_pos = stable_pos;
        stable_le = omega (arith, live_is, stable_le);
        current_from = λ x a b.
            numbers (λ x v. k'.stable ≤ x → v ≡ k'.incarnation) (λ a. refl) (λ x p q a. current_from x a q) x (omega (arith, stable_pos)) b a;
      }
    where
      longer : new ∷ chain_of c k'.begun_in j ≡ chain_of c k'.begun_in k'.live
      longer = rw (live_is, chain_more c k'.begun_in j, begun_in_new)

  -- a number that is left is not the new interval's
  below_new : (x : ℕ) → x ≤ j → interval c (k.begun_in x) x ≢ new
  below_new x b e = let q : x ≡ j + 1 = ap (λ z. z.number) e in omega arith

  -- its vector tracks the new interval
  tracked_new : Tracks h' w new
  tracked_new =
      record {
        sound = λ a f. ⊎_elim (λ e. rw e (new_self kept s joins)) (new_rests kept s joins _) (sound a f);
        cover = λ q e.
            ⊎_elim (λ z. inr (rw z own)) (λ z. ⊎_elim (λ w. inl (grown_ext.stable_stays q w)) (λ w. inr w) (cover q z))
            (rests_cases kept s joins q e);
      }

  -- the intervals of c: the new one rests on all that are left, and none of them rests on it
  grown_body : Body h' c k'.incarnation k'.live k'.stable k'.begun_in k'.vec
  grown_body =
      let bo = ok.body in
      record {
        live_begun = numbers (λ x v. Is (h'.begun (interval c v x))) grown_new (λ x a b. grown_ext.begun_stays _ (live_old x a b));
        stable_upto = λ x a l.
            numbers (λ x v. x ≤ k'.stable → Is (h'.stable (interval c v x))) (λ l. grown_stable ∙ stable_joined.0 l)
            (λ x a b l. grown_ext.stable_stays _ (bo.stable_upto x a ((stable_kept x b).0 l))) x a (omega (arith, live_is, stable_le)) l;
        stable_only =
            numbers (λ x v. Is (h'.stable (interval c v x)) → x ≤ k'.stable) (λ z. stable_joined.1 (sym grown_stable ∙ z))
            (λ x a b z. (stable_kept x b).1 (bo.stable_only x a (omega (arith, fits)) (sym (old_stable kept s joins _ (below_new x b)) ∙ z)));
        begun_le = λ i x z.
            ⊎_elim (λ e. let q : i ≡ k'.incarnation = ap (λ z. z.incarnation) e in omega arith)
            (λ b. let q = bo.begun_le i x b in omega (arith, newer)) (grown_cases _ z);
        current_live = λ x z. current' x (grown_cases _ z);
        rests_below = λ x y a b d.
            numbers (λ y v. (x : ℕ) → 1 ≤ x → x ≤ y → Is (h'.rests (interval c v y) (interval c (k'.begun_in x) x)))
            (λ x a b. numbers (λ x v. Is (h'.rests new (interval c v x))) (new_self kept s joins)
            (λ x a b. new_rests kept s joins _ (r_last _ (bo.rests_below x j a b fits))) x a (omega (arith, live_is)))
            (λ y a b x d f. rw (begun_in_old x (omega arith))
            (grown_ext.rests_same _ _ (live_old y a b) ∙ bo.rests_below x y d f (omega (arith, fits))))
            y (omega arith) d x a b;
        rests_order = λ x y a b d f.
            numbers (λ y v. Is (h'.rests (interval c v y) (interval c (k'.begun_in x) x)) → x ≤ y) (λ z. omega (arith, live_is))
            (λ y d f z. let yb = live_old y d f in order' x y a b d f (sym (grown_ext.rests_same _ _ yb) ∙ z)) y d f;
        first_alone = rw (begun_in_old 1 pos) (λ q z. bo.first_alone q (sym (grown_ext.rests_same _ _ (live_old 1 (omega arith) pos)) ∙ z));
        tracked = λ x a b.
            eq? x (j + 1) (λ e. rw (e, begun_in_new, vec_new) tracked_new)
            (λ ne. let l : x ≤ j = omega (arith, live_is) in
            rw (begun_in_old x l, vec_old x l) (tracks_on grown_ext _ _ (live_old x a l) (bo.tracked x a (omega (arith, fits)))));
      }
    where
      current' : (x : ℕ) → (interval c k'.incarnation x ≡ new) ⊎ Is (h.begun (interval c k'.incarnation x)) →
          (x ≤ k'.live) × (k'.begun_in x ≡ k'.incarnation)
      current' x (inl e) = let z : x ≡ j + 1 = ap (λ q. q.number) e in (omega (arith, live_is), rw z begun_in_new)
      current' x (inr e) = let (u, v) = current x e in (omega (arith, live_is), begun_in_old x u ∙ v)

      order' : (x y : ℕ) → 1 ≤ x → x ≤ k'.live → 1 ≤ y → y ≤ j →
          Is (h.rests (interval c (k.begun_in y) y) (interval c (k'.begun_in x) x)) → x ≤ y
      order' x y a b d f =
          numbers (λ x v. Is (h.rests (interval c (k.begun_in y) y) (interval c v x)) → x ≤ y)
          (λ z. absurd (fresh kept s joins (order.rests_begun _ _ (live_old y d f) z)))
          (λ x a b z. ok.body.rests_order x y a (omega (arith, fits)) d (omega (arith, fits)) z) x a b

  -- the end words of c stay; an interval that left the chain is spoilt
  grown_ends : Ends h' c k'.incarnation k'.live k'.begun_in k'.ends
  unfolding joined leaving
  grown_ends =
      rw ends_is (let d = ok.ended in
      record {
        heard_end = d.heard_end;
        end_heard = d.end_heard;
        lost_above = λ i x u l. let (v, w, y, z) = d.lost_above i x u l in (v, grown_ext.begun_stays _ w, y, z);
        above_lost = λ i x b e l. d.above_lost i x (before i x (grown_cases _ b) e) e l;
        end_le = λ i l. let z = d.end_le i l in omega (arith, newer);
        end_begun = λ i e. grown_ext.begun_stays _ (d.end_begun i e);
        end_stable = λ i x b e l. grown_ext.stable_stays _ (d.end_stable i x (before i x (grown_cases _ b) e) e l);
        live_or_spoilt = λ i x b. ⊎_elim (live' i x) (λ z. old' i x z (d.live_or_spoilt i x z)) (grown_cases _ b);
      })
    where
      -- an interval of an incarnation that has ended is an old one
      before : (i x : ℕ) → (interval c i x ≡ new) ⊎ Is (h.begun (interval c i x)) → 1 ≤ k.ends c i → Is (h.begun (interval c i x))
      before i x (inl e) l =
          let z : i ≡ k'.incarnation = ap (λ q. q.incarnation) e in
          let l' : 1 ≤ k.ends c k'.incarnation = rw z at l in
          absurd (omega (arith, no_end))
      before i x (inr b) l = b

      live' : (i x : ℕ) → interval c i x ≡ new → ((x ≤ k'.live) × (k'.begun_in x ≡ i)) ⊎ Spoilt h' c (interval c i x)
      live' i x e =
          let z : i ≡ k'.incarnation = ap (λ q. q.incarnation) e in
          let y : x ≡ j + 1 = ap (λ q. q.number) e in
          inl (omega (arith, live_is), rw (y, z) begun_in_new)

      old' : (i x : ℕ) → Is (h.begun (interval c i x)) → ((x ≤ k.live) × (k.begun_in x ≡ i)) ⊎ Spoilt h c (interval c i x) →
          ((x ≤ k'.live) × (k'.begun_in x ≡ i)) ⊎ Spoilt h' c (interval c i x)
      old' i x b (inl u) =
          let u0 = u.0 in
          le? x j (λ l. inl (omega (arith, live_is), begun_in_old x l ∙ u.1)) (λ l. inr (spoilt_on grown_ext b (rw u.1 at (gone x l u0))))
      old' i x b (inr l) = inr (spoilt_on grown_ext b l)

  -- the new interval is not spoilt: it was not lost, and what it rests on is not spoilt
  clean_new : Spoilt h' c new → ⊥
  unfolding joined leaving
  clean_new l = ⊎_elim was_lost rests_lost (rests_cases kept s joins _ l.rests)
    where
      lost_begun : Is (h.begun l.on)
      lost_begun = order.lost_begun _ _ l.lost

      was_lost : l.on ≡ new → ⊥
      was_lost e = fresh kept s joins (subst (λ z. Is (h.begun z)) e lost_begun)

      rests_lost : Is (r l.on) → ⊥
      rests_lost e = r_clean l.on e (spoilt_by l (order.rests_self _ lost_begun) l.lost l.heard)

  -- the controller is in order, if its known words are
  pub grown : Knows h' k'.known → ControllerOk h' c k'
  grown known = record { shape = grown_shape; body = grown_body; knows = known; ended = grown_ends }

  -- and the new incarnation has not ended, nor is any live interval spoilt
  pub grown_settled : Settled h' c k'
  grown_settled =
      record {
        not_ended = ap (λ e. e c k'.incarnation) ends_is ∙ no_end;
        live_clean = numbers (λ x v. Spoilt h' c (interval c v x) → ⊥) clean_new (λ x a b l. clean x a b (grown_back c _ (live_old x a b) l));
      }

  -- what is left keeps its flags, and the new interval has none
  pub grown_flags : Flags h c k → Flags h' c k'
  grown_flags f =
      numbers (λ x v. h'.flagged (interval c v x) ≡ k'.flagged x) (new_flagged kept s joins ∙ sym flagged_new)
      (λ x a b. old_flagged kept s joins _ (below_new x b) ∙ f x a (omega (arith, fits)) ∙ sym (flagged_old x b))
