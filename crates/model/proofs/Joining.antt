-- An interval joins a chain, after some have left it: the history stays in order, is later, and says no more of the other
-- controllers.
use Rattle.std.specs.Prelude.{◌≡◌, refl, Bool, false, ◌||◌, ◌⊎◌, ◌≢◌, ℕ, ◌≤◌, ◌<◌}
use Rattle.std.proofs.Math.Path.{sym, ap}
use Rattle.std.proofs.Common.{◌∙◌, arith}
use Rattle.std.proofs.Math.Bool.{true}
use Rattle.std.proofs.Math.Logic.{inl, inr, ⊎_elim}
use Rattle.history.specs.History.{Interval, interval, History, same_interval, joined, leaving}
use Rattle.model.specs.Tests.{Is}
use Rattle.model.proofs.Tests.{or_cases, or_first, or_second, changed_at_other, same_interval_true, same_interval_refl, changed_at_interval_ind, changed_at_interval_same, changed_at_interval_other}
use Rattle.model.proofs.Invariant.{InOrder, Ext, Frame, Spoilt, spoilt_by}

-- interval y is new, its number the highest of its incarnation; what r says is begun, and closed under resting
pub record Joins (n : ℕ) (h : History) (y : Interval) (r : Interval → Bool) : Type 0 where
  pub order : InOrder n h
  pub below : y.owner < n
  pub pos : 1 ≤ y.number
  pub above : (x : ℕ) → Is (h.begun (interval y.owner y.incarnation x)) → x < y.number
  pub r_begun : (j : Interval) → Is (r j) → Is (h.begun j)
  pub r_trans : (j k : Interval) → Is (r j) → Is (h.rests j k) → Is (r k)

module _ {n : ℕ} {h : History} {y : Interval} {r : Interval → Bool} (kept : Interval → Bool) (s : Bool) (J : Joins n h y r) where
  open J use {order, below, pos, above, r_begun, r_trans}

  -- the history in which those that fail `kept` have left and y has joined
  abbrev h' : History
  h' = joined (leaving h y.owner kept) y.owner y r s

  -- the new interval was not begun before
  pub fresh : Is (h.begun y) → ⊥
  fresh b = let l = above y.number b in omega arith

  -- so a begun one is another
  not_new : (j : Interval) → Is (h.begun j) → j ≢ y
  not_new j b e = fresh (rw e at b)

  -- what is begun, stable, lost: the new interval and the old ones
  pub new_begun : Is (h'.begun y)
  unfolding joined leaving
  new_begun = changed_at_interval_same _ _ _

  -- what is begun is the new one or was begun
  pub begun_cases : (j : Interval) → Is (h'.begun j) → (j ≡ y) ⊎ Is (h.begun j)
  unfolding joined leaving
  begun_cases = changed_at_interval_ind (λ j b. Is b → (j ≡ y) ⊎ Is (h.begun j)) h.begun y true (λ e. inl refl) (λ j ne b. inr b)

  -- the new one is stable if s says so
  pub new_stable : h'.stable y ≡ s
  unfolding joined leaving
  new_stable = changed_at_interval_same _ _ _

  -- the others are stable if they were
  pub old_stable : (j : Interval) → j ≢ y → h'.stable j ≡ h.stable j
  unfolding joined leaving
  old_stable j ne = changed_at_interval_other h.stable y j _ ne

  -- what is stable is the new one or was stable
  stable_cases : (j : Interval) → Is (h'.stable j) → (j ≡ y) ⊎ Is (h.stable j)
  unfolding joined leaving
  stable_cases = changed_at_interval_ind (λ j b. Is b → (j ≡ y) ⊎ Is (h.stable j)) h.stable y s (λ e. inl refl) (λ j ne b. inr b)

  -- the new one is not flagged
  pub new_flagged : h'.flagged y ≡ false
  unfolding joined leaving
  new_flagged = changed_at_interval_same _ _ _

  -- the others are flagged if they were
  pub old_flagged : (j : Interval) → j ≢ y → h'.flagged j ≡ h.flagged j
  unfolding joined leaving
  old_flagged j ne = changed_at_interval_other h.flagged y j _ ne

  -- what is lost was lost
  old_lost : (j : Interval) (i : ℕ) → Is (h'.lost j i) → Is (h.lost j i)
  unfolding joined leaving
  old_lost j i l = l

  -- what the new interval rests on, and the old ones
  new_row : (j : Interval) → h'.rests y j ≡ (same_interval j y || r j)
  unfolding joined leaving
  new_row j = ap (λ f. f j) (changed_at_interval_same h.rests y (λ (j : Interval). same_interval j y || r j))

  -- the new one rests on itself, and on what r says
  pub rests_cases : (j : Interval) → Is (h'.rests y j) → (j ≡ y) ⊎ Is (r j)
  rests_cases j e = ⊎_elim (λ p. inl (same_interval_true j y p)) (λ p. inr p) (or_cases (same_interval j y) (r j) (sym (new_row j) ∙ e))

  -- it rests on itself
  pub new_self : Is (h'.rests y y)
  new_self = new_row y ∙ or_first (same_interval y y) (r y) (same_interval_refl y)

  -- it rests on what r says
  pub new_rests : (j : Interval) → Is (r j) → Is (h'.rests y j)
  new_rests j e = new_row j ∙ or_second (same_interval j y) (r j) e

  -- the others rest on what they did
  old_rests : (j k : Interval) → Is (h.begun j) → h'.rests j k ≡ h.rests j k
  unfolding joined leaving
  old_rests j k b = ap (λ f. f k) (changed_at_interval_other h.rests y j _ (not_new j b))

  -- the history is later
  pub joined_ext : Ext h h'
  unfolding joined leaving
  joined_ext =
      record {
        begun_stays = λ j b. changed_at_interval_other h.begun y j true (not_new j b) ∙ b;
        rests_same = old_rests;
        stable_stays = λ j e. old_stable j (not_new j (order.stable_begun j e)) ∙ e;
        lost_stays = λ j i l. l;
        heard_stays = λ b a i e. e;
        lost_before = λ j i e l. l;
        new_above = λ j b. ⊎_elim (λ e. inr (rw e (pos, above))) (λ e. inl e) (begun_cases j b);
      }

  -- it says no more of other controllers
  pub joined_frame : (c : ℕ) → c ≢ y.owner → Frame h h' c
  unfolding joined leaving
  joined_frame c ne =
      record {
        incarnation_same = changed_at_other _ _ _ _ ne;
        degree_same = refl;
        chain_same = changed_at_other _ _ _ _ ne ∙ changed_at_other _ _ _ _ ne;
        begun_same = λ i x b. sym (changed_at_interval_other h.begun y (interval c i x) true (λ e. ne (ap (λ z. z.owner) e))) ∙ b;
        stable_same = λ i x b e. sym (old_stable (interval c i x) (not_new _ b)) ∙ e;
        lost_same = λ i x u l. l;
        heard_same = λ a i e. e;
        flagged_same = λ i x. old_flagged (interval c i x) (λ e. ne (ap (λ z. z.owner) e));
      }

  -- an old interval is spoilt only if it was
  pub joined_back : (b : ℕ) (j : Interval) → Is (h.begun j) → Spoilt h' b j → Spoilt h b j
  unfolding joined leaving
  joined_back b j bj l = spoilt_by l (sym (old_rests j _ bj) ∙ l.rests) l.lost l.heard

  -- it is in order: what r says is closed under resting
  pub joined_order : InOrder n h'
  joined_order =
      record {
        owner_below = λ j b. ⊎_elim (λ e. rw e below) (order.owner_below j) (begun_cases j b);
        number_pos = λ j b. ⊎_elim (λ e. rw e pos) (order.number_pos j) (begun_cases j b);
        rests_self = λ j b. ⊎_elim (λ e. rw e new_self) (λ b. old_rests j j b ∙ order.rests_self j b) (begun_cases j b);
        rests_begun = λ j k b e. rests_begun' j k (begun_cases j b) e;
        rests_trans = λ j k l b e f. rests_trans' j k l (begun_cases j b) e f;
        stable_begun = λ j e. ⊎_elim (λ q. rw q new_begun) (λ z. joined_ext.begun_stays j (order.stable_begun j z)) (stable_cases j e);
        lost_begun = λ j i l. joined_ext.begun_stays j (order.lost_begun j i (old_lost j i l));
        stable_not_lost = λ j i e l. not_both j i (stable_cases j e) (old_lost j i l);
      }
    where
      into : (k : Interval) → (k ≡ y) ⊎ Is (r k) → Is (h'.begun k)
      into k (inl e) = rw e new_begun
      into k (inr p) = joined_ext.begun_stays k (r_begun k p)

      rests_begun' : (j k : Interval) → (j ≡ y) ⊎ Is (h.begun j) → Is (h'.rests j k) → Is (h'.begun k)
      rests_begun' j k (inl e) f = into k (rests_cases k (rw e at f))
      rests_begun' j k (inr b) f = joined_ext.begun_stays k (order.rests_begun j k b (sym (old_rests j k b) ∙ f))

      on : (k l : Interval) → (k ≡ y) ⊎ Is (r k) → Is (h'.rests k l) → Is (h'.rests y l)
      on k l (inl e) f = rw e at f
      on k l (inr p) f = new_rests l (r_trans k l p (sym (old_rests k l (r_begun k p)) ∙ f))

      rests_trans' : (j k l : Interval) → (j ≡ y) ⊎ Is (h.begun j) → Is (h'.rests j k) → Is (h'.rests k l) → Is (h'.rests j l)
      rests_trans' j k l (inl e) f g = rw e (on k l (rests_cases k (rw e at f)) g)
      rests_trans' j k l (inr b) f g =
          let f' = sym (old_rests j k b) ∙ f in
          old_rests j l b ∙ order.rests_trans j k l b f' (sym (old_rests k l (order.rests_begun j k b f')) ∙ g)

      not_both : (j : Interval) (i : ℕ) → (j ≡ y) ⊎ Is (h.stable j) → Is (h.lost j i) → ⊥
      not_both j i (inl e) l = fresh (rw e at (order.lost_begun j i l))
      not_both j i (inr z) l = order.stable_not_lost j i z l
