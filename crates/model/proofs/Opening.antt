-- The invariant holds of a house just opened.
use Rattle.std.specs.Prelude.{◌≡◌, ◌&&◌, ℕ, ◌<◌}
use Rattle.std.proofs.Math.Path.{refl, sym}
use Rattle.std.proofs.Common.{◌∙◌, ◌==◌}
use Rattle.std.proofs.lemmas.Bool.{false≢true}
use Rattle.std.proofs.Math.Logic.{inl}
use native.Mathlib.Omega.{arith}
use borrow.Author.Tests.{eqb-true, eq-eqb, ltb-true, lt-ltb}
use Rattle.base.specs.Choice.{◌<?◌, and_left, and_right, cond_ind}
use Rattle.history.specs.History.{Interval, interval, History, changed_at, same_interval, opening}
use Rattle.model.specs.Model.{pair, interval_of, Vec, Controller, full, open_controller, absent_controller, open_model}
use Rattle.model.specs.Tests.{Is}
use Rattle.model.proofs.Tests.{and_both, contrary, changed_at_ind, changed_at_same, same_interval_true, same_interval_refl}
use Rattle.model.proofs.Chain.{chain_of}
use Rattle.model.proofs.Invariant.{Tracks, InOrder, ControllerOk, Flags, Inv}
use Rattle.model.proofs.Vectors.{full_pos}
use Rattle.model.proofs.Knowing.{knows_set}

module _ (n k : ℕ) where
  -- the history of a house just opened
  abbrev h : History
  h = opening n k

  -- interval (0,1) of each controller is begun, and no other
  pub first_only : (y : Interval) → Is (h.begun y) → (y.owner < n) × (y.incarnation ≡ 0) × (y.number ≡ 1)
  unfolding opening
  first_only y e =
      let rest = and_right (y.owner <? n) ((y.incarnation == 0) && (y.number == 1)) e in (
        ltb-true y.owner n (and_left _ ((y.incarnation == 0) && (y.number == 1)) e),
        eqb-true y.incarnation 0 (and_left _ (y.number == 1) rest),
        eqb-true y.number 1 (and_right (y.incarnation == 0) _ rest),
      )

  -- and each of them is
  first_begun : (c i x : ℕ) → c < n → i ≡ 0 → x ≡ 1 → Is (h.begun (interval c i x))
  unfolding opening
  first_begun c i x l p q =
      and_both (c <? n) ((i == 0) && (x == 1)) (lt-ltb c n l) (and_both (i == 0) (x == 1) (eq-eqb i 0 p) (eq-eqb x 1 q))

  -- it is in order
  opening_order : InOrder n h
  unfolding opening
  opening_order =
      record {
        owner_below = λ y b. (first_only y b).0;
        number_pos = λ y b. let z = first_only y b in omega arith;
        rests_self = λ y b. same_interval_refl y;
        rests_begun = λ y j b e. rw (same_interval_true j y e) b;
        rests_trans = λ y j l b e f. rw (same_interval_true l j f) e;
        stable_begun = λ y s. s;
        lost_begun = λ y i l. absurd (false≢true l);
        stable_not_lost = λ y i s l. absurd (false≢true l);
      }

  -- the own pair (0,1) tracks the first interval, which is stable
  first_tracked : (c : ℕ) → c < n → Tracks h (changed_at (λ (a : ℕ). pair 0 0) c (pair 0 1)) (interval c 0 1)
  unfolding opening
  first_tracked c l =
      record {
        sound =
            changed_at_ind (λ a q. Is (full q) → Is (same_interval (interval_of a q) (interval c 0 1))) (λ (a : ℕ). pair 0 0) c (pair 0 1)
            (λ f. same_interval_refl (interval c 0 1)) (λ a ne f. absurd (let z = full_pos (pair 0 0) f in omega arith));
        cover = λ j r. inl (rw (same_interval_true j (interval c 0 1) r) (first_begun c 0 1 l refl refl));
      }

  -- each controller of the house is in order
  controller_opened : (c : ℕ) → c < n → ControllerOk h c (open_controller k c)
  unfolding opening open_controller chain_of
  controller_opened c l =
      record {
        shape =
            record {
              incarnation_is = refl;
              degree_is = refl;
              chain_is = refl;
              stable_pos = omega arith;
              stable_le = omega arith;
              current_from = λ x p q. refl;
            };
        body =
            record {
              live_begun = λ x p q. first_begun c 0 x l refl (omega arith);
              stable_upto = λ x p q. first_begun c 0 x l refl (omega arith);
              stable_only = λ x p q z. q;
              begun_le = λ i x b. let z = first_only (interval c i x) b in omega arith;
              current_live = λ x b. let z = first_only (interval c 0 x) b in (omega arith, refl);
              rests_below = λ x x' p q r. let e : x ≡ x' = omega arith in rw e (same_interval_refl _);
              rests_order = λ x x' p q r s z. omega arith;
              first_alone = λ j z. same_interval_true j (interval c 0 1) z;
              tracked = λ x p q. let e : x ≡ 1 = omega arith in rw (e, changed_at_same {A = Vec} (λ (x a : ℕ). pair 0 0)) (first_tracked c l);
            };
        knows =
            knows_set c 0 1
            (record {
              known_begun = λ a i p. absurd (omega arith);
              known_stable_lem = λ a i x b p. absurd (let z = first_only (interval a i x) b in omega arith);
            })
            (record { begun = λ p. first_begun c 0 1 l refl refl; stable = λ x b p. b });
        ended =
            record {
              heard_end = λ a i z. absurd (false≢true z);
              end_heard = λ a i p. absurd (omega arith);
              lost_above = λ i x u z. absurd (false≢true z);
              above_lost = λ i x b p q. absurd (omega arith);
              end_le = λ i p. absurd (omega arith);
              end_begun = λ i p. absurd (omega arith);
              end_stable = λ i x b p q. absurd (omega arith);
              live_or_spoilt = λ i x b. let z = first_only (interval c i x) b in inl (omega arith, sym z.1);
            };
      }

  -- its first interval is flagged
  first_flagged : (c : ℕ) → c < n → Flags h c (open_controller k c)
  unfolding opening open_controller
  first_flagged c l x p q = let e : x ≡ 1 = omega arith in rw e (first_begun c 0 1 l refl refl ∙ sym (changed_at_same _ _ _))

  -- there are no end words
  no_ends : (c a i : ℕ) → ((open_model n k).controller c).ends a i ≡ 0
  unfolding open_model open_controller absent_controller
  no_ends c a i = cond_ind (λ (q : Controller). q.ends a i ≡ 0) (c <? n) (λ e. refl) (λ e. refl)

  -- so the invariant holds
  pub inv_opened : Inv n (open_model n k) (opening n k)
  unfolding open_model opening open_controller
  inv_opened =
      record {
        history = opening_order;
        controller_ok_lem = λ c l. rw (lt-ltb c n l) (controller_opened c l);
        settled = λ c l. record { not_ended = no_ends c c _; live_clean = λ x p q r. absurd (false≢true r.lost) };
        message_ok_lem = λ m p l. absurd (omega arith);
        agree = λ b a i l. no_ends b a i ∙ sym (no_ends a a i);
        flags = λ c l. cond_ind (Flags h c) (c <? n) (λ e. first_flagged c l) (λ e. contrary (lt-ltb c n l) e);
        gap_is = refl;
      }
