-- A controller hears of another's crash: the marks that this makes, before anything is undone.
use Rattle.std.specs.Prelude.{◌≡◌, Bool, ◌⊎◌, ◌≢◌, ℕ, ◌≤◌, max}
use Rattle.std.proofs.Math.Path.{refl}
use Rattle.std.proofs.Math.Bool.{true}
use Rattle.std.proofs.Math.Logic.{inl, inr, ⊎_elim}
use Rattle.history.specs.History.{Interval, History, changed_at, hearing}
use Rattle.model.specs.Model.{Controller, changed_at₂, note_controller}
use Rattle.model.specs.Tests.{Is}
use Rattle.model.proofs.Tests.{changed_at_ind, changed_at₂_ind, changed_at₂_same, changed_at₂_other}
use Rattle.model.proofs.Invariant.{Spoilt, InOrder, ControllerOk, Ext, Frame, knows_on, body_on, spoilt_on, spoilt_by, shape_on, some_live}
use Rattle.model.proofs.Knowing.{MayKnow, may_know, may_know_max, knows_set}

-- the crashes that are heard after a hearing: this one, and those before
module _ (h : History) (b a i : ℕ) where
  -- a fact of all that is heard: of this crash, and of those before
  hearing_ind : (P : ℕ → ℕ → ℕ → Bool → Type 0) → P b a i true →
      ((d e u : ℕ) → (d ≡ b → e ≡ a → u ≡ i → ⊥) → P d e u (h.heard d e u)) → (d e u : ℕ) → P d e u ((hearing h b a i).heard d e u)
  unfolding hearing
  hearing_ind P new old =
      changed_at_ind (λ d f. (e u : ℕ) → P d e u (f e u)) h.heard b (changed_at (h.heard b) a (changed_at (h.heard b a) i true))
      (changed_at_ind (λ e f. (u : ℕ) → P b e u (f u)) (h.heard b) a (changed_at (h.heard b a) i true)
      (changed_at_ind (λ u v. P b a u v) (h.heard b a) i true new (λ u ne. old b a u (λ p q r. ne r))) (λ e ne u. old b e u (λ p q r. ne q)))
      (λ d ne e u. old d e u (λ p q r. ne p))

  -- what is heard was heard, or is this crash
  pub hearing_cases : (d e u : ℕ) → Is ((hearing h b a i).heard d e u) → Is (h.heard d e u) ⊎ ((d ≡ b) × (e ≡ a) × (u ≡ i))
  hearing_cases = hearing_ind (λ d e u v. Is v → Is (h.heard d e u) ⊎ ((d ≡ b) × (e ≡ a) × (u ≡ i))) (λ z. inr (refl, refl, refl)) (λ d e u ne z. inl z)

  -- this crash is heard
  pub hearing_new : Is ((hearing h b a i).heard b a i)
  hearing_new = hearing_ind (λ d e u v. d ≡ b → e ≡ a → u ≡ i → Is v) (λ p q r. refl) (λ d e u ne p q r. absurd (ne p q r)) b a i refl refl refl

  -- what was heard is heard
  pub hearing_old : (d e u : ℕ) → Is (h.heard d e u) → Is ((hearing h b a i).heard d e u)
  hearing_old = hearing_ind (λ d e u v. Is (h.heard d e u) → Is v) (λ z. refl) (λ d e u ne z. z)

-- b hears of the crash that ended a's incarnation i at number e
pub record Hears (n : ℕ) (h : History) (b : ℕ) (k : Controller) (a i e : ℕ) : Type 0 where
  pub order : InOrder n h
  pub ok : ControllerOk h b k
  pub other : b ≢ a
  pub pos : 1 ≤ e
  pub kept : MayKnow h a i e

module _ {n : ℕ} {h : History} {b : ℕ} {k : Controller} {a i e : ℕ} (H : Hears n h b k a i e) where
  open H use {order, ok, other, pos, kept}

  -- the history in which b has heard it
  abbrev h' : History
  h' = hearing h b a i

  -- the history is later
  pub heard_ext : Ext h h'
  unfolding hearing
  heard_ext =
      record {
        begun_stays = λ y b. b;
        rests_same = λ y j b. refl;
        stable_stays = λ y s. s;
        lost_stays = λ y i l. l;
        heard_stays = hearing_old h b a i;
        lost_before = λ y i e l. l;
        new_above = λ y b. inl b;
      }

  -- it is in order
  pub heard_order : InOrder n h'
  unfolding hearing
  heard_order = order

  -- it says no more of other controllers
  pub heard_frame : (c : ℕ) → c ≢ b → Frame h h' c
  unfolding hearing
  heard_frame c ne =
      record {
        incarnation_same = refl;
        degree_same = refl;
        chain_same = refl;
        begun_same = λ i x b. b;
        stable_same = λ i x b s. s;
        lost_same = λ i x u l. l;
        heard_same = λ d u z. ⊎_elim (λ g. g) (λ g. absurd (ne g.0)) (hearing_cases h b a i c d u z);
        flagged_same = λ i x. refl;
      }

  -- it spoils no more for other controllers
  pub heard_back : (c : ℕ) → c ≢ b → (y : Interval) → Spoilt h' c y → Spoilt h c y
  unfolding hearing
  heard_back c ne y l = spoilt_by l l.rests l.lost ((heard_frame c ne).heard_same _ _ l.heard)

  -- the controller with the end word noted, and the known word raised to it
  pub heard_controller : ControllerOk h' b (note_controller k a i e)
  unfolding hearing note_controller
  heard_controller =
      let s = ok.shape in
      let d = ok.ended in
      record {
        shape = shape_on heard_ext refl refl refl s;
        body = body_on heard_ext (some_live s) (λ i x z. z) (λ i x z g. g) ok.body;
        knows =
            let both = may_know_max (may_know ok.knows a i) kept in
            knows_set a i (max (k.known a i) e) (knows_on heard_ext ok.knows) (record { begun = both.begun; stable = both.stable });
        ended =
            record {
              heard_end = λ d u z. ⊎_elim (heard_before d u) (λ g. rw (g.1, g.2, changed_at₂_same k.ends a i e) pos) (hearing_cases h b a i b d u z);
              end_heard =
                  changed_at₂_ind (λ d u w. 1 ≤ w → Is (h'.heard b d u)) k.ends a i e (λ l. hearing_new h b a i)
                  (λ c u ne l. hearing_old h b a i b c u (d.end_heard c u l));
              lost_above = λ i x u z. rw (own i) (d.lost_above i x u z);
              above_lost = λ i x z. rw (own i) (d.above_lost i x z);
              end_le = λ i. rw (own i) (d.end_le i);
              end_begun = λ i. rw (own i) (d.end_begun i);
              end_stable = λ i x z. rw (own i) (d.end_stable i x z);
              live_or_spoilt = λ i x z. ⊎_elim (λ u. inl u) (λ r. inr (spoilt_on heard_ext z r)) (d.live_or_spoilt i x z);
            };
      }
    where
      own : (u : ℕ) → changed_at₂ k.ends a i e b u ≡ k.ends b u
      own u = changed_at₂_other k.ends a i e b u (λ p q. other p)

      heard_before : (d u : ℕ) → Is (h.heard b d u) → 1 ≤ changed_at₂ k.ends a i e d u
      heard_before = changed_at₂_ind (λ d u w. Is (h.heard b d u) → 1 ≤ w) k.ends a i e (λ z. pos) (λ d u ne z. ok.ended.heard_end d u z)
