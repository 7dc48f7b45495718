-- W4's ceiling, on models alone: each live number stands less than M above the latest flagged one up to it, where no Q was above M. A
-- change leaves all numbers but the newest as they were, and a newest one that stands too high is flagged.
use Rattle.std.specs.Prelude.{◌≡◌, refl, Bool, true, false, not, ℕ, zero, suc, ◌+◌, ◌-◌, ◌≤◌, ◌<◌}
use Rattle.std.proofs.Common.{sym, ◌∙◌, ap, arith, ne_eqb, le-leb, lt-ltb, ◌==◌}
use Rattle.std.proofs.Math.Path.{subst}
use Rattle.base.specs.Choice.{◌≤?◌, ◌<?◌, cond_ind, le?}
use Rattle.model.specs.Model.{Vec, Controller, Model, put_controller, logged_controller, log_controller, flag_controller, checkpoint_controller, latest, above_latest, forced_model, cap_model, begin_controller, anew_controller, open_controller, open_model}
use Rattle.model.specs.Tests.{Is}
use Rattle.model.proofs.Tests.{and_both, contrary, not_passes, eq?, changed_at_ind, changed_at_same, changed_at_other}
use Rattle.model.proofs.Renewing.{renewed_old}
use Rattle.model.proofs.Keeping.{put_controller_twice}
use Rattle.model.specs.Close.{CloseController, Close}

-- the latest flagged number looks at the flags up to there only
latest_cong : (f g : ℕ → Bool) (n : ℕ) → ((x : ℕ) → x ≤ n → f x ≡ g x) → latest f n ≡ latest g n
unfolding latest
latest_cong f g zero e = refl
latest_cong f g (suc n) e = rw (e (suc n) (omega arith), latest_cong f g n (λ x l. e x (omega arith)))

-- a flagged number does not stand above the latest
latest_self : (f : ℕ → Bool) (n : ℕ) → Is (f n) → n - latest f n ≡ 0
unfolding latest
latest_self f zero e = omega arith
latest_self f (suc n) e = rw e (omega arith)

-- k becomes k': all numbers but the newest were live, and keep their flags
pub record Carries (k k' : Controller) : Type 0 where
  pub fits : k'.live ≤ k.live + 1
  pub flagged_same : (x : ℕ) → x < k'.live → k'.flagged x ≡ k.flagged x

-- D: one number more
pub carries_begun : (c : ℕ) (k : Controller) (w : Vec) → Carries k (begin_controller c k w)
unfolding begin_controller
carries_begun c k w = record { fits = omega arith; flagged_same = λ x l. changed_at_other _ _ _ _ (λ e. omega arith) }

-- X, H: one number more than j, from a controller that has changed no flag
pub carries_anew : {k : Controller} (c : ℕ) (k₀ : Controller) (j : ℕ) → j ≤ k.live → k₀.flagged ≡ k.flagged → Carries k (anew_controller c k₀ j)
unfolding anew_controller
carries_anew c k₀ j l e = record { fits = omega arith; flagged_same = λ x m. renewed_old j _ _ k₀.flagged x (omega arith) ∙ ap (λ f. f x) e }

-- logging changes no flag
pub logged_flagged : (c : ℕ) (k : Controller) (j : ℕ) → (logged_controller c k j).flagged ≡ k.flagged
unfolding log_controller
logged_flagged c k j = cond_ind (λ (q : Controller). q.flagged ≡ k.flagged) (k.stable <? j) (λ e. refl) (λ e. refl)

-- nor what is live
pub logged_live : (c : ℕ) (k : Controller) (j : ℕ) → (logged_controller c k j).live ≡ k.live
unfolding log_controller
logged_live c k j = cond_ind (λ (q : Controller). q.live ≡ k.live) (k.stable <? j) (λ e. refl) (λ e. refl)

-- a checkpoint flags the newest
carries_checkpointed : {k k' : Controller} (c : ℕ) → Carries k k' → Carries k (checkpoint_controller c k')
unfolding flag_controller
carries_checkpointed {k} {k'} c r =
    rw (logged_live c k' k'.live, logged_flagged c k' k'.live)
    (record { fits = r.fits; flagged_same = λ x l. changed_at_other _ _ _ _ (λ e. omega arith) ∙ r.flagged_same x l })

-- where no checkpoint is forced of a controller that is put, its newest number stands less than Q above the latest flagged one
unforced : (μ : Model) (c : ℕ) (k : Controller) → forced_model (put_controller μ c k) c ≡ false → 1 ≤ (put_controller μ c k).gap → above_latest k k.live < μ.gap
unfolding forced_model put_controller
unforced μ c k e pos =
    let above = above_latest k k.live in
    le? μ.gap above
    (λ l. contrary (and_both (not (μ.gap == 0)) (μ.gap ≤? above) (not_passes _ (ne_eqb μ.gap 0 (λ z. omega arith))) (le-leb μ.gap above l))
    (rw (changed_at_same μ.controller c k) at e)) (λ l. l)

-- a forced checkpoint leaves Q
pub cap_gap : (μ : Model) (c : ℕ) → (cap_model μ c).gap ≡ μ.gap
unfolding cap_model put_controller
cap_gap μ c = cond_ind (λ (ν : Model). ν.gap ≡ μ.gap) (forced_model μ c) (λ e. refl) (λ e. refl)

-- a house just opened: each first interval is flagged
pub close_opened : (n k M : ℕ) → 1 ≤ M → Close n M (open_model n k)
unfolding open_model open_controller
close_opened n k M pos =
    record {
      above_lt = λ c below.
          cond_ind (CloseController M) (c <? n)
          (λ e x l. le? x 0 (λ z. omega arith) (λ z. let one : x ≡ 1 = omega arith in rw (one, latest_self _ 1 (changed_at_same _ _ _)) pos))
          (λ e. contrary (lt-ltb c n below) e);
    }

-- S, R and SetGap: no controller changes
pub close_controllers : {n M : ℕ} {μ μ' : Model} → μ'.controller ≡ μ.controller → Close n M μ → Close n M μ'
close_controllers e close = record { above_lt = rw e close.above_lt }

module _ {n M : ℕ} {μ : Model} (close : Close n M μ) (c : ℕ) (below : c < n) where
  open close use {above_lt}

  -- a controller is put whose newest number is close; the others are as they were
  close_put : (k' : Controller) → Carries (μ.controller c) k' → above_latest k' k'.live < M → Close n M (put_controller μ c k')
  unfolding put_controller
  close_put k' r new =
      record { above_lt = changed_at_ind (λ b k. b < n → CloseController M k) μ.controller c k' (λ l. here) (λ b ne. above_lt b) }
    where
      here : CloseController M k'
      here x l =
          eq? x k'.live (λ e. rw e new)
          (λ ne. rw (latest_cong k'.flagged (μ.controller c).flagged x (λ y m. r.flagged_same y (omega arith))) (above_lt c below x (omega (arith, r.fits))))

  -- K, L, T and a hearing that undoes nothing: no number and no flag changes
  pub close_same : (k' : Controller) → k'.live ≡ (μ.controller c).live → k'.flagged ≡ (μ.controller c).flagged → Close n M (put_controller μ c k')
  close_same k' p q =
      close_put k' (record { fits = omega arith; flagged_same = λ x l. ap (λ f. f x) q }) (rw (p, q) (above_lt c below (μ.controller c).live (omega arith)))

  -- a checkpoint, forced or not: the newest number is flagged
  close_flagged : (k' : Controller) → Carries (μ.controller c) k' → Close n M (put_controller μ c (checkpoint_controller c k'))
  unfolding flag_controller
  close_flagged k' r =
      close_put (checkpoint_controller c k') (carries_checkpointed c r)
      (rw (latest_self _ _ (changed_at_same _ _ true)) (let z = above_lt c below 0 (omega arith) in omega arith))

  -- C
  pub close_checkpointed : Close n M (put_controller μ c (checkpoint_controller c (μ.controller c)))
  close_checkpointed = close_flagged (μ.controller c) (record { fits = omega arith; flagged_same = λ x l. refl })

  -- D, X and a rollback: the new number stands less than Q above the latest flagged one, or it is flagged
  pub close_capped : (k' : Controller) → Carries (μ.controller c) k' → 1 ≤ (cap_model (put_controller μ c k') c).gap → μ.gap ≤ M →
      Close n M (cap_model (put_controller μ c k') c)
  unfolding cap_model
  close_capped k' r on within =
      cond_ind (Close n M) (forced_model (put_controller μ c k') c)
      (λ e. subst (Close n M) (sym (put_controller_twice μ c k' (checkpoint_controller c))) (close_flagged k' r))
      (λ e. close_put k' r (let z = unforced μ c k' e (rw (cap_gap (put_controller μ c k') c) at on) in omega arith))
