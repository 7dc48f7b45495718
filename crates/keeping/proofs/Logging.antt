-- A house in form stays so when intervals are logged, and when a checkpoint is taken.
use Rattle.std.specs.Prelude.{◌≡◌, true, ℕ, ◌≤◌, ◌<◌}
use Rattle.std.proofs.Math.Path.{refl, sym, subst}
use Rattle.std.proofs.Common.{arith}
use borrow.Author.Tests.{ltb-true}
use Rattle.base.specs.Choice.{◌<?◌, cond_ind}
use Rattle.table.specs.Field.{State, Known, Size, LiveCount, StableCount, word, same}
use Rattle.table.specs.Change.{put}
use Rattle.rules.specs.Limits.{Limits}
use Rattle.rules.specs.Form.{in_form}
use Rattle.rules.specs.Shared.{newest_place, logged, logged_to, checkpointed, forced, capped}
use Rattle.laws.specs.Facts.{Fitting, form, controller_form, live_number}
use Rattle.laws.specs.Chain.{logged_word}
use Rattle.keeping.proofs.Changes.{kept_word, kept_stable, kept_flag, logged_size}

module _ (L : Limits) where
  module _ (fit : Fitting L) (σ : State) (c : ℕ) (h : c < σ Size) where
    -- the k oldest
    pub kept_logged : (k : ℕ) → 1 ≤ k → k ≤ σ (LiveCount c) → in_form L σ ≡ true → in_form L (logged σ c k) ≡ true
    unfolding logged put same
    kept_logged k p l e =
        let w = controller_form (form L σ e) c h in
        kept_word L (put σ (StableCount c) k) c c h h (Known c c _) _ refl refl (live_number (form L σ e) fit c h k l) (kept_stable L σ c h k p l e)

    -- if any of them are not stable
    pub kept_logged_to : (k : ℕ) → k ≤ σ (LiveCount c) → in_form L σ ≡ true → in_form L (logged_to σ c k) ≡ true
    unfolding logged_to
    kept_logged_to k l e =
        cond_ind (λ (τ : State). in_form L τ ≡ true) (σ (StableCount c) <? k) (λ q. let u = ltb-true (σ (StableCount c)) k q in kept_logged k (omega arith) l e) (λ _. e)

    -- all, and the newest is flagged
    pub kept_checkpointed : in_form L σ ≡ true → in_form L (checkpointed σ c) ≡ true
    unfolding checkpointed
    kept_checkpointed e =
        let w = controller_form (form L σ e) c h in
        let τ = logged_to σ c (σ (LiveCount c)) in
        kept_flag L τ c (newest_place σ c) (subst (λ n. c < n) (sym (logged_size σ c _)) h)
        (subst (λ n. newest_place σ c < n) (sym (logged_word σ c _ (word (LiveCount c)) refl)) (omega (arith, w.live_pos))) (kept_logged_to (σ (LiveCount c)) (omega arith) e)

    -- if the gap asks for it
    pub kept_capped : in_form L σ ≡ true → in_form L (capped σ c) ≡ true
    unfolding capped
    kept_capped e = cond_ind (λ (τ : State). in_form L τ ≡ true) (forced σ c) (λ _. kept_checkpointed e) (λ _. e)
