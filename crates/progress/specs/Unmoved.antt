-- The words that say which messages are held and which are causes of live intervals, and the steps that leave all of them: K, L, C, T and
-- the gap.
use Rattle.std.specs.Prelude.{◌≡◌, Bool, true, false, ◌||◌, List, ℕ, ◌+◌, ◌==◌}
use Rattle.std.proofs.Math.Path.{refl}
use Rattle.std.proofs.Common.{sym, ◌∙◌, true≢false}
use Rattle.base.specs.Choice.{◌<?◌, cond_ind}
use Rattle.base.specs.Cases.{Case, first_of}
use Rattle.table.specs.Field.{Field, State, OfHead, OfController, OfPlace, OfMessage, Known, End, Gap, Degree, Incarnation, LiveCount, StableCount, Cause, Flag, word, word_of, message_head}
use Rattle.table.specs.Change.{put, put_ind, put_part, part_ind}
use Rattle.table.specs.Numbering.{numbering, Numbered}
use Rattle.table.proofs.Numbering.{numbers_kept}
use Rattle.rules.specs.Shared.{logged, logged_to, checkpointed, forced, capped}
use Rattle.rules.specs.Steps.{After, refusing, step_degree, step_log, step_checkpoint, told, step_tell, noted, step_gap}

-- the words of numbering, incarnations and live counts, causes, and what a message's record has before its vector
abbrev pub watched : Field → Bool
watched (OfHead k) = numbering (OfHead k)
watched (OfController c k) = (k == word (Incarnation c)) || (k == word (LiveCount c))
watched (Known holder owner i) = false
watched (End holder owner i) = false
watched (OfPlace c p k) = k == word (Cause c p)
watched (OfMessage r k) = k <? message_head

-- τ has these words as σ has them
abbrev pub Unmoved : State → State → Type 0
Unmoved σ τ = (g : Field) → watched g ≡ true → τ g ≡ σ g

-- so it numbers alike
numbering_watched : (f : Field) → numbering f ≡ true → watched f ≡ true
numbering_watched (OfHead k) e = e
numbering_watched (OfController c k) e = absurd (true≢false (sym e))
numbering_watched (Known holder owner i) e = e
numbering_watched (End holder owner i) e = e
numbering_watched (OfPlace c p k) e = absurd (true≢false (sym e))
numbering_watched (OfMessage r k) e = absurd (true≢false (sym e))

pub numbers_unmoved : (σ τ : State) → Unmoved σ τ → Numbered τ σ
numbers_unmoved σ τ h = numbers_kept τ σ (λ f e. h f (numbering_watched f e))

module _ (σ : State) where
  -- another word put, or other words of a record
  pub unmoved_put : (τ : State) (f : Field) (x : ℕ) → watched f ≡ false → Unmoved σ τ → Unmoved σ (put τ f x)
  unmoved_put τ f x n h = put_ind (λ g y. watched g ≡ true → y ≡ σ g) τ f x (λ e. absurd (true≢false (sym e ∙ n))) (λ g _. h g)

  pub unmoved_part : (τ : State) (f : Field) (k : ℕ) (w : List ℕ) → ((i : ℕ) → watched (word_of f (k + i)) ≡ false) → Unmoved σ τ →
      Unmoved σ (put_part τ f k w)
  unmoved_part τ f k w n h = part_ind (λ g y. watched g ≡ true → y ≡ σ g) τ f k w (λ i _ e. absurd (true≢false (sym e ∙ n i))) (λ g _. h g)

  -- logging, a checkpoint, and one that the gap asks for
  unmoved_logged : (c k : ℕ) → Unmoved σ (logged σ c k)
  unfolding logged
  unmoved_logged c k = unmoved_put _ (Known c c _) _ refl (unmoved_put σ (StableCount c) k refl (λ _ _. refl))

  pub unmoved_logged_to : (c k : ℕ) → Unmoved σ (logged_to σ c k)
  unfolding logged_to
  unmoved_logged_to c k = cond_ind (Unmoved σ) (σ (StableCount c) <? k) (λ _. unmoved_logged c k) (λ _ _ _. refl)

  unmoved_checkpointed : (c : ℕ) → Unmoved σ (checkpointed σ c)
  unfolding checkpointed
  unmoved_checkpointed c = unmoved_put _ (Flag c _) 1 refl (unmoved_logged_to c _)

  pub unmoved_capped : (c : ℕ) → Unmoved σ (capped σ c)
  unfolding capped
  unmoved_capped c = cond_ind (Unmoved σ) (forced σ c) (λ _. unmoved_checkpointed c) (λ _ _ _. refl)

  -- H: a crash noted
  pub unmoved_noted : (hearer owner i : ℕ) → Unmoved σ (noted σ hearer owner i)
  unfolding noted
  unmoved_noted hearer owner i = unmoved_put _ (Known hearer owner i) _ refl (unmoved_put σ (End hearer owner i) _ refl (λ _ _. refl))

  -- a step after its refusals
  unmoved_refusing : (cases : List Case) (o : After) → Unmoved σ o.left → Unmoved σ (refusing cases σ o).left
  unfolding refusing
  unmoved_refusing cases o h = cond_ind (λ (o : After). Unmoved σ o.left) (first_of cases == 0) (λ _. h) (λ _ _ _. refl)

  -- K
  pub unmoved_degree : (c k : ℕ) → Unmoved σ (step_degree σ c k).left
  unfolding step_degree
  unmoved_degree c k = unmoved_refusing _ _ (unmoved_put σ (Degree c) k refl (λ _ _. refl))

  -- L
  pub unmoved_log : (c q : ℕ) → Unmoved σ (step_log σ c q).left
  unfolding step_log
  unmoved_log c q = unmoved_refusing _ _ (unmoved_logged c _)

  -- C
  pub unmoved_checkpoint : (c : ℕ) → Unmoved σ (step_checkpoint σ c).left
  unfolding step_checkpoint
  unmoved_checkpoint c = unmoved_refusing _ _ (unmoved_checkpointed c)

  -- T
  pub unmoved_tell : (owner holder : ℕ) → Unmoved σ (step_tell σ owner holder).left
  unfolding step_tell told
  unmoved_tell owner holder = unmoved_refusing _ _ (unmoved_part σ (Known holder owner 0) 0 _ (λ i. refl) (λ _ _. refl))

  -- the gap
  pub unmoved_gap : (q : ℕ) → Unmoved σ (step_gap σ q).left
  unfolding step_gap
  unmoved_gap q = unmoved_refusing _ _ (unmoved_put σ Gap q refl (λ _ _. refl))
