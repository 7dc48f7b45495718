-- Rules that leave all numbers as they are, and the bound of a controller's numbers: what follows from it.
use Rattle.std.specs.Prelude.{◌≡◌, refl, ℕ, ◌+◌, ◌≤◌, ◌<◌, ◌^◌}
use Rattle.std.proofs.Common.{arith, ne_eqb}
use Rattle.base.specs.Choice.{◌<?◌, cond_ind}
use Rattle.table.specs.Field.{State, Known, End, OfPlace, Size, Discarded, Served, Incarnation, LiveCount, StableCount, Flag, MessageState, word}
use Rattle.table.specs.Layout.{places}
use Rattle.table.specs.Numbering.{number_of, last_live, Numbered}
use Rattle.table.proofs.Numbering.{numbers_refl, numbers_put, numbers_part, numbers_clear, numbers_states, numbers_trans, number_from_lem, number_fresh}
use Rattle.rules.specs.Limits.{Limits, house, last_number}
use Rattle.rules.specs.Vector.{Vector}
use Rattle.rules.specs.Shared.{logged, logged_to, checkpointed, forced, capped, causes_in, causes, placed, entered, restarted}
use Rattle.rules.specs.Steps.{interval_added, open_house, noted}
use Rattle.laws.specs.Allowed.{Room}

-- RULES
module _ (σ : State) (c : ℕ) where
  -- logging
  pub numbers_logged_to : (k : ℕ) → Numbered (logged_to σ c k) σ
  unfolding logged_to logged
  numbers_logged_to k =
      cond_ind (λ τ. Numbered τ σ) (σ (StableCount c) <? k)
      (λ _. numbers_trans _ _ σ (numbers_put _ (Known c c (σ (Incarnation c))) _ refl) (numbers_put σ (StableCount c) k refl)) (λ _. numbers_refl σ)

  -- a checkpoint, if one is due
  pub numbers_capped : Numbered (capped σ c) σ
  unfolding capped checkpointed
  numbers_capped =
      cond_ind (λ τ. Numbered τ σ) (forced σ c) (λ _. numbers_trans _ _ σ (numbers_put _ (Flag c _) 1 refl) (numbers_logged_to (σ (LiveCount c)))) (λ _. numbers_refl σ)

  -- an interval more
  pub numbers_added : (m r : ℕ) (v : Vector) → Numbered (interval_added σ c m r v) σ
  unfolding interval_added
  numbers_added m r v =
      numbers_trans _ _ σ (numbers_put _ (MessageState r) _ refl)
      (numbers_trans _ _ σ (numbers_put _ (LiveCount c) _ refl) (numbers_part σ (OfPlace c (σ (LiveCount c)) 0) 0 _ (λ _ _. refl)))

  -- a start
  pub numbers_restarted : (k : ℕ) → Numbered (restarted σ c k) σ
  unfolding restarted entered placed
  numbers_restarted k =
      numbers_trans _ _ σ (numbers_put _ (Known c c _) _ refl)
      (numbers_trans _ _ σ (numbers_put _ (StableCount c) _ refl)
      (numbers_trans _ _ σ (numbers_put _ (LiveCount c) _ refl)
      (numbers_trans _ _ σ (numbers_put _ (Incarnation c) _ refl)
      (numbers_trans _ _ σ (numbers_part _ (OfPlace c k 0) 0 _ (λ _ _. refl)) (numbers_clear σ c k (σ (LiveCount c)))))))

  -- causes that got their states
  pub numbers_causes : (k : ℕ) → Numbered (causes σ c k) σ
  unfolding causes causes_in
  numbers_causes k = numbers_states σ _

-- a crash that was noted
pub numbers_noted : (σ : State) (hearer owner i : ℕ) → Numbered (noted σ hearer owner i) σ
unfolding noted
numbers_noted σ hearer owner i = numbers_trans _ _ σ (numbers_put _ (Known hearer owner i) _ refl) (numbers_put σ (End hearer owner i) _ refl)

-- the numbers of a house just opened are counts
pub opened_number : (n k c j : ℕ) → number_of (open_house n k) c j ≡ j
unfolding open_house
opened_number n k c j =
    number_fresh (open_house n k) c j
    (λ l. rw (ne_eqb (word (Discarded c)) (word Size) (omega arith), ne_eqb (word (Discarded c)) (word Served) (omega arith)))

-- THE BOUND
-- a number of c fits a word
pub number_fits : (σ : State) (c k : ℕ) → last_live σ c ≤ last_number → k ≤ places → number_of σ c k < 2 ^ 32
number_fits σ c k h l = omega (arith, number_from_lem σ c k, number_from_lem σ c (σ (LiveCount c)))

-- so does one up to the next, where there is room for that
pub room_fits : {σ : State} {c k : ℕ} → Room house σ c k → (j : ℕ) → j ≤ k + 1 → number_of σ c j < 2 ^ 32
room_fits {σ} {c} {k} w j l = omega (arith, number_from_lem σ c j, number_from_lem σ c (k + 1), w.number_le)

-- a live place has room for an interval
pub room_live : {L : Limits} {σ : State} {c k : ℕ} → k < σ (LiveCount c) → σ (LiveCount c) ≤ L.places → last_live σ c ≤ L.numbers → Room L σ c k
room_live {L} {σ} {c} {k} l places_le numbers_le =
    record { place_lt = omega arith; number_le = omega (arith, number_from_lem σ c (k + 1), number_from_lem σ c (σ (LiveCount c))) }

-- where numbers are the same, there is the same room
pub room_same : {L : Limits} {σ τ : State} {c k : ℕ} → number_of τ c (k + 1) ≡ number_of σ c (k + 1) → Room L σ c k → Room L τ c k
room_same e w = record { place_lt = w.place_lt; number_le = omega (arith, e, w.number_le) }
