-- The round of a call as the code has it: n controllers, from the one after the one served last, taken less n at once.
use Rattle.std.specs.Prelude.{◌≡◌, ℕ, ◌+◌, ◌%◌, ◌≤◌, ◌<◌}
use Rattle.std.proofs.Math.Path.{sym, ap}
use Rattle.std.proofs.Common.{◌∙◌, subst, mod-lt}
use Rattle.std.proofs.Math.Nat.{mod-add-mod}
use Rattle.table.specs.Field.{State, Size, Served}
use Rattle.rules.specs.Dispatch.{turn}
use Rattle.laws.specs.Round.{Turn, one_turn}

-- the round of a call on σ
pub record Round (σ : State) (from n : ℕ) : Type 0 where
  pub size_is : n ≡ σ Size
  pub size_pos : 1 ≤ n
  pub from_is : from ≡ (σ Served + 1) % n

module _ {σ : State} {from n : ℕ} (w : Round σ from n) where
  pub from_lt : from < n
  from_lt = subst (λ k. k < n) (sym w.from_is) (mod-lt (σ Served + 1) w.size_pos)

  -- its turns are those of the definition
  turn_is : (i : ℕ) → turn σ i ≡ (from + i) % n
  unfolding turn
  turn_is i = ap (λ k. (σ Served + 1 + i) % k) (sym w.size_is) ∙ sym (mod-add-mod (σ Served + 1) n i) ∙ ap (λ k. (k + i) % n) (sym w.from_is)

  module _ {c i : ℕ} (h : Turn from n c i) where
    pub turn_meets : turn σ i ≡ c
    turn_meets = turn_is i ∙ h.meets

    -- nobody else's turn is that of c
    pub turn_other : (k : ℕ) → k < n → (i ≡ k → ⊥) → c ≡ turn σ k → ⊥
    turn_other k l ne e = ne (one_turn from_lt h l (sym (turn_is k) ∙ sym e))
