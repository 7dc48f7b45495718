-- How many messages of a set are for the desk.
use Rattle.std.specs.Prelude.{◌≡◌, Bool, true, false, cond, List, ℕ, zero, suc, ◌+◌, ◌≤◌}
use Rattle.std.proofs.Common.{sym, ap, ◌∙◌, add-one, arith}
use Rattle.table.specs.Field.{State}
use Rattle.rules.specs.Form.{for_desk}
use Rattle.rules.specs.Sets.{record_in, desks}

-- one more, and at most as many as there are
pub desks_more : (σ : State) (l : List ℕ) (i n x : ℕ) → n ≡ desks σ l i → x ≡ cond (for_desk σ (record_in σ l i)) 1 0 → n + x ≡ desks σ l (i + 1)
unfolding desks
desks_more σ l i n x ne xe = (λ d. ne d + xe d) ∙ ap (desks σ l) (sym (add-one i))

one_le : (b : Bool) → cond b 1 0 ≤ 1
one_le true = omega arith
one_le false = omega arith

pub desks_bound : (σ : State) (l : List ℕ) (i : ℕ) → desks σ l i ≤ i
unfolding desks
desks_bound σ l zero = omega arith
desks_bound σ l (suc i) = omega (arith, desks_bound σ l i, one_le (for_desk σ (record_in σ l i)))

pub desks_fit : (σ : State) (l : List ℕ) (i n x : ℕ) → n ≡ desks σ l i → x ≡ cond (for_desk σ (record_in σ l i)) 1 0 → n + x ≤ i + 1
desks_fit σ l i n x ne xe = omega (arith, desks_more σ l i n x ne xe, desks_bound σ l (i + 1))
