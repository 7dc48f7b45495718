-- The mask of the non-empty pairs, as a loop over the owners makes it.
use Rattle.std.specs.Prelude.{◌≡◌, refl, ℕ, ◌+◌, ◌-◌, ◌^◌, ◌≤◌, ◌<◌}
use Rattle.std.proofs.Common.{ap, ◌∙◌, arith, pow_mono, eq-eqb, ne_eqb}
use Rattle.table.specs.Layout.{controllers}
use Rattle.rules.specs.Vector.{Vector, number, pair_of, mask_to, mask}
use Rattle.laws.specs.Mask.{mask_more}

-- none yet, one more that is empty, one more that is not, all
pub mask_none : (v : Vector) → 0 ≡ mask_to 0 v
unfolding mask_to
mask_none v = refl

pub mask_more_empty : (n m : ℕ) (v : Vector) → m ≡ mask_to n v → number (pair_of v n) ≡ 0 → m ≡ mask_to (n + 1) v
mask_more_empty n m v e z = rw (mask_more, eq-eqb _ _ z) (omega arith)

pub mask_more_full : (n m bit : ℕ) (v : Vector) → m ≡ mask_to n v → bit ≡ 2 ^ n → (number (pair_of v n) ≡ 0 → ⊥) → m + bit ≡ mask_to (n + 1) v
mask_more_full n m bit v e p z = rw (mask_more, ne_eqb _ _ z) (omega arith)

pub mask_all : (n m : ℕ) (v : Vector) → m ≡ mask_to n v → n ≤ controllers → controllers ≤ n → m ≡ mask v
unfolding mask
mask_all n m v e l u = e ∙ ap (λ (k : ℕ). mask_to k v) (omega arith)

-- the last bit is that of the last controller
pub bit_small : (n bit : ℕ) → n < controllers → bit ≡ 2 ^ n → bit ≤ 2 ^ (controllers - 1)
bit_small n bit h e = omega (arith, pow_mono {i = n} {j = controllers - 1} (omega arith))
