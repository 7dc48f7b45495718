-- The mask of one pair more, and that of the first n pairs has no digit from n on.
use Rattle.std.specs.Prelude.{◌≡◌, Bool, true, false, cond, ℕ, zero, suc, ◌+◌, ◌*◌, ◌^◌, ◌<◌}
use Rattle.std.proofs.Common.{ap, pow-suc, add-one, arith}
use Rattle.rules.specs.Vector.{Vector, pair_of, empty, mask_to}

pub mask_more : (n : ℕ) (v : Vector) → mask_to (n + 1) v ≡ cond (empty (pair_of v n)) 0 (2 ^ n) + mask_to n v
unfolding mask_to
mask_more n v = ap (λ k. mask_to k v) (add-one n)

bit_lt : (b : Bool) (p m : ℕ) → m < p → cond b 0 p + m < p * 2
bit_lt true p m h = omega arith
bit_lt false p m h = omega arith

pub mask_lt : (n : ℕ) (v : Vector) → mask_to n v < 2 ^ n
unfolding mask_to
mask_lt zero v = omega arith
mask_lt (suc n) v = rw pow-suc (bit_lt (empty (pair_of v n)) (2 ^ n) (mask_to n v) (mask_lt n v))
