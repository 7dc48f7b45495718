-- A number made of bits: which it names, and how many ones it has. A mask is one, by the pairs that are not empty.
use Rattle.std.specs.Prelude.{◌≡◌, refl, Bool, true, false, not, cond, ℕ, zero, suc, ◌+◌, ◌-◌, ◌*◌, ◌/◌, ◌%◌, ◌^◌, ◌≤◌, ◌<◌, ◌==◌}
use Rattle.std.proofs.Common.{sym, ap, ap₂, ◌∙◌, pow-suc, arith, pow_mono}
use Rattle.std.proofs.Math.Nat.{div-eq_of_lt}
use Rattle.std.specs.Int.Count.{ones, ones_in}
use Rattle.std.proofs.lemmas.Nat.{ones_cat}
use Rattle.std.proofs.Math.Pow.{high, low, field, mod-mod-pow}
use Rattle.base.specs.Choice.{le?}
use Rattle.base.specs.Ranges.{count}
use Rattle.rules.specs.Vector.{Vector, empty, pair_of, mask_to}
use Rattle.rules.specs.Sets.{full, bits}

-- tests that agree below n have the same bits
pub bits_same : (n : ℕ) (f g : ℕ → Bool) → ((c : ℕ) → c < n → f c ≡ g c) → bits n f ≡ bits n g
unfolding bits
bits_same zero f g h = refl
bits_same (suc n) f g h = ap₂ (λ (b : Bool) (x : ℕ). cond b (2 ^ n) 0 + x) (h n (omega arith)) (bits_same n f g (λ c l. h c (omega arith)))

-- a test that nobody passes has none
pub bits_none : (n : ℕ) (f : ℕ → Bool) → ((c : ℕ) → c < n → f c ≡ false) → bits n f ≡ 0
unfolding bits
bits_none zero f h = refl
bits_none (suc n) f h = let rest = bits_none n f (λ c l. h c (omega arith)) in rw (h n (omega arith)) (omega arith)

-- a mask has the bits of the pairs that are not empty
pub mask_bits : (n : ℕ) (v : Vector) → mask_to n v ≡ bits n (full v)
unfolding bits mask_to
mask_bits zero v = refl
mask_bits (suc n) v = ap₂ (λ (x y : ℕ). x + y) (turned (empty (pair_of v n))) (mask_bits n v)
  where
    turned : (b : Bool) → cond b 0 (2 ^ n) ≡ cond (not b) (2 ^ n) 0
    turned true = refl
    turned false = refl

-- a digit of 0 or 1
abbrev digit : Bool → ℕ
digit b = cond b 1 0

bits_suc : (n : ℕ) (f : ℕ → Bool) → bits (suc n) f ≡ digit (f n) * 2 ^ n + bits n f
unfolding bits
bits_suc n f = go (f n)
  where
    go : (b : Bool) → cond b (2 ^ n) 0 + bits n f ≡ digit b * 2 ^ n + bits n f
    go true = omega arith
    go false = omega arith

bit_lt : (b : Bool) (p m : ℕ) → m < p → cond b p 0 + m < p * 2
bit_lt true p m h = omega arith
bit_lt false p m h = omega arith

-- the first n bits have no digit from n on
pub bits_lt : (n : ℕ) (f : ℕ → Bool) → bits n f < 2 ^ n
unfolding bits
bits_lt zero f = omega arith
bits_lt (suc n) f = rw pow-suc (bit_lt (f n) (2 ^ n) (bits n f) (bits_lt n f))

-- the digits below n are those of the rest
digit_below : (d n r a : ℕ) → r < 2 ^ n → a < n → (d * 2 ^ n + r) / 2 ^ a % 2 ≡ r / 2 ^ a % 2
digit_below d n r a rl al =
    let j : ℕ = n - (1 + a) in
    let e : n - (1 + a) + (1 + a) ≡ n = omega arith in
    let m : ℕ = d * 2 ^ n + r in
    let s : (d * 2 ^ n + r) % 2 ^ (1 + a) ≡ r % 2 ^ (1 + a) = sym (mod-mod-pow m j (1 + a)) ∙ rw (e, low d n rl) in
    sym (field m 1 a) ∙ ap (λ z. z / 2 ^ a) s ∙ field r 1 a

-- a digit is its own rest
digit_mod : (b : Bool) → digit b % 2 ≡ digit b
digit_mod true = refl
digit_mod false = refl

-- digit a
bits_digit : (n : ℕ) (f : ℕ → Bool) (a : ℕ) → a < n → bits n f / 2 ^ a % 2 ≡ digit (f a)
bits_digit zero f a l = absurd (omega arith)
bits_digit (suc n) f a l =
    ap (λ m. m / 2 ^ a % 2) (bits_suc n f)
    ∙ le? (a + 1) n (λ h. digit_below (digit (f n)) n (bits n f) a (bits_lt n f) (omega arith) ∙ bits_digit n f a (omega arith))
    (λ h. let e : a ≡ n = omega arith in
    ap (λ i. (digit (f n) * 2 ^ n + bits n f) / 2 ^ i % 2) e ∙ ap (λ x. x % 2) (high (digit (f n)) n (bits_lt n f)) ∙ digit_mod (f n) ∙ ap (λ i. digit (f i)) (sym e))

-- "named are the controllers c whose 2 to the power c is in the mask": those that pass the test,
pub bits_named : (n : ℕ) (f : ℕ → Bool) (a : ℕ) → a < n → (bits n f / 2 ^ a % 2 == 1) ≡ f a
bits_named n f a h = ap (λ x. x == 1) (bits_digit n f a h) ∙ go (f a)
  where
    go : (b : Bool) → (digit b == 1) ≡ b
    go true = refl
    go false = refl

-- and no others
pub bits_past : (n : ℕ) (f : ℕ → Bool) (a : ℕ) → n ≤ a → (bits n f / 2 ^ a % 2 == 1) ≡ false
bits_past n f a h =
    let m = bits_lt n f in
    let p : 2 ^ n ≤ 2 ^ a = pow_mono {i = n} {j = a} h in
    let q : bits n f / 2 ^ a ≡ 0 = div-eq_of_lt (omega arith) in
    ap (λ x. x % 2 == 1) q

-- the ones are as many as pass the test
pub ones_bits : (n : ℕ) (f : ℕ → Bool) → ones (bits n f) ≡ count n f
unfolding bits count ones ones_in
ones_bits zero f = refl
ones_bits (suc n) f = ap ones (bits_suc n f) ∙ ones_cat n (digit (f n)) (bits n f) (bits_lt n f) ∙ ap₂ (λ (x y : ℕ). x + y) (go (f n)) (ones_bits n f)
  where
    go : (b : Bool) → ones (digit b) ≡ cond b 1 0
    go true = refl
    go false = refl
