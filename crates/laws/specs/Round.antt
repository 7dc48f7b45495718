-- The round of a dispatcher on numbers: n controllers from one on, each with its turn, and where one stands after another was served.
use Rattle.std.specs.Prelude.{◌≡◌, ℕ, ◌+◌, ◌-◌, ◌%◌, ◌≤◌, ◌<◌}
use Rattle.std.proofs.Common.{sym, ap, ◌∙◌, subst, mod-lt, mod-eq_of_lt, arith}
use Rattle.std.proofs.Math.Nat.{mod-add-mod, add-mod_right}
use Rattle.base.specs.Choice.{le?}

-- c has turn i in the round of n that begins at `from`, less n as often as needed
pub record Turn (from n c i : ℕ) : Type 0 where
  pub below : i < n
  pub meets : (from + i) % n ≡ c

-- it comes up to c, or past the last controller and on to c
pub turn_near : (from n c : ℕ) → c < n → from ≤ c → Turn from n c (c - from)
turn_near from n c h l = let e : from + (c - from) ≡ c = omega arith in record { below = omega arith; meets = ap (λ k. k % n) e ∙ mod-eq_of_lt h }

pub turn_far : (from n c : ℕ) → from < n → c < n → c < from → Turn from n c (c + n - from)
turn_far from n c f h l =
    let e : from + (c + n - from) ≡ c + n = omega arith in
    record { below = omega arith; meets = ap (λ k. k % n) e ∙ add-mod_right c n ∙ mod-eq_of_lt h }

-- so every controller has one
pub turn_of : (from n c : ℕ) → c < n → (i : ℕ) × Turn from n c i
turn_of from n c h =
    le? (from % n) c (λ l. (c - from % n, less (turn_near (from % n) n c h l)))
    (λ l. (c + n - from % n, less (turn_far (from % n) n c (mod-lt from (omega arith)) h l)))
  where
    less : {i : ℕ} → Turn (from % n) n c i → Turn from n c i
    less {i} t = record { below = t.below; meets = sym (mod-add-mod from n i) ∙ t.meets }

-- a fact of whose turn it is, from the two cases
turn_ind : (P : ℕ → Type 0) (from n i : ℕ) → from < n → i < n → (from + i < n → P (from + i)) → (n ≤ from + i → P (from + i - n)) → P ((from + i) % n)
turn_ind P from n i f h near far =
    le? n (from + i)
    (λ l. let e : from + i ≡ from + i - n + n = omega arith in
    let low : from + i - n < n = omega arith in
    subst P (sym (ap (λ k. k % n) e ∙ add-mod_right (from + i - n) n ∙ mod-eq_of_lt low)) (far l))
    (λ l. subst P (sym (mod-eq_of_lt l)) (near l))

-- and only one
pub one_turn : {from n c i j : ℕ} → from < n → Turn from n c i → j < n → (from + j) % n ≡ c → i ≡ j
one_turn {from} {n} {c} {i} {j} f w h e =
    turn_ind (λ x. x ≡ (from + j) % n → i ≡ j) from n i f w.below
    (λ l. turn_ind (λ y. from + i ≡ y → i ≡ j) from n j f h (λ m q. omega arith) (λ m q. omega arith))
    (λ l. turn_ind (λ y. from + i - n ≡ y → i ≡ j) from n j f h (λ m q. omega arith) (λ m q. omega arith)) (w.meets ∙ sym e)

-- once the i-th was served, those behind it are nearer by i + 1
pub nearer : (m n i j : ℕ) → i < j → ((m + i) % n + 1 + (j - i - 1)) % n ≡ (m + j) % n
nearer m n i j l =
    let z : (m + i) % n + 1 + (j - i - 1) ≡ (m + i) % n + (1 + (j - i - 1)) = omega arith in
    let e : m + i + (1 + (j - i - 1)) ≡ m + j = omega arith in
    ap (λ k. k % n) z ∙ mod-add-mod (m + i) n (1 + (j - i - 1)) ∙ ap (λ k. k % n) e
