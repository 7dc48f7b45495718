-- A chain whose intervals are numbered 1, 2, .. without gaps, newest first, and the history's functions on it.
use Rattle.std.specs.Prelude.{◌≡◌, Bool, false, List, [], ◌∷◌, ◌⊎◌, length}
use Rattle.std.proofs.Math.Path.{refl, ap}
use Rattle.std.proofs.Common.{sym, ◌∙◌, subst, inl, inr, ⊎_elim, add-one}
use Rattle.std.proofs.lemmas.Bool.{false≢true}
use Prim.Native.Nat.{ℕ, zero, suc, ◌+◌, ◌-◌, ◌≤◌, ◌<◌}
use native.Mathlib.Omega.{arith}
use Rattle.std.proofs.Math.ListN.{drop}
use Rattle.history.specs.History.{Interval, interval, same_interval, member, those, newest, oldest}
use Rattle.model.specs.Tests.{Is}
use Rattle.model.proofs.Tests.{or_cases, or_first, or_second, eq?, same_interval_true, same_interval_refl}

-- the chain of c with the numbers 1 to n, number x begun in incarnation `begun_in x`
unfoldable pub chain_of : ℕ → (ℕ → ℕ) → ℕ → List Interval
chain_of c begun_in zero = []
chain_of c begun_in (suc x) = interval c (begun_in (suc x)) (suc x) ∷ chain_of c begun_in x

-- y stands in that chain
pub record OnChain (c : ℕ) (begun_in : ℕ → ℕ) (n : ℕ) (y : Interval) : Type 0 where
  pub pos : 1 ≤ y.number
  pub top : y.number ≤ n
  pub is : y ≡ interval c (begun_in y.number) y.number

-- the newest of a chain stands in it
newest_on : (c : ℕ) (begun_in : ℕ → ℕ) (n : ℕ) (y : Interval) → y ≡ interval c (begun_in (suc n)) (suc n) → OnChain c begun_in (suc n) y
newest_on c begun_in n y p =
    let q : y.number ≡ suc n = ap (λ z. z.number) p in
    record { pos = omega arith; top = omega arith; is = p ∙ ap (λ z. interval c (begun_in z) z) (sym q) }

-- an interval of the rest of a chain stands in the chain
rest_on : (c : ℕ) (begun_in : ℕ → ℕ) (n : ℕ) (y : Interval) → OnChain c begun_in n y → OnChain c begun_in (suc n) y
rest_on c begun_in n y r = record { pos = r.pos; top = omega (arith, r.top); is = r.is }

-- a member of a longer list is its first or one of the rest
pub member_cases : (y j : Interval) (l : List Interval) → Is (member y (j ∷ l)) → (y ≡ j) ⊎ Is (member y l)
unfolding member
member_cases y j l m = go (or_cases (same_interval y j) (member y l) m)
  where
    go : Is (same_interval y j) ⊎ Is (member y l) → (y ≡ j) ⊎ Is (member y l)
    go (inl e) = inl (same_interval_true y j e)
    go (inr e) = inr e

-- the first of a list
pub member_head : (y : Interval) (l : List Interval) → Is (member y (y ∷ l))
unfolding member
member_head y l = or_first (same_interval y y) (member y l) (same_interval_refl y)

-- one of the rest of a list
pub member_tail : (y j : Interval) (l : List Interval) → Is (member y l) → Is (member y (j ∷ l))
unfolding member
member_tail y j l = or_second (same_interval y j) (member y l)

-- a member of a chain stands in it
pub member_chain : (c : ℕ) (begun_in : ℕ → ℕ) (n : ℕ) (y : Interval) → Is (member y (chain_of c begun_in n)) → OnChain c begun_in n y
unfolding member chain_of
member_chain c begun_in zero y m = absurd (false≢true m)
member_chain c begun_in (suc n) y m =
    ⊎_elim (newest_on c begun_in n y) (λ e. rest_on c begun_in n y (member_chain c begun_in n y e)) (member_cases y _ (chain_of c begun_in n) m)

-- each number of a chain has its member
pub chain_member : (c : ℕ) (begun_in : ℕ → ℕ) (n x : ℕ) → 1 ≤ x → x ≤ n → Is (member (interval c (begun_in x) x) (chain_of c begun_in n))
unfolding chain_of
chain_member c begun_in zero x p q = absurd (omega arith)
chain_member c begun_in (suc n) x p q =
    eq? x (suc n) (λ e. rw e (member_head _ _)) (λ ne. member_tail _ _ _ (chain_member c begun_in n x p (omega arith)))

-- a chain looks at the incarnations of its own numbers only
pub chain_cong : (c : ℕ) (f g : ℕ → ℕ) (n : ℕ) → ((x : ℕ) → x ≤ n → f x ≡ g x) → chain_of c f n ≡ chain_of c g n
unfolding chain_of
chain_cong c f g zero e = refl
chain_cong c f g (suc n) e = rw (e (suc n) (omega arith), chain_cong c f g n (λ x p. e x (omega arith)))

-- a chain with one number more
pub chain_more : (c : ℕ) (begun_in : ℕ → ℕ) (n : ℕ) → chain_of c begun_in (n + 1) ≡ interval c (begun_in (n + 1)) (n + 1) ∷ chain_of c begun_in n
unfolding chain_of
chain_more c begun_in n = rw (add-one n)

-- the newest has the highest number
pub newest_chain : (c : ℕ) (begun_in : ℕ → ℕ) (n : ℕ) → 1 ≤ n → newest (chain_of c begun_in n) ≡ interval c (begun_in n) n
unfolding newest chain_of
newest_chain c begun_in zero p = absurd (omega arith)
newest_chain c begun_in (suc n) p = refl

-- those of a chain that pass a test, where the numbers up to s all fail or all pass, and the others do the opposite
module _ (p : Interval → Bool) (c : ℕ) (begun_in : ℕ → ℕ) where
  -- all pass
  those_all : (n : ℕ) → ((x : ℕ) → 1 ≤ x → x ≤ n → Is (p (interval c (begun_in x) x))) → those p (chain_of c begun_in n) ≡ chain_of c begun_in n
  unfolding those chain_of
  those_all zero f = refl
  those_all (suc n) f = rw (f (suc n) (omega arith) (omega arith), those_all n (λ x a b. f x a (omega arith)))

  -- the numbers up to s pass, the others fail
  pub those_chain : (s n : ℕ) → s ≤ n → ((x : ℕ) → 1 ≤ x → x ≤ s → Is (p (interval c (begun_in x) x))) →
      ((x : ℕ) → s < x → x ≤ n → p (interval c (begun_in x) x) ≡ false) → those p (chain_of c begun_in n) ≡ chain_of c begun_in s
  unfolding those chain_of
  those_chain s zero l f g = let e : s ≡ 0 = omega arith in rw e
  those_chain s (suc n) l f g =
      eq? s (suc n) (λ e. rw e (those_all (suc n) (λ x a b. f x a (omega arith))))
      (λ ne. rw (g (suc n) (omega arith) (omega arith)) (those_chain s n (omega arith) f (λ x a b. g x a (omega arith))))

-- the part of a chain with the d numbers above s
part : ℕ → (ℕ → ℕ) → ℕ → ℕ → List Interval
part c begun_in s zero = []
part c begun_in s (suc d) = interval c (begun_in (suc (s + d))) (suc (s + d)) ∷ part c begun_in s d

module _ (p : Interval → Bool) (c : ℕ) (begun_in : ℕ → ℕ) (s : ℕ) (low : (x : ℕ) → 1 ≤ x → x ≤ s → p (interval c (begun_in x) x) ≡ false) where
  -- none passes up to s
  those_none : (n : ℕ) → n ≤ s → those p (chain_of c begun_in n) ≡ []
  unfolding those chain_of
  those_none zero l = refl
  those_none (suc n) l = rw (low (suc n) (omega arith) l) (those_none n (omega arith))

  -- the numbers above s pass
  those_part : (d : ℕ) → ((x : ℕ) → s < x → x ≤ s + d → Is (p (interval c (begun_in x) x))) → those p (chain_of c begun_in (s + d)) ≡ part c begun_in s d
  unfolding those chain_of part
  those_part zero high = let e : s + 0 ≡ s = omega arith in rw e (those_none s (omega arith))
  those_part (suc d) high =
      let e : s + suc d ≡ suc (s + d) = omega arith in
      rw (e, high (suc (s + d)) (omega arith) (omega arith), those_part d (λ x a b. high x a (omega arith)))

module _ (c : ℕ) (begun_in : ℕ → ℕ) (s : ℕ) where
  -- how many these are
  length_part : (d : ℕ) → length (part c begun_in s d) ≡ d
  unfolding part
  length_part zero = refl
  length_part (suc d) = ap suc (length_part d)

  -- without its newest ones
  drop_part : (k q : ℕ) → drop k (part c begun_in s (k + q)) ≡ part c begun_in s q
  unfolding part
  drop_part zero q = let e : 0 + q ≡ q = omega arith in rw e
  drop_part (suc k) q = let e : suc k + q ≡ suc (k + q) = omega arith in rw e (drop_part k q)

  -- its q oldest ones
  oldest_part : (d q : ℕ) → q ≤ d → oldest q (part c begun_in s d) ≡ part c begun_in s q
  unfolding oldest
  oldest_part d q l =
      let e : (d - q) + q ≡ d = omega arith in
      rw (length_part d) (subst (λ z. drop (d - q) (part c begun_in s z) ≡ part c begun_in s q) e (drop_part (d - q) q))

  -- a member of the part stands in the chain
  member_part : (d : ℕ) (y : Interval) → Is (member y (part c begun_in s d)) → OnChain c begun_in (s + d) y
  unfolding member part
  member_part zero y m = absurd (false≢true m)
  member_part (suc d) y m =
      let e : s + suc d ≡ suc (s + d) = omega arith in
      rw e (⊎_elim (newest_on c begun_in (s + d) y) (λ f. rest_on c begun_in (s + d) y (member_part d y f)) (member_cases y _ (part c begun_in s d) m))

  -- each of its numbers has its member
  part_member : (d x : ℕ) → s < x → x ≤ s + d → Is (member (interval c (begun_in x) x) (part c begun_in s d))
  unfolding part
  part_member zero x p q = absurd (omega arith)
  part_member (suc d) x p q =
      eq? x (suc (s + d)) (λ e. rw e (member_head _ _)) (λ ne. member_tail _ _ _ (part_member d x p (omega arith)))

-- the q oldest of those that pass, where the numbers up to s fail and those above pass: s + 1 to s + q
module _ (p : Interval → Bool) (c : ℕ) (begun_in : ℕ → ℕ) (s n q : ℕ) (fits : s + q ≤ n)
    (low : (x : ℕ) → 1 ≤ x → x ≤ s → p (interval c (begun_in x) x) ≡ false) (high : (x : ℕ) → s < x → x ≤ n → Is (p (interval c (begun_in x) x))) where
  -- they are the part with the q numbers above s
  oldest_is : oldest q (those p (chain_of c begun_in n)) ≡ part c begun_in s q
  oldest_is =
      let e : s + (n - s) ≡ n = omega arith in
      subst (λ z. oldest q (those p (chain_of c begun_in z)) ≡ part c begun_in s q) e
      (ap (oldest q) (those_part p c begun_in s low (n - s) (λ x a b. high x a (omega arith))) ∙ oldest_part c begun_in s (n - s) q (omega arith))

  -- one of them stands in the chain up to s + q
  pub oldest_on : (y : Interval) → Is (member y (oldest q (those p (chain_of c begun_in n)))) → OnChain c begun_in (s + q) y
  oldest_on y m = member_part c begun_in s q y (rw oldest_is at m)

  -- and each number from s + 1 to s + q is one of them
  pub on_oldest : (x : ℕ) → s < x → x ≤ s + q → Is (member (interval c (begun_in x) x) (oldest q (those p (chain_of c begun_in n))))
  on_oldest x a b = rw oldest_is (part_member c begun_in s q x a b)
