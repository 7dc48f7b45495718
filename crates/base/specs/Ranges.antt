-- Tests over the indices below a bound: all pass, some passes, the first that passes, and how many pass.
use Rattle.std.specs.Prelude.{◌≡◌, refl, Bool, true, false, not, cond, ◌&&◌, ◌||◌, ℕ, zero, suc, ◌+◌, ◌≤◌, ◌<◌}
use Rattle.std.proofs.Common.{sym, ap, ap₂, ◌∙◌, true≢false, not-suc-le-zero, le_of_suc-le-suc, zero-lt-suc, add-zero, add-suc, add-one, arith}
use Rattle.std.proofs.Math.Bool.{and-false, and-true, and_assoc, or-true}
use Rattle.std.proofs.lemmas.Bool.{false≢true, not-true, not-false}
use Rattle.base.specs.Choice.{and_left, and_right, le?}

-- every index below n passes f
unfoldable pub allb : ℕ → (ℕ → Bool) → Bool
allb zero f = true
allb (suc n) f = allb n f && f n

-- some index below n passes f
unfoldable pub anyb : ℕ → (ℕ → Bool) → Bool
anyb zero f = false
anyb (suc n) f = anyb n f || f n

-- the first index below n that passes f, or n
unfoldable pub first : ℕ → (ℕ → Bool) → ℕ
first zero f = zero
first (suc n) f = cond (f 0) 0 (suc (first n (λ (i : ℕ). f (suc i))))

below_suc : {A : Type 0} (i n : ℕ) → i < suc n → (i < n → A) → (i ≡ n → A) → A
below_suc i n h f g = le? (suc i) n (λ l. f l) (λ l. g (omega arith))

-- a loop that gathers the test of each index in a flag: before it, one more index, after it
pub allb_zero : (f : ℕ → Bool) → true ≡ allb 0 f
unfolding allb
allb_zero f = refl

pub allb_step : (f : ℕ → Bool) (i : ℕ) (ok test : Bool) → ok ≡ allb i f → test ≡ f i → (ok && test) ≡ allb (i + 1) f
unfolding allb
allb_step f i ok test a b = ap₂ (λ (x y : Bool). x && y) a b ∙ sym (ap (λ (k : ℕ). allb k f) (add-one i))

pub allb_end : (f : ℕ → Bool) (n i : ℕ) (ok : Bool) → ok ≡ allb i f → i ≤ n → n ≤ i → ok ≡ allb n f
allb_end f n i ok e h l = e ∙ ap (λ (k : ℕ). allb k f) (omega arith)

-- what a passed range says of each index, and the other way round
pub allb_get : (f : ℕ → Bool) (n i : ℕ) → allb n f ≡ true → i < n → f i ≡ true
unfolding allb
allb_get f zero i e h = absurd (not-suc-le-zero h)
allb_get f (suc n) i e h =
    below_suc i n h (λ p. allb_get f n i (and_left (allb n f) (f n) e) p) (λ q. ap f q ∙ and_right (allb n f) (f n) e)

pub allb_all : (f : ℕ → Bool) (n : ℕ) → ((i : ℕ) → i < n → f i ≡ true) → allb n f ≡ true
unfolding allb
allb_all f zero h = refl
allb_all f (suc n) h = ap₂ (λ (x y : Bool). x && y) (allb_all f n (λ (i : ℕ) (p : i < n). h i (omega arith))) (h n (omega arith))

pub allb_fails : (f : ℕ → Bool) (n i : ℕ) → i < n → f i ≡ false → allb n f ≡ false
unfolding allb
allb_fails f zero i h e = absurd (not-suc-le-zero h)
allb_fails f (suc n) i h e =
    below_suc i n h (λ p. ap (λ (x : Bool). x && f n) (allb_fails f n i p e))
    (λ q. ap (λ (x : Bool). allb n f && x) (ap f (sym q) ∙ e) ∙ and-false (allb n f))

pub allb_ext : (f g : ℕ → Bool) (n : ℕ) → ((i : ℕ) → i < n → f i ≡ g i) → allb n f ≡ allb n g
unfolding allb
allb_ext f g zero h = refl
allb_ext f g (suc n) h = ap₂ (λ (x y : Bool). x && y) (allb_ext f g n (λ (i : ℕ) (p : i < n). h i (omega arith))) (h n (omega arith))

-- a loop that stops at the first index that fails: all before it have passed, one more has, one has not
pub allb_next : (f : ℕ → Bool) (i : ℕ) (test : Bool) → true ≡ allb i f → test ≡ f i → not test ≡ false → true ≡ allb (i + 1) f
allb_next f i test a e t = allb_step f i true true a (sym (not-false test t) ∙ e)

pub allb_stops : (f : ℕ → Bool) (n i : ℕ) (test : Bool) → i < n → test ≡ f i → not test ≡ true → false ≡ allb n f
allb_stops f n i test h e t = sym (allb_fails f n i h (sym e ∙ not-true test t))

-- a range in two parts
pub allb_split : (f : ℕ → Bool) (k m : ℕ) → allb (k + m) f ≡ (allb k f && allb m (λ (i : ℕ). f (k + i)))
unfolding allb
allb_split f k zero = ap (λ (n : ℕ). allb n f) (add-zero k) ∙ sym (and-true (allb k f))
allb_split f k (suc m) =
    ap (λ (n : ℕ). allb n f) (add-suc k m) ∙ ap (λ (b : Bool). b && f (k + m)) (allb_split f k m)
    ∙ and_assoc (allb k f) (allb m (λ (i : ℕ). f (k + i))) (f (k + m))

pub anyb_at : (f : ℕ → Bool) (n i : ℕ) → i < n → f i ≡ true → anyb n f ≡ true
unfolding anyb
anyb_at f zero i h e = absurd (not-suc-le-zero h)
anyb_at f (suc n) i h e =
    below_suc i n h (λ p. ap (λ (x : Bool). x || f n) (anyb_at f n i p e))
    (λ q. ap (λ (x : Bool). anyb n f || x) (ap f (sym q) ∙ e) ∙ or-true (anyb n f))

pub anyb_none : (f : ℕ → Bool) (n : ℕ) → ((k : ℕ) → k < n → f k ≡ false) → anyb n f ≡ false
unfolding anyb
anyb_none f zero p = refl
anyb_none f (suc n) p = ap₂ (λ (x y : Bool). x || y) (anyb_none f n (λ (k : ℕ) (q : k < n). p k (omega arith))) (p n (omega arith))

pub anyb_zero : (f : ℕ → Bool) → false ≡ anyb 0 f
unfolding anyb
anyb_zero f = refl

pub anyb_step : (f : ℕ → Bool) (i : ℕ) (some test : Bool) → some ≡ anyb i f → test ≡ f i → (some || test) ≡ anyb (i + 1) f
unfolding anyb
anyb_step f i some test a b = ap₂ (λ (x y : Bool). x || y) a b ∙ sym (ap (λ (k : ℕ). anyb k f) (add-one i))

pub anyb_end : (f : ℕ → Bool) (n i : ℕ) (some : Bool) → some ≡ anyb i f → i ≤ n → n ≤ i → some ≡ anyb n f
anyb_end f n i some e h l = e ∙ ap (λ (k : ℕ). anyb k f) (omega arith)

pub first_at : (n i : ℕ) (f : ℕ → Bool) → i < n → ((k : ℕ) → k < i → f k ≡ false) → f i ≡ true → first n f ≡ i
unfolding first
first_at zero i f h p e = absurd (not-suc-le-zero h)
first_at (suc n) zero f h p e = rw e
first_at (suc n) (suc i) f h p e =
    ap (λ (b : Bool). cond b 0 (suc (first n (λ (i : ℕ). f (suc i))))) (p 0 (zero-lt-suc i))
    ∙ ap suc (first_at n i (λ (i : ℕ). f (suc i)) (le_of_suc-le-suc h) (λ (k : ℕ) (q : k < i). p (suc k) (omega arith)) e)

pub first_none : (n : ℕ) (f : ℕ → Bool) → ((k : ℕ) → k < n → f k ≡ false) → first n f ≡ n
unfolding first
first_none zero f p = refl
first_none (suc n) f p =
    ap (λ (b : Bool). cond b 0 (suc (first n (λ (i : ℕ). f (suc i))))) (p 0 (zero-lt-suc n))
    ∙ ap suc (first_none n (λ (i : ℕ). f (suc i)) (λ (k : ℕ) (q : k < n). p (suc k) (omega arith)))

-- tests that agree below n: some index passes, and the first that does
pub anyb_same : (n : ℕ) (f g : ℕ → Bool) → ((i : ℕ) → i < n → f i ≡ g i) → anyb n f ≡ anyb n g
unfolding anyb
anyb_same zero f g h = refl
anyb_same (suc n) f g h = ap₂ (λ (x y : Bool). x || y) (anyb_same n f g (λ i l. h i (omega arith))) (h n (omega arith))

pub first_same : (n : ℕ) (f g : ℕ → Bool) → ((i : ℕ) → i < n → f i ≡ g i) → first n f ≡ first n g
unfolding first
first_same zero f g h = refl
first_same (suc n) f g h =
    ap₂ (λ (b : Bool) (k : ℕ). cond b 0 (suc k)) (h 0 (zero-lt-suc n))
    (first_same n (λ i. f (suc i)) (λ i. g (suc i)) (λ i l. h (suc i) (omega arith)))

-- some index passes, or none does
pub anyb_clear : (f : ℕ → Bool) (n i : ℕ) → anyb n f ≡ false → i < n → f i ≡ false
anyb_clear f n i e h = go (f i) refl
  where
    go : (b : Bool) → f i ≡ b → b ≡ false
    go true q = absurd (true≢false (sym (anyb_at f n i h q) ∙ e))
    go false q = refl

-- an index below n that passes
pub record Some (f : ℕ → Bool) (n : ℕ) : Type 0 where
  pub index : ℕ
  pub below : index < n
  pub passes : f index ≡ true

-- where the test over the range passed, there is one
pub anyb_some : (f : ℕ → Bool) (n : ℕ) → anyb n f ≡ true → Some f n
unfolding anyb
anyb_some f zero e = absurd (false≢true e)
anyb_some f (suc n) e = go (anyb n f) (anyb_some f n) e
  where
    go : (b : Bool) → (b ≡ true → Some f n) → (b || f n) ≡ true → Some f (suc n)
    go true r h = let s = r refl in record { index = s.index; below = omega arith; passes = s.passes }
    go false r h = record { index = n; below = omega arith; passes = h }

-- the first index that passes
pub first_le : (n : ℕ) (f : ℕ → Bool) → first n f ≤ n
unfolding first
first_le zero f = omega arith
first_le (suc n) f = go (f 0) (first_le n (λ i. f (suc i)))
  where
    go : (b : Bool) → first n (λ i. f (suc i)) ≤ n → cond b 0 (suc (first n (λ i. f (suc i)))) ≤ suc n
    go true h = omega arith
    go false h = omega arith

-- those before it do not pass
pub first_before : (n : ℕ) (f : ℕ → Bool) (i : ℕ) → i < first n f → f i ≡ false
unfolding first
first_before zero f i h = absurd (not-suc-le-zero h)
first_before (suc n) f i h = go (f 0) refl (first_before n (λ i. f (suc i))) i h
  where
    m : ℕ
    m = first n (λ i. f (suc i))

    go : (b : Bool) → f 0 ≡ b → ((i : ℕ) → i < m → f (suc i) ≡ false) → (i : ℕ) → i < cond b 0 (suc m) → f i ≡ false
    go true q r i h = absurd (not-suc-le-zero h)
    go false q r zero h = q
    go false q r (suc i) h = r i (omega arith)

-- it passes, if it is below the bound
pub first_hit : (n : ℕ) (f : ℕ → Bool) → first n f < n → f (first n f) ≡ true
unfolding first
first_hit zero f h = absurd (not-suc-le-zero h)
first_hit (suc n) f h = go (f 0) refl (first_hit n (λ i. f (suc i))) h
  where
    m : ℕ
    m = first n (λ i. f (suc i))

    go : (b : Bool) → f 0 ≡ b → (m < n → f (suc m) ≡ true) → cond b 0 (suc m) < suc n → f (cond b 0 (suc m)) ≡ true
    go true q r h = q
    go false q r h = r (omega arith)

-- and it is, where some index passes
pub first_some : (n : ℕ) (f : ℕ → Bool) → anyb n f ≡ true → first n f < n
first_some n f e =
    let s = anyb_some f n e in
    le? n (first n f) (λ l. absurd (true≢false (sym s.passes ∙ first_before n f s.index (omega (arith, s.below))))) (λ l. l)

-- how many of the first n numbers pass a test
unfoldable pub count : ℕ → (ℕ → Bool) → ℕ
count zero test = 0
count (suc n) test = cond (test n) 1 0 + count n test

-- by one test or the other
pub count_same : (n : ℕ) (f g : ℕ → Bool) → ((a : ℕ) → a < n → f a ≡ g a) → count n f ≡ count n g
unfolding count
count_same zero f g h = refl
count_same (suc n) f g h = ap₂ (λ b k. cond b 1 0 + k) (h n (omega arith)) (count_same n f g (λ a l. h a (omega arith)))

-- where the first test passes only if the second does, no more numbers pass it
pub count_le : (n : ℕ) (f g : ℕ → Bool) → ((a : ℕ) → f a ≡ true → g a ≡ true) → count n f ≤ count n g
unfolding count
count_le zero f g h = omega arith
count_le (suc n) f g h = let rest = count_le n f g h in let one = both (f n) (g n) (h n) in omega arith
  where
    both : (b c : Bool) → (b ≡ true → c ≡ true) → cond b 1 0 ≤ cond c 1 0
    both true true i = omega arith
    both true false i = absurd (false≢true (i refl))
    both false true i = omega arith
    both false false i = omega arith
