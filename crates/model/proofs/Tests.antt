-- Laws of tests and of functions changed at one place, over variables; the proofs of this crate use them in place of the
-- definitions.
use Rattle.std.specs.Prelude.{◌≡◌, refl, Bool, true, false, not, ◌&&◌, ◌||◌, ◌⊎◌, ◌≢◌, ℕ, ◌≤◌, ◌<◌, max}
use Rattle.std.proofs.Common.{sym, ◌∙◌, subst, inl, inr, arith, eqb-true, eq-eqb, ne_eqb, ◌==◌}
use Rattle.std.proofs.Math.Path.{fun_ext}
use Rattle.std.proofs.lemmas.Bool.{false≢true, eqb-false}
use Rattle.std.proofs.Math.Decide.{ℕ_discrete}
use Rattle.base.specs.Choice.{and_left, and_right, cond_ind, le?}
use Rattle.history.specs.History.{Interval, same_interval, changed_at, changed_at_interval}
use Rattle.model.specs.Model.{changed_at₂}
use Rattle.model.specs.Tests.{Is}

-- one of two tests passes
pub or_cases : (a b : Bool) → Is (a || b) → Is a ⊎ Is b
or_cases true b e = inl refl
or_cases false b e = inr e

-- and the other way round, from the first
pub or_first : (a b : Bool) → Is a → Is (a || b)
or_first true b e = refl
or_first false b e = absurd (false≢true e)

-- or from the second
pub or_second : (a b : Bool) → Is b → Is (a || b)
or_second true b e = refl
or_second false b e = e

-- both of two tests pass
pub and_both : (a b : Bool) → Is a → Is b → Is (a && b)
and_both true b e f = f
and_both false b e f = e

-- no test both passes and fails
pub contrary : {A : Type 0} {b : Bool} → Is b → b ≡ false → A
contrary e f = absurd (false≢true (sym f ∙ e))

-- a test that cannot pass fails
pub fails : (b : Bool) → (Is b → ⊥) → b ≡ false
fails true f = absurd (f refl)
fails false f = refl

-- and one that cannot fail passes
pub passes : (b : Bool) → (b ≡ false → ⊥) → Is b
passes true f = refl
passes false f = absurd (f refl)

-- the opposite of a test that fails passes
pub not_passes : (b : Bool) → b ≡ false → Is (not b)
not_passes b e = rw e

-- two numbers are equal or not, in a proof
pub eq? : {A : Type 0} (a b : ℕ) → (a ≡ b → A) → (a ≢ b → A) → A
eq? a b f g =
    elim (ℕ_discrete a b) [
      | yes e ↦ f e
      | no e ↦ g e
    ]

-- the larger of two numbers is one of them
pub max_ind : (P : ℕ → Type 0) (m n : ℕ) → (m ≤ n → P n) → (n < m → P m) → P (max m n)
max_ind P m n f g =
    le? m n (λ l. let e : max m n ≡ n = omega arith in rw e (f l)) (λ l. let e : max m n ≡ m = omega arith in rw e (g l))

-- a function changed at one number: what holds of the new value there and of the old ones elsewhere holds everywhere
pub changed_at_ind : {A : Type 0} (P : ℕ → A → Type 0) (f : ℕ → A) (n : ℕ) (a : A) → P n a → ((k : ℕ) → k ≢ n → P k (f k)) → (k : ℕ) → P k (changed_at f n a k)
unfolding changed_at
changed_at_ind P f n a p q k =
    cond_ind (P k) (k == n) (λ e. subst (λ z. P z a) (sym (eqb-true k n e)) p) (λ e. q k (eqb-false k n e))

-- the new value
pub changed_at_same : {A : Type 0} (f : ℕ → A) (n : ℕ) (a : A) → changed_at f n a n ≡ a
unfolding changed_at
changed_at_same f n a = rw (eq-eqb n n refl)

-- the old values
pub changed_at_other : {A : Type 0} (f : ℕ → A) (n k : ℕ) (a : A) → k ≢ n → changed_at f n a k ≡ f k
unfolding changed_at
changed_at_other f n k a ne = rw (ne_eqb k n ne)

-- a function changed to what it had
pub changed_at_id : {A : Type 0} (f : ℕ → A) (n : ℕ) → changed_at f n (f n) ≡ f
changed_at_id f n = fun_ext (changed_at_ind (λ k a. a ≡ f k) f n (f n) refl (λ k ne. refl))

-- a function changed twice at one number
pub changed_at_twice : {A : Type 0} (f : ℕ → A) (n : ℕ) (a b : A) → changed_at (changed_at f n a) n b ≡ changed_at f n b
changed_at_twice f n a b =
    fun_ext (changed_at_ind (λ k z. z ≡ changed_at f n b k) (changed_at f n a) n b (sym (changed_at_same f n b))
    (λ k ne. changed_at_other f n k a ne ∙ sym (changed_at_other f n k b ne)))

-- a table of numbers changed at one row and column
pub changed_at₂_ind : (P : ℕ → ℕ → ℕ → Type 0) (f : ℕ → ℕ → ℕ) (a i v : ℕ) → P a i v →
    ((b s : ℕ) → (b ≡ a → s ≡ i → ⊥) → P b s (f b s)) → (b s : ℕ) → P b s (changed_at₂ f a i v b s)
unfolding changed_at₂
changed_at₂_ind P f a i v p q b =
    changed_at_ind (λ b g. (s : ℕ) → P b s (g s)) f a (changed_at (f a) i v) (changed_at_ind (P a) (f a) i v p (λ s ne. q a s (λ e g. ne g))) (λ b ne s. q b s (λ e g. ne e)) b

-- the new number
pub changed_at₂_same : (f : ℕ → ℕ → ℕ) (a i v : ℕ) → changed_at₂ f a i v a i ≡ v
changed_at₂_same f a i v = changed_at₂_ind (λ b s w. b ≡ a → s ≡ i → w ≡ v) f a i v (λ e g. refl) (λ b s ne e g. absurd (ne e g)) a i refl refl

-- the old numbers
pub changed_at₂_other : (f : ℕ → ℕ → ℕ) (a i v b s : ℕ) → (b ≡ a → s ≡ i → ⊥) → changed_at₂ f a i v b s ≡ f b s
changed_at₂_other f a i v b s = changed_at₂_ind (λ b s w. (b ≡ a → s ≡ i → ⊥) → w ≡ f b s) f a i v (λ ne. absurd (ne refl refl)) (λ b s ne z. refl) b s

-- equal intervals
pub interval_path : {y j : Interval} → y.owner ≡ j.owner → y.incarnation ≡ j.incarnation → y.number ≡ j.number → y ≡ j
interval_path p q r = λ d. record { owner = p d; incarnation = q d; number = r d }

-- the test of two intervals says that they are equal
pub same_interval_true : (y j : Interval) → Is (same_interval y j) → y ≡ j
unfolding same_interval
same_interval_true y j e =
    let rest = and_right (y.owner == j.owner) ((y.incarnation == j.incarnation) && (y.number == j.number)) e in
    interval_path (eqb-true _ _ (and_left _ ((y.incarnation == j.incarnation) && (y.number == j.number)) e))
    (eqb-true _ _ (and_left _ (y.number == j.number) rest))
    (eqb-true _ _ (and_right (y.incarnation == j.incarnation) _ rest))

-- and an interval passes it with itself
pub same_interval_refl : (y : Interval) → Is (same_interval y y)
unfolding same_interval
same_interval_refl y =
    and_both (y.owner == y.owner) _ (eq-eqb y.owner _ refl)
    (and_both (y.incarnation == y.incarnation) (y.number == y.number) (eq-eqb y.incarnation _ refl) (eq-eqb y.number _ refl))

-- a function changed at one interval
pub changed_at_interval_ind : {A : Type 0} (P : Interval → A → Type 0) (f : Interval → A) (y : Interval) (a : A) → P y a →
    ((j : Interval) → j ≢ y → P j (f j)) → (j : Interval) → P j (changed_at_interval f y a j)
unfolding changed_at_interval
changed_at_interval_ind P f y a p q j =
    cond_ind (P j) (same_interval j y) (λ e. subst (λ k. P k a) (sym (same_interval_true j y e)) p) (λ e. q j (λ z. contrary (rw z (same_interval_refl y)) e))

-- the new value
pub changed_at_interval_same : {A : Type 0} (f : Interval → A) (y : Interval) (a : A) → changed_at_interval f y a y ≡ a
unfolding changed_at_interval
changed_at_interval_same f y a = rw (same_interval_refl y)

-- the old values
pub changed_at_interval_other : {A : Type 0} (f : Interval → A) (y j : Interval) (a : A) → j ≢ y → changed_at_interval f y a j ≡ f j
unfolding changed_at_interval
changed_at_interval_other f y j a ne = cond_ind (λ z. z ≡ f j) (same_interval j y) (λ e. absurd (ne (same_interval_true j y e))) (λ e. refl)
