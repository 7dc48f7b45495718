-- Functions on the numbers from 1 to a bound, and on the owners and incarnations of a house.
use Rattle.std.specs.Prelude.{◌≡◌, refl, Bool, true, false, cond, ◌&&◌, ◌≢◌, ◌==◌}
use Rattle.std.proofs.Math.Path.{sym, ap, fun_ext}
use Rattle.std.proofs.Common.{◌∙◌, true≢false, arith}
use Prim.Native.Nat.{ℕ, ◌+◌, ◌≤◌, ◌<◌}
use borrow.Author.Tests.{eqb-true, eqb-false, leb-true, leb-false, le-leb, ltb-true, ltb-false, lt-ltb}
use Rattle.base.specs.Choice.{◌≤?◌, ◌<?◌, and_left, and_right, cond_ind, le?}
use Rattle.table.specs.Layout.{controllers, incarnations}
use Rattle.history.specs.History.{changed_at}
use Rattle.model.specs.Model.{changed_at₂, renewed}
use Rattle.model.proofs.Tests.{changed_at_ind, changed_at₂_ind, changed_at₂_same, changed_at₂_other}

-- the second of two tests failed if the first passed
and_no : (a b : Bool) → (a && b) ≡ false → a ≡ true → b ≡ false
and_no true b e q = e
and_no false b e q = absurd (true≢false (sym q))

module _ {A : Type 0} where
  -- what f says of the numbers 1 to n, and `empty` for all others
  unfoldable pub within : ℕ → A → (ℕ → A) → ℕ → A
  within n empty f x = cond ((1 ≤? x) && (x ≤? n)) (f x) empty

  -- a fact of it, from its two cases
  pub within_ind : (P : ℕ → A → Type 0) (n : ℕ) (empty : A) (f : ℕ → A) → ((x : ℕ) → 1 ≤ x → x ≤ n → P x (f x)) →
      ((x : ℕ) → (1 ≤ x → n < x) → P x empty) → (x : ℕ) → P x (within n empty f x)
  unfolding within
  within_ind P n empty f p q x =
      cond_ind (P x) ((1 ≤? x) && (x ≤? n)) (λ e. p x (leb-true 1 x (and_left (1 ≤? x) _ e)) (leb-true x n (and_right (1 ≤? x) _ e)))
      (λ e. q x (λ l. leb-false x n (and_no (1 ≤? x) (x ≤? n) e (le-leb 1 x l))))

  -- a number from 1 to n
  pub within_in : (n : ℕ) (empty : A) (f : ℕ → A) (x : ℕ) → 1 ≤ x → x ≤ n → within n empty f x ≡ f x
  unfolding within
  within_in n empty f x p q = rw (le-leb 1 x p, le-leb x n q)

  -- any other number
  pub within_out : (n : ℕ) (empty : A) (f : ℕ → A) (x : ℕ) → (1 ≤ x → n < x) → within n empty f x ≡ empty
  within_out n empty f x =
      within_ind (λ x y. (1 ≤ x → n < x) → y ≡ empty) n empty f (λ x p q o. absurd (let l = o p in omega arith)) (λ x _ _. refl) x

  -- two functions that say the same of them
  pub within_same : (n : ℕ) (empty : A) (f g : ℕ → A) → ((x : ℕ) → 1 ≤ x → x ≤ n → g x ≡ f x) → within n empty g ≡ within n empty f
  within_same n empty f g h =
      fun_ext (within_ind (λ x y. within n empty g x ≡ y) n empty f (λ x p q. within_in n empty g x p q ∙ h x p q) (λ x o. within_out n empty g x o))

  -- one more number
  pub within_more : (n : ℕ) (empty : A) (f g : ℕ → A) (new : A) → g (n + 1) ≡ new → ((x : ℕ) → 1 ≤ x → x ≤ n → g x ≡ f x) →
      within (n + 1) empty g ≡ changed_at (within n empty f) (n + 1) new
  within_more n empty f g new e h =
      fun_ext (changed_at_ind (λ x y. within (n + 1) empty g x ≡ y) (within n empty f) (n + 1) new (within_in (n + 1) empty g (n + 1) (omega arith) (omega arith) ∙ e)
      (within_ind (λ x y. x ≢ n + 1 → within (n + 1) empty g x ≡ y) n empty f (λ x p q ne. within_in (n + 1) empty g x p (omega arith) ∙ h x p q)
      (λ x o ne. within_out (n + 1) empty g x (λ p. let l = o p in omega arith))))

  -- another value for the last number
  pub within_last : (n : ℕ) (empty : A) (f g : ℕ → A) (new : A) → 1 ≤ n → g n ≡ new → ((x : ℕ) → 1 ≤ x → x < n → g x ≡ f x) →
      within n empty g ≡ changed_at (within n empty f) n new
  within_last n empty f g new l e h =
      fun_ext (changed_at_ind (λ x y. within n empty g x ≡ y) (within n empty f) n new (within_in n empty g n l (omega arith) ∙ e)
      (within_ind (λ x y. x ≢ n → within n empty g x ≡ y) n empty f (λ x p q ne. within_in n empty g x p q ∙ h x p (omega arith))
      (λ x o ne. within_out n empty g x o)))

  -- a new number j + 1 after the first j of n
  pub within_renewed : (j n : ℕ) (empty : A) (f g : ℕ → A) (new : A) → j ≤ n → g (j + 1) ≡ new → ((x : ℕ) → 1 ≤ x → x ≤ j → g x ≡ f x) →
      within (j + 1) empty g ≡ renewed j new empty (within n empty f)
  unfolding renewed
  within_renewed j n empty f g new l e h =
      fun_ext (λ x. cond_ind (λ y. W x ≡ y) (x ≤? j)
      (λ q. let m = leb-true x j q in
      le? 1 x (λ p. within_in (j + 1) empty g x p (omega arith) ∙ h x p m ∙ sym (within_in n empty f x p (omega arith)))
      (λ p. within_out (j + 1) empty g x (λ o. omega arith) ∙ sym (within_out n empty f x (λ o. omega arith))))
      (λ q. let m = leb-false x j q in
      cond_ind (λ y. W x ≡ y) (x == j + 1) (λ r. ap W (eqb-true x (j + 1) r) ∙ within_in (j + 1) empty g (j + 1) (omega arith) (omega arith) ∙ e)
      (λ r. let ne : x ≢ j + 1 = eqb-false x (j + 1) r in within_out (j + 1) empty g x (λ o. omega arith))))
    where
      W : ℕ → A
      W = within (j + 1) empty g

-- what f says of an owner and an incarnation that there are, and 0 for all others
unfoldable pub in_rows : (ℕ → ℕ → ℕ) → ℕ → ℕ → ℕ
in_rows f owner i = cond ((owner <? controllers) && (i <? incarnations)) (f owner i) 0

-- a fact of it, from its two cases
rows_ind : (P : ℕ → ℕ → ℕ → Type 0) (f : ℕ → ℕ → ℕ) → ((owner i : ℕ) → owner < controllers → i < incarnations → P owner i (f owner i)) →
    ((owner i : ℕ) → (owner < controllers → incarnations ≤ i) → P owner i 0) → (owner i : ℕ) → P owner i (in_rows f owner i)
unfolding in_rows
rows_ind P f p q owner i =
    cond_ind (P owner i) ((owner <? controllers) && (i <? incarnations))
    (λ e. p owner i (ltb-true owner controllers (and_left (owner <? controllers) _ e)) (ltb-true i incarnations (and_right (owner <? controllers) _ e)))
    (λ e. q owner i (λ l. ltb-false i incarnations (and_no (owner <? controllers) (i <? incarnations) e (lt-ltb owner controllers l))))

-- an owner and an incarnation that there are
pub rows_in : (f : ℕ → ℕ → ℕ) (owner i : ℕ) → owner < controllers → i < incarnations → in_rows f owner i ≡ f owner i
unfolding in_rows
rows_in f owner i ol il = rw (lt-ltb owner controllers ol, lt-ltb i incarnations il)

-- any others
pub rows_out : (f : ℕ → ℕ → ℕ) (owner i : ℕ) → (owner < controllers → incarnations ≤ i) → in_rows f owner i ≡ 0
rows_out f owner i =
    rows_ind (λ owner i y. (owner < controllers → incarnations ≤ i) → y ≡ 0) f (λ owner i ol il o. absurd (let l = o ol in omega arith)) (λ owner i _ _. refl) owner i

-- two functions that say the same
pub rows_same : (f g : ℕ → ℕ → ℕ) (owner i : ℕ) → (owner < controllers → i < incarnations → g owner i ≡ f owner i) → in_rows g owner i ≡ in_rows f owner i
rows_same f g =
    rows_ind (λ owner i y. (owner < controllers → i < incarnations → g owner i ≡ f owner i) → in_rows g owner i ≡ y) f
    (λ owner i ol il h. rows_in g owner i ol il ∙ h ol il) (λ owner i o _. rows_out g owner i o)

-- a function that says 0
pub rows_none : (f : ℕ → ℕ → ℕ) → ((owner i : ℕ) → f owner i ≡ 0) → in_rows f ≡ (λ owner i. 0)
rows_none f h = fun_ext (λ owner. fun_ext (rows_ind (λ owner i y. y ≡ 0) f (λ owner i _ _. h owner i) (λ owner i _. refl) owner))

-- another value for one owner and incarnation
pub rows_changed : (f g : ℕ → ℕ → ℕ) (a i v : ℕ) → a < controllers → i < incarnations → ((b j : ℕ) → g b j ≡ changed_at₂ f a i v b j) → in_rows g ≡ changed_at₂ (in_rows f) a i v
rows_changed f g a i v al il h =
    fun_ext (λ b. fun_ext (changed_at₂_ind (λ b j y. in_rows g b j ≡ y) (in_rows f) a i v (rows_in g a i al il ∙ h a i ∙ changed_at₂_same f a i v)
    (λ b j ne. rows_same f g b j (λ _ _. h b j ∙ changed_at₂_other f a i v b j ne)) b))
