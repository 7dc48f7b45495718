-- Lists given by a function of the index, and loops that fill a list from the front.
use Rattle.std.specs.Prelude.{◌≡◌, List, [], ◌∷◌, length, get_or, set}
use Rattle.std.proofs.Math.Path.{refl, ap}
use Rattle.std.proofs.Common.{sym, ◌∙◌, subst, ap₂, not-suc-le-zero, le_of_suc-le-suc, zero-lt-suc, arith, length-set, ext_get_or, get_or-set_same, get_or-set_other, below_more}
use Prim.Native.Nat.{ℕ, zero, suc, ◌+◌, ◌≤◌, ◌<◌, zero-le}

module _ {A : Type 0} where
  -- f 0, f 1, .., n of them
  unfoldable pub tab : ℕ → (ℕ → A) → List A
  tab zero f = []
  tab (suc n) f = f 0 ∷ tab n (λ (i : ℕ). f (suc i))

  pub length_tab : (n : ℕ) (f : ℕ → A) → length (tab n f) ≡ n
  unfolding tab
  length_tab zero f = refl
  length_tab (suc n) f = ap suc (length_tab n (λ (i : ℕ). f (suc i)))

  pub get_d_tab : (n : ℕ) (f : ℕ → A) (i : ℕ) (d : A) → i < n → get_or (tab n f) i d ≡ f i
  unfolding tab
  get_d_tab zero f i d h = absurd (not-suc-le-zero h)
  get_d_tab (suc n) f zero d h = refl
  get_d_tab (suc n) f (suc i) d h = get_d_tab n (λ (i : ℕ). f (suc i)) i d (le_of_suc-le-suc h)

  pub tab_of : (d : A) (n : ℕ) (f : ℕ → A) (l : List A) → length l ≡ n → ((i : ℕ) → i < n → get_or l i d ≡ f i) → l ≡ tab n f
  tab_of d n f l e h =
      ext_get_or d l (tab n f) (e ∙ sym (length_tab n f)) (λ (i : ℕ) (p : i < length l).
      let q : i < n = subst (λ (k : ℕ). i < k) e p in
      h i q ∙ sym (get_d_tab n f i d q))

-- a loop has stored f k at each k below i of a list of n elements
pub record Filled {A : Type 0} (d : A) (n : ℕ) (f : ℕ → A) (i : ℕ) (v : List A) : Type 0 where
  pub bound : i ≤ n
  pub size : length v ≡ n
  pub done : (k : ℕ) → k < i → get_or v k d ≡ f k

module _ {A : Type 0} (d : A) (n : ℕ) (f : ℕ → A) where
  pub filled_none : (v : List A) → length v ≡ n → Filled d n f 0 v
  filled_none v e = record { bound = zero-le; size = e; done = λ (k : ℕ) (h : k < 0). absurd (not-suc-le-zero h) }

  pub filled_more : (i : ℕ) (v : List A) (x : A) → Filled d n f i v → i < n → x ≡ f i → Filled d n f (i + 1) (set v i x)
  filled_more i v x r h e =
      let p : i < length v = omega (arith, r.size) in
      record {
        bound = omega arith;
        size = length-set v i x ∙ r.size;
        done =
            below_more (λ (k : ℕ). get_or (set v i x) k d ≡ f k) i (λ (k : ℕ) (q : k < i). get_or-set_other v i k x d (omega arith) ∙ r.done k q)
            (get_or-set_same v i x d p ∙ e);
      }

  pub filled_done : (i : ℕ) (v : List A) → Filled d n f i v → n ≤ i → v ≡ tab n f
  filled_done i v r h = tab_of d n f v r.size (λ (k : ℕ) (q : k < n). r.done k (omega arith))

-- two functions that agree below n give one list
pub tab_same : {A : Type 0} (n : ℕ) (f g : ℕ → A) → ((i : ℕ) → i < n → f i ≡ g i) → tab n f ≡ tab n g
unfolding tab
tab_same zero f g h = refl
tab_same (suc n) f g h = ap₂ (λ a l. a ∷ l) (h 0 (zero-lt-suc n)) (tab_same n (λ i. f (suc i)) (λ i. g (suc i)) (λ i l. h (suc i) (omega arith)))
