-- A list of any length is looked at in blocks: it has an absent message where a block has one, or what is left.
use Rattle.std.specs.Prelude.{◌≡◌, Bool, true, false, ◌||◌, List, ℕ, zero, suc, ◌+◌, ◌*◌, ◌-◌, ◌/◌, ◌<◌, ◌≤◌, get_or, take, drop, length}
use Rattle.std.specs.Simd.{first_chunks}
use Rattle.std.proofs.Common.{sym, ap, ap₂, ◌∙◌, zero-mul, suc-mul, add-zero, add-suc, div-add-mod', not-suc-le-zero, le_of_suc-le-suc, arith}
use Rattle.std.proofs.Math.Bool.{or-false, or_assoc}
use Rattle.std.proofs.lemmas.List.{get_or-take, get_or-drop, length-take, length-drop}
use Rattle.base.specs.Ranges.{anyb, anyb_zero, anyb_at, anyb_some, anyb_same}
use Rattle.table.specs.Field.{State}
use Rattle.rules.specs.Sets.{nth, absent, some_absent}

-- how many numbers a block has
abbrev pub block : ℕ
block = 16

-- one of the first k messages of the list isn't there; one of k from the i-th on
unfoldable pub absent_below : State → List ℕ → ℕ → Bool
absent_below σ l k = anyb k (λ (j : ℕ). absent σ (nth l j))

unfoldable pub absent_from : State → List ℕ → ℕ → ℕ → Bool
absent_from σ l i k = anyb k (λ (j : ℕ). absent σ (nth l (i + j)))

-- a part of the list that begins with the i-th
absent_part : (σ : State) (l p : List ℕ) (i k : ℕ) → length p ≡ k →
    ((j : ℕ) → j < k → nth p j ≡ nth l (i + j)) → some_absent σ p ≡ absent_from σ l i k
unfolding some_absent absent_from
absent_part σ l p i k e h =
    ap (λ (n : ℕ). anyb n (λ (j : ℕ). absent σ (nth p j))) e ∙ anyb_same k _ _ (λ j q. ap (absent σ) (h j q))

-- the first k, and those after them
absent_split : (σ : State) (l : List ℕ) (k m : ℕ) →
    absent_below σ l (k + m) ≡ (absent_below σ l k || absent_from σ l k m)
unfolding absent_below absent_from anyb
absent_split σ l k zero = ap (absent_below σ l) (add-zero k) ∙ sym (or-false (absent_below σ l k))
absent_split σ l k (suc m) =
    ap (absent_below σ l) (add-suc k m) ∙ ap (λ (b : Bool). b || absent σ (nth l (k + m))) (absent_split σ l k m)
    ∙ or_assoc (absent_below σ l k) (absent_from σ l k m) (absent σ (nth l (k + m)))

-- counted from the n-th on
absent_after : (σ : State) (n : ℕ) (l : List ℕ) (i k : ℕ) → absent_from σ (drop n l) i k ≡ absent_from σ l (n + i) k
unfolding absent_from
absent_after σ n l i k = anyb_same k _ _ (λ j q. ap (absent σ) (get_or-drop n l (i + j) 0 ∙ ap (nth l) (omega arith)))

-- chunk i, each of n numbers
absent_chunk : (σ : State) (n k i : ℕ) (l d : List ℕ) → i < k → k * n ≤ length l →
    some_absent σ (get_or (first_chunks n k l) i d) ≡ absent_from σ l (i * n) n
absent_chunk σ n zero i l d h w = absurd (not-suc-le-zero h)
absent_chunk σ n (suc k) zero l d h w =
    absent_part σ l (take n l) (0 * n) n (omega (arith, length-take n l, suc-mul k n, w))
    (λ j q. get_or-take n l j 0 q ∙ ap (nth l) (omega (arith, zero-mul n)))
absent_chunk σ n (suc k) (suc i) l d h w =
    absent_chunk σ n k i (drop n l) d (le_of_suc-le-suc h) (omega (arith, length-drop n l, suc-mul k n, w))
    ∙ absent_after σ n l (i * n) n ∙ ap (λ (j : ℕ). absent_from σ l j n) (omega (arith, suc-mul i n))

module _ (σ : State) (l : List ℕ) where
  -- before the first block
  pub absent_none : false ≡ absent_below σ l (0 * block)
  unfolding absent_below
  absent_none = anyb_zero _

  -- block i of the list
  pub absent_block : (d : List ℕ) (i : ℕ) → i < length l / block →
      some_absent σ (get_or (first_chunks block (length l / block) l) i d) ≡ absent_from σ l (i * block) block
  absent_block d i h = absent_chunk σ block (length l / block) i l d h (omega (arith, div-add-mod' (length l) block))

  -- it has an absent message, or neither it nor a block before it has one
  pub absent_stops : (i : ℕ) (b : Bool) → i < length l / block → b ≡ absent_from σ l (i * block) block → b ≡ true →
      true ≡ some_absent σ l
  unfolding absent_from some_absent
  absent_stops i b h q t =
      let s = anyb_some _ _ (sym q ∙ t) in
      sym (anyb_at _ _ (i * block + s.index) (omega (arith, s.below, div-add-mod' (length l) block)) s.passes)

  pub absent_next : (i : ℕ) (b : Bool) → false ≡ absent_below σ l (i * block) →
      b ≡ absent_from σ l (i * block) block → b ≡ false → false ≡ absent_below σ l ((i + 1) * block)
  absent_next i b e q f =
      ap₂ (λ (x y : Bool). x || y) e (sym f ∙ q) ∙ sym (absent_split σ l (i * block) block)
      ∙ ap (absent_below σ l) (omega arith)

  -- no block has one: what is left decides
  pub absent_rest : (i : ℕ) → false ≡ absent_below σ l (i * block) → i ≤ length l / block → length l / block ≤ i →
      some_absent σ (drop (length l / block * block) l) ≡ some_absent σ l
  unfolding absent_below some_absent
  absent_rest i e x y =
      let m = length l / block * block in
      let r = length l - m in
      let none : false ≡ absent_below σ l m = e ∙ ap (λ (k : ℕ). absent_below σ l (k * block)) (omega arith) in
      absent_part σ l (drop m l) m r (length-drop m l) (λ j q. get_or-drop m l j 0)
      ∙ ap (λ (b : Bool). b || absent_from σ l m r) none
      ∙ sym (absent_split σ l m r)
      ∙ ap (absent_below σ l) (omega (arith, div-add-mod' (length l) block))
