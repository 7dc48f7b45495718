-- The union of the masks is gathered by merging the filtered vectors: a merged pair is empty just where both are.
use Rattle.std.specs.Prelude.{◌≡◌, refl, Bool, true, false, not, ◌||◌, List, [], ◌≢◌, ℕ, ◌+◌, ◌≤◌, ◌<◌, length, replicate}
use Rattle.std.proofs.Common.{sym, ap, ◌∙◌, arith, eqb-true, eq-eqb, ne_eqb, ltb-true, ltb-false}
use Rattle.std.proofs.lemmas.List.{get_or-replicate}
use Rattle.base.specs.Choice.{◌<?◌, cond_ind}
use Rattle.base.specs.Ranges.{anyb_zero, anyb_step}
use Rattle.base.specs.Lists.{get_d_tab}
use Rattle.table.specs.Field.{State}
use Rattle.table.specs.Layout.{controllers}
use Rattle.rules.specs.Vector.{Pair, Vector, number, empty, pair_of, merge_pair, merged, mask}
use Rattle.rules.specs.Steps.{own_vector}
use Rattle.rules.specs.Sets.{record_in, full, some_full, union}
use Rattle.laws.specs.Bits.{bits_same, mask_bits}

merge_full : (p q : Pair) → not (empty (merge_pair p q)) ≡ (not (empty p) || not (empty q))
unfolding merge_pair
merge_full p q = cond_ind (λ x. not (empty x) ≡ (not (empty p) || not (empty q))) (number p <? number q) second first
  where
    second : (number p <? number q) ≡ true → not (empty q) ≡ (not (empty p) || not (empty q))
    second e =
        let l = ltb-true (number p) (number q) e in
        let ne : number q ≢ 0 = λ z. absurd (omega arith) in
        go (empty p) (empty q) (ne_eqb (number q) 0 ne)
      where
        go : (x y : Bool) → y ≡ false → not y ≡ (not x || not y)
        go true y z = refl
        go false y z = ap not z

    first : (number p <? number q) ≡ false → not (empty p) ≡ (not (empty p) || not (empty q))
    first e = go (empty p) refl
      where
        l : number q ≤ number p
        l = ltb-false _ _ e

        go : (x : Bool) → empty p ≡ x → not x ≡ (not x || not (empty q))
        go true z = sym (ap not (eq-eqb (number q) 0 (omega (arith, l, eqb-true (number p) 0 z))))
        go false z = refl

-- v has a pair of c just where one of the first n filtered vectors has one
pub Gathered : State → List ℕ → ℕ → Vector → Type 0
Gathered σ l n v = (c : ℕ) → c < controllers → full v c ≡ some_full σ l n c

pub gathered_none : (σ : State) (l : List ℕ) → Gathered σ l 0 (replicate controllers (replicate 2 0))
unfolding Gathered some_full
gathered_none σ l c h = ap (λ (p : Pair). not (empty p)) (get_or-replicate controllers c (replicate 2 0) [] h) ∙ anyb_zero _

pub gathered_more : (σ : State) (l : List ℕ) (n : ℕ) (v w x : Vector) → Gathered σ l n v → w ≡ own_vector σ (record_in σ l n) → x ≡ merged v w → Gathered σ l (n + 1) x
unfolding Gathered some_full merged
gathered_more σ l n v w x h e q c cl =
    ap (λ (x : Vector). full x c) q
    ∙ ap (λ (p : Pair). not (empty p)) (get_d_tab controllers (λ (a : ℕ). merge_pair (pair_of v a) (pair_of w a)) c [] cl)
    ∙ merge_full (pair_of v c) (pair_of w c)
    ∙ anyb_step (λ (i : ℕ). full (own_vector σ (record_in σ l i)) c) n _ _ (h c cl) (ap (λ (w : Vector). full w c) e)

-- the mask of all of them merged is the union
pub gathered_all : (σ : State) (l : List ℕ) (n k : ℕ) (v : Vector) → Gathered σ l n v → n ≤ length l → length l ≤ n → k ≡ mask v → k ≡ union σ l
unfolding Gathered union mask
gathered_all σ l n k v h a b e =
    let z : n ≡ length l = omega arith in
    e ∙ mask_bits controllers v ∙ bits_same controllers _ _ (λ c cl. h c cl ∙ ap (λ n. some_full σ l n c) z)
