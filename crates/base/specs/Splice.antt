-- A list with a part replaced: what code leaves that lent a part of it.
use Rattle.std.specs.Prelude.{◌≡◌, List, [], ◌++◌, ℕ, ◌+◌, ◌-◌, ◌≤◌, ◌<◌, length, get_or, take, drop}
use Rattle.std.proofs.Common.{ap, ap₂, ◌∙◌, append-nil, arith, length-append, length-take, length-drop, drop_of_length-le, get_or-append-add, get_or-take, get_or-drop, drop-drop, take_at, drop_at}
use Rattle.std.proofs.Math.ListN.{get_or-append}
use Rattle.std.proofs.lemmas.List.Edits.{sets, sets-eq}

-- t with the words from a on replaced by r
unfoldable pub splice : List ℕ → ℕ → List ℕ → List ℕ
splice t a r = take a t ++ (r ++ drop (length r) (drop a t))

-- what a part that was lent and has come back leaves
pub splice_of : (a k : ℕ) (t ys r : List ℕ) → ys ≡ r → k ≡ length r → take a t ++ (ys ++ drop k (drop a t)) ≡ splice t a r
unfolding splice
splice_of a k t ys r e q = ap₂ (λ (l : List ℕ) (n : ℕ). take a t ++ (l ++ drop n (drop a t))) e q

pub length_splice : (a : ℕ) (t r : List ℕ) → a + length r ≤ length t → length (splice t a r) ≡ length t
unfolding splice
length_splice a t r h = simp (length-append, length-take, length-drop) (omega arith)

-- the words outside the part, and those of the part
pub splice_below : (a i : ℕ) (t r : List ℕ) → a ≤ length t → i < a → get_or (splice t a r) i 0 ≡ get_or t i 0
unfolding splice
splice_below a i t r h l = get_or-append (take a t) _ 0 i (simp length-take (omega arith)) ∙ get_or-take a t i 0 l

pub splice_in : (a i : ℕ) (t r : List ℕ) → a ≤ length t → i < length r → get_or (splice t a r) (a + i) 0 ≡ get_or r i 0
unfolding splice
splice_in a i t r h l =
    let e : a + i ≡ length (take a t) + i = simp length-take (omega arith) in
    ap (λ (n : ℕ). get_or (take a t ++ (r ++ drop (length r) (drop a t))) n 0) e ∙ get_or-append-add (take a t) _ i 0 ∙ get_or-append r _ 0 i l

pub splice_above : (a i : ℕ) (t r : List ℕ) → a ≤ length t → a + length r ≤ i → get_or (splice t a r) i 0 ≡ get_or t i 0
unfolding splice
splice_above a i t r h l =
    let e : i ≡ length (take a t) + (length r + (i - a - length r)) = simp length-take (omega arith) in
    let e' : a + (length r + (i - a - length r)) ≡ i = omega arith in
    ap (λ (n : ℕ). get_or (take a t ++ (r ++ drop (length r) (drop a t))) n 0) e
    ∙ get_or-append-add (take a t) _ (length r + (i - a - length r)) 0
    ∙ get_or-append-add r _ (i - a - length r) 0
    ∙ get_or-drop (length r) (drop a t) (i - a - length r) 0
    ∙ get_or-drop a t (length r + (i - a - length r)) 0
    ∙ ap (λ (n : ℕ). get_or t n 0) e'

-- A record of k words and then n words: the first k were stored one by one, and the part with the others was lent and came
-- back as ys.
pub headed : (h d ys : List ℕ) (k n : ℕ) → length h ≡ k → length d ≡ k + n →
    take k (sets d 0 h) ++ (ys ++ drop n (drop k (sets d 0 h))) ≡ h ++ ys
headed h d ys k n e l =
    let z : 0 + length h ≡ k = omega arith in
    let q : sets d 0 h ≡ h ++ drop k d = sets-eq h d 0 (omega arith) ∙ ap (λ (i : ℕ). h ++ drop i d) z in
    let r : drop n (drop k d) ≡ [] = drop-drop n k d ∙ drop_of_length-le d {i = k + n} (omega arith) in
    rw (q, take_at h (drop k d) k e, drop_at h (drop k d) k e, r, append-nil ys)
