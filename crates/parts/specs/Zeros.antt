-- Runs of words that are 0, where they stand in the table.
use Rattle.std.specs.Prelude.{◌≡◌, refl, Bool, ◌&&◌, List, ℕ, zero, suc, ◌+◌, ◌*◌, ◌-◌, ◌/◌, ◌<◌, ◌≤◌, get_or, ◌==◌, take, drop, length}
use Rattle.std.specs.Simd.{first_chunks}
use Rattle.std.proofs.Common.{sym, ap, ap₂, ◌∙◌, zero-mul, suc-mul, add_assoc, div-add-mod', not-suc-le-zero, le_of_suc-le-suc, arith}
use Rattle.std.proofs.lemmas.List.{get_or-take, get_or-drop, length-take, length-drop, drop-drop}
use Rattle.std.proofs.Math.Path.{fun_ext}
use Rattle.base.specs.Ranges.{allb, allb_split, allb_ext}
use Rattle.table.specs.Field.{Field, OfHead, OfController, OfPlace, OfMessage}
use Rattle.table.specs.Layout.{position, controller_words, place_words, message_words}
use Rattle.table.specs.Words.{state}
use Rattle.rules.specs.Form.{zeros, head_zeros}

-- the words of a block
abbrev pub block : ℕ
block = 64

-- all words of a list are 0
unfoldable pub all_zero : List ℕ → Bool
all_zero t = zeros (length t) (λ (i : ℕ). get_or t i 0)

-- k words from word `at` on are 0
unfoldable pub zeros_from : List ℕ → ℕ → ℕ → Bool
zeros_from t at k = zeros k (λ (i : ℕ). get_or t (at + i) 0)

-- in two parts; and as m records of w words each, one after the other
pub zeros_split : (t : List ℕ) (at k m : ℕ) → zeros_from t at (k + m) ≡ (zeros_from t at k && zeros_from t (at + k) m)
unfolding zeros_from zeros
zeros_split t at k m =
    allb_split (λ (i : ℕ). get_or t (at + i) 0 == 0) k m
    ∙ ap (λ (b : Bool). zeros_from t at k && b) (ap (allb m) (fun_ext (λ (i : ℕ). ap (λ (j : ℕ). get_or t j 0 == 0) (sym (add_assoc at k i)))))

pub zeros_records : (t : List ℕ) (at w m : ℕ) → zeros_from t at (m * w) ≡ allb m (λ (i : ℕ). zeros_from t (at + i * w) w)
unfolding zeros_from zeros allb
zeros_records t at w zero = ap (λ (k : ℕ). allb k (λ (i : ℕ). get_or t (at + i) 0 == 0)) (zero-mul w)
zeros_records t at w (suc m) =
    ap (zeros_from t at) (suc-mul m w) ∙ zeros_split t at (m * w) w
    ∙ ap (λ (x : Bool). x && zeros_from t (at + m * w) w) (zeros_records t at w m)

-- a part of a list is 0 where the list has zeros from word `at` on: k words, or all that follow
same_zeros : (t u : List ℕ) (at k n : ℕ) → k ≡ n → ((i : ℕ) → i < k → get_or u i 0 ≡ get_or t (at + i) 0) → zeros k (λ (i : ℕ). get_or u i 0) ≡ zeros_from t at n
unfolding zeros_from zeros
same_zeros t u at k n e f =
    allb_ext _ _ k (λ i l. ap (λ (x : ℕ). x == 0) (f i l)) ∙ ap (λ (n : ℕ). allb n (λ (i : ℕ). get_or t (at + i) 0 == 0)) e

pub zeros_part : (t : List ℕ) (at m k : ℕ) → m ≡ k → at + k ≤ length t → all_zero (take m (drop at t)) ≡ zeros_from t at k
unfolding all_zero
zeros_part t at m k e h =
    let p = take m (drop at t) in
    same_zeros t p at (length p) k (omega (arith, length-take m (drop at t), length-drop at t))
    (λ i l. get_or-take m (drop at t) i 0 (omega (arith, length-take m (drop at t))) ∙ get_or-drop at t i 0)

zeros_rest : (t : List ℕ) (at : ℕ) → all_zero (drop at t) ≡ zeros_from t at (length t - at)
unfolding all_zero
zeros_rest t at = same_zeros t (drop at t) at _ _ (length-drop at t) (λ i l. get_or-drop at t i 0)

-- chunk i, each of n words
chunk_at : (n k i : ℕ) (t d : List ℕ) → i < k → get_or (first_chunks n k t) i d ≡ take n (drop (i * n) t)
chunk_at n zero i t d h = absurd (not-suc-le-zero h)
chunk_at n (suc k) zero t d h = ap (λ (j : ℕ). take n (drop j t)) (sym (zero-mul n))
chunk_at n (suc k) (suc i) t d h =
    chunk_at n k i (drop n t) d (le_of_suc-le-suc h) ∙ ap (take n) (drop-drop (i * n) n t) ∙ ap (λ (j : ℕ). take n (drop j t)) (omega (arith, suc-mul i n))

-- a list in whole blocks, and what is left
pub zeros_block : (t d : List ℕ) (i : ℕ) → i < length t / block → all_zero (get_or (first_chunks block (length t / block) t) i d) ≡ zeros_from t (i * block) block
zeros_block t d i h =
    ap all_zero (chunk_at block _ i t d h) ∙ zeros_part t (i * block) block block refl (omega (arith, div-add-mod' (length t) block))

pub zeros_blocks : (t : List ℕ) →
    all_zero t ≡ (allb (length t / block) (λ (i : ℕ). zeros_from t (i * block) block) && all_zero (drop (length t / block * block) t))
unfolding all_zero
zeros_blocks t =
    let m = length t / block in
    same_zeros t t 0 _ (m * block + (length t - m * block)) (omega (arith, div-add-mod' (length t) block)) (λ i l. ap (λ (j : ℕ). get_or t j 0) (omega arith))
    ∙ zeros_split t 0 (m * block) (length t - m * block)
    ∙ ap₂ (λ (x y : Bool). x && y)
    (zeros_records t 0 block m ∙ allb_ext _ _ m (λ i l. ap (λ (j : ℕ). zeros_from t j block) (omega arith)))
    (sym (zeros_rest t (m * block) ∙ ap (λ (j : ℕ). zeros_from t j (length t - m * block)) (omega arith)))

-- they are those of the fields f 0, f 1, ..
zeros_fields : (t : List ℕ) (at k : ℕ) (f : ℕ → Field) → ((i : ℕ) → at + i ≡ position (f i)) → zeros_from t at k ≡ zeros k (λ (i : ℕ). state t (f i))
unfolding zeros_from
zeros_fields t at k f e = ap (zeros k) (fun_ext (λ (i : ℕ). ap (λ (j : ℕ). get_or t j 0) (e i)))

module _ (t : List ℕ) where
  -- of the head, from one word on and below another
  pub zeros_head : (from to : ℕ) → zeros_from t from (to - from) ≡ head_zeros (state t) from to
  unfolding head_zeros
  zeros_head from to = zeros_fields t from (to - from) (λ (k : ℕ). OfHead (from + k)) (λ (k : ℕ). refl)

  -- of a record that begins at word `at`
  pub zeros_controller : (c at : ℕ) → at ≡ position (OfController c 0) → zeros_from t at controller_words ≡ zeros controller_words (λ (k : ℕ). state t (OfController c k))
  zeros_controller c at e = zeros_fields t at controller_words (OfController c) (λ (k : ℕ). omega arith)

  pub zeros_place : (c p at : ℕ) → at ≡ position (OfPlace c p 0) → zeros_from t at place_words ≡ zeros place_words (λ (k : ℕ). state t (OfPlace c p k))
  zeros_place c p at e = zeros_fields t at place_words (OfPlace c p) (λ (k : ℕ). omega arith)

  pub zeros_message : (r at : ℕ) → at ≡ position (OfMessage r 0) → zeros_from t at message_words ≡ zeros message_words (λ (k : ℕ). state t (OfMessage r k))
  zeros_message r at e = zeros_fields t at message_words (OfMessage r) (λ (k : ℕ). omega arith)
