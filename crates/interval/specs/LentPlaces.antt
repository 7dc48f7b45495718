-- What lent places come back as.
use Rattle.std.specs.Prelude.{◌≡◌, refl, List, ◌++◌, ℕ, zero, suc, ◌+◌, ◌-◌, ◌≤◌, ◌<◌, length, get_or, take, drop, replicate}
use Rattle.std.proofs.Common.{ap, ◌∙◌, arith}
use Rattle.std.proofs.lemmas.List.{length-replicate}
use Rattle.table.specs.Field.{OfPlace}
use Rattle.table.specs.Change.{put_part, clear_places}
use Rattle.table.specs.Layout.{controllers, places, place_words, table_words, position}
use Rattle.table.specs.Words.{state, words}
use Rattle.table.proofs.Words.{words_state, fits_place, lent_part, lent_places}
use Rattle.rules.specs.Vector.{Vector}
use Rattle.rules.specs.Shared.{place_record}
use Rattle.laws.specs.Records.{length_place_record}

-- n words of 0
unfoldable pub zero_words : ℕ → List ℕ
zero_words n = replicate n 0

pub zero_at : (n i : ℕ) → get_or (zero_words n) i 0 ≡ 0
unfolding zero_words
zero_at zero i = refl
zero_at (suc n) zero = refl
zero_at (suc n) (suc i) = zero_at n i

pub length_zero : (n : ℕ) → length (zero_words n) ≡ n
unfolding zero_words
length_zero n = length-replicate n 0

-- the words of a place were lent and came back as an interval's record, or those of places p to q as zeros
pub lent_interval : (t ys : List ℕ) (c p from to i x cause flag : ℕ) (v : Vector) → length t ≡ table_words → c < controllers → p < places →
    ys ≡ place_record i x cause flag v → from ≡ position (OfPlace c p 0) → to ≡ from + place_words →
    take from t ++ (ys ++ drop (to - from) (drop from t)) ≡ words (put_part (state t) (OfPlace c p 0) 0 (place_record i x cause flag v))
lent_interval t ys c p from to i x cause flag v l cl pl e f q =
    let n = length_place_record i x cause flag v in
    ap (λ from. take from t ++ (ys ++ drop (to - from) (drop from t))) f
    ∙ lent_part (state t) (OfPlace c p 0) 0 to t ys _ (words_state t l) e (omega arith) (fits_place c p 0 _ cl pl (omega arith))

pub lent_cleared : (t ys : List ℕ) (c p q from to n : ℕ) → length t ≡ table_words → c < controllers → p ≤ q → q ≤ places → ys ≡ zero_words n → n ≡ to - from →
    from ≡ position (OfPlace c p 0) → to ≡ position (OfPlace c q 0) → take from t ++ (ys ++ drop (to - from) (drop from t)) ≡ words (clear_places (state t) c p q)
lent_cleared t ys c p q from to n l cl pq ql e m f z =
    ap (λ from. take from t ++ (ys ++ drop (to - from) (drop from t))) f
    ∙ lent_places (state t) c p q to t ys (zero_words n) (words_state t l) e cl pq ql (length_zero n ∙ m ∙ ap (λ from. to - from) f) z (zero_at n)
