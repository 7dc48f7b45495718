-- The words of a record: how many there are, what is read where a part of them was put, and which changes leave the vectors.
use Rattle.std.specs.Prelude.{◌≡◌, refl, List, [], ◌∷◌, ◌++◌, ◌≢◌, ℕ, ◌+◌, ◌*◌, ◌/◌, ◌%◌, ◌<◌, length, get_or}
use Rattle.std.proofs.Common.{sym, ap, ap₂, ◌∙◌, arith, length-append, get_or-append-add, eq-eqb}
use Rattle.std.proofs.lemmas.Bool.{lt-leb}
use Rattle.base.specs.Lists.{tab_same, length_tab, get_d_tab}
use Rattle.table.specs.Field.{Field, State, OfPlace, PairIncarnation, PairNumber, MessagePairIncarnation, MessagePairNumber, place_head, message_head, word, word_of, word_of_lem}
use Rattle.table.specs.Change.{put_part, part_ind, clear_places}
use Rattle.table.specs.Layout.{controllers, place_words, message_words, vector_words}
use Rattle.rules.specs.Vector.{Vector, pair, pair_of, place_vector, message_vector, flat, filter_pair, filtered, merge_pair, merged}
use Rattle.rules.specs.Shared.{place_record}
use Rattle.rules.specs.Steps.{message_record}

-- a part: its own words, and any other field
pub part_at : (σ : State) (f : Field) (k : ℕ) (r : List ℕ) (i j : ℕ) → i < length r → j ≡ k + i → put_part σ f k r (word_of f j) ≡ get_or r i 0
part_at σ f k r i j h q =
    part_ind (λ g y. g ≡ word_of f j → y ≡ get_or r i 0) σ f k r
    (λ l _ e. ap (λ n. get_or r n 0) (let w : k + l ≡ j = sym (word_of_lem f (k + l)) ∙ ap word e ∙ word_of_lem f j in omega arith))
    (λ g n e. absurd (n i h (e ∙ ap (word_of f) q))) (word_of f j) refl

-- a field outside the part
pub part_other : (σ : State) (f g : Field) (k : ℕ) (r : List ℕ) → ((i : ℕ) → i < length r → g ≢ word_of f (k + i)) → put_part σ f k r g ≡ σ g
part_other σ f g k r = part_ind (λ g y. ((i : ℕ) → i < length r → g ≢ word_of f (k + i)) → y ≡ σ g) σ f k r (λ i h n. absurd (n i h refl)) (λ g _ _. refl) g

-- places below the freed ones stay
pub clear_kept : (σ : State) (c p q x k : ℕ) → x < p → clear_places σ c p q (OfPlace c x k) ≡ σ (OfPlace c x k)
unfolding clear_places
clear_kept σ c p q x k l = simp (eq-eqb c c refl, lt-leb p x l)

-- HOW MANY WORDS
pub length_flat : (v : Vector) → length (flat v) ≡ vector_words
unfolding flat
length_flat v = length_tab vector_words _

pub length_place_record : (i x cause flag : ℕ) (v : Vector) → length (place_record i x cause flag v) ≡ place_words
unfolding place_record
length_place_record i x cause flag v = length-append (i ∷ x ∷ cause ∷ flag ∷ []) (flat v) ∙ ap (λ n. place_head + n) (length_flat v)

pub length_message_record : (st sender receiver i x payload : ℕ) (v : Vector) → length (message_record st sender receiver i x payload v) ≡ message_words
unfolding message_record
length_message_record st sender receiver i x payload v =
    length-append (st ∷ sender ∷ receiver ∷ i ∷ x ∷ payload ∷ []) (flat v) ∙ ap (λ n. message_head + n) (length_flat v)

-- a vector is that of its words
pub place_vector_of : (σ τ : State) (c p : ℕ) →
    ((owner : ℕ) → owner < controllers → (σ (PairIncarnation c p owner) ≡ τ (PairIncarnation c p owner)) × (σ (PairNumber c p owner) ≡ τ (PairNumber c p owner))) →
    place_vector σ c p ≡ place_vector τ c p
unfolding place_vector
place_vector_of σ τ c p h = tab_same controllers _ _ (λ owner l. ap₂ pair (h owner l).0 (h owner l).1)

pub message_vector_of : (σ τ : State) (r : ℕ) →
    ((owner : ℕ) → owner < controllers → (σ (MessagePairIncarnation r owner) ≡ τ (MessagePairIncarnation r owner)) × (σ (MessagePairNumber r owner) ≡ τ (MessagePairNumber r owner))) →
    message_vector σ r ≡ message_vector τ r
unfolding message_vector
message_vector_of σ τ r h = tab_same controllers _ _ (λ owner l. ap₂ pair (h owner l).0 (h owner l).1)

-- all vectors have a pair for each controller: a filtered one
pub length_filtered : (σ : State) (holder : ℕ) (v : Vector) → length (filtered σ holder v) ≡ controllers
unfolding filtered
length_filtered σ holder v = length_tab controllers (λ (owner : ℕ). filter_pair σ holder owner (pair_of v owner))

-- a merged one
pub length_merged : (v w : Vector) → length (merged v w) ≡ controllers
unfolding merged
length_merged v w = length_tab controllers (λ (owner : ℕ). merge_pair (pair_of v owner) (pair_of w owner))

-- the words of a vector
flat_at : (v : Vector) (k owner w : ℕ) → k ≡ 2 * owner + w → w < 2 → owner < controllers → get_or (flat v) k 0 ≡ get_or (pair_of v owner) w 0
unfolding flat
flat_at v k owner w e wl ol =
    let p : k / 2 ≡ owner = omega arith in
    let q : k % 2 ≡ w = omega arith in
    get_d_tab vector_words (λ (k : ℕ). get_or (pair_of v (k / 2)) (k % 2) 0) k 0 (omega arith) ∙ ap₂ (λ a b. get_or (pair_of v a) b 0) p q

-- the words h and then a vector
module _ (h : List ℕ) (v : Vector) (n : ℕ) (e : n ≡ length h) where
  -- one word of a pair
  pub record_word : (owner w k : ℕ) → owner < controllers → w < 2 → k ≡ n + (2 * owner + w) → get_or (h ++ flat v) k 0 ≡ get_or (pair_of v owner) w 0
  record_word owner w k ol wl q =
      let j : k ≡ length h + (2 * owner + w) = omega arith in
      ap (λ i. get_or (h ++ flat v) i 0) j ∙ get_or-append-add h (flat v) (2 * owner + w) 0 ∙ flat_at v (2 * owner + w) owner w refl wl ol
