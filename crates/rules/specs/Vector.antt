-- "A vector has eight pairs, one for each controller: incarnation and number. The empty pair is 0, 0."
-- A dependency vector of the paper. Pairs and vectors are lists, as the code's [u32; 2] and [[u32; 2]; 8] are.
use Rattle.std.specs.Prelude.{Bool, not, cond, ◌&&◌, List, [], ◌∷◌, ℕ, zero, suc, ◌+◌, ◌^◌, ◌/◌, ◌%◌, get_or, ◌==◌}
use Rattle.base.specs.Choice.{◌≤?◌, ◌<?◌}
use Rattle.base.specs.Ranges.{anyb, first}
use Rattle.base.specs.Lists.{tab}
use Rattle.table.specs.Field.{State, Known, End, PairIncarnation, PairNumber, MessagePairIncarnation, MessagePairNumber}
use Rattle.table.specs.Layout.{controllers, vector_words}

abbrev pub Pair : Type 0
Pair = List ℕ

abbrev pub Vector : Type 0
Vector = List (List ℕ)

abbrev pub pair : ℕ → ℕ → Pair
pair i x = i ∷ x ∷ []

abbrev pub no_pair : Pair
no_pair = pair 0 0

abbrev pub incarnation : Pair → ℕ
incarnation p = get_or p 0 0

abbrev pub number : Pair → ℕ
number p = get_or p 1 0

abbrev pub empty : Pair → Bool
empty p = number p == 0

-- the pair of an owner
abbrev pub pair_of : Vector → ℕ → Pair
pair_of v owner = get_or v owner []

-- the vector in place p of c, and that in message record r
unfoldable pub place_vector : State → ℕ → ℕ → Vector
place_vector σ c p = tab controllers (λ (owner : ℕ). pair (σ (PairIncarnation c p owner)) (σ (PairNumber c p owner)))

unfoldable pub message_vector : State → ℕ → Vector
message_vector σ r = tab controllers (λ (owner : ℕ). pair (σ (MessagePairIncarnation r owner)) (σ (MessagePairNumber r owner)))

-- a vector's words in a record
unfoldable pub flat : Vector → List ℕ
flat v = tab vector_words (λ (k : ℕ). get_or (pair_of v (k / 2)) (k % 2) 0)

-- "Known stable, to holder b: a pair (t,x) of owner a with x at most b's known word for a and t."
unfoldable pub known_stable : State → ℕ → ℕ → Pair → Bool
known_stable σ holder owner p = number p ≤? σ (Known holder owner (incarnation p))

-- "Filtering a vector for b empties such pairs."
unfoldable pub filter_pair : State → ℕ → ℕ → Pair → Pair
filter_pair σ holder owner p = cond (known_stable σ holder owner p) no_pair p

unfoldable pub filtered : State → ℕ → Vector → Vector
filtered σ holder v = tab controllers (λ (owner : ℕ). filter_pair σ holder owner (pair_of v owner))

-- "Condemned, to b: a non-empty pair (t,x) of a where b's end word for a and t isn't 0 and x exceeds it."
unfoldable pub condemned_pair : State → ℕ → ℕ → Pair → Bool
condemned_pair σ holder owner p =
    let end = σ (End holder owner (incarnation p)) in
    not (empty p) && (not (end == 0) && (end <? number p))

-- "A vector is condemned when one of its pairs is."
unfoldable pub condemned : State → ℕ → Vector → Bool
condemned σ holder v = anyb controllers (λ (owner : ℕ). condemned_pair σ holder owner (pair_of v owner))

-- W6: "the lowest-numbered controller whose pair condemns the vector": that one, or the number of controllers if there is none
unfoldable pub condemning : State → ℕ → Vector → ℕ
condemning σ holder v = first controllers (λ (owner : ℕ). condemned_pair σ holder owner (pair_of v owner))

-- R: "the mask has 2 to the power c for each non-empty pair", here of the first n pairs.
unfoldable pub mask_to : ℕ → Vector → ℕ
mask_to zero v = 0
mask_to (suc c) v = cond (empty (pair_of v c)) 0 (2 ^ c) + mask_to c v

unfoldable pub mask : Vector → ℕ
mask v = mask_to controllers v

-- D: "if an owner other than c has non-empty pairs of different incarnations in the two": with the pairs p and q
unfoldable pub conflict_pair : ℕ → ℕ → Pair → Pair → Bool
conflict_pair c owner p q = not (owner == c) && (not (empty p) && (not (empty q) && not (incarnation p == incarnation q)))

unfoldable pub conflict : ℕ → Vector → Vector → Bool
conflict c v w = anyb controllers (λ (owner : ℕ). conflict_pair c owner (pair_of v owner) (pair_of w owner))

-- D: "each pair is the non-empty one or the one with the larger number" (an empty pair's number is 0)
unfoldable pub merge_pair : Pair → Pair → Pair
merge_pair p q = cond (number p <? number q) q p

unfoldable pub merged : Vector → Vector → Vector
merged v w = tab controllers (λ (owner : ℕ). merge_pair (pair_of v owner) (pair_of w owner))
