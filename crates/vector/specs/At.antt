-- A vector where it stands in a table.
use Rattle.std.specs.Prelude.{◌≡◌, List, [], ℕ, ◌+◌, ◌*◌, ◌<◌, get_or}
use Rattle.std.proofs.Common.{ap, arith}
use Rattle.std.proofs.Math.Path.{fun_ext}
use Rattle.base.specs.Lists.{tab, get_d_tab}
use Rattle.table.specs.Field.{OfPlace, OfMessage, PairIncarnation, PairNumber, MessagePairIncarnation, MessagePairNumber, place_head, message_head}
use Rattle.table.specs.Layout.{controllers, position}
use Rattle.table.specs.Words.{state}
use Rattle.rules.specs.Vector.{Pair, Vector, pair, pair_of, place_vector, message_vector}

-- the pair of an owner, and the vector, whose words begin at word `at` of t
abbrev pub pair_at : List ℕ → ℕ → ℕ → Pair
pair_at t at owner = pair (get_or t (at + 2 * owner) 0) (get_or t (at + 2 * owner + 1) 0)

unfoldable pub vector_at : List ℕ → ℕ → Vector
vector_at t at = tab controllers (pair_at t at)

pub pair_at_lem : (t : List ℕ) (at owner : ℕ) → owner < controllers → pair_of (vector_at t at) owner ≡ pair_at t at owner
unfolding vector_at
pair_at_lem t at owner h = get_d_tab controllers _ owner [] h

-- the vector of a place and that of a message stand after the head of their records
pub place_vector_lem : (t : List ℕ) (c p at : ℕ) → at ≡ position (OfPlace c p place_head) → vector_at t at ≡ place_vector (state t) c p
unfolding vector_at place_vector
place_vector_lem t c p at e = ap (tab controllers) (fun_ext (λ (owner : ℕ). λ d. pair (get_or t (x owner d) 0) (get_or t (y owner d) 0)))
  where
    x : (owner : ℕ) → at + 2 * owner ≡ position (PairIncarnation c p owner)
    x owner = omega arith

    y : (owner : ℕ) → at + 2 * owner + 1 ≡ position (PairNumber c p owner)
    y owner = omega arith

pub message_vector_lem : (t : List ℕ) (r at : ℕ) → at ≡ position (OfMessage r message_head) → vector_at t at ≡ message_vector (state t) r
unfolding vector_at message_vector
message_vector_lem t r at e = ap (tab controllers) (fun_ext (λ (owner : ℕ). λ d. pair (get_or t (x owner d) 0) (get_or t (y owner d) 0)))
  where
    x : (owner : ℕ) → at + 2 * owner ≡ position (MessagePairIncarnation r owner)
    x owner = omega arith

    y : (owner : ℕ) → at + 2 * owner + 1 ≡ position (MessagePairNumber r owner)
    y owner = omega arith
