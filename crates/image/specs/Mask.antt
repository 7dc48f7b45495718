-- The digits of a mask are the owners of non-empty pairs.
use Rattle.std.specs.Prelude.{◌≡◌, not, ℕ, ◌+◌, length}
use Rattle.std.proofs.Common.{sym, ap, ◌∙◌, arith}
use Rattle.std.specs.Int.Count.{ones}
use Rattle.base.specs.Choice.{le?}
use Rattle.base.specs.Ranges.{count, count_same}
use Rattle.table.specs.Layout.{controllers}
use Rattle.laws.specs.Bits.{mask_bits, bits_named, bits_past, ones_bits}
use Rattle.rules.specs.Vector.{Vector, empty, pair_of, mask}
use Rattle.history.specs.Demand.{named}
use Rattle.model.specs.Model.{full}
use Rattle.image.specs.Image.{vec_of}
use Rattle.image.specs.Vectors.{past}

-- "named are the controllers c whose 2 to the power c is in the mask": those with a non-empty pair, and no others
pub named_is : (v : Vector) → length v ≡ controllers → (a : ℕ) → named (mask v) a ≡ full (vec_of v a)
unfolding mask full
named_is v long a =
    ap (λ k. named k a) (mask_bits controllers v)
    ∙ le? (a + 1) controllers (λ l. bits_named controllers (λ c. not (empty (pair_of v c))) a (omega arith))
    (λ l. bits_past controllers (λ c. not (empty (pair_of v c))) a (omega arith) ∙ ap full (sym (past v a (omega arith))))

-- the ones of a mask are as many as the controllers named
pub ones_mask : (v : Vector) → length v ≡ controllers → ones (mask v) ≡ count controllers (named (mask v))
unfolding mask full
ones_mask v long = ap ones (mask_bits controllers v) ∙ ones_bits controllers (λ c. not (empty (pair_of v c))) ∙ sym (count_same controllers _ _ (λ a _. named_is v long a))
