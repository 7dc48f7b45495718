use Rattle.laws.specs.Mask.{mask_lt}
use Rattle.vector.specs.Mask.{mask_none, mask_more_empty, mask_more_full, mask_all, bit_small}
use native.Mathlib.Numerals.{add-one}
use native.Mathlib.Nat.{pow-suc}
use Rattle.std.proofs.Common.{◌^◌, ℕ, ◌*◌, rules, refl, sym, ap, ◌∙◌, arith}
use Rattle.vector.proofs.mask_of.Goals as goal
use Rattle.vector.proofs.mask_of.Goals.{then-v-owner-ne0, else-v-owner-ne0}

pub loop-owner-init : goal.loop-owner-init
loop-owner-init c = (search rules, refl, mask_none _)

pub overflow_add-mask : goal.overflow_add-mask
overflow_add-mask c = omega (arith, bit_small _ _ c.loop-owner-test.true c.loop-owner.invariant.1, mask_lt c.loop-owner.owner c.args.v)

pub overflow_mul-bit : goal.overflow_mul-bit
overflow_mul-bit c = omega (arith, bit_small _ _ c.loop-owner-test.true c.loop-owner.invariant.1)

pub loop-owner-preserved : goal.loop-owner-preserved
loop-owner-preserved c =
    let l = c.loop-owner in (
      search rules,
      ap (λ (x : ℕ). x * 2) l.invariant.1 ∙ sym (pow-suc 2 l.owner) ∙ ap (λ (k : ℕ). 2 ^ k) (sym (add-one l.owner)),
      elim c.if-v-owner-ne0.branch [
        | then-v-owner-ne0 w ↦ w.mask-is ∙ mask_more_full _ _ _ _ l.invariant.2 l.invariant.1 w.if-v-owner-ne0.true
        | else-v-owner-ne0 w ↦ w.mask-is ∙ mask_more_empty _ _ _ l.invariant.2 w.if-v-owner-ne0.false
      ],
    )

pub returns : goal.returns
returns c = mask_all _ _ _ c.loop-owner.invariant.2 c.loop-owner.invariant.0 c.loop-owner-test.false
