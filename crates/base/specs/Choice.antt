-- Tests on numbers in infix form, and laws of a choice by a test.
use Rattle.std.specs.Prelude.{◌≡◌, refl, Bool, true, false, cond, ◌&&◌, ◌||◌, ℕ, ◌≤◌, ◌<◌, leb, ltb}
use Rattle.std.proofs.lemmas.Bool.{false≢true}
use Rattle.std.proofs.Common.{true≢false, arith}
use Rattle.std.proofs.Math.Decide.{dec_le}

infix 40 ◌≤?◌
infix 40 ◌<?◌
abbrev pub ◌≤?◌ : ℕ → ℕ → Bool
a ≤? b = leb a b

abbrev pub ◌<?◌ : ℕ → ℕ → Bool
a <? b = ltb a b

-- a test that doesn't fail holds, and one that doesn't hold fails
pub holds : (b : Bool) → (b ≡ false → ⊥) → b ≡ true
holds true f = refl
holds false f = absurd (f refl)

pub fails : (b : Bool) → (b ≡ true → ⊥) → b ≡ false
fails true f = absurd (f refl)
fails false f = refl

pub and_left : (a b : Bool) → (a && b) ≡ true → a ≡ true
and_left true b e = refl
and_left false b e = e

pub and_right : (a b : Bool) → (a && b) ≡ true → b ≡ true
and_right true b e = e
and_right false b e = absurd (false≢true e)

pub or_left : (a b : Bool) → (a || b) ≡ false → a ≡ false
or_left true b e = e
or_left false b e = refl

pub or_right : (a b : Bool) → (a || b) ≡ false → b ≡ false
or_right true b e = absurd (true≢false e)
or_right false b e = e

-- a fact of a choice, from its two cases
pub cond_ind : {A : Type 0} (P : A → Type 0) (b : Bool) {x y : A} → (b ≡ true → P x) → (b ≡ false → P y) → P (cond b x y)
cond_ind P true f g = f refl
cond_ind P false f g = g refl

-- two numbers, compared in a proof
pub le? : {A : Type 0} (a b : ℕ) → (a ≤ b → A) → (b < a → A) → A
le? a b f g =
    elim (dec_le a b) [
      | yes l ↦ f l
      | no l ↦ g (omega arith)
    ]
