-- Lists of tests: all of them pass, and the number of the first that applies.
use Rattle.std.specs.Prelude.{◌≡◌, refl, Bool, true, false, cond, ◌&&◌, List, [], ◌∷◌, ℕ, ◌<◌}
use Rattle.std.proofs.Common.{sym, ap, ◌∙◌, subst, true≢false, not-suc-le-zero, ltb-true}
use Rattle.base.specs.Choice.{◌<?◌, and_left, and_right}

-- all of the tests, in the order in which `a & b & c` computes them
abbrev conj : Bool → List Bool → Bool
conj acc [] = acc
conj acc (b ∷ bs) = conj (acc && b) bs

unfoldable pub all_of : List Bool → Bool
all_of bs = conj true bs

conj_acc : (acc : Bool) (bs : List Bool) → conj acc bs ≡ true → acc ≡ true
conj_acc acc [] e = e
conj_acc acc (b ∷ bs) e = and_left acc b (conj_acc (acc && b) bs e)

-- all tests of a list that passed: a law takes one of them by what it says (`search`), and not by where it stands
abbrev pub Passed : List Bool → Type 0
Passed [] = Unit {0}
Passed (b ∷ bs) = (b ≡ true) × Passed bs

conj_passed : (acc : Bool) (bs : List Bool) → conj acc bs ≡ true → Passed bs
conj_passed acc [] e = tt
conj_passed acc (b ∷ bs) e = (and_right acc b (conj_acc (acc && b) bs e), conj_passed (acc && b) bs e)

pub passed : (bs : List Bool) → all_of bs ≡ true → Passed bs
unfolding all_of
passed bs e = conj_passed true bs e

-- one test of a list failed
pub failed : (bs : List Bool) {b : Bool} → b ≡ false → (Passed bs → b ≡ true) → all_of bs ≡ false
failed bs e h = go (all_of bs) refl
  where
    go : (all : Bool) → all_of bs ≡ all → all ≡ false
    go true q = absurd (true≢false (sym (h (passed bs q)) ∙ e))
    go false q = refl

-- a case: when it applies, and its number
pub record Case : Type 0 where
  pub test : Bool
  pub number : ℕ

infix 25 ◌⇒◌
abbrev pub ◌⇒◌ : Bool → ℕ → Case
b ⇒ n = record { test = b; number = n }

-- the number of the first case that applies, or 0
unfoldable pub first_of : List Case → ℕ
first_of [] = 0
first_of (x ∷ xs) = cond x.test x.number (first_of xs)

-- code that looks at the cases in their order: none is left, this one applies, this one does not
pub none : 0 ≡ first_of []
unfolding first_of
none = refl

pub hit : (b : Bool) (n : ℕ) (xs : List Case) → b ≡ true → n ≡ first_of ((b ⇒ n) ∷ xs)
unfolding first_of
hit b n xs e = sym (ap (λ (x : Bool). cond x n (first_of xs)) e)

pub skip : (b : Bool) (n r : ℕ) (xs : List Case) → b ≡ false → r ≡ first_of xs → r ≡ first_of ((b ⇒ n) ∷ xs)
unfolding first_of
skip b n r xs e h = h ∙ sym (ap (λ (x : Bool). cond x n (first_of xs)) e)

-- the numbers are not 0
abbrev pub numbered : List Case → Bool
numbered [] = true
numbered (x ∷ xs) = (0 <? x.number) && numbered xs

cond_zero : (b : Bool) (n x : ℕ) → (0 <? n) ≡ true → cond b n x ≡ 0 → (b ≡ false) × (x ≡ 0)
cond_zero true n x h e = absurd (not-suc-le-zero (subst (λ (k : ℕ). 0 < k) e (ltb-true 0 n h)))
cond_zero false n x h e = (refl, e)

-- where the number is 0, no case applies; a law takes one of them by what it says
abbrev pub NoneApplies : List Case → Type 0
NoneApplies [] = Unit {0}
NoneApplies (x ∷ xs) = (x.test ≡ false) × NoneApplies xs

pub cleared : (xs : List Case) → numbered xs ≡ true → 0 ≡ first_of xs → NoneApplies xs
unfolding first_of
cleared [] h e = tt
cleared (x ∷ xs) h e =
    let z = cond_zero x.test x.number (first_of xs) (and_left _ (numbered xs) h) (sym e) in
    (z.0, cleared xs (and_right (0 <? x.number) (numbered xs) h) (sym z.1))
