-- The bounds are those of the definition where the owner is there; where it isn't, at most 0 is 0, and the last test
-- passes.
use Rattle.std.proofs.Common.{◌≡◌, refl, sym, ap, ◌∙◌, Bool, true, false, cond, ◌&&◌, ◌||◌, ℕ, arith, le-leb, eq-eqb, ne_eqb, ◌==◌}
use mathlib.Core.Bool.{and-true, and-false, or-true}
use Rattle.base.specs.Choice.{◌≤?◌, ◌<?◌, le?}
use Rattle.base.specs.Cases.{all_of}
use Rattle.rules.specs.Limits.{house, last_incarnation}
use Rattle.rules.specs.Vector.{pair}
use Rattle.rules.specs.Form.{pair_ok}
use borrow.Author.Tests.{lt-leb}
use Rattle.parts.proofs.pair_ok.Goals as goal

at-most-0 : (x : ℕ) → (x ≤? 0) ≡ (x == 0)
at-most-0 x = le? x 0 (λ l. le-leb x 0 l ∙ sym (eq-eqb x 0 (omega arith))) (λ l. lt-leb x 0 l ∙ sym (ne_eqb x 0 (λ e. omega arith)))

-- a test that the one before it makes sure of
absorbed : (a b c : Bool) → ((a && c) && (b || c)) ≡ (a && c)
absorbed a b true = ap (λ (x : Bool). (a && true) && x) (or-true b) ∙ and-true (a && true)
absorbed a b false = ap (λ (x : Bool). x && (b || false)) (and-false a) ∙ sym (and-false a)

chosen : (n owner i x : ℕ) (there : Bool) → there ≡ (owner <? n) →
    (((x ≤? cond there house.numbers 0) && (i ≤? cond there last_incarnation 0)) && ((0 <? x) || (i == 0))) ≡ pair_ok house n owner (pair i x)
unfolding pair_ok all_of
chosen n owner i x true e = rw (sym e)
chosen n owner i x false e = rw (sym e, at-most-0 x, at-most-0 i) (absorbed (x == 0) (0 <? x) (i == 0))

pub returns : goal.returns
returns c = rw (c.bound.ensures, c.bound-2.ensures) (chosen _ _ _ _ _ refl)
