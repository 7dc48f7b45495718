-- A house just opened is in form.
use Rattle.std.specs.Prelude.{◌≡◌, true, cond, ◌&&◌, [], ℕ, ◌+◌, ◌≤◌, ◌<◌}
use Rattle.std.proofs.Math.Path.{refl, subst}
use Rattle.std.proofs.Common.{sym, ◌==◌}
use native.Mathlib.Omega.{arith}
use Rattle.std.proofs.Math.ListN.{get_or}
use borrow.Author.Tests.{eqb-true, ltb-true, lt-ltb, le-ltb, ne_eqb}
use Rattle.base.specs.Choice.{◌<?◌, and_left, and_right, cond_ind, le?}
use Rattle.base.specs.Ranges.{allb}
use Rattle.base.specs.Lists.{get_d_tab}
use Rattle.table.specs.Field.{Field, State, OfHead, OfController, Known, End, OfPlace, OfMessage, Degree, Incarnation, LiveCount, StableCount, word}
use Rattle.table.specs.Layout.{controllers}
use Rattle.table.proofs.Numbering.{none_used}
use Rattle.rules.specs.Limits.{Limits}
use Rattle.rules.specs.Vector.{pair, no_pair}
use Rattle.rules.specs.Form.{zeros, pair_ok, vector_ok, controller_ok, highest, row_ok, place_ok, head_zeros, in_form}
use Rattle.rules.specs.Steps.{first_controller, first_vector, open_house}
use Rattle.laws.specs.Numbers.{opened_number}
use Rattle.laws.specs.Facts.{Fitting}
use Rattle.laws.specs.Allowed.{OpenAllowed}
use Rattle.keeping.specs.Untouched.{ok_at, Tested, each_form}
use Rattle.keeping.specs.InRange.{none_ok, pair_ok_lem, vector_of_lem, head_ok_lem, controller_ok_lem, no_controller_ok, highest_is, row_ok_lem, free_ok, place_new, unused_ok}

module _ (L : Limits) (fit : Fitting L) (n k : ℕ) (w : OpenAllowed n k) where
  abbrev σ : State
  σ = open_house n k

  -- the controllers of the house, and the others
  controller : (c : ℕ) → controller_ok L n σ c ≡ true
  unfolding open_house
  controller c =
      le? (c + 1) n
      (λ h. let at : (j : ℕ) → σ (OfController c j) ≡ get_or (first_controller k) j 0 = λ j. rw (lt-ltb c n (omega arith)) in
      controller_ok_lem L n σ c (omega arith) (omega (arith, at (word (Degree c)), w.degree_le)) (omega (arith, at (word (Incarnation c)))) (omega (arith, at (word (LiveCount c))))
      (omega (arith, at (word (LiveCount c)), fit.first)) (omega (arith, at (word (StableCount c)))) (omega (arith, at (word (LiveCount c)), at (word (StableCount c)))))
      (λ h. no_controller_ok L n σ c (omega arith) (λ j _. rw (le-ltb c n (omega arith))))

  -- each knows its own first interval
  row : (holder owner : ℕ) → row_ok L n σ holder owner ≡ true
  unfolding open_house
  row holder owner =
      row_ok_lem L n σ holder owner (λ i _. (
        cond_ind (λ x. x ≤ highest L n holder owner) ((holder <? n) && ((holder == owner) && (i == 0)))
            (λ q. let h = ltb-true holder n (and_left (holder <? n) _ q) in
            let z = eqb-true holder owner (and_left (holder == owner) _ (and_right (holder <? n) _ q)) in
            omega (arith, highest_is L n holder owner h (subst (λ a. a < n) z h), fit.first, fit.numbers))
            (λ _. omega arith),
        omega arith,
      ))

  -- the first vector has the own pair alone
  vector : (c : ℕ) → c < n → vector_ok L n (first_vector c) ≡ true
  vector c h =
      vector_of_lem L n (first_vector c) (λ owner l. subst (λ p. pair_ok L n owner p ≡ true) (sym (get_d_tab controllers (λ (owner : ℕ). cond (owner == c) (pair 0 1) no_pair) owner [] l))
      (cond_ind (λ p. pair_ok L n owner p ≡ true) (owner == c)
      (λ q. pair_ok_lem L n owner 0 1 (subst (λ a. a < n) (sym (eqb-true owner c q)) h) (omega arith) (omega arith) (omega (arith, fit.first, fit.numbers)))
      (λ _. none_ok L n owner)))

  -- the first place of a controller of the house
  first : (c : ℕ) → c < n → place_ok L n σ c 0 ≡ true
  unfolding open_house
  first c h =
      let live : σ (LiveCount c) ≡ 1 = rw (lt-ltb c n h) in
      place_new L n σ c 0 0 1 0 1 (first_vector c) (λ j _. rw (lt-ltb c n h)) (omega arith) (omega arith)
      (sym (opened_number n k c 1)) (omega arith) (omega arith) (λ _. refl) (vector c h)

  -- all others are free
  place : (c p : ℕ) → place_ok L n σ c p ≡ true
  unfolding open_house
  place c p =
      le? (c + 1) n
      (λ h. le? 1 p (λ l. let live : σ (LiveCount c) ≡ 1 = rw (lt-ltb c n (omega arith)) in free_ok L n σ c p (omega arith) (λ j _. rw (lt-ltb c n (omega arith), ne_eqb p 0 (omega arith))))
      (λ l. let z : 0 ≡ p = omega arith in subst (λ p. place_ok L n σ c p ≡ true) z (first c (omega arith))))
      (λ h. let live : σ (LiveCount c) ≡ 0 = rw (le-ltb c n (omega arith)) in free_ok L n σ c p (omega arith) (λ j _. rw (le-ltb c n (omega arith))))

  passes : (g : Field) → Tested L g → ok_at L n σ g ≡ true
  unfolding ok_at open_house head_zeros zeros allb
  passes (OfHead j) t = head_ok_lem L σ w.size_pos w.size_le (omega (arith, none_used σ refl)) refl (omega arith) (omega (arith, w.size_le)) refl
  passes (OfController c j) t = controller c
  passes (Known holder owner j) t = row holder owner
  passes (End holder owner j) t = row holder owner
  passes (OfPlace c p j) t = place c p
  passes (OfMessage r j) t = unused_ok L n σ r (omega (arith, none_used σ refl)) (λ i _. refl)

  pub form_open : in_form L (open_house n k) ≡ true
  unfolding open_house
  form_open = each_form L σ passes
