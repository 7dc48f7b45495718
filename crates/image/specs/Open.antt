-- The model of a house just opened.
use Rattle.std.specs.Prelude.{◌≡◌, Bool, ◌&&◌, List, [], ◌∷◌, ℕ, ◌≤◌, ◌<◌, get_or, ◌==◌}
use Rattle.std.proofs.Math.Path.{refl, ap, ap₂, fun_ext}
use Rattle.std.proofs.Common.{sym, ◌∙◌}
use Rattle.std.proofs.Math.Bool.{true, false, cond}
use native.Mathlib.Omega.{arith}
use borrow.Author.Tests.{eqb-true, eq-eqb, ne_eqb, ltb-true, ltb-false, lt-ltb, le-ltb}
use Rattle.base.specs.Choice.{◌<?◌, and_left, and_right, cond_ind}
use Rattle.base.specs.Lists.{length_tab}
use Rattle.table.specs.Field.{State, OfController, Known, OfPlace, Degree, Incarnation, LiveCount, StableCount, PlaceIncarnation, Flag, PairIncarnation, PairNumber, place_head, word}
use Rattle.table.specs.Layout.{controllers}
use Rattle.table.specs.Numbering.{last_live, place_of}
use Rattle.table.proofs.Numbering.{place_of_number, none_given, none_used}
use Rattle.rules.specs.Vector.{pair as pair_list, no_pair}
use Rattle.rules.specs.Shared.{place_record}
use Rattle.rules.specs.Steps.{first_vector, open_house}
use Rattle.laws.specs.Numbers.{opened_number}
use Rattle.history.specs.History.{changed_at}
use Rattle.model.specs.Model.{pair, changed_at₂, open_controller, absent_controller, open_model}
use Rattle.model.proofs.Tests.{changed_at_ind, changed_at_other, changed_at₂_ind}
use Rattle.image.specs.Functions.{within, within_in, within_out, within_ind, in_rows, rows_none, rows_changed}
use Rattle.image.specs.Image.{no_vec, model_pair, place_vec, controller_by, model_controller, image, controller_is, message_none, controller_path, model_path}
use Rattle.image.specs.Vectors.{tab_vec, place_pairs, record_pair}

-- the words of a controller, and of its first interval
abbrev controller_words_lem : ℕ → List ℕ
controller_words_lem k = k ∷ 0 ∷ 1 ∷ 1 ∷ []

abbrev words : ℕ → List ℕ
words c = place_record 0 1 0 1 (first_vector c)

-- number 1 stands in place 0
first_place_lem : (n k c : ℕ) → place_of (open_house n k) c 1 ≡ 0
first_place_lem n k c = ap (place_of (open_house n k) c) (sym (opened_number n k c 1)) ∙ place_of_number (open_house n k) c 0

module _ (n k c : ℕ) (cl : c < controllers) (l : c < n) where
  abbrev σ : State
  σ = open_house n k

  -- a controller's words
  own_controller : (w : ℕ) → σ (OfController c w) ≡ get_or (controller_words_lem k) w 0
  unfolding open_house
  own_controller w = rw (lt-ltb c n l)

  -- its highest live number
  one_live : last_live σ c ≡ 1
  one_live = opened_number n k c _ ∙ own_controller (word (LiveCount c))

  -- its known words
  own_known : in_rows (λ owner i. σ (Known c owner i)) ≡ changed_at₂ (λ owner i. 0) c 0 1
  unfolding open_house
  own_known =
      rows_changed (λ owner i. 0) _ c 0 1 cl (omega arith)
      (changed_at₂_ind (λ owner i y. open_house n k (Known c owner i) ≡ y) (λ owner i. 0) c 0 1 (rw (lt-ltb c n l, eq-eqb c c refl))
      (λ owner i ne. cond_ind (λ x. x ≡ 0) ((c <? n) && ((c == owner) && (i == 0)))
      (λ e. let q = and_right (c <? n) _ e in absurd (ne (sym (eqb-true c owner (and_left (c == owner) _ q))) (eqb-true i 0 (and_right (c == owner) _ q)))) (λ e. refl)))
      ∙ ap (λ f. changed_at₂ f c 0 1) (rows_none (λ owner i. 0) (λ owner i. refl))

  -- the words of its first place
  own_place : (w : ℕ) → σ (OfPlace c 0 w) ≡ get_or (words c) w 0
  unfolding open_house
  own_place w = rw (lt-ltb c n l)

  -- the own pair of the first interval
  own_vec : place_vec σ c 0 ≡ changed_at no_vec c (pair 0 1)
  unfolding place_record
  own_vec =
      place_pairs σ c 0 (first_vector c) (length_tab controllers (λ (owner : ℕ). cond (owner == c) (pair_list 0 1) no_pair))
      (λ owner h. ap₂ pair (own_place (word (PairIncarnation c 0 owner))) (own_place (word (PairNumber c 0 owner)))
      ∙ record_pair (0 ∷ 1 ∷ 0 ∷ 1 ∷ []) (first_vector c) place_head refl owner h)
      ∙ tab_vec _ (changed_at no_vec c (pair 0 1)) (λ owner h. inside owner) (λ owner h. changed_at_other no_vec c owner (pair 0 1) (omega arith))
    where
      inside : (owner : ℕ) → model_pair (cond (owner == c) (pair_list 0 1) no_pair) ≡ changed_at no_vec c (pair 0 1) owner
      inside =
          changed_at_ind (λ owner y. model_pair (cond (owner == c) (pair_list 0 1) no_pair) ≡ y) no_vec c (pair 0 1)
          (ap (λ (b : Bool). model_pair (cond b (pair_list 0 1) no_pair)) (eq-eqb c c refl))
          (λ owner ne. ap (λ (b : Bool). model_pair (cond b (pair_list 0 1) no_pair)) (ne_eqb owner c ne))

  -- a controller below n
  open_controller_lem : model_controller σ c ≡ open_controller k c
  unfolding controller_by open_controller place_record open_house
  open_controller_lem =
      controller_path (own_controller (word (Degree c))) (own_controller (word (Incarnation c))) one_live
      (opened_number n k c _ ∙ own_controller (word (StableCount c))) own_known (rows_none _ (λ owner i. refl))
      (ap (λ m. within m 0 (λ x. σ (PlaceIncarnation c (place_of σ c x)))) one_live
      ∙ fun_ext (within_ind (λ x y. y ≡ 0) 1 0 (λ x. σ (PlaceIncarnation c (place_of σ c x)))
      (λ x p q. ap (λ x. σ (PlaceIncarnation c (place_of σ c x))) (let h : x ≡ 1 = omega arith in h)
      ∙ ap (λ p. σ (PlaceIncarnation c p)) (first_place_lem n k c) ∙ own_place (word (PlaceIncarnation c 0))) (λ x o. refl)))
      (ap (λ m. within m no_vec (λ x. place_vec σ c (place_of σ c x))) one_live
      ∙ fun_ext (changed_at_ind (λ x y. within 1 no_vec (λ x. place_vec σ c (place_of σ c x)) x ≡ y) (λ x. no_vec) 1 (changed_at no_vec c (pair 0 1))
      (within_in 1 no_vec (λ x. place_vec σ c (place_of σ c x)) 1 (omega arith) (omega arith) ∙ ap (place_vec σ c) (first_place_lem n k c) ∙ own_vec)
      (λ x ne. within_out 1 no_vec (λ x. place_vec σ c (place_of σ c x)) x (λ p. omega arith))))
      (ap (λ m. within m false (λ x. σ (Flag c (place_of σ c x)) == 1)) one_live
      ∙ fun_ext (changed_at_ind (λ x y. within 1 false (λ x. σ (Flag c (place_of σ c x)) == 1) x ≡ y) (λ x. false) 1 true
      (within_in 1 false (λ x. σ (Flag c (place_of σ c x)) == 1) 1 (omega arith) (omega arith) ∙ ap (λ p. σ (Flag c p) == 1) (first_place_lem n k c)
      ∙ ap (λ z. z == 1) (own_place (word (Flag c 0))))
      (λ x ne. within_out 1 false (λ x. σ (Flag c (place_of σ c x)) == 1) x (λ p. omega arith))))

-- controllers from n on
open_none : (n k c : ℕ) → n ≤ c → model_controller (open_house n k) c ≡ absent_controller
unfolding controller_by open_house absent_controller
open_none n k c h =
    let e = le-ltb c n h in
    let none : (w : ℕ) → open_house n k (OfController c w) ≡ 0 = λ w. rw e in
    let live = opened_number n k c _ ∙ none (word (LiveCount c)) in
    controller_path (none (word (Degree c))) (none (word (Incarnation c))) live (opened_number n k c _ ∙ none (word (StableCount c))) (rows_none _ (λ owner i. rw e)) (rows_none _ (λ owner i. refl))
    (ap (λ m. within m 0 (λ x. open_house n k (PlaceIncarnation c (place_of (open_house n k) c x)))) live ∙ fun_ext (λ x. within_out 0 0 _ x (λ p. p)))
    (ap (λ m. within m no_vec (λ x. place_vec (open_house n k) c (place_of (open_house n k) c x))) live ∙ fun_ext (λ x. within_out 0 no_vec _ x (λ p. p)))
    (ap (λ m. within m false (λ x. open_house n k (Flag c (place_of (open_house n k) c x)) == 1)) live ∙ fun_ext (λ x. within_out 0 false _ x (λ p. p)))

-- O: "n controllers, all with K = k; .. all else 0"
pub image_opened : (n k : ℕ) → n ≤ controllers → image (open_house n k) ≡ open_model n k
unfolding image open_model open_house
image_opened n k nl =
    model_path
    (fun_ext (λ c. cond_ind (λ x. (image (open_house n k)).controller c ≡ x) (c <? n)
    (λ e. let l = ltb-true c n e in controller_is (open_house n k) c (omega arith) ∙ open_controller_lem n k c (omega arith) l)
    (λ e. cond_ind (λ x. x ≡ absent_controller) (c <? controllers) (λ _. open_none n k c (ltb-false c n e)) (λ _. refl))))
    (none_given (open_house n k) refl) (fun_ext (λ m. message_none (open_house n k) m (omega (arith, none_used (open_house n k) refl)))) refl
