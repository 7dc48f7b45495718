-- The changes of a state that the rules make, each of which keeps the form.
use Rattle.std.specs.Prelude.{◌≡◌, true, false, List, ℕ, ◌+◌, ◌*◌, ◌≤◌, ◌<◌, length, get_or}
use Rattle.std.proofs.Math.Path.{refl, sym, ap, subst}
use Rattle.std.proofs.Common.{◌∙◌, arith}
use Rattle.std.proofs.Math.Bool.{true≢false}
use Rattle.base.specs.Choice.{◌<?◌, cond_ind}
use Rattle.base.specs.Ranges.{allb}
use Rattle.table.specs.Field.{Field, State, Known, End, Size, Gap, Served, Degree, LiveCount, StableCount, Flag, PairIncarnation, PairNumber, place_head, word, same}
use Rattle.table.specs.Change.{put, put_ind, put_same, put_other, put_part, part_ind}
use Rattle.table.proofs.Numbering.{numbers_put}
use Rattle.rules.specs.Limits.{Limits, last_gap, last_served}
use Rattle.rules.specs.Form.{zeros, vector_ok, highest, row_ok, head_zeros, in_form}
use Rattle.rules.specs.Shared.{logged, logged_to}
use Rattle.laws.specs.Facts.{Form, form, below_8, controller_form, place_form, known_top, end_top}
use Rattle.laws.specs.Records.{place_vector_of}
use Rattle.keeping.specs.Untouched.{ok_at, home, at_one_home, looked, form_put, form_part}
use Rattle.keeping.specs.InRange.{head_ok_lem, controller_ok_lem, highest_is, row_ok_lem, place_ok_lem}

-- logging does not write the number of controllers
pub logged_size : (σ : State) (c k : ℕ) → logged_to σ c k Size ≡ σ Size
unfolding logged_to logged put same
logged_size σ c k = cond_ind (λ (τ : State). τ Size ≡ σ Size) (σ (StableCount c) <? k) (λ _. refl) (λ _. refl)

module _ (L : Limits) where
  -- THE HEAD
  -- the gap
  pub kept_gap : (σ : State) (q : ℕ) → q ≤ last_gap → in_form L σ ≡ true → in_form L (put σ Gap q) ≡ true
  unfolding ok_at head_zeros zeros allb put same
  kept_gap σ q l e =
      let f = form L σ e in
      form_put L σ Gap q refl (head_ok_lem L (put σ Gap q) f.size_pos f.size_le (omega (arith, (numbers_put σ Gap q refl).used_same, f.used_le)) f.spare_ok l f.served_le f.again_ok) e

  -- the controller last served
  pub kept_served : (σ : State) (c : ℕ) → c ≤ last_served → in_form L σ ≡ true → in_form L (put σ Served c) ≡ true
  unfolding ok_at head_zeros zeros allb put same
  kept_served σ c l e =
      let f = form L σ e in
      form_put L σ Served c refl (head_ok_lem L (put σ Served c) f.size_pos f.size_le (omega (arith, (numbers_put σ Served c refl).used_same, f.used_le)) f.spare_ok f.gap_le l f.again_ok) e

  -- CONTROLLERS
  module _ (σ : State) (c : ℕ) (h : c < σ Size) where
    -- the degree
    pub kept_degree : (k : ℕ) → k ≤ σ Size → in_form L σ ≡ true → in_form L (put σ (Degree c) k) ≡ true
    unfolding ok_at put same
    kept_degree k l e =
        let w = controller_form (form L σ e) c h in
        form_put L σ (Degree c) k refl
        (controller_ok_lem L (σ Size) (put σ (Degree c) k) c h (omega (arith, put_same σ (Degree c) k)) w.incarnation_le w.live_pos w.live_le w.stable_pos w.stable_le) e

    -- the stable count
    pub kept_stable : (k : ℕ) → 1 ≤ k → k ≤ σ (LiveCount c) → in_form L σ ≡ true → in_form L (put σ (StableCount c) k) ≡ true
    unfolding ok_at put same
    kept_stable k p l e =
        let w = controller_form (form L σ e) c h in
        form_put L σ (StableCount c) k refl
        (controller_ok_lem L (σ Size) (put σ (StableCount c) k) c h w.degree_le w.incarnation_le w.live_pos w.live_le
        (omega (arith, put_same σ (StableCount c) k)) (omega (arith, put_same σ (StableCount c) k))) e

  -- ROWS
  -- a known or an end word of a row
  pub kept_word : (σ : State) (holder owner : ℕ) → holder < σ Size → owner < σ Size → (f : Field) (x : ℕ) → home f ≡ Known holder owner 0 → looked f ≡ false → x ≤ L.numbers →
      in_form L σ ≡ true → in_form L (put σ f x) ≡ true
  unfolding ok_at
  kept_word σ holder owner h o f x r n l e =
      form_put L σ f x n
      (at_one_home L _ τ f (Known holder owner 0) r ∙ ap (λ k. row_ok L k τ holder owner) (put_other σ f Size x (λ z. true≢false (ap looked z ∙ n)))
      ∙ row_ok_lem L (σ Size) τ holder owner (λ j jl. (
        word_le (Known holder owner j) (known_top w holder owner j (below_8 w holder h) (below_8 w owner o) jl),
        word_le (End holder owner j) (end_top w holder owner j (below_8 w holder h) (below_8 w owner o) jl),
      ))) e
    where
      w : Form L σ
      w = form L σ e

      τ : State
      τ = put σ f x

      top : ℕ
      top = highest L (σ Size) holder owner

      -- the word that was put, and any other
      word_le : (g : Field) → σ g ≤ top → τ g ≤ top
      word_le g u = put_ind (λ d y. d ≡ g → y ≤ top) σ f x (λ _. omega (arith, highest_is L (σ Size) holder owner h o)) (λ d _ q. subst (λ d. σ d ≤ top) (sym q) u) g refl

  -- T: a whole row of known words
  pub kept_row : (σ : State) (holder owner : ℕ) (w : List ℕ) → holder < σ Size → owner < σ Size → ((i : ℕ) → i < length w → get_or w i 0 ≤ L.numbers) →
      in_form L σ ≡ true → in_form L (put_part σ (Known holder owner 0) 0 w) ≡ true
  unfolding ok_at put_part
  kept_row σ holder owner w h o l e =
      let f = form L σ e in
      form_part L σ (Known holder owner 0) 0 w (λ i. refl) (λ i. refl)
      (row_ok_lem L (σ Size) (put_part σ (Known holder owner 0) 0 w) holder owner (λ j jl. (
        part_ind (λ g y. g ≡ Known holder owner j → y ≤ highest L (σ Size) holder owner) σ (Known holder owner 0) 0 w
            (λ i il _. omega (arith, highest_is L (σ Size) holder owner h o, l i il))
            (λ g _ q. subst (λ g. σ g ≤ highest L (σ Size) holder owner) (sym q) (known_top f holder owner j (below_8 f holder h) (below_8 f owner o) jl)) (Known holder owner j) refl,
        end_top f holder owner j (below_8 f holder h) (below_8 f owner o) jl,
      ))) e

  -- PLACES
  -- a live place flagged
  pub kept_flag : (σ : State) (c p : ℕ) → c < σ Size → p < σ (LiveCount c) → in_form L σ ≡ true → in_form L (put σ (Flag c p) 1) ≡ true
  unfolding ok_at put same
  kept_flag σ c p h l e =
      let w = place_form (form L σ e) c p h l in
      let τ = put σ (Flag c p) 1 in
      let m = numbers_put σ (Flag c p) 1 refl in
      let flag = put_same σ (Flag c p) 1 in
      form_put L σ (Flag c p) 1 refl
      (place_ok_lem L (σ Size) τ c p l w.incarnation_le (w.number_is ∙ sym (m.number c (p + 1))) (omega (arith, m.last, w.cause_le)) (omega arith) (λ _. flag)
      (subst (λ v. vector_ok L (σ Size) v ≡ true)
      (place_vector_of σ τ c p (λ owner _. (sym (put_other σ (Flag c p) (PairIncarnation c p owner) 1 (λ q. let w : place_head + 2 * owner ≡ word (Flag c p) = cc in omega arith)), sym (put_other σ (Flag c p) (PairNumber c p owner) 1 (λ q. let w : place_head + 2 * owner + 1 ≡ word (Flag c p) = cc in omega arith)))))
      w.vector_ok_lem)) e
