-- Setting a degree, logging, telling, and the marks of a crash and of a hearing, as changes of the model.
use Rattle.std.specs.Prelude.{◌≡◌, Bool, true, false, cond}
use Rattle.std.proofs.Math.Path.{refl, sym, ap, fun_ext}
use Rattle.std.proofs.Common.{ap₂, ◌∙◌, subst}
use Prim.Native.Nat.{ℕ, ◌+◌, ◌≤◌, ◌<◌, max}
use native.Mathlib.Omega.{arith}
use Rattle.base.specs.Choice.{◌<?◌, le?}
use Rattle.base.specs.Lists.{tab, length_tab, get_d_tab}
use Rattle.table.specs.Field.{State, Known, End, Gap, Degree, Incarnation, StableCount, same, Served}
use Rattle.table.specs.Change.{put, put_same, put_part}
use Rattle.table.specs.Layout.{controllers, incarnations}
use Rattle.table.specs.Numbering.{number_of}
use Rattle.table.proofs.Numbering.{number_ltb, numbers_put}
use Rattle.rules.specs.Vector.{place_vector, message_vector}
use Rattle.rules.specs.Shared.{logged, logged_to}
use Rattle.rules.specs.Steps.{told_row, told, noted}
use Rattle.history.specs.History.{changed_at}
use Rattle.model.specs.Model.{changed_at₂, Controller, put_controller, gap_model, absent_controller, degree_controller, log_controller, logged_controller, tell_controller, end_controller, note_controller}
use Rattle.model.proofs.Tests.{changed_at_ind}
use Rattle.model.proofs.Keeping.{put_controller_id}
use Rattle.laws.specs.Records.{part_at, part_other}
use Rattle.image.specs.Functions.{in_rows, rows_in, rows_out, rows_same}
use Rattle.image.specs.Image.{unsent_message, controller_by, model_message, image, controller_is, controller_path, model_path, renumbered, one_controller}
use Rattle.image.specs.Changes.{nothing_else, away_put, away_part, known_put, end_put}
use Rattle.image.specs.Reads.{stable_is, ends_is}

-- K: "set the degree"
pub image_degree : (σ : State) (c k : ℕ) → c < controllers → image (put σ (Degree c) k) ≡ put_controller (image σ) c (degree_controller ((image σ).controller c) k)
unfolding controller_by degree_controller place_vector put same
image_degree σ c k cl =
    one_controller σ (put σ (Degree c) k) c (λ n. degree_controller n k) cl (controller_path (put_same σ (Degree c) k) refl refl refl refl refl refl refl refl)
    (away_put c σ σ (Degree c) k (λ a. a refl) (nothing_else c σ))

-- W4: the gap is set
pub image_gap : (σ : State) (q : ℕ) → image (put σ Gap q) ≡ gap_model (image σ) q
unfolding image gap_model controller_by model_message place_vector message_vector put same
image_gap σ q =
    let n = numbers_put σ Gap q refl in
    model_path (λ d c. cond (c <? controllers) (renumbered σ (put σ Gap q) c (n.number c) d) absent_controller) n.last
    (λ d m. cond (n.record_same m d <? n.used_same d) (model_message σ (n.record_same m d)) unsent_message) (put_same σ Gap q)

-- W7: nothing of a house changes by whom was served last
pub image_served : (σ : State) (c : ℕ) → image (put σ Served c) ≡ image σ
unfolding image controller_by model_message place_vector message_vector put same
image_served σ c =
    let n = numbers_put σ Served c refl in
    model_path (λ d b. cond (b <? controllers) (renumbered σ (put σ Served c) b (n.number b) d) absent_controller) n.last
    (λ d m. cond (n.record_same m d <? n.used_same d) (model_message σ (n.record_same m d)) unsent_message) refl

-- L, C and the kept ones of H: "c's known word for itself and its incarnation becomes the new stable count"
pub image_logged : (σ : State) (c k : ℕ) → c < controllers → σ (Incarnation c) < incarnations →
    image (logged σ c k) ≡ put_controller (image σ) c (log_controller c ((image σ).controller c) (number_of σ c k))
unfolding controller_by log_controller logged place_vector put same
image_logged σ c k cl il =
    let τ = put σ (StableCount c) k in
    let i = σ (Incarnation c) in
    one_controller σ (logged σ c k) c (λ n. log_controller c n (number_of σ c k)) cl
    (controller_path refl refl refl (ap (number_of σ c) (put_same σ (StableCount c) k)) (known_put τ c c i (number_of σ c k) cl il) refl refl refl refl)
    (away_put c σ τ (Known c c i) (number_of σ c k) (λ a. a refl) (away_put c σ σ (StableCount c) k (λ a. a refl) (nothing_else c σ)))

-- logging if any, on the words of a state
pub image_logged_to : (σ : State) (c k : ℕ) → c < controllers → σ (Incarnation c) < incarnations →
    image (logged_to σ c k) ≡ put_controller (image σ) c (logged_controller c ((image σ).controller c) (number_of σ c k))
unfolding logged_to
image_logged_to σ c k cl il =
    subst (λ b. image (logged_to σ c k) ≡ put_controller (image σ) c (cond b (log_controller c ((image σ).controller c) x) ((image σ).controller c)))
    (sym (number_ltb σ c (σ (StableCount c)) k) ∙ ap (λ s. s <? x) (sym (stable_is σ c cl))) (split (σ (StableCount c) <? k))
  where
    x : ℕ
    x = number_of σ c k

    split : (b : Bool) → image (cond b (logged σ c k) σ) ≡ put_controller (image σ) c (cond b (log_controller c ((image σ).controller c) x) ((image σ).controller c))
    split true = image_logged σ c k cl il
    split false = sym (put_controller_id (image σ) c)

-- X, first part: "c's own end word for its incarnation becomes k"
abbrev pub ended : State → ℕ → State
ended σ c = put σ (End c c (σ (Incarnation c))) (number_of σ c (σ (StableCount c)))

-- on a state
pub image_end : (σ : State) (c : ℕ) → c < controllers → σ (Incarnation c) < incarnations → image (ended σ c) ≡ put_controller (image σ) c (end_controller c ((image σ).controller c))
unfolding controller_by end_controller place_vector put same
image_end σ c cl il =
    let i = σ (Incarnation c) in
    let x = number_of σ c (σ (StableCount c)) in
    one_controller σ (ended σ c) c (end_controller c) cl (controller_path refl refl refl refl refl (end_put σ c c i x cl il) refl refl refl)
    (away_put c σ σ (End c c i) x (λ a. a refl) (nothing_else c σ))

-- H, first part: "copy a's own end word, and raise b's known word to it"
pub image_noted : (σ : State) (hearer owner i : ℕ) → hearer < controllers → owner < controllers → i < incarnations →
    image (noted σ hearer owner i) ≡ put_controller (image σ) hearer (note_controller ((image σ).controller hearer) owner i (((image σ).controller owner).ends owner i))
unfolding controller_by note_controller noted place_vector put same
image_noted σ hearer owner i hl ol il =
    let e = σ (End owner owner i) in
    let k = max (σ (Known hearer owner i)) e in
    let τ = put σ (End hearer owner i) e in
    one_controller σ (noted σ hearer owner i) hearer (λ n. note_controller n owner i e) hl
    (controller_path refl refl refl refl
    (known_put τ hearer owner i k ol il
    ∙ ap (λ x. changed_at₂ (in_rows (λ b j. σ (Known hearer b j))) owner i (max x e)) (sym (rows_in (λ b j. σ (Known hearer b j)) owner i ol il)))
    (end_put σ hearer owner i e ol il) refl refl refl)
    (away_put hearer σ τ (Known hearer owner i) k (λ a. a refl) (away_put hearer σ σ (End hearer owner i) e (λ a. a refl) (nothing_else hearer σ)))
    ∙ ap (λ e. put_controller (image σ) hearer (note_controller ((image σ).controller hearer) owner i e)) (sym (ends_is σ owner ol owner i ol il))

-- T: "b's known words for a become the larger of b's and a's own, for each incarnation"
module _ (σ : State) (owner holder : ℕ) (ol : owner < controllers) (hl : holder < controllers) where
  -- the larger of two known words
  abbrev larger : ℕ → ℕ
  larger i = max (σ (Known holder owner i)) (σ (Known owner owner i))

  -- the rows of the holder and of the owner
  abbrev theirs : ℕ → ℕ → ℕ
  theirs = in_rows (λ a i. σ (Known holder a i))

  abbrev own : ℕ → ℕ → ℕ
  own = in_rows (λ a i. σ (Known owner a i))

  -- the holder's known words after the owner has told
  told_known : in_rows (λ a i. told σ owner holder (Known holder a i)) ≡ changed_at theirs owner (λ i. max (theirs owner i) (own owner i))
  unfolding told told_row
  told_known =
      fun_ext (changed_at_ind (λ a row. in_rows (λ a i. told σ owner holder (Known holder a i)) a ≡ row) theirs owner (λ i. max (theirs owner i) (own owner i))
      (fun_ext (λ i. le? (i + 1) incarnations
      (λ l. let il : i < incarnations = omega arith in
      rows_in _ owner i ol il ∙ part_at σ (Known holder owner 0) 0 (tab incarnations larger) i i (omega (arith, length_tab incarnations larger)) (omega arith)
      ∙ get_d_tab incarnations larger i 0 il ∙ sym (ap₂ max (rows_in _ owner i ol il) (rows_in _ owner i ol il)))
      (λ l. let out : (owner < controllers → incarnations ≤ i) = λ _. omega arith in
      rows_out _ owner i out ∙ sym (ap₂ max (rows_out _ owner i out) (rows_out _ owner i out)))))
      (λ a ne. fun_ext (λ i. rows_same _ _ a i (λ _ _. part_other σ (Known holder owner 0) (Known holder a i) 0 (tab incarnations larger) (λ j h e. ne (cc))))))

  -- T on a state
  pub image_told : image (told σ owner holder) ≡ put_controller (image σ) holder (tell_controller owner ((image σ).controller holder) (((image σ).controller owner).known owner))
  unfolding controller_by tell_controller told told_row place_vector put_part
  image_told =
      one_controller σ (told σ owner holder) holder (λ n. tell_controller owner n (own owner)) hl
      (controller_path refl refl refl refl told_known refl refl refl refl)
      (away_part holder σ σ (Known holder owner 0) 0 (tab incarnations larger) (λ j a. a refl) (nothing_else holder σ))
      ∙ ap (λ (n : Controller). put_controller (image σ) holder (tell_controller owner ((image σ).controller holder) (n.known owner))) (sym (controller_is σ owner ol))
