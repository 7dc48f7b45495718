-- Starting anew, a crash and a rollback, as changes of the model.
use Rattle.std.specs.Prelude.{◌≡◌, cond, ℕ, ◌+◌, ◌-◌, ◌≤◌, ◌<◌, length, ◌==◌}
use Rattle.std.proofs.Math.Path.{refl, ap}
use Rattle.std.proofs.Common.{ap₂, ◌∙◌}
use Rattle.std.proofs.Math.Bool.{false}
use native.Mathlib.Omega.{arith}
use Rattle.std.proofs.Math.ListN.{length-set}
use Rattle.base.specs.Choice.{◌<?◌, cond_ind}
use Rattle.table.specs.Field.{State, Known, End, OfPlace, Incarnation, LiveCount, StableCount, PlaceIncarnation, Flag, PairIncarnation, PairNumber, word, same}
use Rattle.table.specs.Change.{put, put_same, clear_places, put_part, put_states}
use Rattle.table.specs.Layout.{controllers, incarnations}
use Rattle.table.specs.Numbering.{number_of, last_live, place_of}
use Rattle.table.proofs.Numbering.{number_from_lem, number_next, place_lt, place_next, numbers_put, numbers_states}
use Rattle.rules.specs.Limits.{last_incarnation}
use Rattle.rules.specs.Vector.{pair as pair_list, place_vector}
use Rattle.rules.specs.Shared.{logged, logged_to, capped, causes_in, causes, new_vector, placed, entered, restarted, drop_held, start_anew, removed}
use Rattle.rules.specs.Steps.{crashed, noted, rolled_back}
use Rattle.model.specs.Model.{pair, changed_at₂, Model, put_controller, cap_model, logged_controller, end_controller, note_controller, new_vec, anew_controller}
use Rattle.laws.specs.Numbers.{numbers_logged_to, numbers_restarted, numbers_noted}
use Rattle.laws.specs.Facts.{Near}
use Rattle.laws.specs.Records.{length_filtered, clear_kept, place_vector_of}
use Rattle.laws.specs.Agree.{live_restarted}
use Rattle.image.specs.Functions.{in_rows, within, within_renewed}
use Rattle.image.specs.Image.{no_vec, vec_of, place_vec, controller_by, model_controller, image, Elsewhere, controller_path, one_controller, then_controller}
use Rattle.image.specs.Changes.{nothing_else, away_put, away_part, away_clear, known_put, image_states}
use Rattle.image.specs.Vectors.{set_vec}
use Rattle.image.specs.Begin.{written, written_incarnation, written_flag, written_vec, written_other, count_vector, filtered_count}
use Rattle.image.specs.Controllers.{image_logged_to, image_end, image_noted}
use Rattle.image.specs.Tests.{Fresh, fresh_kept}
use Rattle.image.specs.Capped.{Counted, image_capped}

-- what starting anew at c after its k-th interval counts on, whatever the limits
pub record Starting (σ : State) (c k : ℕ) : Type 0 where
  pub named : c < controllers
  pub kept : 1 ≤ k
  pub below : k ≤ σ (LiveCount c)
  pub left : σ (Incarnation c) < last_incarnation
  pub near : Near (place_vector σ c (k - 1))

-- a start changes words of c alone
restarted_elsewhere : (σ : State) (c k : ℕ) → Elsewhere c σ (restarted σ c k)
unfolding restarted placed entered
restarted_elsewhere σ c k =
    away_put c σ _ (Known c c _) _ (λ a. a refl)
    (away_put c σ _ (StableCount c) (k + 1) (λ a. a refl)
    (away_put c σ _ (LiveCount c) (k + 1) (λ a. a refl)
    (away_put c σ _ (Incarnation c) _ (λ a. a refl)
    (away_part c σ _ (OfPlace c k 0) 0 _ (λ j a. a refl) (away_clear c σ σ k (σ (LiveCount c)) (nothing_else c σ))))))

-- "the kept vector filtered for c with c's own pair set to the new interval"
new_vec_lem : (σ : State) (c k : ℕ) → Starting σ c k → vec_of (new_vector σ c k) ≡ new_vec c (model_controller σ c) (number_of σ c k)
unfolding new_vector new_vec controller_by
new_vec_lem σ c k s =
    let cl = s.named in
    let i = σ (Incarnation c) + 1 in
    let long : length (count_vector σ c k) ≡ controllers = length_filtered σ c _ in
    let kept = filtered_count σ c k s.kept s.below s.near in
    set_vec (count_vector σ c k) c (pair_list i (number_of σ c (k + 1))) (omega arith)
    ∙ (λ d owner. cond (owner == c) (pair i (number_next σ c k d)) (kept d owner))

module _ (σ : State) (c k : ℕ) (s : Starting σ c k) where
  -- the new interval
  abbrev i : ℕ
  i = σ (Incarnation c) + 1

  abbrev x : ℕ
  x = number_of σ c (k + 1)

  -- the number that is kept, and the highest live one
  abbrev kept : ℕ
  kept = number_of σ c k

  abbrev live : ℕ
  live = last_live σ c

  abbrev freed : State
  freed = clear_places σ c k (σ (LiveCount c))

  abbrev τ : State
  τ = written freed c k i x 0 0 (new_vector σ c k)

  -- the new vector has a pair for each controller
  long : length (new_vector σ c k) ≡ controllers
  unfolding new_vector
  long = length-set (count_vector σ c k) c _ ∙ length_filtered σ c _

  -- a word of a kept place
  kept_word : (y w : ℕ) → y ≤ kept → τ (OfPlace c (place_of σ c y) w) ≡ σ (OfPlace c (place_of σ c y) w)
  kept_word y w q =
      let l = place_lt σ c k y s.kept q in
      written_other freed c k i x 0 0 (new_vector σ c k) (place_of σ c y) w (omega arith) ∙ clear_kept σ c k (σ (LiveCount c)) (place_of σ c y) w l

  -- the vector of a kept place
  kept_vector : (y : ℕ) → y ≤ kept → place_vec τ c (place_of σ c y) ≡ place_vec σ c (place_of σ c y)
  kept_vector y q =
      ap vec_of (place_vector_of τ σ c (place_of σ c y) (λ owner _. (kept_word y (word (PairIncarnation c k owner)) q, kept_word y (word (PairNumber c k owner)) q)))

  -- the start itself
  image_restarted : image (restarted σ c k) ≡ put_controller (image σ) c (anew_controller c ((image σ).controller c) kept)
  unfolding controller_by anew_controller restarted placed entered place_vector put same put_part clear_places
  image_restarted =
      one_controller σ (restarted σ c k) c (λ n. anew_controller c n kept) s.named
      (controller_path refl (put_same τ (Incarnation c) i) count (ap (number_of σ c) (put_same τ (StableCount c) (k + 1)) ∙ number_next σ c k)
      (known_put τ c c i x s.named (omega (arith, s.left)) ∙ ap (changed_at₂ (in_rows (λ owner i. σ (Known c owner i))) c i) (number_next σ c k)) refl
      (ap (λ n. within n 0 (λ y. τ (PlaceIncarnation c (place_of σ c y)))) count
      ∙ within_renewed kept live 0 (λ y. σ (PlaceIncarnation c (place_of σ c y))) (λ y. τ (PlaceIncarnation c (place_of σ c y))) i below
      (ap (λ p. τ (PlaceIncarnation c p)) (place_next σ c k) ∙ written_incarnation freed c k i x 0 0 (new_vector σ c k))
      (λ y p q. kept_word y (word (PlaceIncarnation c k)) q))
      (ap (λ n. within n no_vec (λ y. place_vec τ c (place_of σ c y))) count
      ∙ within_renewed kept live no_vec (λ y. place_vec σ c (place_of σ c y)) (λ y. place_vec τ c (place_of σ c y)) (new_vec c (model_controller σ c) kept) below
      (ap (place_vec τ c) (place_next σ c k) ∙ written_vec freed c k i x 0 0 (new_vector σ c k) long ∙ new_vec_lem σ c k s) (λ y p q. kept_vector y q))
      (ap (λ n. within n false (λ y. τ (Flag c (place_of σ c y)) == 1)) count
      ∙ within_renewed kept live false (λ y. σ (Flag c (place_of σ c y)) == 1) (λ y. τ (Flag c (place_of σ c y)) == 1) false below
      (ap (λ p. τ (Flag c p) == 1) (place_next σ c k) ∙ ap (λ z. z == 1) (written_flag freed c k i x 0 0 (new_vector σ c k)))
      (λ y p q. ap (λ z. z == 1) (kept_word y (word (Flag c k)) q))))
      (restarted_elsewhere σ c k)
    where
      count : number_of σ c (put τ (LiveCount c) (k + 1) (LiveCount c)) ≡ kept + 1
      count = ap (number_of σ c) (put_same τ (LiveCount c) (k + 1)) ∙ number_next σ c k

      below : kept ≤ live
      below = omega (arith, number_from_lem σ c k, number_from_lem σ c (σ (LiveCount c)), s.below)

  -- it has its counts
  counted_restarted : Counted (restarted σ c k) c
  unfolding restarted entered put same
  counted_restarted =
      let own : restarted σ c k (Incarnation c) ≡ i = put_same (placed σ c k i x (new_vector σ c k)) (Incarnation c) i in
      let live = live_restarted σ c k in
      record { named = s.named; incarnation_le = omega (arith, s.left); live_pos = omega arith }

-- "Starting anew at c after kept number k", with W4's checkpoint
image_start_anew : (σ : State) (c k : ℕ) → Starting σ c k → Fresh σ →
    image (start_anew σ c k) ≡ cap_model (put_controller (image σ) c (anew_controller c ((image σ).controller c) (number_of σ c k))) c
unfolding start_anew drop_held
image_start_anew σ c k s z =
    image_states (capped (restarted σ c k) c) _ ∙ image_capped (restarted σ c k) c (counted_restarted σ c k s) (fresh_kept σ _ (numbers_restarted σ c k) z)
    ∙ ap (λ (μ : Model). cap_model μ c) (image_restarted σ c k s)

-- what a start counts on stays where causes get their states, where an end word is put, and where intervals are logged, if any
starting_causes : (σ : State) (c k : ℕ) → Starting σ c k → Starting (causes σ c k) c k
unfolding causes causes_in put_states place_vector
starting_causes σ c k s = record { named = s.named; kept = s.kept; below = s.below; left = s.left; near = s.near }

starting_end : (σ : State) (c k holder owner i x : ℕ) → Starting σ c k → Starting (put σ (End holder owner i) x) c k
unfolding put same place_vector
starting_end σ c k holder owner i x s = record { named = s.named; kept = s.kept; below = s.below; left = s.left; near = s.near }

starting_logged_to : (σ : State) (c k j : ℕ) → Starting σ c k → Starting (logged_to σ c j) c k
unfolding logged_to logged put same place_vector
starting_logged_to σ c k j s =
    cond_ind (λ τ. Starting τ c k) (σ (StableCount c) <? j) (λ e. record { named = s.named; kept = s.kept; below = s.below; left = s.left; near = s.near }) (λ e. s)

-- intervals removed: their causes get their states, which are not in the image, then a start
image_removed : (σ : State) (c k : ℕ) → Starting σ c k → Fresh σ →
    image (removed σ c k) ≡ cap_model (put_controller (image σ) c (anew_controller c ((image σ).controller c) (number_of σ c k))) c
unfolding removed causes causes_in
image_removed σ c k s z =
    image_start_anew _ c k (starting_causes σ c k s) (fresh_kept σ _ (numbers_states σ _) z)
    ∙ ap₂ (λ (μ : Model) x. cap_model (put_controller μ c (anew_controller c (μ.controller c) x)) c) (image_states σ _) ((numbers_states σ _).number c k)

-- a crash noted
starting_noted : (σ : State) (c k hearer owner i : ℕ) → Starting σ c k → Starting (noted σ hearer owner i) c k
unfolding noted put same place_vector
starting_noted σ c k hearer owner i s = record { named = s.named; kept = s.kept; below = s.below; left = s.left; near = s.near }

-- X: "c's own end word for its incarnation becomes k. Then start anew."
pub image_crashed : (σ : State) (c : ℕ) → Starting σ c (σ (StableCount c)) → Fresh σ →
    image (crashed σ c) ≡ cap_model (put_controller (image σ) c (anew_controller c (end_controller c ((image σ).controller c)) (number_of σ c (σ (StableCount c))))) c
unfolding crashed
image_crashed σ c s z =
    let k = σ (StableCount c) in
    let f = End c c (σ (Incarnation c)) in
    let τ = put σ f (number_of σ c k) in
    let n = numbers_put σ f (number_of σ c k) refl in
    image_removed τ c k (starting_end σ c k c c (σ (Incarnation c)) _ s) (fresh_kept σ τ n z)
    ∙ ap (λ (μ : Model). cap_model μ c)
    (then_controller (image σ) (image τ) c (end_controller c ((image σ).controller c)) (λ n. anew_controller c n (number_of τ c k)) (image_end σ c s.named (omega (arith, s.left)))
    ∙ ap (λ x. put_controller (image σ) c (anew_controller c (end_controller c ((image σ).controller c)) x)) (n.number c k))

-- H: "kept intervals not yet stable, if any, are logged as by L; .. then start anew."
image_rolled : (σ : State) (hearer k : ℕ) → Starting σ hearer k → Fresh σ →
    image (rolled_back σ hearer k)
    ≡ cap_model (put_controller (image σ) hearer (anew_controller hearer (logged_controller hearer ((image σ).controller hearer) (number_of σ hearer k)) (number_of σ hearer k))) hearer
unfolding rolled_back
image_rolled σ hearer k s z =
    let τ = logged_to σ hearer k in
    let logs = logged_controller hearer ((image σ).controller hearer) (number_of σ hearer k) in
    let n = numbers_logged_to σ hearer k in
    image_removed τ hearer k (starting_logged_to σ hearer k k s) (fresh_kept σ τ n z)
    ∙ ap (λ (μ : Model). cap_model μ hearer)
    (then_controller (image σ) (image τ) hearer logs (λ n. anew_controller hearer n (number_of τ hearer k)) (image_logged_to σ hearer k s.named (omega (arith, s.left)))
    ∙ ap (λ x. put_controller (image σ) hearer (anew_controller hearer logs x)) (n.number hearer k))

-- a hearing that must undo, whole
pub image_heard_rolled : (σ : State) (hearer owner i k : ℕ) → Starting σ hearer k → Fresh σ → owner < controllers → i < incarnations →
    let n = note_controller ((image σ).controller hearer) owner i (((image σ).controller owner).ends owner i) in
    let x = number_of σ hearer k in
    image (rolled_back (noted σ hearer owner i) hearer k) ≡ cap_model (put_controller (image σ) hearer (anew_controller hearer (logged_controller hearer n x) x)) hearer
image_heard_rolled σ hearer owner i k s z ol il =
    let τ = noted σ hearer owner i in
    let n = note_controller ((image σ).controller hearer) owner i (((image σ).controller owner).ends owner i) in
    let same = numbers_noted σ hearer owner i in
    image_rolled τ hearer k (starting_noted σ hearer k hearer owner i s) (fresh_kept σ τ same z)
    ∙ ap (λ (μ : Model). cap_model μ hearer)
    (then_controller (image σ) (image τ) hearer n (λ n. anew_controller hearer (logged_controller hearer n (number_of τ hearer k)) (number_of τ hearer k))
    (image_noted σ hearer owner i s.named ol il)
    ∙ ap (λ x. put_controller (image σ) hearer (anew_controller hearer (logged_controller hearer n x) x)) (same.number hearer k))
