-- An interval written to a place, and a delivery that begins one, as a change of the model.
use Rattle.std.specs.Prelude.{◌≡◌, cond, [], ◌∷◌, ◌≢◌, ℕ, ◌+◌, ◌-◌, ◌≤◌, ◌<◌, length, set, ◌==◌}
use Rattle.std.proofs.Math.Path.{refl, ap}
use Rattle.std.proofs.Common.{sym, ◌∙◌, arith, length-set}
use Rattle.std.proofs.Math.Bool.{false}
use Rattle.table.specs.Field.{State, OfPlace, Size, Incarnation, LiveCount, PlaceIncarnation, Flag, PairIncarnation, PairNumber, MessageState, word, place_head, same}
use Rattle.table.specs.Change.{put, put_same, put_part}
use Rattle.table.specs.Layout.{controllers}
use Rattle.table.specs.Numbering.{number_of, last_live, place_of, used, record_of}
use Rattle.table.proofs.Numbering.{number_from_lem, number_next, place_lt, place_next, place_of_count}
use Rattle.rules.specs.Limits.{Limits}
use Rattle.rules.specs.Vector.{Vector, pair as pair_list, place_vector, message_vector, filtered, merged}
use Rattle.rules.specs.Form.{state_delivered}
use Rattle.rules.specs.Shared.{newest_place, place_record}
use Rattle.rules.specs.Steps.{interval_added}
use Rattle.model.specs.Model.{pair, Vec, larger, merged_for, put_controller, begin_controller, filtered as filtered_for}
use Rattle.laws.specs.Facts.{Near, Form, controller_form, place_form, message_form}
use Rattle.laws.specs.Records.{part_at, part_other, length_filtered, length_merged, length_place_record, place_vector_of}
use Rattle.image.specs.Functions.{within, within_more}
use Rattle.image.specs.Image.{no_vec, vec_of, place_vec, controller_by, model_controller, image, vec_at, Elsewhere, controller_path, one_controller}
use Rattle.image.specs.Changes.{nothing_else, away_put, away_part}
use Rattle.image.specs.Vectors.{place_pairs, length_place, length_message, filter_vec, merge_vec, set_vec, whole_pair}
use Rattle.image.specs.Reads.{message_vec_is}

-- the words of an interval in place p of c
module _ (σ : State) (c p i x cause flag : ℕ) (v : Vector) where
  -- the state with these words
  abbrev pub written : State
  written = put_part σ (OfPlace c p 0) 0 (place_record i x cause flag v)

  -- its incarnation
  pub written_incarnation : written (PlaceIncarnation c p) ≡ i
  unfolding place_record
  written_incarnation =
      let k = word (PlaceIncarnation c p) in
      part_at σ (OfPlace c p 0) 0 (place_record i x cause flag v) k k (omega (arith, length_place_record i x cause flag v)) refl

  -- its flag
  pub written_flag : written (Flag c p) ≡ flag
  unfolding place_record
  written_flag =
      let k = word (Flag c p) in
      part_at σ (OfPlace c p 0) 0 (place_record i x cause flag v) k k (omega (arith, length_place_record i x cause flag v)) refl

  -- its vector
  pub written_vec : length v ≡ controllers → place_vec written c p ≡ vec_of v
  unfolding place_record
  written_vec e = place_pairs written c p v e (whole_pair (i ∷ x ∷ cause ∷ flag ∷ []) v place_head refl σ (OfPlace c p 0))

  -- the other places
  pub written_other : (q k : ℕ) → q ≢ p → written (OfPlace c q k) ≡ σ (OfPlace c q k)
  written_other q k ne = part_other σ (OfPlace c p 0) (OfPlace c q k) 0 (place_record i x cause flag v) (λ j h e. ne (cc))

  -- and their vectors
  pub written_others : (q : ℕ) → q ≢ p → place_vector written c q ≡ place_vector σ c q
  written_others q ne =
      place_vector_of written σ c q (λ owner _. (written_other q (word (PairIncarnation c q owner)) ne, written_other q (word (PairNumber c q owner)) ne))

-- D: "a new interval begins", which changes words of c alone, and a message's state
added_elsewhere : (σ : State) (c m r : ℕ) (v : Vector) → Elsewhere c σ (interval_added σ c m r v)
unfolding interval_added
added_elsewhere σ c m r v =
    away_put c σ _ (MessageState r) state_delivered (λ a. a refl)
    (away_put c σ _ (LiveCount c) _ (λ a. a refl) (away_part c σ σ (OfPlace c (σ (LiveCount c)) 0) 0 _ (λ j a. a refl) (nothing_else c σ)))

module _ (σ : State) (c m r : ℕ) (v : Vector) (w : Vec) (cl : c < controllers) (l1 : 1 ≤ σ (LiveCount c)) (long : length v ≡ controllers) where
  abbrev live : ℕ
  live = σ (LiveCount c)

  -- the new interval
  abbrev i : ℕ
  i = σ (Incarnation c)

  abbrev x : ℕ
  x = number_of σ c (live + 1)

  abbrev own : Vector
  own = set v c (pair_list i x)

  abbrev τ : State
  τ = written σ c live i x m 0 own

  -- a word of another place
  other : (y k : ℕ) → y ≤ number_of σ c live → τ (OfPlace c (place_of σ c y) k) ≡ σ (OfPlace c (place_of σ c y) k)
  other y k h = let l = place_lt σ c live y l1 h in written_other σ c live i x m 0 own (place_of σ c y) k (omega arith)

  -- an interval begun, where its vector is that of the model
  with_vec : vec_of own ≡ merged_for c (pair i x) (filtered_for (model_controller σ c) ((model_controller σ c).vec (number_of σ c live))) (filtered_for (model_controller σ c) w) →
      image (interval_added σ c m r v) ≡ put_controller (image σ) c (begin_controller c ((image σ).controller c) w)
  unfolding controller_by begin_controller interval_added place_vector put same put_part
  with_vec e =
      one_controller σ (interval_added σ c m r v) c (λ k. begin_controller c k w) cl
      (controller_path refl refl more refl refl refl
      (ap (λ n. within n 0 (λ y. τ (PlaceIncarnation c (place_of σ c y)))) more
      ∙ within_more (number_of σ c live) 0 (λ y. σ (PlaceIncarnation c (place_of σ c y))) (λ y. τ (PlaceIncarnation c (place_of σ c y))) i
      (ap (λ p. τ (PlaceIncarnation c p)) (place_next σ c live) ∙ written_incarnation σ c live i x m 0 own)
      (λ y p q. other y (word (PlaceIncarnation c live)) q))
      (ap (λ n. within n no_vec (λ y. place_vec τ c (place_of σ c y))) more
      ∙ within_more (number_of σ c live) no_vec (λ y. place_vec σ c (place_of σ c y)) (λ y. place_vec τ c (place_of σ c y)) _
      (ap (place_vec τ c) (place_next σ c live) ∙ written_vec σ c live i x m 0 own (length-set v c _ ∙ long) ∙ e
      ∙ ap (λ n. merged_for c (pair i n) (filtered_for (model_controller σ c) ((model_controller σ c).vec (number_of σ c live))) (filtered_for (model_controller σ c) w)) (number_next σ c live))
      (λ y p q. let l = place_lt σ c live y l1 q in ap vec_of (written_others σ c live i x m 0 own (place_of σ c y) (omega arith))))
      (ap (λ n. within n false (λ y. τ (Flag c (place_of σ c y)) == 1)) more
      ∙ within_more (number_of σ c live) false (λ y. σ (Flag c (place_of σ c y)) == 1) (λ y. τ (Flag c (place_of σ c y)) == 1) false
      (ap (λ p. τ (Flag c p) == 1) (place_next σ c live) ∙ ap (λ z. z == 1) (written_flag σ c live i x m 0 own))
      (λ y p q. ap (λ z. z == 1) (other y (word (Flag c live)) q))))
      (added_elsewhere σ c m r v)
    where
      more : number_of σ c (put τ (LiveCount c) (live + 1) (LiveCount c)) ≡ number_of σ c live + 1
      more = ap (number_of σ c) (put_same τ (LiveCount c) (live + 1)) ∙ number_next σ c live

-- the vector of the k-th live interval of c, filtered for c; the rules write k - 1 for its place
abbrev pub count_vector : State → ℕ → ℕ → Vector
count_vector σ c k = filtered σ c (place_vector σ c (k - 1))

-- it is that of its number
pub filtered_count : (σ : State) (c k : ℕ) → 1 ≤ k → k ≤ σ (LiveCount c) → Near (place_vector σ c (k - 1)) →
    vec_of (count_vector σ c k) ≡ filtered_for (model_controller σ c) ((model_controller σ c).vec (number_of σ c k))
filtered_count σ c k k1 kl near =
    let x = number_of σ c k in
    let from = number_from_lem σ c k in
    let top = number_from_lem σ c (σ (LiveCount c)) in
    filter_vec σ c (place_vector σ c (k - 1)) (length_place σ c (k - 1)) near
    ∙ ap (filtered_for (model_controller σ c)) (ap (place_vec σ c) (sym (place_of_count σ c k k1)) ∙ sym (vec_at σ c x (omega arith) (omega arith)))

-- the vector of D: both filtered, merged, with the own pair
abbrev pub both_for : State → ℕ → ℕ → Vector
both_for σ c r = merged (filtered σ c (place_vector σ c (newest_place σ c))) (filtered σ c (message_vector σ r))

-- the new interval's vector is the model's
begun_vec : (σ : State) (c r i x : ℕ) → c < controllers → 1 ≤ σ (LiveCount c) → Near (place_vector σ c (newest_place σ c)) → Near (message_vector σ r) →
    vec_of (set (both_for σ c r) c (pair_list i x))
    ≡ merged_for c (pair i x) (filtered_for (model_controller σ c) ((model_controller σ c).vec (last_live σ c))) (filtered_for (model_controller σ c) (vec_of (message_vector σ r)))
unfolding merged_for
begun_vec σ c r i x cl l1 near far =
    let v = filtered σ c (place_vector σ c (newest_place σ c)) in
    let w = filtered σ c (message_vector σ r) in
    let ours = filtered_count σ c (σ (LiveCount c)) l1 (omega arith) near in
    let theirs = filter_vec σ c (message_vector σ r) (length_message σ r) far in
    let all : vec_of (merged v w) ≡ (λ owner. larger (vec_of v owner) (vec_of w owner)) = merge_vec v w (length_filtered σ c _) (length_filtered σ c _) in
    set_vec (merged v w) c (pair_list i x) (omega (arith, length_merged v w))
    ∙ (λ d owner. cond (owner == c) (pair i x) (all d owner))
    ∙ (λ d owner. cond (owner == c) (pair i x) (larger (ours d owner) (theirs d owner)))

-- D, message m, in record r, delivered at c: "each pair is the non-empty one or the one with the larger number, and c's own pair
-- is the new interval"
pub image_begun : {L : Limits} (σ : State) → Form L σ → (c m : ℕ) → c < σ Size → record_of σ m < used σ →
    let r = record_of σ m in
    image (interval_added σ c m r (both_for σ c r)) ≡ put_controller (image σ) c (begin_controller c ((image σ).controller c) ((image σ).message m).vec)
image_begun σ f c m h l =
    let cl : c < controllers = omega (arith, f.size_le) in
    let r = record_of σ m in
    let l1 = (controller_form f c h).live_pos in
    let near = (place_form f c (newest_place σ c) h (omega arith)).vector.near in
    with_vec σ c m r (both_for σ c r) (vec_of (message_vector σ r)) cl l1 (length_merged _ _) (begun_vec σ c r _ _ cl l1 near (message_form f r l).vector.near)
    ∙ ap (λ w. put_controller (image σ) c (begin_controller c ((image σ).controller c) w)) (sym (message_vec_is σ m l))
