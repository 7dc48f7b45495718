-- Vectors of pairs as vectors of the model, and the words of a vector in a record.
use Rattle.std.specs.Prelude.{◌≡◌, refl, Bool, true, false, cond, List, [], ◌++◌, ℕ, ◌+◌, ◌*◌, ◌≤◌, ◌<◌, length, get_or, set, ◌==◌}
use Rattle.std.proofs.Common.{sym, ap, ap₂, ◌∙◌, arith, length-append, get_or-set_same, get_or-set_other, eqb-true}
use Rattle.std.proofs.Math.Path.{fun_ext}
use Rattle.std.proofs.Math.ListN.{get_or-eq_default}
use Rattle.std.proofs.lemmas.Bool.{eqb-false}
use Rattle.base.specs.Choice.{◌≤?◌, ◌<?◌, cond_ind, le?}
use Rattle.base.specs.Lists.{tab, length_tab, get_d_tab}
use Rattle.table.specs.Field.{Field, State, Known, PairIncarnation, PairNumber, MessagePairIncarnation, MessagePairNumber, word_of}
use Rattle.table.specs.Change.{put_part}
use Rattle.table.specs.Layout.{controllers, vector_words}
use Rattle.rules.specs.Vector.{Pair as PairList, Vector, pair as pair_list, no_pair, incarnation, number, pair_of, place_vector, message_vector, flat, known_stable, filter_pair, filtered, merge_pair, merged}
use Rattle.model.specs.Model.{pair, Vec, larger, filtered as filtered_for}
use Rattle.laws.specs.Facts.{Near}
use Rattle.laws.specs.Records.{part_at, record_word, length_flat}
use Rattle.image.specs.Functions.{rows_in}
use Rattle.image.specs.Image.{model_pair, vec_of, place_vec, controller_by, model_controller, model_message}

-- a vector of pairs has no pair beyond its pairs
pub past : (v : Vector) (owner : ℕ) → length v ≤ owner → vec_of v owner ≡ pair 0 0
past v owner l = ap model_pair (get_or-eq_default v [] l)

-- a vector given by a function of the owner
pub tab_vec : (f : ℕ → PairList) (w : Vec) → ((owner : ℕ) → owner < controllers → model_pair (f owner) ≡ w owner) →
    ((owner : ℕ) → controllers ≤ owner → w owner ≡ pair 0 0) → vec_of (tab controllers f) ≡ w
tab_vec f w h o =
    fun_ext (λ owner. le? (owner + 1) controllers (λ l. ap model_pair (get_d_tab controllers f owner [] (omega arith)) ∙ h owner (omega arith))
    (λ l. past (tab controllers f) owner (omega (arith, length_tab controllers f)) ∙ sym (o owner (omega arith))))

-- a place whose pairs are those of v
pub place_pairs : (σ : State) (c p : ℕ) (v : Vector) → length v ≡ controllers →
    ((owner : ℕ) → owner < controllers → pair (σ (PairIncarnation c p owner)) (σ (PairNumber c p owner)) ≡ vec_of v owner) → place_vec σ c p ≡ vec_of v
unfolding place_vector
place_pairs σ c p v e h = tab_vec _ (vec_of v) h (λ owner l. past v owner (omega arith))

-- a message's record whose pairs are those of v
pub message_pairs : (σ : State) (r : ℕ) (v : Vector) → length v ≡ controllers →
    ((owner : ℕ) → owner < controllers → pair (σ (MessagePairIncarnation r owner)) (σ (MessagePairNumber r owner)) ≡ vec_of v owner) → (model_message σ r).vec ≡ vec_of v
unfolding message_vector model_message
message_pairs σ r v e h = tab_vec _ (vec_of v) h (λ owner l. past v owner (omega arith))

-- all vectors have a pair for each controller
pub length_place : (σ : State) (c p : ℕ) → length (place_vector σ c p) ≡ controllers
unfolding place_vector
length_place σ c p = length_tab controllers (λ (owner : ℕ). pair_list (σ (PairIncarnation c p owner)) (σ (PairNumber c p owner)))

-- that of a message
pub length_message : (σ : State) (r : ℕ) → length (message_vector σ r) ≡ controllers
unfolding message_vector
length_message σ r = length_tab controllers (λ (owner : ℕ). pair_list (σ (MessagePairIncarnation r owner)) (σ (MessagePairNumber r owner)))

-- a pair chosen by a test
pair_cond : (b : Bool) (p q : PairList) → model_pair (cond b p q) ≡ cond b (model_pair p) (model_pair q)
pair_cond true p q = refl
pair_cond false p q = refl

-- two cases with one value
both : {A : Type 0} (b : Bool) {x y z : A} → x ≡ z → y ≡ z → cond b x y ≡ z
both true p q = p
both false p q = q

-- filtering, merging, and the own pair
pub filter_vec : (σ : State) (holder : ℕ) (v : Vector) → length v ≡ controllers → Near v → vec_of (filtered σ holder v) ≡ filtered_for (model_controller σ holder) (vec_of v)
unfolding filtered filter_pair known_stable filtered_for controller_by
filter_vec σ holder v e near =
    tab_vec _ (filtered_for (model_controller σ holder) (vec_of v))
    (λ owner l. let i = incarnation (pair_of v owner) in
    pair_cond (number (pair_of v owner) ≤? σ (Known holder owner i)) no_pair (pair_of v owner)
    ∙ ap (λ x. cond (number (pair_of v owner) ≤? x) (pair 0 0) (vec_of v owner)) (sym (rows_in (λ owner i. σ (Known holder owner i)) owner i l (near owner l))))
    (λ owner l. both (number (pair_of v owner) ≤? (model_controller σ holder).known owner (incarnation (pair_of v owner))) refl (past v owner (omega arith)))

-- merging
pub merge_vec : (v w : Vector) → length v ≡ controllers → length w ≡ controllers → vec_of (merged v w) ≡ (λ owner. larger (vec_of v owner) (vec_of w owner))
unfolding merged merge_pair larger
merge_vec v w e f =
    tab_vec _ (λ owner. larger (vec_of v owner) (vec_of w owner))
    (λ owner l. pair_cond (number (pair_of v owner) <? number (pair_of w owner)) (pair_of w owner) (pair_of v owner))
    (λ owner l. both (number (pair_of v owner) <? number (pair_of w owner)) (past w owner (omega arith)) (past v owner (omega arith)))

-- the own pair set
pub set_vec : (v : Vector) (c : ℕ) (p : PairList) → c < length v → vec_of (set v c p) ≡ (λ owner. cond (owner == c) (model_pair p) (vec_of v owner))
set_vec v c p l =
    fun_ext (λ owner. cond_ind (λ y. vec_of (set v c p) owner ≡ y) (owner == c)
    (λ e. ap (vec_of (set v c p)) (eqb-true owner c e) ∙ ap model_pair (get_or-set_same v c p [] l)) (λ e. ap model_pair (get_or-set_other v c owner p [] (eqb-false owner c e))))

-- where the two words of an owner's pair stand, in a record whose vector begins at word n
abbrev incarnation_at : ℕ → ℕ → ℕ
incarnation_at n owner = n + 2 * owner

abbrev number_at : ℕ → ℕ → ℕ
number_at n owner = n + 2 * owner + 1

-- the words h and then a vector
module _ (h : List ℕ) (v : Vector) (n : ℕ) (e : n ≡ length h) where
  -- one pair
  pub record_pair : (owner : ℕ) → owner < controllers → pair (get_or (h ++ flat v) (incarnation_at n owner) 0) (get_or (h ++ flat v) (number_at n owner) 0) ≡ vec_of v owner
  record_pair owner ol =
      ap₂ pair (record_word h v n e owner 0 (incarnation_at n owner) ol (omega arith) (omega arith)) (record_word h v n e owner 1 (number_at n owner) ol (omega arith) (omega arith))

  -- these words put in the record of f: the whole record
  pub whole_pair : (σ : State) (f : Field) (owner : ℕ) → owner < controllers →
      pair (put_part σ f 0 (h ++ flat v) (word_of f (incarnation_at n owner))) (put_part σ f 0 (h ++ flat v) (word_of f (number_at n owner))) ≡ vec_of v owner
  whole_pair σ f owner ol =
      let l : length (h ++ flat v) ≡ length h + vector_words = length-append h (flat v) ∙ ap (λ k. length h + k) (length_flat v) in
      ap₂ pair (part_at σ f 0 (h ++ flat v) (incarnation_at n owner) (incarnation_at n owner) (omega arith) (omega arith))
      (part_at σ f 0 (h ++ flat v) (number_at n owner) (number_at n owner) (omega arith) (omega arith)) ∙ record_pair owner ol

-- a vector's words put in the record of f from word n on
pub part_pair : (σ : State) (f : Field) (n : ℕ) (v : Vector) (owner : ℕ) → owner < controllers →
    pair (put_part σ f n (flat v) (word_of f (incarnation_at n owner))) (put_part σ f n (flat v) (word_of f (number_at n owner))) ≡ vec_of v owner
part_pair σ f n v owner ol =
    let l = length_flat v in
    ap₂ pair (part_at σ f n (flat v) (incarnation_at 0 owner) (incarnation_at n owner) (omega arith) (omega arith))
    (part_at σ f n (flat v) (number_at 0 owner) (number_at n owner) (omega arith) (omega arith)) ∙ record_pair [] v 0 refl owner ol
