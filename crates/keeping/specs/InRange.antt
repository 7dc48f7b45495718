-- A record whose words are in their ranges passes its test: the way back of `laws/specs/Facts.antt`. Vectors that the rules make of
-- vectors in form are in form.
use Rattle.std.specs.Prelude.{◌≡◌, refl, Bool, false, ◌&&◌, ◌||◌, ℕ, ◌+◌, ◌*◌, ◌≤◌, ◌<◌, length, get_or, set, ◌==◌}
use Rattle.std.proofs.Common.{sym, ◌∙◌, arith, get_or-set_same, get_or-set_other}
use Rattle.std.proofs.Math.Path.{ap, ap₂, subst}
use Rattle.std.proofs.Math.Bool.{true, cond, or-true}
use mathlib.Core.List.{[], ◌∷◌}
use borrow.Author.Tests.{le-leb, lt-ltb, le-ltb, eq-eqb}
use Rattle.base.specs.Choice.{◌<?◌, cond_ind, le?}
use Rattle.base.specs.Ranges.{allb_get, allb_all}
use Rattle.base.specs.Lists.{get_d_tab}
use Rattle.base.specs.Cases.{all_of}
use Rattle.table.specs.Field.{State, Gap, Served, desk, place_head, message_head, word, spare_from, spare_again, OfController, Known, End, OfPlace, OfMessage, Size, Degree, Incarnation, LiveCount, StableCount, PlaceIncarnation, PlaceNumber, Cause, Flag, PairIncarnation, PairNumber, MessageState, Sender, Receiver, SendingIncarnation, SendingNumber, MessagePairIncarnation, MessagePairNumber}
use Rattle.table.specs.Layout.{controllers, incarnations, head_words, controller_words, place_words, message_words}
use Rattle.table.specs.Numbering.{number_of, used, last_given}
use Rattle.rules.specs.Limits.{Limits, last_incarnation, last_gap, last_served}
use Rattle.rules.specs.Vector.{Pair, Vector, pair, no_pair, pair_of, place_vector, message_vector, known_stable, filter_pair, filtered, merge_pair, merged, incarnation, number}
use Rattle.rules.specs.Form.{state_held, state_dropped, for_desk, state_ok, zeros, pair_ok, vector_ok, controller_ok, highest, row_ok, place_ok, message_ok, head_zeros, head_ok}
use Rattle.rules.specs.Shared.{place_record}
use Rattle.rules.specs.Steps.{message_record}
use Rattle.laws.specs.Facts.{PlaceForm, MessageForm}
use Rattle.laws.specs.Records.{place_vector_of, message_vector_of, record_word}

-- words in a row that are 0
zeros_all : (k : ℕ) (word : ℕ → ℕ) → ((i : ℕ) → i < k → word i ≡ 0) → zeros k word ≡ true
unfolding zeros
zeros_all k word h = allb_all _ k (λ i l. eq-eqb (word i) 0 (h i l))

-- states that a message may have whoever its receiver is
pub held_ok : (d : Bool) → state_ok d state_held ≡ true
unfolding state_ok
held_ok true = refl
held_ok false = refl

pub dropped_ok : (d : Bool) → state_ok d state_dropped ≡ true
unfolding state_ok
dropped_ok true = refl
dropped_ok false = refl

-- the head
pub head_ok_lem : (L : Limits) (σ : State) → 1 ≤ σ Size → σ Size ≤ controllers → used σ ≤ L.messages → head_zeros σ spare_from (word Gap) ≡ true → σ Gap ≤ last_gap → σ Served ≤ last_served →
    head_zeros σ spare_again head_words ≡ true → head_ok L σ ≡ true
unfolding head_ok all_of
head_ok_lem L σ low high count spare gap served again =
    let e₀ = le-leb _ _ low in
    let e₁ = le-leb _ _ high in
    let e₂ = le-leb _ _ count in
    let e₄ = le-leb _ _ gap in
    let e₅ = le-leb _ _ served in
    λ d. all_of (e₀ d ∷ e₁ d ∷ e₂ d ∷ spare d ∷ e₄ d ∷ e₅ d ∷ again d ∷ [])

module _ (L : Limits) (n : ℕ) where
  -- VECTORS
  -- the empty pair is in form, whoever owns it
  pub none_ok : (owner : ℕ) → pair_ok L n owner no_pair ≡ true
  unfolding pair_ok all_of
  none_ok owner =
      cond_ind (λ b. b ≡ true) (owner <? n) (λ _. let e = le-leb 0 L.numbers (omega arith) in λ d. all_of (e d ∷ true ∷ true ∷ [])) (λ _. refl)

  -- the pair of an interval
  pub pair_ok_lem : (owner i x : ℕ) → owner < n → i ≤ last_incarnation → 1 ≤ x → x ≤ L.numbers → pair_ok L n owner (pair i x) ≡ true
  unfolding pair_ok all_of
  pair_ok_lem owner i x ol il xl xn =
      let a = le-leb x L.numbers xn in
      let b = le-leb i last_incarnation il in
      let e = lt-ltb 0 x (omega arith) in
      let o = lt-ltb owner n ol in
      λ d. cond (o d) (all_of (a d ∷ b d ∷ (e d || (i == 0)) ∷ [])) (all_of ((x == 0) ∷ (i == 0) ∷ []))

  -- a vector by its pairs
  pub vector_of_lem : (v : Vector) → ((owner : ℕ) → owner < controllers → pair_ok L n owner (pair_of v owner) ≡ true) → vector_ok L n v ≡ true
  unfolding vector_ok
  vector_of_lem v h = allb_all _ controllers h

  pair_of_lem : (v : Vector) (owner : ℕ) → vector_ok L n v ≡ true → owner < controllers → pair_ok L n owner (pair_of v owner) ≡ true
  unfolding vector_ok
  pair_of_lem v owner e l = allb_get _ controllers owner e l

  -- filtered: some pairs are empty then
  pub filtered_ok : (σ : State) (holder : ℕ) (v : Vector) → vector_ok L n v ≡ true → vector_ok L n (filtered σ holder v) ≡ true
  unfolding filtered filter_pair
  filtered_ok σ holder v e =
      vector_of_lem _ (λ owner l. subst (λ p. pair_ok L n owner p ≡ true) (sym (get_d_tab controllers (λ (owner : ℕ). filter_pair σ holder owner (pair_of v owner)) owner [] l))
      (cond_ind (λ p. pair_ok L n owner p ≡ true) (known_stable σ holder owner (pair_of v owner)) (λ _. none_ok owner) (λ _. pair_of_lem v owner e l)))

  -- merged: each pair is of one of the two
  pub merged_ok : (v w : Vector) → vector_ok L n v ≡ true → vector_ok L n w ≡ true → vector_ok L n (merged v w) ≡ true
  unfolding merged merge_pair
  merged_ok v w e f =
      vector_of_lem _ (λ owner l. subst (λ p. pair_ok L n owner p ≡ true) (sym (get_d_tab controllers (λ (owner : ℕ). merge_pair (pair_of v owner) (pair_of w owner)) owner [] l))
      (cond_ind (λ p. pair_ok L n owner p ≡ true) (number (pair_of v owner) <? number (pair_of w owner)) (λ _. pair_of_lem w owner f l) (λ _. pair_of_lem v owner e l)))

  -- one pair set
  pub set_ok : (v : Vector) (c : ℕ) (p : Pair) → vector_ok L n v ≡ true → c < length v → pair_ok L n c p ≡ true → vector_ok L n (set v c p) ≡ true
  set_ok v c p e l q =
      vector_of_lem _ (λ owner h. le? owner c
      (λ a. le? c owner
      (λ b. let same : c ≡ owner = omega arith in
      subst (λ owner. pair_ok L n owner (pair_of (set v c p) owner) ≡ true) same (subst (λ y. pair_ok L n c y ≡ true) (sym (get_or-set_same v c p [] l)) q))
      (λ b. other owner h (omega arith)))
      (λ a. other owner h (omega arith)))
    where
      other : (owner : ℕ) → owner < controllers → (owner ≡ c → ⊥) → pair_ok L n owner (pair_of (set v c p) owner) ≡ true
      other owner h ne = subst (λ y. pair_ok L n owner y ≡ true) (sym (get_or-set_other v c owner p [] ne)) (pair_of_lem v owner e h)

  -- RECORDS
  -- a controller of the house, and one that isn't
  pub controller_ok_lem : (σ : State) (c : ℕ) → c < n → σ (Degree c) ≤ n → σ (Incarnation c) ≤ last_incarnation → 1 ≤ σ (LiveCount c) → σ (LiveCount c) ≤ L.places →
      1 ≤ σ (StableCount c) → σ (StableCount c) ≤ σ (LiveCount c) → controller_ok L n σ c ≡ true
  unfolding controller_ok all_of
  controller_ok_lem σ c h degree own live room stable below =
      let o = lt-ltb c n h in
      let e₀ = le-leb _ _ degree in
      let e₁ = le-leb _ _ own in
      let e₂ = le-leb _ _ live in
      let e₃ = le-leb _ _ room in
      let e₄ = le-leb _ _ stable in
      let e₅ = le-leb _ _ below in
      λ d. cond (o d) (all_of (e₀ d ∷ e₁ d ∷ e₂ d ∷ e₃ d ∷ e₄ d ∷ e₅ d ∷ [])) (zeros controller_words (λ (k : ℕ). σ (OfController c k)))

  pub no_controller_ok : (σ : State) (c : ℕ) → n ≤ c → ((k : ℕ) → k < controller_words → σ (OfController c k) ≡ 0) → controller_ok L n σ c ≡ true
  unfolding controller_ok
  no_controller_ok σ c h z = rw (le-ltb c n h) (zeros_all controller_words _ z)

  -- a row, by the highest number that it may have
  pub row_ok_lem : (σ : State) (holder owner : ℕ) →
      ((i : ℕ) → i < incarnations → (σ (Known holder owner i) ≤ highest L n holder owner) × (σ (End holder owner i) ≤ highest L n holder owner)) → row_ok L n σ holder owner ≡ true
  unfolding row_ok
  row_ok_lem σ holder owner h =
      allb_all _ incarnations (λ i l. let e = le-leb _ _ (h i l).0 in let f = le-leb _ _ (h i l).1 in λ d. e d && f d)

  -- that of two controllers of the house
  pub highest_is : (holder owner : ℕ) → holder < n → owner < n → highest L n holder owner ≡ L.numbers
  unfolding highest
  highest_is holder owner h o = rw (lt-ltb holder n h, lt-ltb owner n o)

  -- a live place, and a free one
  pub place_ok_lem : (σ : State) (c p : ℕ) → p < σ (LiveCount c) → σ (PlaceIncarnation c p) ≤ last_incarnation → σ (PlaceNumber c p) ≡ number_of σ c (p + 1) →
      σ (Cause c p) ≤ last_given σ → σ (Flag c p) ≤ 1 → (p ≡ 0 → σ (Flag c p) ≡ 1) → vector_ok L n (place_vector σ c p) ≡ true → place_ok L n σ c p ≡ true
  unfolding place_ok all_of
  place_ok_lem σ c p l own num cause flag start vector =
      let o = lt-ltb _ _ l in
      let e₀ = le-leb _ _ own in
      let e₁ = eq-eqb _ _ num in
      let e₂ = le-leb _ _ cause in
      let e₃ = le-leb _ _ flag in
      let e₄ : ((0 <? p) || (σ (Flag c p) == 1)) ≡ true = le? 1 p (λ l. rw (lt-ltb 0 p l)) (λ l. ap (λ b. (0 <? p) || b) (eq-eqb (σ (Flag c p)) 1 (start (omega arith))) ∙ or-true (0 <? p)) in
      λ d. cond (o d) (all_of (e₀ d ∷ e₁ d ∷ e₂ d ∷ e₃ d ∷ e₄ d ∷ vector d ∷ [])) (zeros place_words (λ (k : ℕ). σ (OfPlace c p k)))

  pub free_ok : (σ : State) (c p : ℕ) → σ (LiveCount c) ≤ p → ((k : ℕ) → k < place_words → σ (OfPlace c p k) ≡ 0) → place_ok L n σ c p ≡ true
  unfolding place_ok
  free_ok σ c p l z = rw (le-ltb _ _ l) (zeros_all place_words _ z)

  -- a sent message, and an unused record
  pub message_ok_lem : (σ : State) (r : ℕ) → r < used σ → state_ok (for_desk σ r) (σ (MessageState r)) ≡ true → σ (Sender r) < n → ((σ (Receiver r) <? n) || for_desk σ r) ≡ true →
      σ (SendingIncarnation r) ≤ last_incarnation → 1 ≤ σ (SendingNumber r) → σ (SendingNumber r) ≤ L.numbers → vector_ok L n (message_vector σ r) ≡ true → message_ok L n σ r ≡ true
  unfolding message_ok all_of
  message_ok_lem σ r l st sender receiver own pos num vector =
      let o = lt-ltb _ _ l in
      let e₁ = lt-ltb _ _ sender in
      let e₃ = le-leb _ _ own in
      let e₄ = le-leb _ _ pos in
      let e₅ = le-leb _ _ num in
      λ d. cond (o d) (all_of (st d ∷ e₁ d ∷ receiver d ∷ e₃ d ∷ e₄ d ∷ e₅ d ∷ vector d ∷ [])) (zeros message_words (λ (k : ℕ). σ (OfMessage r k)))

  pub unused_ok : (σ : State) (r : ℕ) → used σ ≤ r → ((k : ℕ) → k < message_words → σ (OfMessage r k) ≡ 0) → message_ok L n σ r ≡ true
  unfolding message_ok
  unused_ok σ r l z = rw (le-ltb _ _ l) (zeros_all message_words _ z)

  -- a vector with the numbers of another
  pub vector_like : (v w : Vector) → vector_ok L n v ≡ true →
      ((owner : ℕ) → owner < controllers → (incarnation (pair_of w owner) ≡ incarnation (pair_of v owner)) × (number (pair_of w owner) ≡ number (pair_of v owner))) → vector_ok L n w ≡ true
  unfolding pair_ok
  vector_like v w e h = vector_of_lem w (λ owner l. ap₂ (λ i x. pair_ok L n owner (pair i x)) (h owner l).0 (h owner l).1 ∙ pair_of_lem v owner e l)

-- A record that was in form still is, where its words stay and its house has given no fewer numbers: a live place
pub place_again : (L : Limits) (σ τ : State) (c p : ℕ) → PlaceForm L σ c p → p < τ (LiveCount c) → number_of τ c (p + 1) ≡ number_of σ c (p + 1) → last_given σ ≤ last_given τ →
    ((k : ℕ) → τ (OfPlace c p k) ≡ σ (OfPlace c p k)) → place_ok L (σ Size) τ c p ≡ true
place_again L σ τ c p w l num given keep =
    place_ok_lem L (σ Size) τ c p l (subst (λ x. x ≤ last_incarnation) (sym (keep (word (PlaceIncarnation c p)))) w.incarnation_le) (keep (word (PlaceNumber c p)) ∙ w.number_is ∙ sym num)
    (omega (arith, keep (word (Cause c p)), w.cause_le)) (subst (λ x. x ≤ 1) (sym (keep (word (Flag c p)))) w.flag_le) (λ z. keep (word (Flag c p)) ∙ w.first_flag z)
    (subst (λ v. vector_ok L (σ Size) v ≡ true)
    (place_vector_of σ τ c p (λ owner _. (sym (keep (word (PairIncarnation c p owner))), sym (keep (word (PairNumber c p owner)))))) w.vector_ok_lem)

-- a sent message
pub message_again : (L : Limits) (σ τ : State) (r : ℕ) → MessageForm L σ r → r < used τ → ((k : ℕ) → τ (OfMessage r k) ≡ σ (OfMessage r k)) → message_ok L (σ Size) τ r ≡ true
message_again L σ τ r w l keep =
    let state_at_lem = keep (word (MessageState r)) in
    let receiver_at = keep (word (Receiver r)) in
    message_ok_lem L (σ Size) τ r l ((λ d. state_ok (receiver_at d == desk) (state_at_lem d)) ∙ w.state_ok_lem) (subst (λ x. x < σ Size) (sym (keep (word (Sender r)))) w.sender_lt)
    ((λ d. (receiver_at d <? σ Size) || (receiver_at d == desk)) ∙ w.receiver_ok) (subst (λ x. x ≤ last_incarnation) (sym (keep (word (SendingIncarnation r)))) w.incarnation_le)
    (subst (λ x. 1 ≤ x) (sym (keep (word (SendingNumber r)))) w.number_pos) (subst (λ x. x ≤ L.numbers) (sym (keep (word (SendingNumber r)))) w.number_le)
    (subst (λ v. vector_ok L (σ Size) v ≡ true)
    (message_vector_of σ τ r (λ owner _. (sym (keep (word (MessagePairIncarnation r owner))), sym (keep (word (MessagePairNumber r owner)))))) w.vector_ok_lem)

-- A record that was written: an interval
pub place_new : (L : Limits) (n : ℕ) (τ : State) (c p i x cause flag : ℕ) (v : Vector) → ((k : ℕ) → k < place_words → τ (OfPlace c p k) ≡ get_or (place_record i x cause flag v) k 0) →
    p < τ (LiveCount c) → i ≤ last_incarnation → x ≡ number_of τ c (p + 1) → cause ≤ last_given τ → flag ≤ 1 → (p ≡ 0 → flag ≡ 1) → vector_ok L n v ≡ true → place_ok L n τ c p ≡ true
unfolding place_record place_vector
place_new L n τ c p i x cause flag v at l il num given fl start ok =
    place_ok_lem L n τ c p l (subst (λ y. y ≤ last_incarnation) (sym (at (word (PlaceIncarnation c p)) (omega arith))) il) (at (word (PlaceNumber c p)) (omega arith) ∙ num)
    (subst (λ y. y ≤ last_given τ) (sym (at (word (Cause c p)) (omega arith))) given) (subst (λ y. y ≤ 1) (sym (at (word (Flag c p)) (omega arith))) fl)
    (λ z. at (word (Flag c p)) (omega arith) ∙ start z)
    (vector_like L n v (place_vector τ c p) ok (λ owner ol. (
      ap incarnation (get_d_tab controllers _ owner [] ol) ∙ vector owner 0 ol (omega arith) (word (PairIncarnation c p owner)) (omega arith),
      ap number (get_d_tab controllers _ owner [] ol) ∙ vector owner 1 ol (omega arith) (word (PairNumber c p owner)) (omega arith),
    )))
  where
    vector : (owner j : ℕ) → owner < controllers → j < 2 → (k : ℕ) → k ≡ place_head + (2 * owner + j) → τ (OfPlace c p k) ≡ get_or (pair_of v owner) j 0
    vector owner j ol jl k q = at k (omega arith) ∙ record_word (i ∷ x ∷ cause ∷ flag ∷ []) v place_head refl owner j k ol jl q

-- a message
pub message_new : (L : Limits) (n : ℕ) (τ : State) (r st sender receiver i x payload : ℕ) (v : Vector) →
    ((k : ℕ) → k < message_words → τ (OfMessage r k) ≡ get_or (message_record st sender receiver i x payload v) k 0) → r < used τ → state_ok (receiver == desk) st ≡ true → sender < n →
    ((receiver <? n) || (receiver == desk)) ≡ true → i ≤ last_incarnation → 1 ≤ x → x ≤ L.numbers → vector_ok L n v ≡ true → message_ok L n τ r ≡ true
unfolding message_record message_vector
message_new L n τ r st sender receiver i x payload v at l st_ok sl rl il xp xl ok =
    let state_at_lem = at (word (MessageState r)) (omega arith) in
    let receiver_at = at (word (Receiver r)) (omega arith) in
    message_ok_lem L n τ r l ((λ d. state_ok (receiver_at d == desk) (state_at_lem d)) ∙ st_ok) (subst (λ y. y < n) (sym (at (word (Sender r)) (omega arith))) sl)
    ((λ d. (receiver_at d <? n) || (receiver_at d == desk)) ∙ rl) (subst (λ y. y ≤ last_incarnation) (sym (at (word (SendingIncarnation r)) (omega arith))) il)
    (subst (λ y. 1 ≤ y) (sym (at (word (SendingNumber r)) (omega arith))) xp) (subst (λ y. y ≤ L.numbers) (sym (at (word (SendingNumber r)) (omega arith))) xl)
    (vector_like L n v (message_vector τ r) ok (λ owner ol. (
      ap incarnation (get_d_tab controllers _ owner [] ol) ∙ vector owner 0 ol (omega arith) (word (MessagePairIncarnation r owner)) (omega arith),
      ap number (get_d_tab controllers _ owner [] ol) ∙ vector owner 1 ol (omega arith) (word (MessagePairNumber r owner)) (omega arith),
    )))
  where
    vector : (owner j : ℕ) → owner < controllers → j < 2 → (k : ℕ) → k ≡ message_head + (2 * owner + j) → τ (OfMessage r k) ≡ get_or (pair_of v owner) j 0
    vector owner j ol jl k q = at k (omega arith) ∙ record_word (st ∷ sender ∷ receiver ∷ i ∷ x ∷ payload ∷ []) v message_head refl owner j k ol jl q
