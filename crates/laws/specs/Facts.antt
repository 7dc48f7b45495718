-- What being in form says of each word, in a house of any limits.
use Rattle.std.specs.Prelude.{◌≡◌, refl, Bool, ◌&&◌, ◌||◌, ℕ, ◌+◌, ◌-◌, ◌≤◌, ◌<◌, ◌==◌}
use Rattle.std.proofs.Common.{sym, ◌∙◌, true≢false}
use Rattle.std.proofs.Math.Path.{ap}
use Rattle.std.proofs.Math.Bool.{true, false, or-false}
use mathlib.Core.List.{[]}
use native.Mathlib.Omega.{arith}
use borrow.Author.Tests.{leb-true, ltb-true, eqb-true, lt-ltb, le-ltb}
use Rattle.base.specs.Choice.{◌≤?◌, ◌<?◌, and_left, and_right, cond_ind, le?}
use Rattle.base.specs.Ranges.{allb, allb_get}
use Rattle.base.specs.Lists.{get_d_tab}
use Rattle.base.specs.Cases.{passed, failed}
use Rattle.table.specs.Field.{State, OfHead, OfController, OfPlace, Known, End, OfMessage, Size, Degree, Incarnation, LiveCount, StableCount, PlaceIncarnation, PlaceNumber, Cause, Flag, MessageState, Sender, Receiver, SendingIncarnation, SendingNumber, MessagePairIncarnation, Discarded, Gap, Served, word, spare_from, spare_again}
use Rattle.table.specs.Layout.{controllers, incarnations, head_words, controller_words, place_words, message_words}
use Rattle.table.specs.Numbering.{number_of, last_live, used, last_given}
use Rattle.table.proofs.Numbering.{number_from_lem, number_fresh}
use Rattle.rules.specs.Limits.{Limits, house, last_incarnation, last_gap, last_served}
use Rattle.rules.specs.Vector.{Pair, Vector, incarnation, number, pair_of, place_vector, message_vector}
use Rattle.rules.specs.Form.{state_released, for_desk, state_ok, zeros, pair_ok, vector_ok, controller_ok, highest, row_ok, place_ok, message_ok, head_zeros, head_ok, in_form}

-- every incarnation of a vector has a word in the rows of known and end words
abbrev pub Near : Vector → Type 0
Near v = (a : ℕ) → a < controllers → incarnation (pair_of v a) < incarnations

-- Limits that let an interval stand in every place: without them an opening, or a delivery, would leave a number out of its range.
pub record Fitting (L : Limits) : Type 0 where
  pub first : 1 ≤ L.places
  pub numbers : L.places ≤ L.numbers

pub house_fits : Fitting house
house_fits = record { first = omega arith; numbers = omega arith }

-- a table in form: the words of its head, and the tests of the rest
pub record Form (L : Limits) (σ : State) : Type 0 where
  pub size_pos : 1 ≤ σ Size
  pub size_le : σ Size ≤ controllers
  pub used_le : used σ ≤ L.messages
  pub spare_ok : head_zeros σ spare_from (word Gap) ≡ true
  pub gap_le : σ Gap ≤ last_gap
  pub served_le : σ Served ≤ last_served
  pub again_ok : head_zeros σ spare_again head_words ≡ true
  pub controllers_ok : allb controllers (controller_ok L (σ Size) σ) ≡ true
  pub rows_ok : allb controllers (λ (holder : ℕ). allb controllers (row_ok L (σ Size) σ holder)) ≡ true
  pub places_ok : allb controllers (λ (c : ℕ). allb L.places (place_ok L (σ Size) σ c)) ≡ true
  pub messages_ok : allb L.messages (message_ok L (σ Size) σ) ≡ true

-- what the whole test says
pub form : (L : Limits) (σ : State) → in_form L σ ≡ true → Form L σ
unfolding in_form head_ok
form L σ e =
    let w = passed _ e in
    let head : head_ok L σ ≡ true = search w in
    let h = passed _ head in
    record {
      size_pos = leb-true _ _ (search h);
      size_le = leb-true _ _ (search h);
      used_le = leb-true _ _ (search h);
      spare_ok = search h;
      gap_le = leb-true _ _ (search h);
      served_le = leb-true _ _ (search h);
      again_ok = search h;
      controllers_ok = search w;
      rows_ok = search w;
      places_ok = search w;
      messages_ok = search w;
    }

-- a head that isn't in form settles it
pub no_head : (L : Limits) (σ : State) → head_ok L σ ≡ false → in_form L σ ≡ false
unfolding in_form
no_head L σ e = failed _ e (λ w. search w)

-- words in a row that are 0
zeros_get : (k : ℕ) (word : ℕ → ℕ) (i : ℕ) → zeros k word ≡ true → i < k → word i ≡ 0
unfolding zeros
zeros_get k word i e h = eqb-true _ _ (allb_get (λ (i : ℕ). word i == 0) k i e h)

-- a vector in form, of a house of n controllers
pub record VectorForm (L : Limits) (n : ℕ) (v : Vector) : Type 0 where
  pub near : Near v
  pub number_le : (a : ℕ) → a < controllers → number (pair_of v a) ≤ L.numbers
  pub empty_incarnation : (a : ℕ) → a < controllers → number (pair_of v a) ≡ 0 → incarnation (pair_of v a) ≡ 0
  pub beyond_number : (a : ℕ) → a < controllers → n ≤ a → number (pair_of v a) ≡ 0
  pub beyond_incarnation : (a : ℕ) → a < controllers → n ≤ a → incarnation (pair_of v a) ≡ 0

-- a pair in form, of an owner below n or not
record PairForm (L : Limits) (n a : ℕ) (p : Pair) : Type 0 where
  incarnation_le : incarnation p ≤ last_incarnation
  number_le : number p ≤ L.numbers
  empty_incarnation : number p ≡ 0 → incarnation p ≡ 0
  beyond_number : n ≤ a → number p ≡ 0
  beyond_incarnation : n ≤ a → incarnation p ≡ 0

-- a number that is not above 0 leaves the other test
or_else : (x : ℕ) (b : Bool) → ((0 <? x) || b) ≡ true → x ≡ 0 → b ≡ true
or_else x b e z = rw (le-ltb 0 x (omega arith)) at e

-- a pair that passed its test
pair_form : (L : Limits) (n a : ℕ) (p : Pair) → pair_ok L n a p ≡ true → PairForm L n a p
unfolding pair_ok
pair_form L n a p e =
    le? (a + 1) n
    (λ l. let w = passed _ (rw (lt-ltb a n (omega arith)) at e) in
    record {
      incarnation_le = leb-true _ _ (search w);
      number_le = leb-true _ _ (search w);
      empty_incarnation = λ z. eqb-true _ _ (or_else (number p) _ (search w) z);
      beyond_number = λ g. absurd (omega arith);
      beyond_incarnation = λ g. absurd (omega arith);
    })
    (λ l. let w = passed _ (rw (le-ltb a n (omega arith)) at e) in
    let x = eqb-true (number p) 0 (search w) in
    let t = eqb-true (incarnation p) 0 (search w) in
    record { incarnation_le = omega arith; number_le = omega arith; empty_incarnation = λ z. t; beyond_number = λ g. x; beyond_incarnation = λ g. t })

-- a vector whose pairs all passed
pub vector_form : (L : Limits) (n : ℕ) (v : Vector) → vector_ok L n v ≡ true → VectorForm L n v
unfolding vector_ok
vector_form L n v e =
    record {
      near = λ a h. omega (arith, (get a h).incarnation_le);
      number_le = λ a h. (get a h).number_le;
      empty_incarnation = λ a h. (get a h).empty_incarnation;
      beyond_number = λ a h. (get a h).beyond_number;
      beyond_incarnation = λ a h. (get a h).beyond_incarnation;
    }
  where
    get : (a : ℕ) → a < controllers → PairForm L n a (pair_of v a)
    get a h = pair_form L n a (pair_of v a) (allb_get (λ (a : ℕ). pair_ok L n a (pair_of v a)) controllers a e h)

-- a controller of the house
pub record ControllerForm (L : Limits) (σ : State) (c : ℕ) : Type 0 where
  pub degree_le : σ (Degree c) ≤ σ Size
  pub incarnation_le : σ (Incarnation c) ≤ last_incarnation
  pub live_pos : 1 ≤ σ (LiveCount c)
  pub live_le : σ (LiveCount c) ≤ L.places
  pub stable_pos : 1 ≤ σ (StableCount c)
  pub stable_le : σ (StableCount c) ≤ σ (LiveCount c)

-- place p, live, of controller c
pub record PlaceForm (L : Limits) (σ : State) (c p : ℕ) : Type 0 where
  pub incarnation_le : σ (PlaceIncarnation c p) ≤ last_incarnation
  pub number_is : σ (PlaceNumber c p) ≡ number_of σ c (p + 1)
  pub cause_le : σ (Cause c p) ≤ last_given σ
  pub flag_le : σ (Flag c p) ≤ 1
  pub first_flag : p ≡ 0 → σ (Flag c p) ≡ 1
  pub vector_ok_lem : vector_ok L (σ Size) (place_vector σ c p) ≡ true
  pub vector : VectorForm L (σ Size) (place_vector σ c p)

-- message record r, used
pub record MessageForm (L : Limits) (σ : State) (r : ℕ) : Type 0 where
  pub state_ok_lem : state_ok (for_desk σ r) (σ (MessageState r)) ≡ true
  pub sender_lt : σ (Sender r) < σ Size
  pub receiver_ok : ((σ (Receiver r) <? σ Size) || for_desk σ r) ≡ true
  pub incarnation_le : σ (SendingIncarnation r) ≤ last_incarnation
  pub number_pos : 1 ≤ σ (SendingNumber r)
  pub number_le : σ (SendingNumber r) ≤ L.numbers
  pub vector_ok_lem : vector_ok L (σ Size) (message_vector σ r) ≡ true
  pub vector : VectorForm L (σ Size) (message_vector σ r)

module _ {L : Limits} {σ : State} (f : Form L σ) where
  -- a controller of the house has its words in the table
  pub below_8 : (c : ℕ) → c < σ Size → c < controllers
  below_8 c h = omega arith

  -- the words of a controller of the house
  pub controller_form : (c : ℕ) → c < σ Size → ControllerForm L σ c
  unfolding controller_ok
  controller_form c h =
      let w = passed _ (rw (lt-ltb c (σ Size) h) at (allb_get (controller_ok L (σ Size) σ) controllers c f.controllers_ok (omega arith))) in
      record {
        degree_le = leb-true _ _ (search w);
        incarnation_le = leb-true _ _ (search w);
        live_pos = leb-true _ _ (search w);
        live_le = leb-true _ _ (search w);
        stable_pos = leb-true _ _ (search w);
        stable_le = leb-true _ _ (search w);
      }

  -- a controller that is not of the house has none but zero words, so that one with a live interval is
  pub no_controller_lem : (c k : ℕ) → c < controllers → σ Size ≤ c → k < controller_words → σ (OfController c k) ≡ 0
  unfolding controller_ok
  no_controller_lem c k cl l kl =
      zeros_get controller_words (λ (k : ℕ). σ (OfController c k)) k
      (rw (le-ltb _ _ l) at (allb_get (controller_ok L (σ Size) σ) controllers c f.controllers_ok cl)) kl

  pub live_named : (c p : ℕ) → c < controllers → p < σ (LiveCount c) → c < σ Size
  live_named c p cl l = le? (c + 1) (σ Size) (λ h. omega arith) (λ h. absurd (omega (arith, no_controller_lem c (word (LiveCount c)) cl (omega arith) (omega arith))))

  -- the test of one place
  place_ok_lem : (c p : ℕ) → c < controllers → p < L.places → place_ok L (σ Size) σ c p ≡ true
  place_ok_lem c p cl pl = allb_get _ L.places p (allb_get (λ (c : ℕ). allb L.places (place_ok L (σ Size) σ c)) controllers c f.places_ok cl) pl

  -- the words of a live place
  pub place_form : (c p : ℕ) → c < σ Size → p < σ (LiveCount c) → PlaceForm L σ c p
  unfolding place_ok
  place_form c p h l =
      let w = passed _ (rw (lt-ltb _ _ l) at (place_ok_lem c p (omega arith) (omega (arith, (controller_form c h).live_le)))) in
      record {
        incarnation_le = leb-true _ _ (search w);
        number_is = eqb-true _ _ (search w);
        cause_le = leb-true _ _ (search w);
        flag_le = leb-true _ _ (search w);
        first_flag = λ z. eqb-true _ _ (or_else p _ (search w) z);
        vector_ok_lem = search w;
        vector = vector_form _ _ _ (search w);
      }

  -- the words of a free place
  pub no_place_lem : (c p k : ℕ) → c < controllers → p < L.places → σ (LiveCount c) ≤ p → k < place_words → σ (OfPlace c p k) ≡ 0
  unfolding place_ok
  no_place_lem c p k cl pl l kl = zeros_get place_words (λ (k : ℕ). σ (OfPlace c p k)) k (rw (le-ltb _ _ l) at (place_ok_lem c p cl pl)) kl

  -- the words of a used message record
  pub message_form : (r : ℕ) → r < used σ → MessageForm L σ r
  unfolding message_ok
  message_form r l =
      let w = passed _ (rw (lt-ltb _ _ l) at (allb_get (message_ok L (σ Size) σ) L.messages r f.messages_ok (omega arith))) in
      record {
        state_ok_lem = search w;
        sender_lt = ltb-true _ _ (search w);
        receiver_ok = search w;
        incarnation_le = leb-true _ _ (search w);
        number_pos = leb-true _ _ (search w);
        number_le = leb-true _ _ (search w);
        vector_ok_lem = search w;
        vector = vector_form _ _ _ (search w);
      }

  -- W2: "A message for receiver 8 has state 1, 5 or 6": a released one goes to a controller
  pub released_lt : (r : ℕ) → r < used σ → σ (MessageState r) ≡ state_released → σ (Receiver r) < σ Size
  unfolding state_ok
  released_lt r l s = let g = message_form r l in go (for_desk σ r) g.receiver_ok (rw s at g.state_ok_lem)
    where
      go : (d : Bool) → ((σ (Receiver r) <? σ Size) || d) ≡ true → state_ok d state_released ≡ true → σ (Receiver r) < σ Size
      go true p q = absurd (true≢false (sym q))
      go false p q = ltb-true _ _ (sym (or-false (σ (Receiver r) <? σ Size)) ∙ p)

  -- the words of unused message records
  pub no_message : (r k : ℕ) → r < L.messages → used σ ≤ r → k < message_words → σ (OfMessage r k) ≡ 0
  unfolding message_ok
  no_message r k rl l kl =
      zeros_get message_words (λ (k : ℕ). σ (OfMessage r k)) k
      (rw (le-ltb _ _ l) at (allb_get (message_ok L (σ Size) σ) L.messages r f.messages_ok rl)) kl

  -- the vectors of all message records are near, those of unused ones too
  pub message_near : (r : ℕ) → r < L.messages → Near (message_vector σ r)
  unfolding message_vector
  message_near r l =
      le? (r + 1) (used σ) (λ u. (message_form r (omega arith)).vector.near)
      (λ u owner h. let e : incarnation (pair_of (message_vector σ r) owner) ≡ σ (MessagePairIncarnation r owner) = ap incarnation (get_d_tab controllers _ owner [] h) in
      omega (arith, e, no_message r (word (MessagePairIncarnation r owner)) l (omega arith) (omega arith)))

  -- a known and an end word: at most the last number, and 0 where holder or owner is not of the house
  abbrev top : ℕ → ℕ → ℕ
  top holder owner = highest L (σ Size) holder owner

  -- that is at most the last number
  top_le : (holder owner : ℕ) → top holder owner ≤ L.numbers
  unfolding highest
  top_le holder owner = cond_ind (λ x. x ≤ L.numbers) ((holder <? σ Size) && (owner <? σ Size)) (λ e. omega arith) (λ e. omega arith)

  -- the test of one known and one end word
  row : (holder owner i : ℕ) → holder < controllers → owner < controllers → i < incarnations → ((σ (Known holder owner i) ≤? top holder owner) && (σ (End holder owner i) ≤? top holder owner)) ≡ true
  unfolding row_ok
  row holder owner i hl ol il =
      allb_get (λ (i : ℕ). (σ (Known holder owner i) ≤? top holder owner) && (σ (End holder owner i) ≤? top holder owner)) incarnations i
      (allb_get (row_ok L (σ Size) σ holder) controllers owner (allb_get (λ (holder : ℕ). allb controllers (row_ok L (σ Size) σ holder)) controllers holder f.rows_ok hl) ol) il

  -- a known word is at most the highest that its row may have
  pub known_top : (holder owner i : ℕ) → holder < controllers → owner < controllers → i < incarnations → σ (Known holder owner i) ≤ top holder owner
  known_top holder owner i hl ol il = leb-true _ _ (and_left (σ (Known holder owner i) ≤? top holder owner) _ (row holder owner i hl ol il))

  -- so is an end word
  pub end_top : (holder owner i : ℕ) → holder < controllers → owner < controllers → i < incarnations → σ (End holder owner i) ≤ top holder owner
  end_top holder owner i hl ol il = leb-true _ _ (and_right (σ (Known holder owner i) ≤? top holder owner) _ (row holder owner i hl ol il))

  -- it is 0 where holder or owner is not of the house
  top_none : (holder owner : ℕ) → (holder < σ Size → owner < σ Size → ⊥) → top holder owner ≡ 0
  unfolding highest
  top_none holder owner out =
      cond_ind (λ x. x ≡ 0) ((holder <? σ Size) && (owner <? σ Size))
      (λ e. absurd (out (ltb-true _ _ (and_left (holder <? σ Size) _ e)) (ltb-true _ _ (and_right (holder <? σ Size) _ e)))) (λ e. refl)

  -- known and end words are at most the last number
  pub known_le : (holder owner i : ℕ) → holder < controllers → owner < controllers → i < incarnations → σ (Known holder owner i) ≤ L.numbers
  known_le holder owner i hl ol il = omega (arith, top_le holder owner, known_top holder owner i hl ol il)

  pub end_le : (holder owner i : ℕ) → holder < controllers → owner < controllers → i < incarnations → σ (End holder owner i) ≤ L.numbers
  end_le holder owner i hl ol il = omega (arith, top_le holder owner, end_top holder owner i hl ol il)

  -- the end words of controllers from n on
  pub no_end : (holder owner i : ℕ) → holder < controllers → owner < controllers → i < incarnations → (holder < σ Size → owner < σ Size → ⊥) → σ (End holder owner i) ≡ 0
  no_end holder owner i hl ol il out = omega (arith, top_none holder owner out, end_top holder owner i hl ol il)

  -- NUMBERS
  -- no interval is discarded, so that numbers are counts
  pub none_discarded : (c : ℕ) → c < controllers → σ (Discarded c) ≡ 0
  unfolding head_zeros
  none_discarded c l =
      let q : spare_from + (word (Discarded c) - spare_from) ≡ word (Discarded c) = omega arith in
      rw q at (zeros_get (word Gap - spare_from) (λ (k : ℕ). σ (OfHead (spare_from + k))) (word (Discarded c) - spare_from) f.spare_ok (omega arith))

  pub number_is : (c k : ℕ) → number_of σ c k ≡ k
  number_is c k = number_fresh σ c k (none_discarded c)

  -- the bound of a controller's numbers: that of its newest live interval is at most the last number
  pub numbers_le : Fitting L → (c : ℕ) → c < σ Size → last_live σ c ≤ L.numbers
  numbers_le fit c h = omega (arith, number_is c (σ (LiveCount c)), (controller_form c h).live_le, fit.numbers)

  -- so are those of the others
  pub live_number : Fitting L → (c : ℕ) → c < σ Size → (k : ℕ) → k ≤ σ (LiveCount c) → number_of σ c k ≤ L.numbers
  live_number fit c h k l = omega (arith, number_from_lem σ c k, number_from_lem σ c (σ (LiveCount c)), numbers_le fit c h)
