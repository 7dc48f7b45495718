-- "A table is in form when every word is in its range", with the limits as a parameter.
use Rattle.std.specs.Prelude.{Bool, cond, ◌&&◌, ◌||◌, [], ◌∷◌, ℕ, ◌+◌, ◌-◌, ◌==◌}
use Rattle.base.specs.Choice.{◌≤?◌, ◌<?◌}
use Rattle.base.specs.Ranges.{allb}
use Rattle.base.specs.Cases.{all_of}
use Rattle.table.specs.Field.{State, OfHead, OfController, Known, End, OfPlace, OfMessage, Size, Degree, Incarnation, LiveCount, StableCount, PlaceIncarnation, PlaceNumber, Cause, Flag, MessageState, Sender, Receiver, SendingIncarnation, SendingNumber, Gap, Served, word, desk, spare_from, spare_again}
use Rattle.table.specs.Layout.{controllers, incarnations, head_words, controller_words, place_words, message_words}
use Rattle.table.specs.Numbering.{number_of, used, last_given}
use Rattle.rules.specs.Limits.{Limits, last_incarnation, last_gap, last_served}
use Rattle.rules.specs.Vector.{Pair, Vector, incarnation, number, pair_of, place_vector, message_vector}

-- "States: 0 unused, 1 held, 2 released, 3 delivered, 4 lost, 5 dropped." W1: "State 4 isn't given any more; a table that has it
-- stays in form." W2: "state 6, published".
abbrev pub state_held : ℕ
state_held = 1

abbrev pub state_released : ℕ
state_released = 2

abbrev pub state_delivered : ℕ
state_delivered = 3

abbrev pub state_lost : ℕ
state_lost = 4

abbrev pub state_dropped : ℕ
state_dropped = 5

abbrev pub state_published : ℕ
state_published = 6

-- W2: the message in record r is for the desk
abbrev pub for_desk : State → ℕ → Bool
for_desk σ r = σ (Receiver r) == desk

-- "sent messages have state 1 to 5"; W2: "A message for receiver 8 has state 1, 5 or 6"; "state 6 is in form there alone"
unfoldable pub state_ok : Bool → ℕ → Bool
state_ok to_desk s =
    cond to_desk ((s == state_held) || ((s == state_dropped) || (s == state_published))) ((state_held ≤? s) && (s ≤? state_dropped))

-- n words in a row are 0
unfoldable pub zeros : ℕ → (ℕ → ℕ) → Bool
zeros n word = allb n (λ (k : ℕ). word k == 0)

module _ (L : Limits) (n : ℕ) where
  -- "pair numbers 0 to 64, and 0 only with incarnation 0; incarnations 0 to 15; all words for controllers from n on, pairs
  -- included, are 0"
  unfoldable pub pair_ok : ℕ → Pair → Bool
  pair_ok owner p =
      cond (owner <? n)
      (all_of ((number p ≤? L.numbers) ∷ (incarnation p ≤? last_incarnation) ∷ ((0 <? number p) || (incarnation p == 0)) ∷ []))
      (all_of ((number p == 0) ∷ (incarnation p == 0) ∷ []))

  unfoldable pub vector_ok : Vector → Bool
  vector_ok v = allb controllers (λ (owner : ℕ). pair_ok owner (pair_of v owner))

  -- "K (0 to n), incarnation, live count (1 to 64), stable count (1 to live count)"
  unfoldable pub controller_ok : State → ℕ → Bool
  controller_ok σ c =
      cond (c <? n)
      (all_of
      ((σ (Degree c) ≤? n)
      ∷ (σ (Incarnation c) ≤? last_incarnation)
      ∷ (1 ≤? σ (LiveCount c))
      ∷ (σ (LiveCount c) ≤? L.places)
      ∷ (1 ≤? σ (StableCount c))
      ∷ (σ (StableCount c) ≤? σ (LiveCount c))
      ∷ []))
      (zeros controller_words (λ (k : ℕ). σ (OfController c k)))

  -- "known and end words 0 to 64"; 0 for controllers from n on
  unfoldable pub highest : ℕ → ℕ → ℕ
  highest holder owner = cond ((holder <? n) && (owner <? n)) L.numbers 0

  unfoldable pub row_ok : State → ℕ → ℕ → Bool
  row_ok σ holder owner =
      let most = highest holder owner in
      allb incarnations (λ (i : ℕ). (σ (Known holder owner i) ≤? most) && (σ (End holder owner i) ≤? most))

  -- "place p has number p + 1; place 0 has flag 1; a cause is at most the messages sent"; "checkpoint flag (0 or 1)";
  -- "places from the live count on are 0" (a controller from n on has the live count 0)
  unfoldable pub place_ok : State → ℕ → ℕ → Bool
  place_ok σ c p =
      cond (p <? σ (LiveCount c))
      (all_of
      ((σ (PlaceIncarnation c p) ≤? last_incarnation)
      ∷ (σ (PlaceNumber c p) == number_of σ c (p + 1))
      ∷ (σ (Cause c p) ≤? last_given σ)
      ∷ (σ (Flag c p) ≤? 1)
      ∷ ((0 <? p) || (σ (Flag c p) == 1))
      ∷ vector_ok (place_vector σ c p)
      ∷ []))
      (zeros place_words (λ (k : ℕ). σ (OfPlace c p k)))

  -- "sent messages have state 1 to 5, sender and receiver below n, sending number 1 to 64; payload free"; W2: "Sends may name
  -- receiver 8"; "unsent messages are 0"
  unfoldable pub message_ok : State → ℕ → Bool
  message_ok σ r =
      cond (r <? used σ)
      (all_of
      (state_ok (for_desk σ r) (σ (MessageState r))
      ∷ (σ (Sender r) <? n)
      ∷ ((σ (Receiver r) <? n) || for_desk σ r)
      ∷ (σ (SendingIncarnation r) ≤? last_incarnation)
      ∷ (1 ≤? σ (SendingNumber r))
      ∷ (σ (SendingNumber r) ≤? L.numbers)
      ∷ vector_ok (message_vector σ r)
      ∷ []))
      (zeros message_words (λ (k : ℕ). σ (OfMessage r k)))

-- the words of the head from one on and below another are 0
unfoldable pub head_zeros : State → ℕ → ℕ → Bool
head_zeros σ from to = zeros (to - from) (λ (k : ℕ). σ (OfHead (from + k)))

-- "n (1 to 8); word 1: messages sent (0 to 128); words 2 to 15 are 0", but for W4's gap, "kept in word 11 of the table, in form up
-- to 64", and W7's controller last served: "Word 12 is in form up to 7", however many controllers there are
unfoldable pub head_ok : Limits → State → Bool
head_ok L σ =
    all_of
    ((1 ≤? σ Size)
    ∷ (σ Size ≤? controllers)
    ∷ (used σ ≤? L.messages)
    ∷ head_zeros σ spare_from (word Gap)
    ∷ (σ Gap ≤? last_gap)
    ∷ (σ Served ≤? last_served)
    ∷ head_zeros σ spare_again head_words
    ∷ [])

-- "every word is in its range"
unfoldable pub in_form : Limits → State → Bool
in_form L σ =
    let n = σ Size in
    all_of
    (head_ok L σ
    ∷ allb controllers (controller_ok L n σ)
    ∷ allb controllers (λ (holder : ℕ). allb controllers (row_ok L n σ holder))
    ∷ allb controllers (λ (c : ℕ). allb L.places (place_ok L n σ c))
    ∷ allb L.messages (message_ok L n σ)
    ∷ [])
