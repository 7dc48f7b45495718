-- The words of a house by name, and a state: the number that stands in each. No word position is named here.
use Rattle.std.specs.Prelude.{◌≡◌, refl, Bool, true, ◌&&◌, ◌||◌, ℕ, zero, suc, ◌+◌, ◌*◌, ◌==◌}
use Rattle.std.proofs.Common.{sym, ◌∙◌, eqb-true, eq-eqb}
use Rattle.base.specs.Choice.{and_left, and_right}

-- One constructor for each region of the table, with the coordinates and then the word inside the record.
pub data Field : Type 0 where
  -- word
  OfHead : ℕ → Field
  -- controller, word
  OfController : ℕ → ℕ → Field
  -- holder, owner, incarnation
  Known : ℕ → ℕ → ℕ → Field
  -- holder, owner, incarnation
  End : ℕ → ℕ → ℕ → Field
  -- controller, place, word
  OfPlace : ℕ → ℕ → ℕ → Field
  -- record (message m, from 1, stands at record m - 1), word
  OfMessage : ℕ → ℕ → Field

abbrev pub State : Type 0
State = Field → ℕ

-- "From 0: n; word 1: messages sent; words 2 to 15 are 0", but for the gap and the controller last served
abbrev pub Size : Field
Size = OfHead 0

abbrev pub SentCount : Field
SentCount = OfHead 1

-- W11: "Words 3 to 10 hold the count discarded for each controller"; the form has them at 0 until then
abbrev pub Discarded : ℕ → Field
Discarded c = OfHead (3 + c)

-- W4: the gap Q, "kept in word 11 of the table"
abbrev pub Gap : Field
Gap = OfHead 11

-- W7: a dispatcher "keeps the controller last served .. in word 12"
abbrev pub Served : Field
Served = OfHead 12

-- the first word of the head that the form has at 0, and the first after these two
abbrev pub spare_from : ℕ
spare_from = 2

abbrev pub spare_again : ℕ
spare_again = 13

-- "Per controller 4 words: K, incarnation, live count, stable count."
abbrev pub Degree : ℕ → Field
Degree c = OfController c 0

abbrev pub Incarnation : ℕ → Field
Incarnation c = OfController c 1

abbrev pub LiveCount : ℕ → Field
LiveCount c = OfController c 2

abbrev pub StableCount : ℕ → Field
StableCount c = OfController c 3

-- "Per controller 64 places of 20 words: incarnation, number, cause, checkpoint flag, vector." A vector has for each
-- controller a its pair: incarnation, number.
abbrev pub PlaceIncarnation : ℕ → ℕ → Field
PlaceIncarnation c p = OfPlace c p 0

abbrev pub PlaceNumber : ℕ → ℕ → Field
PlaceNumber c p = OfPlace c p 1

abbrev pub Cause : ℕ → ℕ → Field
Cause c p = OfPlace c p 2

abbrev pub Flag : ℕ → ℕ → Field
Flag c p = OfPlace c p 3

abbrev pub place_head : ℕ
place_head = 4

abbrev pub PairIncarnation : ℕ → ℕ → ℕ → Field
PairIncarnation c p a = OfPlace c p (place_head + 2 * a)

abbrev pub PairNumber : ℕ → ℕ → ℕ → Field
PairNumber c p a = OfPlace c p (place_head + 2 * a + 1)

-- "128 messages of 22 words: state, sender, receiver, incarnation and number of the sending interval, payload, vector."
abbrev pub MessageState : ℕ → Field
MessageState r = OfMessage r 0

abbrev pub Sender : ℕ → Field
Sender r = OfMessage r 1

abbrev pub Receiver : ℕ → Field
Receiver r = OfMessage r 2

-- W2: "Receiver 8 is the desk." It is no controller, however many there are.
abbrev pub desk : ℕ
desk = 8

abbrev pub SendingIncarnation : ℕ → Field
SendingIncarnation r = OfMessage r 3

abbrev pub SendingNumber : ℕ → Field
SendingNumber r = OfMessage r 4

abbrev pub Payload : ℕ → Field
Payload r = OfMessage r 5

abbrev pub message_head : ℕ
message_head = 6

abbrev pub MessagePairIncarnation : ℕ → ℕ → Field
MessagePairIncarnation r a = OfMessage r (message_head + 2 * a)

abbrev pub MessagePairNumber : ℕ → ℕ → Field
MessagePairNumber r a = OfMessage r (message_head + 2 * a + 1)

-- The parts of a field: its region, its word, its two coordinates (0 where it has none).
abbrev pub region : Field → ℕ
region (OfHead i) = 0
region (OfController c k) = 1
region (Known b a i) = 2
region (End b a i) = 3
region (OfPlace c p k) = 4
region (OfMessage r k) = 5

abbrev pub word : Field → ℕ
word (OfHead i) = i
word (OfController c k) = k
word (Known b a i) = i
word (End b a i) = i
word (OfPlace c p k) = k
word (OfMessage r k) = k

-- the words of the head that no number depends on: the gap, and the controller last served
abbrev pub numberless : ℕ → Bool
numberless i = (i == word Gap) || (i == word Served)

abbrev pub owner : Field → ℕ
owner (OfHead i) = 0
owner (OfController c k) = c
owner (Known b a i) = b
owner (End b a i) = b
owner (OfPlace c p k) = c
owner (OfMessage r k) = r

abbrev pub second : Field → ℕ
second (OfHead i) = 0
second (OfController c k) = 0
second (Known b a i) = a
second (End b a i) = a
second (OfPlace c p k) = p
second (OfMessage r k) = 0

abbrev made : ℕ → ℕ → ℕ → ℕ → Field
made zero k a b = OfHead k
made (suc zero) k a b = OfController a k
made (suc (suc zero)) k a b = Known a b k
made (suc (suc (suc zero))) k a b = End a b k
made (suc (suc (suc (suc zero)))) k a b = OfPlace a b k
made (suc (suc (suc (suc (suc n))))) k a b = OfMessage a k

made_of : (f : Field) → made (region f) (word f) (owner f) (second f) ≡ f
made_of (OfHead i) = refl
made_of (OfController c k) = refl
made_of (Known b a i) = refl
made_of (End b a i) = refl
made_of (OfPlace c p k) = refl
made_of (OfMessage r k) = refl

-- word k of the record that f belongs to; a row of known or end words is a record over the incarnations
abbrev pub word_of : Field → ℕ → Field
word_of f k = made (region f) k (owner f) (second f)

-- two fields belong to one record, and two fields are one; the word is compared before the coordinates, so that words
-- with different names differ by computing
abbrev pub alike : Field → Field → Bool
alike g f = (region g == region f) && ((owner g == owner f) && (second g == second f))

unfoldable pub same : Field → Field → Bool
same g f = (region g == region f) && ((word g == word f) && ((owner g == owner f) && (second g == second f)))

pub word_of_lem : (f : Field) (k : ℕ) → word (word_of f k) ≡ k
word_of_lem (OfHead i) k = refl
word_of_lem (OfController c i) k = refl
word_of_lem (Known b a i) k = refl
word_of_lem (End b a i) k = refl
word_of_lem (OfPlace c p i) k = refl
word_of_lem (OfMessage r i) k = refl

pub made_alike : (g f : Field) (k : ℕ) → region g ≡ region f → owner g ≡ owner f → second g ≡ second f → word g ≡ k → g ≡ word_of f k
made_alike g f k p q r s = sym (made_of g) ∙ (λ d. made (p d) (s d) (q d) (r d))

-- a field of the messages' region with the state's word is the state of a message
pub message_state : (g : Field) → region g ≡ region (MessageState 0) → word g ≡ word (MessageState 0) → g ≡ MessageState (owner g)
message_state g p w = sym (made_of g) ∙ (λ d. made (p d) (w d) (owner g) (second g))

pub alike_true : (g f : Field) → alike g f ≡ true → g ≡ word_of f (word g)
alike_true g f e =
    let e₁ = and_right (region g == region f) _ e in
    made_alike g f (word g) (eqb-true _ _ (and_left (region g == region f) _ e)) (eqb-true _ _ (and_left (owner g == owner f) _ e₁))
    (eqb-true _ _ (and_right (owner g == owner f) _ e₁)) refl

pub alike_word : (f : Field) (k : ℕ) → alike (word_of f k) f ≡ true
alike_word (OfHead i) k = refl
alike_word (OfController c i) k = simp (eq-eqb c c refl)
alike_word (Known b a i) k = simp (eq-eqb b b refl, eq-eqb a a refl)
alike_word (End b a i) k = simp (eq-eqb b b refl, eq-eqb a a refl)
alike_word (OfPlace c p i) k = simp (eq-eqb c c refl, eq-eqb p p refl)
alike_word (OfMessage r i) k = simp (eq-eqb r r refl)

pub same_true : (g f : Field) → same g f ≡ true → g ≡ f
unfolding same
same_true g f e =
    let e₁ = and_right (region g == region f) _ e in
    let e₂ = and_right (word g == word f) _ e₁ in
    made_alike g f (word f) (eqb-true _ _ (and_left (region g == region f) _ e)) (eqb-true _ _ (and_left (owner g == owner f) _ e₂))
    (eqb-true _ _ (and_right (owner g == owner f) _ e₂)) (eqb-true _ _ (and_left (word g == word f) _ e₁))
    ∙ made_of f

pub same_refl : (f : Field) → same f f ≡ true
unfolding same
same_refl f = simp (eq-eqb (region f) (region f) refl, eq-eqb (word f) (word f) refl, eq-eqb (owner f) (owner f) refl, eq-eqb (second f) (second f) refl)
