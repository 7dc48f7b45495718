-- Laws of the positions of fields in the lent table (specs/Layout.antt).
use Rattle.std.specs.Prelude.{◌≡◌, refl, ℕ, ◌+◌, ◌-◌, ◌/◌, ◌%◌, ◌<◌}
use Rattle.std.proofs.Common.{sym, ap, ◌∙◌, arith, ltb-true, ltb-false, lt-ltb, le-ltb}
use Rattle.base.specs.Choice.{◌<?◌, cond_ind}
use Rattle.table.specs.Field.{Field, OfHead, OfController, Known, End, OfPlace, OfMessage, PairIncarnation, PairNumber, MessagePairIncarnation, MessagePairNumber, word_of}
use Rattle.table.specs.Layout.{controllers, incarnations, places, messages, controller_words, place_words, message_words, rows_words, chain_words, controllers_from, known_from, ends_from, places_from, messages_from, table_words, Valid, position, field_at, Stands}

-- the numbers that document 01 prints
printed : (known_from ≡ 48) × (ends_from ≡ 1072) × (places_from ≡ 2096) × (messages_from ≡ 12336) × (table_words ≡ 15152)
printed = (refl, refl, refl, refl, refl)

pub stands : (i : ℕ) → i < table_words → Stands i (field_at i)
unfolding field_at
stands i h =
    cond_ind (Stands i) (i <? controllers_from) (λ e. record { valid = ltb-true i controllers_from e; here = refl })
    (λ e. let l = ltb-false i controllers_from e in
    cond_ind (Stands i) (i <? known_from) (λ e. let u = ltb-true i known_from e in record { valid = (omega arith, omega arith); here = omega arith })
    (λ e. let l = ltb-false i known_from e in
    cond_ind (Stands i) (i <? ends_from) (λ e. let u = ltb-true i ends_from e in record { valid = (omega arith, omega arith, omega arith); here = omega arith })
    (λ e. let l = ltb-false i ends_from e in
    cond_ind (Stands i) (i <? places_from) (λ e. let u = ltb-true i places_from e in record { valid = (omega arith, omega arith, omega arith); here = omega arith })
    (λ e. let l = ltb-false i places_from e in
    cond_ind (Stands i) (i <? messages_from) (λ e. let u = ltb-true i messages_from e in record { valid = (omega arith, omega arith, omega arith); here = omega arith })
    (λ e. let l = ltb-false i messages_from e in record { valid = (omega arith, omega arith); here = omega arith })))))

pub position_lt : (f : Field) → Valid f → position f < table_words
position_lt (OfHead i) v = omega arith
position_lt (OfController c k) v = omega arith
position_lt (Known b a i) v = omega arith
position_lt (End b a i) v = omega arith
position_lt (OfPlace c p k) v = omega arith
position_lt (OfMessage r k) v = omega arith

-- a field stands at its position
pub field_at_position : (f : Field) → Valid f → field_at (position f) ≡ f
unfolding field_at
field_at_position (OfHead i) v = simp (lt-ltb i controllers_from v)
field_at_position (OfController c k) v =
    let i = position (OfController c k) in
    let x : (i - controllers_from) / controller_words ≡ c = omega arith in
    let y : (i - controllers_from) % controller_words ≡ k = omega arith in
    simp (le-ltb i controllers_from (omega arith), lt-ltb i known_from (omega arith)) (λ d. OfController (x d) (y d))
field_at_position (Known b a i) v =
    let w = position (Known b a i) in
    let x : (w - known_from) / rows_words ≡ b = omega arith in
    let y : (w - known_from) / incarnations % controllers ≡ a = omega arith in
    let z : (w - known_from) % incarnations ≡ i = omega arith in
    simp (le-ltb w controllers_from (omega arith), le-ltb w known_from (omega arith), lt-ltb w ends_from (omega arith)) (λ d. Known (x d) (y d) (z d))
field_at_position (End b a i) v =
    let w = position (End b a i) in
    let x : (w - ends_from) / rows_words ≡ b = omega arith in
    let y : (w - ends_from) / incarnations % controllers ≡ a = omega arith in
    let z : (w - ends_from) % incarnations ≡ i = omega arith in
    simp (le-ltb w controllers_from (omega arith), le-ltb w known_from (omega arith), le-ltb w ends_from (omega arith), lt-ltb w places_from (omega arith))
    (λ d. End (x d) (y d) (z d))
field_at_position (OfPlace c p k) v =
    let i = position (OfPlace c p k) in
    let x : (i - places_from) / chain_words ≡ c = omega arith in
    let y : (i - places_from) / place_words % places ≡ p = omega arith in
    let z : (i - places_from) % place_words ≡ k = omega arith in
    simp (
      le-ltb i controllers_from (omega arith),
      le-ltb i known_from (omega arith),
      le-ltb i ends_from (omega arith),
      le-ltb i places_from (omega arith),
      lt-ltb i messages_from (omega arith),
    )
    (λ d. OfPlace (x d) (y d) (z d))
field_at_position (OfMessage r k) v =
    let i = position (OfMessage r k) in
    let x : (i - messages_from) / message_words ≡ r = omega arith in
    let y : (i - messages_from) % message_words ≡ k = omega arith in
    simp (
      le-ltb i controllers_from (omega arith),
      le-ltb i known_from (omega arith),
      le-ltb i ends_from (omega arith),
      le-ltb i places_from (omega arith),
      le-ltb i messages_from (omega arith),
    )
    (λ d. OfMessage (x d) (y d))

-- two fields of the table at one position are one field
pub position_one : (f g : Field) → Valid f → Valid g → position f ≡ position g → f ≡ g
position_one f g u v e = sym (field_at_position f u) ∙ ap field_at e ∙ field_at_position g v

-- the words of a record stand one after the other
pub position_next : (f : Field) (k i : ℕ) → position (word_of f (k + i)) ≡ position (word_of f k) + i
position_next (OfHead j) k i = refl
position_next (OfController c j) k i = omega arith
position_next (Known b a n) k i = omega arith
position_next (End b a n) k i = omega arith
position_next (OfPlace c p j) k i = omega arith
position_next (OfMessage r j) k i = omega arith

-- the words of a vector are in the table
pub valid_pair : (c p a : ℕ) → c < controllers → p < places → a < controllers → Valid (PairIncarnation c p a) × Valid (PairNumber c p a)
valid_pair c p a cl pl al = ((cl, pl, omega arith), (cl, pl, omega arith))

pub valid_message_pair : (r a : ℕ) → r < messages → a < controllers → Valid (MessagePairIncarnation r a) × Valid (MessagePairNumber r a)
valid_message_pair r a rl al = ((rl, omega arith), (rl, omega arith))
