-- The form as a test of each record, and what it is of a record that a change leaves alone: each test looks at the words of its own
-- controller, row, place or message, and of the others only at the number of controllers, the live count and the records in use.
use Rattle.std.specs.Prelude.{◌≡◌, refl, Bool, true, false, ◌&&◌, ◌||◌, ◌≢◌, List, [], ◌∷◌, ℕ, ◌+◌, ◌-◌, ◌<◌, ◌==◌}
use Rattle.std.proofs.Common.{sym, ap, ◌∙◌, true≢false, arith}
use Rattle.std.proofs.Math.Path.{ap₂}
use Rattle.std.proofs.Math.Bool.{cond}
use Rattle.base.specs.Choice.{◌≤?◌, ◌<?◌}
use Rattle.base.specs.Ranges.{allb_ext, allb_get, allb_all}
use Rattle.base.specs.Cases.{all_of, passed}
use Rattle.table.specs.Field.{Field, State, OfHead, OfController, Known, End, OfPlace, OfMessage, Size, Degree, Incarnation, LiveCount, StableCount, PlaceIncarnation, PlaceNumber, Cause, Flag, MessageState, Sender, Receiver, SendingIncarnation, SendingNumber, PairIncarnation, PairNumber, MessagePairIncarnation, MessagePairNumber, Gap, Served, desk, word, spare_from, spare_again, word_of, same, same_true, same_refl}
use Rattle.table.specs.Change.{differs, put, put_other, put_part}
use Rattle.table.specs.Layout.{controllers, incarnations, head_words, controller_words, place_words, message_words}
use Rattle.table.specs.Numbering.{number_of, used, last_given, numbering, Numbered}
use Rattle.table.proofs.Numbering.{numbers_kept}
use Rattle.rules.specs.Limits.{Limits, last_incarnation, last_gap, last_served}
use Rattle.rules.specs.Form.{state_ok, zeros, vector_ok, controller_ok, highest, row_ok, place_ok, message_ok, head_zeros, head_ok, in_form}
use Rattle.laws.specs.Facts.{form}
use Rattle.laws.specs.Records.{part_other, place_vector_of, message_vector_of}

pub zeros_same : (n : ℕ) (f g : ℕ → ℕ) → ((k : ℕ) → k < n → f k ≡ g k) → zeros n f ≡ zeros n g
unfolding zeros
zeros_same n f g h = allb_ext _ _ n (λ k l. ap (λ x. x == 0) (h k l))

-- the tests of a house of n controllers
module _ (L : Limits) (σ τ : State) (n : ℕ) where
  -- a controller, by its words
  pub controller_ok_of : (c : ℕ) → ((k : ℕ) → k < controller_words → σ (OfController c k) ≡ τ (OfController c k)) → controller_ok L n σ c ≡ controller_ok L n τ c
  unfolding controller_ok
  controller_ok_of c e =
      let degree = e (word (Degree c)) (omega arith) in
      let own = e (word (Incarnation c)) (omega arith) in
      let live = e (word (LiveCount c)) (omega arith) in
      let stable = e (word (StableCount c)) (omega arith) in
      λ d. cond (c <? n)
      (all_of
      ((degree d ≤? n) ∷ (own d ≤? last_incarnation) ∷ (1 ≤? live d) ∷ (live d ≤? L.places) ∷ (1 ≤? stable d) ∷ (stable d ≤? live d) ∷ []))
      (zeros_same controller_words (λ (k : ℕ). σ (OfController c k)) _ e d)

  -- a row, by its known and end words
  pub row_ok_of : (holder owner : ℕ) → ((i : ℕ) → i < incarnations → σ (Known holder owner i) ≡ τ (Known holder owner i)) →
      ((i : ℕ) → i < incarnations → σ (End holder owner i) ≡ τ (End holder owner i)) → row_ok L n σ holder owner ≡ row_ok L n τ holder owner
  unfolding row_ok
  row_ok_of holder owner known end =
      let most = highest L n holder owner in
      allb_ext _ _ incarnations (λ i l. ap₂ (λ x y. (x ≤? most) && (y ≤? most)) (known i l) (end i l))

  -- a place, by its words, the live count and the numbers given
  pub place_ok_of : (c p : ℕ) → σ (LiveCount c) ≡ τ (LiveCount c) → number_of σ c (p + 1) ≡ number_of τ c (p + 1) → last_given σ ≡ last_given τ →
      ((k : ℕ) → k < place_words → σ (OfPlace c p k) ≡ τ (OfPlace c p k)) → place_ok L n σ c p ≡ place_ok L n τ c p
  unfolding place_ok
  place_ok_of c p live number last e =
      let i = e (word (PlaceIncarnation c p)) (omega arith) in
      let x = e (word (PlaceNumber c p)) (omega arith) in
      let cause = e (word (Cause c p)) (omega arith) in
      let flag = e (word (Flag c p)) (omega arith) in
      let v = place_vector_of σ τ c p (λ owner l. (e (word (PairIncarnation c p owner)) (omega arith), e (word (PairNumber c p owner)) (omega arith))) in
      λ d. cond (p <? live d)
      (all_of
      ((i d ≤? last_incarnation)
      ∷ (x d == number d)
      ∷ (cause d ≤? last d)
      ∷ (flag d ≤? 1)
      ∷ ((0 <? p) || (flag d == 1))
      ∷ vector_ok L n (v d)
      ∷ []))
      (zeros_same place_words (λ (k : ℕ). σ (OfPlace c p k)) _ e d)

  -- a message, by its words and the records in use
  pub message_ok_of : (r : ℕ) → used σ ≡ used τ → ((k : ℕ) → k < message_words → σ (OfMessage r k) ≡ τ (OfMessage r k)) → message_ok L n σ r ≡ message_ok L n τ r
  unfolding message_ok
  message_ok_of r count e =
      let st = e (word (MessageState r)) (omega arith) in
      let sender = e (word (Sender r)) (omega arith) in
      let receiver = e (word (Receiver r)) (omega arith) in
      let i = e (word (SendingIncarnation r)) (omega arith) in
      let x = e (word (SendingNumber r)) (omega arith) in
      let v = message_vector_of σ τ r (λ owner l. (e (word (MessagePairIncarnation r owner)) (omega arith), e (word (MessagePairNumber r owner)) (omega arith))) in
      λ d. cond (r <? count d)
      (all_of
      (state_ok (receiver d == desk) (st d)
      ∷ (sender d <? n)
      ∷ ((receiver d <? n) || (receiver d == desk))
      ∷ (i d ≤? last_incarnation)
      ∷ (1 ≤? x d)
      ∷ (x d ≤? L.numbers)
      ∷ vector_ok L n (v d)
      ∷ []))
      (zeros_same message_words (λ (k : ℕ). σ (OfMessage r k)) _ e d)

-- words of the head
pub head_zeros_of : (σ τ : State) (from to : ℕ) → ((k : ℕ) → k < to → σ (OfHead k) ≡ τ (OfHead k)) → head_zeros σ from to ≡ head_zeros τ from to
unfolding head_zeros
head_zeros_of σ τ from to e = zeros_same (to - from) (λ (k : ℕ). σ (OfHead (from + k))) _ (λ k l. e (from + k) (omega arith))

-- the head
pub head_ok_of : (L : Limits) (σ τ : State) → ((k : ℕ) → k < head_words → σ (OfHead k) ≡ τ (OfHead k)) → used σ ≡ used τ → head_ok L σ ≡ head_ok L τ
unfolding head_ok
head_ok_of L σ τ e count =
    let size = e (word Size) (omega arith) in
    let spare = head_zeros_of σ τ spare_from (word Gap) (λ k l. e k (omega arith)) in
    let gap = e (word Gap) (omega arith) in
    let served = e (word Served) (omega arith) in
    let again = head_zeros_of σ τ spare_again head_words e in
    λ d. all_of ((1 ≤? size d) ∷ (size d ≤? controllers) ∷ (count d ≤? L.messages) ∷ spare d ∷ (gap d ≤? last_gap) ∷ (served d ≤? last_served) ∷ again d ∷ [])

-- A TEST FOR EACH RECORD
-- the test of the record that a field belongs to; known and end words are tested row by row
unfoldable pub ok_at : Limits → ℕ → State → Field → Bool
ok_at L n σ (OfHead k) = head_ok L σ
ok_at L n σ (OfController c k) = controller_ok L n σ c
ok_at L n σ (Known holder owner i) = row_ok L n σ holder owner
ok_at L n σ (End holder owner i) = row_ok L n σ holder owner
ok_at L n σ (OfPlace c p k) = place_ok L n σ c p
ok_at L n σ (OfMessage r k) = message_ok L n σ r

-- the field stands for one of the records that are tested
abbrev pub Tested : Limits → Field → Type 0
Tested L (OfHead k) = Unit {0}
Tested L (OfController c k) = c < controllers
Tested L (Known holder owner i) = (holder < controllers) × (owner < controllers)
Tested L (End holder owner i) = (holder < controllers) × (owner < controllers)
Tested L (OfPlace c p k) = (c < controllers) × (p < L.places)
Tested L (OfMessage r k) = r < L.messages

-- the form is that of all records
pub form_each : (L : Limits) (σ : State) → in_form L σ ≡ true → (f : Field) → Tested L f → ok_at L (σ Size) σ f ≡ true
unfolding in_form ok_at
form_each L σ e (OfHead k) v = let w = passed _ e in search w
form_each L σ e (OfController c k) v = allb_get _ controllers c (form L σ e).controllers_ok v
form_each L σ e (Known holder owner i) v = allb_get _ controllers owner (allb_get _ controllers holder (form L σ e).rows_ok v.0) v.1
form_each L σ e (End holder owner i) v = allb_get _ controllers owner (allb_get _ controllers holder (form L σ e).rows_ok v.0) v.1
form_each L σ e (OfPlace c p k) v = allb_get _ L.places p (allb_get _ controllers c (form L σ e).places_ok v.0) v.1
form_each L σ e (OfMessage r k) v = allb_get _ L.messages r (form L σ e).messages_ok v

pub each_form : (L : Limits) (σ : State) → ((f : Field) → Tested L f → ok_at L (σ Size) σ f ≡ true) → in_form L σ ≡ true
unfolding in_form ok_at all_of
each_form L σ h =
    let head = h (OfHead 0) tt in
    let each = allb_all _ controllers (λ c l. h (OfController c 0) l) in
    let rows = allb_all _ controllers (λ holder l. allb_all _ controllers (λ owner u. h (Known holder owner 0) (l, u))) in
    let chains = allb_all _ controllers (λ c l. allb_all _ L.places (λ p u. h (OfPlace c p 0) (l, u))) in
    let records = allb_all _ L.messages (λ r l. h (OfMessage r 0) l) in
    λ d. all_of (head d ∷ each d ∷ rows d ∷ chains d ∷ records d ∷ [])

-- WORDS THAT A CHANGE LEAVES ALONE
-- the record whose test looks at a word, by its first word
abbrev pub home : Field → Field
home (OfHead k) = OfHead 0
home (OfController c k) = OfController c 0
home (Known holder owner i) = Known holder owner 0
home (End holder owner i) = Known holder owner 0
home (OfPlace c p k) = OfPlace c p 0
home (OfMessage r k) = OfMessage r 0

-- the test goes by the record
at_home : (L : Limits) (n : ℕ) (σ : State) (f : Field) → ok_at L n σ f ≡ ok_at L n σ (home f)
unfolding ok_at
at_home L n σ (OfHead k) = refl
at_home L n σ (OfController c k) = refl
at_home L n σ (Known holder owner i) = refl
at_home L n σ (End holder owner i) = refl
at_home L n σ (OfPlace c p k) = refl
at_home L n σ (OfMessage r k) = refl

pub at_one_home : (L : Limits) (n : ℕ) (σ : State) (f g : Field) → home f ≡ home g → ok_at L n σ f ≡ ok_at L n σ g
at_one_home L n σ f g e = at_home L n σ f ∙ ap (ok_at L n σ) e ∙ sym (at_home L n σ g)

-- The one law for words that nobody writes: a record passes its test as before where its words are as before, and so are the numbers
-- given and, of a place, the live count.
pub untouched : (L : Limits) (n : ℕ) (σ τ : State) (f : Field) → Numbered τ σ → ((g : Field) → home g ≡ home f → τ g ≡ σ g) →
    ((c p : ℕ) → home f ≡ OfPlace c p 0 → τ (LiveCount c) ≡ σ (LiveCount c)) → ok_at L n τ f ≡ ok_at L n σ f
unfolding ok_at
untouched L n σ τ (OfHead k) m h live = head_ok_of L τ σ (λ i _. h (OfHead i) refl) m.used_same
untouched L n σ τ (OfController c k) m h live = controller_ok_of L τ σ n c (λ i _. h (OfController c i) refl)
untouched L n σ τ (Known holder owner k) m h live = row_ok_of L τ σ n holder owner (λ i _. h (Known holder owner i) refl) (λ i _. h (End holder owner i) refl)
untouched L n σ τ (End holder owner k) m h live = row_ok_of L τ σ n holder owner (λ i _. h (Known holder owner i) refl) (λ i _. h (End holder owner i) refl)
untouched L n σ τ (OfPlace c p k) m h live = place_ok_of L τ σ n c p (live c p refl) (m.number c (p + 1)) m.last (λ i _. h (OfPlace c p i) refl)
untouched L n σ τ (OfMessage r k) m h live = message_ok_of L τ σ n r m.used_same (λ i _. h (OfMessage r i) refl)

-- A change of some records, `touched` by their first words, keeps the form: the words of all others stay, and these pass their tests.
pub record Changed (L : Limits) (σ τ : State) (touched : Field → Bool) : Type 0 where
  pub size : τ Size ≡ σ Size
  pub numbers : Numbered τ σ
  pub others : (g : Field) → touched (home g) ≡ false → τ g ≡ σ g
  pub live : (c p : ℕ) → touched (OfPlace c p 0) ≡ false → τ (LiveCount c) ≡ σ (LiveCount c)
  pub passes : (f : Field) → Tested L f → touched (home f) ≡ true → ok_at L (τ Size) τ f ≡ true

pub form_changed : (L : Limits) (σ τ : State) (touched : Field → Bool) → Changed L σ τ touched → in_form L σ ≡ true → in_form L τ ≡ true
form_changed L σ τ touched w e = each_form L τ (λ f v. go f v (touched (home f)) refl)
  where
    go : (f : Field) → Tested L f → (b : Bool) → touched (home f) ≡ b → ok_at L (τ Size) τ f ≡ true
    go f v true q = w.passes f v q
    go f v false q =
        ap (λ n. ok_at L n τ f) w.size
        ∙ untouched L (σ Size) σ τ f w.numbers (λ g e. w.others g (ap touched e ∙ q)) (λ c p e. w.live c p (ap touched (sym e) ∙ q)) ∙ form_each L σ e f v

-- the words of other records that a test looks at: those of numbering, and live counts
abbrev pub looked : Field → Bool
looked (OfHead k) = numbering (OfHead k)
looked (OfController c k) = k == word (LiveCount c)
looked (Known holder owner i) = false
looked (End holder owner i) = false
looked (OfPlace c p k) = false
looked (OfMessage r k) = false

-- numbering looks at no other
numbering_looked : (f : Field) → numbering f ≡ true → looked f ≡ true
numbering_looked (OfHead k) e = e
numbering_looked (OfController c k) e = absurd (true≢false (sym e))
numbering_looked (Known holder owner i) e = absurd (true≢false (sym e))
numbering_looked (End holder owner i) e = absurd (true≢false (sym e))
numbering_looked (OfPlace c p k) e = absurd (true≢false (sym e))
numbering_looked (OfMessage r k) e = absurd (true≢false (sym e))

-- one record, that of f, whose words alone change
pub form_one : (L : Limits) (σ τ : State) (f : Field) → ((g : Field) → looked g ≡ true → τ g ≡ σ g) → ((g : Field) → home g ≢ home f → τ g ≡ σ g) →
    ok_at L (τ Size) τ f ≡ true → in_form L σ ≡ true → in_form L τ ≡ true
form_one L σ τ f steady others ok =
    form_changed L σ τ (λ g. same g (home f))
    (record {
      size = steady Size refl;
      numbers = numbers_kept τ σ (λ g e. steady g (numbering_looked g e));
      others = λ g e. others g (differs (λ h. same h (home f)) (home f) (home g) (same_refl (home f)) e);
      live = λ c p e. steady (LiveCount c) refl;
      passes = λ g v e. at_one_home L (τ Size) τ g f (same_true (home g) (home f) e) ∙ ok;
    })

-- a word put
pub form_put : (L : Limits) (σ : State) (f : Field) (x : ℕ) → looked f ≡ false → ok_at L (put σ f x Size) (put σ f x) f ≡ true → in_form L σ ≡ true → in_form L (put σ f x) ≡ true
form_put L σ f x n =
    form_one L σ (put σ f x) f (λ g e. put_other σ f g x (λ z. true≢false (sym e ∙ ap looked z ∙ n))) (λ g ne. put_other σ f g x (λ z. ne (ap home z)))

-- some words of a record
pub form_part : (L : Limits) (σ : State) (f : Field) (k : ℕ) (w : List ℕ) → ((i : ℕ) → looked (word_of f i) ≡ false) → ((i : ℕ) → home (word_of f i) ≡ home f) →
    ok_at L (put_part σ f k w Size) (put_part σ f k w) f ≡ true → in_form L σ ≡ true → in_form L (put_part σ f k w) ≡ true
form_part L σ f k w n h =
    form_one L σ (put_part σ f k w) f (λ g e. part_other σ f g k w (λ i _ z. true≢false (sym e ∙ ap looked z ∙ n (k + i))))
    (λ g ne. part_other σ f g k w (λ i _ z. ne (ap home z ∙ h (k + i))))
