-- Laws of the table of a state and the state of a table, and what the table is after each change of a state.
use Rattle.std.specs.Prelude.{◌≡◌, refl, Bool, true, false, cond, List, ◌++◌, ◌≢◌, ◌⊎◌, ℕ, ◌+◌, ◌-◌, ◌*◌, ◌/◌, ◌%◌, ◌≤◌, ◌<◌, length, get_or, set, take, drop}
use Rattle.std.proofs.Common.{sym, ap, ◌∙◌, subst, inl, inr, ⊎_elim, arith, length-set, get_or-set_same, get_or-set_other}
use Rattle.base.specs.Choice.{le?}
use Rattle.base.specs.Lists.{tab_of, get_d_tab, length_tab}
use Rattle.base.specs.Splice.{splice, splice_of, length_splice, splice_below, splice_in, splice_above}
use Rattle.table.specs.Field.{Field, OfController, Known, OfPlace, OfMessage, State, MessageState, same, word, owner, word_of}
use Rattle.table.specs.Change.{put, put_ind, in_part, put_part, part_ind, in_places, clear_places, clear_ind, is_state, is_state_lem, put_states, states_ind, states_at}
use Rattle.table.specs.Layout.{controllers, controller_words, incarnations, places, messages, place_words, message_words, places_from, chain_words, table_words, Valid, position, field_at}
use Rattle.table.proofs.Positions.{stands, position_lt, field_at_position, position_one, position_next}
use Rattle.table.specs.Words.{state, words, Fits, Agree}

pub length_words : (σ : State) → length (words σ) ≡ table_words
unfolding words
length_words σ = length_tab table_words _

-- a table is that of the state with which it agrees on every field
pub words_of : (σ : State) (t : List ℕ) → length t ≡ table_words → ((f : Field) → Valid f → get_or t (position f) 0 ≡ σ f) → t ≡ words σ
unfolding words
words_of σ t e h =
    tab_of 0 table_words _ t e (λ (i : ℕ) (l : i < table_words). let s = stands i l in ap (λ (j : ℕ). get_or t j 0) (sym s.here) ∙ h (field_at i) s.valid)

-- The three laws: a table is that of its state, a word of a state's table is the state's, and a word put into one is put
-- into the other.
pub words_state : (t : List ℕ) → length t ≡ table_words → t ≡ words (state t)
words_state t e = words_of (state t) t e (λ f v. refl)

pub word_at : (σ : State) (f : Field) → Valid f → state (words σ) f ≡ σ f
unfolding words
word_at σ f v = get_d_tab table_words _ (position f) 0 (position_lt f v) ∙ ap σ (field_at_position f v)

pub words_put : (σ : State) (f : Field) (x : ℕ) → Valid f → set (words σ) (position f) x ≡ words (put σ f x)
words_put σ f x u =
    words_of (put σ f x) (set (words σ) (position f) x) (length-set (words σ) (position f) x ∙ length_words σ)
    (put_ind (λ g y. Valid g → get_or (set (words σ) (position f) x) (position g) 0 ≡ y) σ f x
    (λ v. get_or-set_same (words σ) (position f) x 0 (subst (λ n. position f < n) (sym (length_words σ)) (position_lt f u)))
    (λ g ne v. get_or-set_other (words σ) (position f) (position g) x 0 (λ e. ne (position_one g f v u e)) ∙ word_at σ g v))

-- one more word was put
pub wrote : (σ : State) (f : Field) (x : ℕ) {t : List ℕ} → t ≡ words σ → Valid f → set t (position f) x ≡ words (put σ f x)
wrote σ f x e u = ap (λ t. set t (position f) x) e ∙ words_put σ f x u

-- a part of the table was replaced by r: inside it the state has r's words, outside it is as before
pub words_splice : (σ τ : State) (a : ℕ) (r : List ℕ) → a + length r ≤ table_words →
    ((g : Field) → Valid g → (k : ℕ) → k < length r → position g ≡ a + k → get_or r k 0 ≡ τ g) →
    ((g : Field) → Valid g → (position g < a) ⊎ (a + length r ≤ position g) → σ g ≡ τ g) → splice (words σ) a r ≡ words τ
words_splice σ τ a r h inside outside =
    words_of τ (splice (words σ) a r) (length_splice a (words σ) r (omega (arith, len)) ∙ len) read
  where
    len : length (words σ) ≡ table_words
    len = length_words σ

    read : (g : Field) → Valid g → get_or (splice (words σ) a r) (position g) 0 ≡ τ g
    read g v =
        le? (position g + 1) a (λ l. splice_below a (position g) (words σ) r (omega (arith, len)) (omega arith) ∙ word_at σ g v ∙ outside g v (inl (omega arith)))
        (λ l. le? (a + length r) (position g) (λ m. splice_above a (position g) (words σ) r (omega (arith, len)) m ∙ word_at σ g v ∙ outside g v (inr m))
        (λ m. let e : position g ≡ a + (position g - a) = omega arith in
        ap (λ i. get_or (splice (words σ) a r) i 0) e ∙ splice_in a (position g - a) (words σ) r (omega (arith, len)) (omega arith) ∙ inside g v (position g - a) (omega arith) e))

pub fits_controller : (c : ℕ) (r : List ℕ) → c < controllers → length r ≤ controller_words → Fits (OfController c 0) 0 r
fits_controller c r cl l = record { end = omega arith; valid = λ i h. (cl, omega arith) }

pub fits_place : (c p k : ℕ) (r : List ℕ) → c < controllers → p < places → k + length r ≤ place_words → Fits (OfPlace c p 0) k r
fits_place c p k r cl pl l = record { end = omega arith; valid = λ i h. (cl, pl, omega arith) }

pub fits_message : (m k : ℕ) (r : List ℕ) → m < messages → k + length r ≤ message_words → Fits (OfMessage m 0) k r
fits_message m k r ml l = record { end = omega arith; valid = λ i h. (ml, omega arith) }

pub fits_known : (b a : ℕ) (r : List ℕ) → b < controllers → a < controllers → length r ≤ incarnations → Fits (Known b a 0) 0 r
fits_known b a r bl al l = record { end = omega arith; valid = λ i h. (bl, al, omega arith) }

pub words_part : (σ : State) (f : Field) (k : ℕ) (r : List ℕ) → Fits f k r → splice (words σ) (position (word_of f k)) r ≡ words (put_part σ f k r)
words_part σ f k r w =
    words_splice σ _ (position (word_of f k)) r w.end
    (λ g v j l q. part_ind (λ g y. Valid g → position g ≡ position (word_of f k) + j → get_or r j 0 ≡ y) σ f k r
    (λ i h v q. ap (λ i. get_or r i 0) (omega (arith, position_next f k i)))
    (λ g ne v q. absurd (ne j l (position_one g (word_of f (k + j)) v (w.valid j l) (q ∙ sym (position_next f k j))))) g v q)
    (λ g v o. part_ind (λ g y. Valid g → (position g < position (word_of f k)) ⊎ (position (word_of f k) + length r ≤ position g) → σ g ≡ y) σ f k r
    (λ i h v o. absurd (⊎_elim (λ l. omega (arith, position_next f k i)) (λ l. omega (arith, position_next f k i)) o)) (λ g ne v o. refl) g v o)

-- places p to q of c became 0
pub words_clear : (σ : State) (c p q : ℕ) (r : List ℕ) → c < controllers → p ≤ q → q ≤ places → length r ≡ place_words * (q - p) → ((i : ℕ) → get_or r i 0 ≡ 0) →
    splice (words σ) (position (OfPlace c p 0)) r ≡ words (clear_places σ c p q)
words_clear σ c p q r cl pq ql e z =
    words_splice σ _ from r (omega arith)
    (λ g v k l h. clear_ind (λ g y. Valid g → position g ≡ from + k → get_or r k 0 ≡ y) σ c p q (λ x j s t v h. z k)
    (λ g ne v h. absurd (ne (p + k / place_words) (k % place_words) (omega arith) (omega arith)
    (position_one g (OfPlace c (p + k / place_words) (k % place_words)) v (cl, omega arith, omega arith) (omega arith)))) g v h)
    (λ g v o. clear_ind (λ g y. Valid g → (position g < from) ⊎ (from + length r ≤ position g) → σ g ≡ y) σ c p q
    (λ x j s t v o. absurd (⊎_elim (λ l. omega arith) (λ l. omega arith) o)) (λ g ne v o. refl) g v o)
  where
    from : ℕ
    from = places_from + c * chain_words + p * place_words

-- The same as code leaves it: the words of t from a to b were lent, came back as ys, and that is r.
pub lent_part : (σ : State) (f : Field) (k b : ℕ) (t ys r : List ℕ) → t ≡ words σ → ys ≡ r → b ≡ position (word_of f k) + length r → Fits f k r →
    take (position (word_of f k)) t ++ (ys ++ drop (b - position (word_of f k)) (drop (position (word_of f k)) t)) ≡ words (put_part σ f k r)
lent_part σ f k b t ys r e q l w =
    splice_of (position (word_of f k)) (b - position (word_of f k)) t ys r q (omega arith) ∙ ap (λ t. splice t (position (word_of f k)) r) e ∙ words_part σ f k r w

pub lent_places : (σ : State) (c p q b : ℕ) (t ys r : List ℕ) → t ≡ words σ → ys ≡ r → c < controllers → p ≤ q → q ≤ places →
    length r ≡ b - position (OfPlace c p 0) → b ≡ position (OfPlace c q 0) → ((i : ℕ) → get_or r i 0 ≡ 0) →
    take (position (OfPlace c p 0)) t ++ (ys ++ drop (b - position (OfPlace c p 0)) (drop (position (OfPlace c p 0)) t)) ≡ words (clear_places σ c p q)
lent_places σ c p q b t ys r e w cl pq ql l bl z =
    splice_of (position (OfPlace c p 0)) (b - position (OfPlace c p 0)) t ys r w (sym l) ∙ ap (λ t. splice t (position (OfPlace c p 0)) r) e
    ∙ words_clear σ c p q r cl pq ql (omega arith) z

pub agree_trans : (σ τ ρ : State) → Agree σ τ → Agree τ ρ → Agree σ ρ
agree_trans σ τ ρ p q f v = p f v ∙ q f v

pub words_same : (σ τ : State) → Agree σ τ → words σ ≡ words τ
words_same σ τ h = words_of τ (words σ) (length_words σ) (λ f v. word_at σ f v ∙ h f v)

-- a table of the words of σ has its length, and its state has them
pub long_of : (σ : State) {t : List ℕ} → t ≡ words σ → length t ≡ table_words
long_of σ e = ap length e ∙ length_words σ

pub agree_words : (σ : State) {t : List ℕ} → t ≡ words σ → Agree (state t) σ
agree_words σ e f v = ap (λ t. state t f) e ∙ word_at σ f v

-- the changes, on states with the same words
pub agree_put : (σ τ : State) (f : Field) (x : ℕ) → Agree σ τ → Agree (put σ f x) (put τ f x)
unfolding put
agree_put σ τ f x e g v = ap (cond (same g f) x) (e g v)

pub agree_part : (σ τ : State) (f : Field) (k : ℕ) (r : List ℕ) → Agree σ τ → Agree (put_part σ f k r) (put_part τ f k r)
unfolding put_part
agree_part σ τ f k r e g v = ap (cond (in_part f k (length r) g) (get_or r (word g - k) 0)) (e g v)

pub agree_clear : (σ τ : State) (c p q : ℕ) → Agree σ τ → Agree (clear_places σ c p q) (clear_places τ c p q)
unfolding clear_places
agree_clear σ τ c p q e g v = ap (cond (in_places c p q g) 0) (e g v)

-- the same where the field, the words put or the bound are equal by a path
pub agree_put_to : (σ τ : State) {f g : Field} {x y : ℕ} → f ≡ g → x ≡ y → Agree σ τ → Agree (put σ f x) (put τ g y)
agree_put_to σ τ {f} {g} {x} {y} p q e = subst (Agree (put σ f x)) (λ d. put τ (p d) (q d)) (agree_put σ τ f x e)

pub agree_value : (σ τ : State) (f : Field) {x y : ℕ} → x ≡ y → Agree σ τ → Agree (put σ f x) (put τ f y)
agree_value σ τ f {x} {y} q e = subst (Agree (put σ f x)) (ap (put τ f) q) (agree_put σ τ f x e)

pub agree_part_to : (σ τ : State) (k : ℕ) {f g : Field} {r w : List ℕ} → f ≡ g → r ≡ w → Agree σ τ → Agree (put_part σ f k r) (put_part τ g k w)
agree_part_to σ τ k {f} {g} {r} {w} p q e = subst (Agree (put_part σ f k r)) (λ d. put_part τ (p d) k (q d)) (agree_part σ τ f k r e)

pub agree_values : (σ τ : State) (f : Field) (k : ℕ) {r w : List ℕ} → r ≡ w → Agree σ τ → Agree (put_part σ f k r) (put_part τ f k w)
agree_values σ τ f k {r} {w} q e = subst (Agree (put_part σ f k r)) (ap (put_part τ f k) q) (agree_part σ τ f k r e)

pub agree_clear_to : (σ τ : State) (c p : ℕ) {q u : ℕ} → q ≡ u → Agree σ τ → Agree (clear_places σ c p q) (clear_places τ c p u)
agree_clear_to σ τ c p {q} {u} z e = subst (Agree (clear_places σ c p q)) (ap (clear_places τ c p) z) (agree_clear σ τ c p q e)

-- one of two changes, by one test
pub agree_cond : (σ τ σ' τ' : State) {b b' : Bool} → b ≡ b' → Agree σ τ → Agree σ' τ' → Agree (cond b σ σ') (cond b' τ τ')
agree_cond σ τ σ' τ' {b} {b'} z e e' = subst (λ x. Agree (cond b σ σ') (cond x τ τ')) z (go b)
  where
    go : (b : Bool) → Agree (cond b σ σ') (cond b τ τ')
    go true = e
    go false = e'

-- states put that are the same for each record of the table
pub agree_states : (σ τ : State) (s u : ℕ → ℕ) → ((r : ℕ) → r < messages → s r ≡ u r) → Agree σ τ → Agree (put_states σ s) (put_states τ u)
unfolding put_states
agree_states σ τ s u h e g v = go (is_state g) refl
  where
    go : (b : Bool) → is_state g ≡ b → cond b (s (owner g)) (σ g) ≡ cond b (u (owner g)) (τ g)
    go true q = h (owner g) (subst Valid (is_state_lem g q) v).0
    go false q = e g v

-- states put that the messages have already change no word
pub states_kept : (σ : State) (s : ℕ → ℕ) → ((r : ℕ) → s r ≡ σ (MessageState r)) → Agree σ (put_states σ s)
states_kept σ s h g v = states_ind (λ g y. σ g ≡ y) σ s (λ r. sym (h r)) (λ g ne. refl) g

-- one more state put: u has x at i, and is s elsewhere
pub states_more : (σ : State) (s u : ℕ → ℕ) (r x : ℕ) → x ≡ u r → ((q : ℕ) → q ≢ r → s q ≡ u q) → Agree (put (put_states σ s) (MessageState r) x) (put_states σ u)
states_more σ s u r x e h g v =
    put_ind (λ g y. y ≡ put_states σ u g) (put_states σ s) (MessageState r) x (e ∙ sym (states_at σ u r)) others g
  where
    others : (g : Field) → g ≢ MessageState r → put_states σ s g ≡ put_states σ u g
    others g ne =
        states_ind (λ g y. g ≢ MessageState r → y ≡ put_states σ u g) σ s (λ q ne. h q (λ z. ne (ap MessageState z)) ∙ sym (states_at σ u q))
        (λ g out ne. states_ind (λ g y. ((q : ℕ) → g ≢ MessageState q) → σ g ≡ y) σ u (λ q out. absurd (out q refl)) (λ g _ _. refl) g out) g ne

-- a word put that stands there already changes no word
pub put_again : (σ : State) (f : Field) (x : ℕ) → x ≡ σ f → Agree σ (put σ f x)
put_again σ f x e g v = put_ind (λ g y. σ g ≡ y) σ f x (sym e) (λ g ne. refl) g

-- What code leaves that calls one function after another: t has the words of σ, and the call changed it by a rule.
pub called : (rule : State → State) (σ : State) {t u : List ℕ} → t ≡ words σ → u ≡ words (rule (state t)) → Agree (rule (state t)) (rule σ) → u ≡ words (rule σ)
called rule σ e q h = q ∙ words_same _ _ h

-- the call put one word, or a part
pub then_put : (σ : State) (f : Field) (x : ℕ) {t u : List ℕ} → t ≡ words σ → u ≡ words (put (state t) f x) → u ≡ words (put σ f x)
then_put σ f x e q = called (λ τ. put τ f x) σ e q (agree_put _ σ f x (agree_words σ e))

pub then_part : (σ : State) (f : Field) (k : ℕ) (r : List ℕ) {t u : List ℕ} → t ≡ words σ → u ≡ words (put_part (state t) f k r) → u ≡ words (put_part σ f k r)
then_part σ f k r e q = called (λ τ. put_part τ f k r) σ e q (agree_part _ σ f k r (agree_words σ e))

-- one word of a lent table was stored
pub stored : (t : List ℕ) (f : Field) (x : ℕ) → length t ≡ table_words → Valid f → set t (position f) x ≡ words (put (state t) f x)
stored t f x l v = wrote (state t) f x (words_state t l) v
