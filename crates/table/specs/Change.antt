-- Changes of a state, each with the law of its cases: what is known of the words it writes, and of the others.
use Rattle.std.specs.Prelude.{◌≡◌, refl, Bool, true, false, cond, ◌&&◌, ◌≢◌, List, ℕ, ◌+◌, ◌-◌, ◌≤◌, ◌<◌, length, get_or, ◌==◌}
use Rattle.std.proofs.Common.{sym, ap, ◌∙◌, subst, true≢false, arith, eqb-true, eq-eqb, leb-true, ltb-true, le-leb, lt-ltb}
use Rattle.base.specs.Choice.{◌≤?◌, ◌<?◌, and_left, and_right, cond_ind}
use Rattle.table.specs.Field.{Field, State, OfPlace, MessageState, region, word, owner, second, word_of, alike, same, word_of_lem, made_alike, message_state, alike_true, alike_word, same_true, same_refl}

-- every word is 0
abbrev pub blank : State
blank f = 0

-- σ with v in the field f
unfoldable pub put : State → Field → ℕ → State
put σ f v g = cond (same g f) v (σ g)

-- σ with the words r in the record of f, from word k on
abbrev pub in_part : Field → ℕ → ℕ → Field → Bool
in_part f k n g = alike g f && ((k ≤? word g) && (word g <? k + n))

unfoldable pub put_part : State → Field → ℕ → List ℕ → State
put_part σ f k r g = cond (in_part f k (length r) g) (get_or r (word g - k) 0) (σ g)

-- σ with 0 in all words of the places of c from p on and below q
abbrev pub in_places : ℕ → ℕ → ℕ → Field → Bool
in_places c p q g = (region g == region (OfPlace c p 0)) && ((owner g == c) && ((p ≤? second g) && (second g <? q)))

unfoldable pub clear_places : State → ℕ → ℕ → ℕ → State
clear_places σ c p q g = cond (in_places c p q g) 0 (σ g)

-- σ with the state s r in each message record r
abbrev pub is_state : Field → Bool
is_state g = (region g == region (MessageState 0)) && (word g == word (MessageState 0))

unfoldable pub put_states : State → (ℕ → ℕ) → State
put_states σ s g = cond (is_state g) (s (owner g)) (σ g)

-- a test that holds of f fails at g: g is not f
pub differs : (test : Field → Bool) (f g : Field) → test f ≡ true → test g ≡ false → g ≢ f
differs test f g t e z = absurd (true≢false (sym t ∙ ap test (sym z) ∙ e))

pub put_ind : (P : Field → ℕ → Type 0) (σ : State) (f : Field) (v : ℕ) → P f v → ((g : Field) → g ≢ f → P g (σ g)) →
    (g : Field) → P g (put σ f v g)
unfolding put
put_ind P σ f v p q g =
    cond_ind (P g) (same g f) (λ e. subst (λ h. P h v) (sym (same_true g f e)) p) (λ e. q g (differs (λ h. same h f) f g (same_refl f) e))

pub put_same : (σ : State) (f : Field) (v : ℕ) → put σ f v f ≡ v
unfolding put
put_same σ f v = rw (same_refl f)

pub put_other : (σ : State) (f g : Field) (v : ℕ) → g ≢ f → put σ f v g ≡ σ g
put_other σ f g v = put_ind (λ g x. g ≢ f → x ≡ σ g) σ f v (λ ne. absurd (ne refl)) (λ g _ _. refl) g

-- a part: its own words, and what lies outside
in_part_lem : (f : Field) (k n i : ℕ) → i < n → in_part f k n (word_of f (k + i)) ≡ true
in_part_lem f k n i h = rw (alike_word f (k + i), word_of_lem f (k + i), le-leb k (k + i) (omega arith), lt-ltb (k + i) (k + n) (omega arith))

pub part_ind : (P : Field → ℕ → Type 0) (σ : State) (f : Field) (k : ℕ) (r : List ℕ) → ((i : ℕ) → i < length r → P (word_of f (k + i)) (get_or r i 0)) →
    ((g : Field) → ((i : ℕ) → i < length r → g ≢ word_of f (k + i)) → P g (σ g)) → (g : Field) → P g (put_part σ f k r g)
unfolding put_part
part_ind P σ f k r p q g = cond_ind (P g) (in_part f k (length r) g) hit miss
  where
    hit : in_part f k (length r) g ≡ true → P g (get_or r (word g - k) 0)
    hit e =
        let e₁ = and_right (alike g f) _ e in
        let l = leb-true k (word g) (and_left (k ≤? word g) _ e₁) in
        let u = ltb-true (word g) (k + length r) (and_right (k ≤? word g) _ e₁) in
        let w : k + (word g - k) ≡ word g = omega arith in
        subst (λ h. P h (get_or r (word g - k) 0)) (ap (word_of f) w ∙ sym (alike_true g f (and_left (alike g f) _ e))) (p (word g - k) (omega arith))

    miss : in_part f k (length r) g ≡ false → P g (σ g)
    miss e = q g (λ i h. differs (in_part f k (length r)) (word_of f (k + i)) g (in_part_lem f k (length r) i h) e)

pub clear_ind : (P : Field → ℕ → Type 0) (σ : State) (c p q : ℕ) → ((x k : ℕ) → p ≤ x → x < q → P (OfPlace c x k) 0) →
    ((g : Field) → ((x k : ℕ) → p ≤ x → x < q → g ≢ OfPlace c x k) → P g (σ g)) → (g : Field) → P g (clear_places σ c p q g)
unfolding clear_places
clear_ind P σ c p q u v g = cond_ind (P g) (in_places c p q g) hit miss
  where
    hit : in_places c p q g ≡ true → P g 0
    hit e =
        let e₁ = and_right (region g == region (OfPlace c p 0)) _ e in
        let e₂ = and_right (owner g == c) _ e₁ in
        let l = leb-true _ _ (and_left (p ≤? second g) _ e₂) in
        let m = ltb-true _ _ (and_right (p ≤? second g) _ e₂) in
        subst (λ h. P h 0)
        (sym (made_alike g (OfPlace c (second g) 0) (word g) (eqb-true _ _ (and_left (region g == region (OfPlace c p 0)) _ e)) (eqb-true _ _ (and_left (owner g == c) _ e₁)) refl refl))
        (u (second g) (word g) l m)

    miss : in_places c p q g ≡ false → P g (σ g)
    miss e = v g (λ x k l m. differs (in_places c p q) (OfPlace c x k) g (simp (eq-eqb c c refl, le-leb p x l, lt-ltb x q m)) e)

-- a field that is a message's state is that of its record
pub is_state_lem : (g : Field) → is_state g ≡ true → g ≡ MessageState (owner g)
is_state_lem g e =
    message_state g (eqb-true _ _ (and_left (region g == region (MessageState 0)) _ e)) (eqb-true _ _ (and_right (region g == region (MessageState 0)) _ e))

pub states_ind : (P : Field → ℕ → Type 0) (σ : State) (s : ℕ → ℕ) → ((r : ℕ) → P (MessageState r) (s r)) →
    ((g : Field) → ((r : ℕ) → g ≢ MessageState r) → P g (σ g)) → (g : Field) → P g (put_states σ s g)
unfolding put_states
states_ind P σ s u v g =
    cond_ind (P g) (is_state g) (λ e. subst (λ h. P h (s (owner g))) (sym (is_state_lem g e)) (u (owner g)))
    (λ e. v g (λ r. differs is_state (MessageState r) g refl e))

pub states_at : (σ : State) (s : ℕ → ℕ) (r : ℕ) → put_states σ s (MessageState r) ≡ s r
unfolding put_states
states_at σ s r = refl
