-- Laws of the ways between a place or a record and its number (specs/Numbering.antt). Rules, code and theorem use these and not the
-- text of the definitions.
use Rattle.std.specs.Prelude.{◌≡◌, ◌&&◌, List, ◌≢◌, ℕ, ◌+◌, ◌-◌, ◌≤◌, ◌<◌, length, get_or}
use Rattle.std.proofs.Math.Path.{refl, ap, subst}
use Rattle.std.proofs.Common.{sym, ◌∙◌, true≢false, ◌==◌}
use Rattle.std.proofs.Math.Bool.{true, false, cond}
use native.Mathlib.Omega.{arith}
use borrow.Author.Tests.{leb-true, ltb-true, le-leb, lt-ltb, le-ltb, ne_eqb}
use Rattle.base.specs.Choice.{◌≤?◌, ◌<?◌, and_left, and_right, cond_ind, le?}
use Rattle.table.specs.Field.{Field, State, OfHead, OfMessage, Size, SentCount, Discarded, Gap, Served, region, word, word_of, alike, alike_word, same, message_head}
use Rattle.table.specs.Change.{put, put_ind, put_same, put_other, put_part, part_ind, clear_places, clear_ind, put_states, states_ind}
use Rattle.table.specs.Layout.{controllers, messages, head_words}
use Rattle.table.specs.Words.{state, words, Agree}
use Rattle.table.proofs.Words.{agree_value, agree_part_to, then_put}
use Rattle.table.specs.Numbering.{discarded, number_of, place_of, used, last_given, next_message, record_of, message_of, posted, numbering, Numbered}

-- LAWS OF INTERVAL NUMBERS
module _ (σ : State) (c : ℕ) where
  -- they follow each other; order and differences of numbers are those of counts
  pub number_from_lem : (k : ℕ) → number_of σ c k ≡ number_of σ c 0 + k
  unfolding number_of
  number_from_lem k = omega arith

  -- as code reads it, and as it tests it: d is the word of c
  pub number_read : (k d : ℕ) → c < controllers → d ≡ σ (Discarded c) → d + k ≡ number_of σ c k
  unfolding number_of
  number_read k d l e = rw (lt-ltb c controllers l, e)

  pub number_tested : (k x d : ℕ) → c < controllers → d ≡ σ (Discarded c) → (x == d + k) ≡ (x == number_of σ c k)
  number_tested k x d l e = ap (λ n. x == n) (number_read k d l e)

  -- the next number
  pub number_next : (k : ℕ) → number_of σ c (k + 1) ≡ number_of σ c k + 1
  number_next k = omega (arith, number_from_lem (k + 1), number_from_lem k)

  -- the place of a place's number is that place
  pub place_of_number : (p : ℕ) → place_of σ c (number_of σ c (p + 1)) ≡ p
  unfolding place_of
  place_of_number p = omega (arith, number_from_lem (p + 1), number_from_lem 1)

  -- the number of the place of a number on the chain is that number
  pub number_of_place : (x : ℕ) → number_of σ c 1 ≤ x → number_of σ c (place_of σ c x + 1) ≡ x
  unfolding place_of
  number_of_place x h = omega (arith, number_from_lem (x - number_of σ c 1 + 1), number_from_lem 1)

  -- numbers up to that of the k-th interval stand in the first k places
  pub place_lt : (k x : ℕ) → 1 ≤ k → x ≤ number_of σ c k → place_of σ c x < k
  unfolding place_of
  place_lt k x h l = omega (arith, number_from_lem k, number_from_lem 1)

  -- q intervals further on
  pub number_add : (k q : ℕ) → number_of σ c (k + q) ≡ number_of σ c k + q
  number_add k q = omega (arith, number_from_lem (k + q), number_from_lem k)

  -- numbers are compared as their counts are
  pub number_ltb : (j k : ℕ) → (number_of σ c j <? number_of σ c k) ≡ (j <? k)
  number_ltb j k =
      let p = number_from_lem j in
      let q = number_from_lem k in
      le? (j + 1) k (λ l. lt-ltb (number_of σ c j) (number_of σ c k) (omega arith) ∙ sym (lt-ltb j k (omega arith)))
      (λ l. le-ltb (number_of σ c j) (number_of σ c k) (omega arith) ∙ sym (le-ltb j k (omega arith)))

  -- the place of the next number
  pub place_next : (k : ℕ) → place_of σ c (number_of σ c k + 1) ≡ k
  place_next k = ap (place_of σ c) (sym (number_next k)) ∙ place_of_number k

  -- the place of the k-th interval, which the rules write k - 1
  pub place_of_count : (k : ℕ) → 1 ≤ k → place_of σ c (number_of σ c k) ≡ k - 1
  unfolding place_of
  place_of_count k h = omega (arith, number_from_lem k, number_from_lem 1)

  -- numbers from that of the (k + 1)-th interval on do not stand in the first k places
  pub place_ge : (k x : ℕ) → number_of σ c (k + 1) ≤ x → k ≤ place_of σ c x
  unfolding place_of
  place_ge k x h = omega (arith, number_from_lem (k + 1), number_from_lem 1)

-- places follow from numbers
pub place_from : (σ τ : State) (c x : ℕ) → number_of σ c 1 ≡ number_of τ c 1 → place_of σ c x ≡ place_of τ c x
unfolding place_of
place_from σ τ c x e = ap (λ n. x - n) e

-- where nothing of c is discarded, its numbers are counts
pub number_fresh : (σ : State) (c k : ℕ) → (c < controllers → σ (Discarded c) ≡ 0) → number_of σ c k ≡ k
unfolding number_of
number_fresh σ c k h =
    cond_ind (λ d. d + k ≡ k) (c <? controllers) (λ e. let none = h (ltb-true c controllers e) in omega arith) (λ e. omega arith)

-- LAWS OF MESSAGE NUMBERS
module _ (σ : State) where
  -- the search for a record: it is there, or it isn't
  pub record_found : (m n : ℕ) → n ≡ last_given σ → ((1 ≤? m) && (m ≤? n)) ≡ true → m - 1 ≡ record_of σ m
  unfolding record_of
  record_found m n q e = let e₁ : ((1 ≤? m) && (m ≤? last_given σ)) ≡ true = ap (λ n. (1 ≤? m) && (m ≤? n)) (sym q) ∙ e in rw e₁

  pub record_missing : (m n r : ℕ) → n ≡ last_given σ → r ≡ used σ → ((1 ≤? m) && (m ≤? n)) ≡ false → r ≡ record_of σ m
  unfolding record_of
  record_missing m n r q u e = let e₁ : ((1 ≤? m) && (m ≤? last_given σ)) ≡ false = ap (λ n. (1 ≤? m) && (m ≤? n)) (sym q) ∙ e in rw e₁ u

  -- the record of a message that is there
  there : (m : ℕ) → record_of σ m < used σ → (1 ≤ m) × (m ≤ last_given σ) × (record_of σ m ≡ m - 1)
  unfolding record_of
  there m =
      cond_ind (λ r. r < used σ → (1 ≤ m) × (m ≤ last_given σ) × (r ≡ m - 1)) ((1 ≤? m) && (m ≤? last_given σ))
      (λ e l. (leb-true _ _ (and_left (1 ≤? m) _ e), leb-true _ _ (and_right (1 ≤? m) _ e), refl)) (λ e l. absurd (omega arith))

  -- its number is not 0 and was given
  pub present_pos : (m : ℕ) → record_of σ m < used σ → 1 ≤ m
  present_pos m l = (there m l).0

  pub present_given : (m : ℕ) → record_of σ m < used σ → m ≤ last_given σ
  present_given m l = (there m l).1

  -- its record has its number
  pub message_of_record : (m : ℕ) → record_of σ m < used σ → message_of σ (record_of σ m) ≡ m
  unfolding message_of
  message_of_record m l = omega (arith, (there m l).0, (there m l).2)

  -- the message of a record in use stands in that record
  pub record_of_message : (r : ℕ) → r < used σ → record_of σ (message_of σ r) ≡ r
  unfolding record_of message_of used last_given
  record_of_message r l = rw (le-leb 1 (r + 1) (omega arith), le-leb (r + 1) (σ SentCount) (omega arith)) (omega arith)

  -- numbers rise with the records in use
  pub message_rises : (r s : ℕ) → r < s → s < used σ → message_of σ r < message_of σ s
  unfolding message_of
  message_rises r s l u = omega arith

  -- no more numbers were given than there are records, so that the next fits a word
  pub given_le : used σ ≤ messages → last_given σ ≤ messages
  unfolding used last_given
  given_le l = l

  -- every number given has its record
  pub given_present : (m : ℕ) → 1 ≤ m → m ≤ last_given σ → record_of σ m < used σ
  unfolding record_of used last_given
  given_present m p l = rw (le-leb 1 m p, le-leb m (σ SentCount) l) (omega arith)

-- one record, one message
pub record_one : (σ : State) (m n : ℕ) → record_of σ m < used σ → record_of σ n < used σ → record_of σ m ≡ record_of σ n → m ≡ n
record_one σ m n l u e = sym (message_of_record σ m l) ∙ ap (message_of σ) e ∙ message_of_record σ n u

-- where no message was sent, no number was given, and no record is in use
pub none_given : (σ : State) → σ SentCount ≡ 0 → last_given σ ≡ 0
unfolding last_given
none_given σ e = e

pub none_used : (σ : State) → σ SentCount ≡ 0 → used σ ≡ 0
unfolding used
none_used σ e = e

-- A MESSAGE PUT INTO ITS RECORD
-- one more is in use, its number was given last, and the others stand where they stood
module _ (σ : State) (w : List ℕ) where
  posted_count : (posted σ w) SentCount ≡ next_message σ
  unfolding posted
  posted_count = put_same _ SentCount (next_message σ)

  pub posted_used : used (posted σ w) ≡ used σ + 1
  unfolding used last_given
  posted_used = posted_count

  pub posted_last : last_given (posted σ w) ≡ next_message σ
  unfolding last_given
  posted_last = posted_count

  pub posted_new : record_of (posted σ w) (next_message σ) ≡ used σ
  unfolding record_of used last_given
  posted_new = rw (le-leb 1 (σ SentCount + 1) (omega arith), le-leb (σ SentCount + 1) ((posted σ w) SentCount) (omega (arith, posted_count))) (omega arith)

  pub posted_record : (m : ℕ) → record_of σ m < used σ → record_of (posted σ w) m ≡ record_of σ m
  unfolding record_of used last_given
  posted_record m l =
      let p = there σ m l in
      rw (le-leb 1 m p.0, le-leb m (σ SentCount) p.1, le-leb m ((posted σ w) SentCount) (omega (arith, posted_count, p.1)))

  pub posted_number : (c k : ℕ) → number_of (posted σ w) c k ≡ number_of σ c k
  unfolding number_of posted put_part
  posted_number c k =
      ap (λ d. cond (c <? controllers) d 0 + k)
      (put_other (put_part σ (OfMessage (used σ) 0) 0 w) SentCount (Discarded c) (next_message σ) (λ e. let z : word (Discarded c) ≡ word SentCount = ap word e in absurd (omega arith)))

-- as code writes it: the record r, and then the last number given
pub posted_words : (t u y : List ℕ) (r m : ℕ) (w : List ℕ) → r ≡ used (state t) → m ≡ last_given (state t) →
    u ≡ words (put_part (state t) (OfMessage r 0) 0 w) → y ≡ words (put (state u) SentCount (m + 1)) → y ≡ words (posted (state t) w)
unfolding posted
posted_words t u y r m w re me ue ye = rw (← re, ← me) (then_put _ SentCount (m + 1) ue ye)

-- word by word
module _ (σ : State) (w : List ℕ) where
  -- a fact of every word, from its cases: the words of the new record, the head's, which may become any number, and all others
  pub posted_ind : (P : Field → ℕ → Type 0) → ((k : ℕ) → k < length w → P (OfMessage (used σ) k) (get_or w k 0)) → ((k y : ℕ) → k < head_words → P (OfHead k) y) →
      ((g : Field) → ((k : ℕ) → k < length w → g ≢ OfMessage (used σ) k) → P g (σ g)) → (g : Field) → P g (posted σ w g)
  unfolding posted
  posted_ind P p n q =
      put_ind P _ SentCount (next_message σ) (n (word SentCount) (next_message σ) (omega arith))
      (λ g _. part_ind P σ (OfMessage (used σ) 0) 0 w (λ k h. subst (λ j. P (OfMessage (used σ) j) (get_or w k 0)) (sym (from k)) (p k h))
      (λ g o. q g (λ k h e. o k h (e ∙ ap (OfMessage (used σ)) (sym (from k))))) g)
    where
      from : (k : ℕ) → 0 + k ≡ k
      from k = omega arith

  -- a word of the new record
  pub posted_at : (k : ℕ) → k < length w → posted σ w (OfMessage (used σ) k) ≡ get_or w k 0
  posted_at k h =
      posted_ind (λ g y. g ≡ OfMessage (used σ) k → y ≡ get_or w k 0) (λ j _ e. ap (λ i. get_or w i 0) (cc))
      (λ j y _ e. let z : ◌≡◌ {A = ℕ} 0 1 = cc in absurd (omega arith)) (λ g o e. absurd (o k h e)) (OfMessage (used σ) k) refl

  -- a word outside it and outside the head
  pub posted_kept : (g : Field) → (region g == region SentCount) ≡ false → alike g (OfMessage (used σ) 0) ≡ false → posted σ w g ≡ σ g
  posted_kept =
      posted_ind (λ g y. (region g == region SentCount) ≡ false → alike g (OfMessage (used σ) 0) ≡ false → y ≡ σ g)
      (λ k _ _ a. absurd (true≢false (sym (alike_word (OfMessage (used σ) 0) k) ∙ a))) (λ k y _ n. absurd (true≢false n)) (λ g _ _ _. refl)

  -- a message that was not there, and is not the new one, is not there then
  pub posted_missing : (m : ℕ) → m ≢ next_message σ → used σ ≤ record_of σ m → used (posted σ w) ≤ record_of (posted σ w) m
  posted_missing m ne h =
      le? (record_of (posted σ w) m + 1) (used (posted σ w))
      (λ l. let here : record_of (posted σ w) m < used (posted σ w) = omega arith in
      let last = posted_last σ w in
      absurd (omega (arith, given_present σ m (present_pos (posted σ w) m here) (omega (arith, present_given (posted σ w) m here)))))
      (λ l. omega arith)

  -- the number of controllers, the gap, and the controller last served
  pub posted_size : posted σ w Size ≡ σ Size
  unfolding posted put same put_part
  posted_size = refl

  pub posted_gap : posted σ w Gap ≡ σ Gap
  unfolding posted put same put_part
  posted_gap = refl

  pub posted_served : posted σ w Served ≡ σ Served
  unfolding posted put same put_part
  posted_served = refl

-- a change that leaves these words leaves all numbers
pub numbers_kept : (σ τ : State) → ((f : Field) → numbering f ≡ true → σ f ≡ τ f) → Numbered σ τ
unfolding number_of place_of used last_given record_of message_of
numbers_kept σ τ h =
    let e : σ SentCount ≡ τ SentCount = h SentCount refl in
    let gone : (c : ℕ) → discarded σ c ≡ discarded τ c = λ c. le? (c + 1) controllers
    (λ l. rw (lt-ltb c controllers (omega arith)) (h (Discarded c) (rw (ne_eqb (word (Discarded c)) (word Gap) (λ z. omega arith), ne_eqb (word (Discarded c)) (word Served) (λ z. omega arith)))))
    (λ l. rw (le-ltb c controllers (omega arith))) in
    record {
      number = λ c k. ap (λ d. d + k) (gone c);
      place = λ c x. ap (λ d. x - (d + 1)) (gone c);
      used_same = e;
      last = e;
      record_same = λ m. ap (λ n. cond ((1 ≤? m) && (m ≤? n)) (m - 1) n) e;
      message = λ r. refl;
    }

pub numbers_put : (σ : State) (f : Field) (x : ℕ) → numbering f ≡ false → Numbered (put σ f x) σ
numbers_put σ f x n =
    numbers_kept _ σ (put_ind (λ g y. numbering g ≡ true → y ≡ σ g) σ f x (λ e. absurd (true≢false (sym e ∙ n))) (λ g ne e. refl))

pub numbers_part : (σ : State) (f : Field) (k : ℕ) (w : List ℕ) → ((i : ℕ) → i < length w → numbering (word_of f (k + i)) ≡ false) → Numbered (put_part σ f k w) σ
numbers_part σ f k w n =
    numbers_kept _ σ (part_ind (λ g y. numbering g ≡ true → y ≡ σ g) σ f k w (λ i l e. absurd (true≢false (sym e ∙ n i l))) (λ g ne e. refl))

pub numbers_clear : (σ : State) (c p q : ℕ) → Numbered (clear_places σ c p q) σ
numbers_clear σ c p q =
    numbers_kept _ σ (clear_ind (λ g y. numbering g ≡ true → y ≡ σ g) σ c p q (λ i k _ _ e. absurd (true≢false (sym e))) (λ g ne e. refl))

pub numbers_states : (σ : State) (s : ℕ → ℕ) → Numbered (put_states σ s) σ
numbers_states σ s =
    numbers_kept _ σ (states_ind (λ g y. numbering g ≡ true → y ≡ σ g) σ s (λ r e. absurd (true≢false (sym e))) (λ g ne e. refl))

-- none, and one change after another
pub numbers_refl : (σ : State) → Numbered σ σ
numbers_refl σ = numbers_kept σ σ (λ f _. refl)

pub numbers_trans : (σ τ ρ : State) → Numbered σ τ → Numbered τ ρ → Numbered σ ρ
numbers_trans σ τ ρ p q =
    record {
      number = λ c k. p.number c k ∙ q.number c k;
      place = λ c x. p.place c x ∙ q.place c x;
      used_same = p.used_same ∙ q.used_same;
      last = p.last ∙ q.last;
      record_same = λ m. p.record_same m ∙ q.record_same m;
      message = λ r. p.message r ∙ q.message r;
    }

-- THE SAME ON STATES WITH THE SAME WORDS
module _ (σ τ : State) (e : Agree σ τ) where
  pub number_same : (c k : ℕ) → c < controllers → number_of σ c k ≡ number_of τ c k
  unfolding number_of
  number_same c k cl = rw (lt-ltb c controllers cl) (ap (λ d. d + k) (e (Discarded c) (omega arith)))

  pub used_agree : used σ ≡ used τ
  unfolding used
  used_agree = e SentCount (omega arith)

  pub last_agree : last_given σ ≡ last_given τ
  unfolding last_given
  last_agree = e SentCount (omega arith)

  pub record_agree : (m : ℕ) → used σ ≤ messages → record_of σ m ≡ record_of τ m
  unfolding record_of
  record_agree m l = λ d. cond ((1 ≤? m) && (m ≤? last_agree d)) (m - 1) (used_agree d)

  pub message_agree : (r : ℕ) → r < messages → message_of σ r ≡ message_of τ r
  unfolding message_of
  message_agree r l = refl

-- numbering looks at no word of a message's vector
pub numbering_vector : (r k : ℕ) → message_head ≤ k → numbering (OfMessage r k) ≡ false
numbering_vector r k l = refl

-- messages with the same words, put into states with the same words
pub posted_agree : (σ τ : State) → Agree σ τ → {v w : List ℕ} → v ≡ w → Agree (posted σ v) (posted τ w)
unfolding posted
posted_agree σ τ e {v} {w} q =
    agree_value _ _ SentCount (ap (λ n. n + 1) (last_agree σ τ e)) (agree_part_to σ τ 0 (ap (λ r. OfMessage r 0) (used_agree σ τ e)) q e)
