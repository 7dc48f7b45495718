-- Changes of messages keep the form: states, a vector let out, a message sent.
use Rattle.std.specs.Prelude.{◌≡◌, Bool, false, ◌||◌, ◌≢◌, length, get_or}
use Rattle.std.proofs.Math.Path.{refl, sym, ap}
use Rattle.std.proofs.Common.{◌∙◌, subst, true≢false, arith, ◌==◌}
use Rattle.std.proofs.Math.Bool.{true}
use mathlib.Core.List.{List, []}
use Prim.Native.Nat.{ℕ, ◌+◌, ◌-◌, ◌*◌, ◌≤◌, ◌<◌}
use borrow.Author.Tests.{eqb-true, eqb-false, ltb-true, ne_eqb, not-true}
use Rattle.base.specs.Choice.{◌<?◌, and_left, and_right, cond_ind, le?}
use Rattle.base.specs.Ranges.{allb}
use Rattle.base.specs.Lists.{get_d_tab}
use Rattle.table.specs.Field.{Field, State, OfHead, OfController, Known, End, OfPlace, OfMessage, Size, LiveCount, MessageState, Sender, Receiver, SendingIncarnation, SendingNumber, MessagePairIncarnation, MessagePairNumber, message_head, desk, region, word, same}
use Rattle.table.specs.Change.{put, put_same, put_other, put_part, put_states}
use Rattle.table.specs.Layout.{controllers, message_words}
use Rattle.table.specs.Numbering.{number_of, used, Numbered, posted}
use Rattle.table.proofs.Numbering.{posted_used, posted_last, posted_number, posted_at, posted_kept, numbers_put, numbers_part, numbers_states, numbering_vector}
use Rattle.rules.specs.Limits.{Limits, last_incarnation}
use Rattle.rules.specs.Vector.{Vector, pair_of, incarnation, number, place_vector, message_vector, flat, condemned}
use Rattle.rules.specs.Form.{state_held, for_desk, state_ok, zeros, vector_ok, controller_ok, row_ok, place_ok, message_ok, head_zeros, in_form}
use Rattle.rules.specs.Shared.{causing, caused_in, offered_again, causes_in, causes, orphaned, held_or_dropped, drop_held}
use Rattle.rules.specs.Steps.{message_record, let_out}
use Rattle.laws.specs.Facts.{Form, form, live_named, place_form, no_place_lem, message_form, no_message}
use Rattle.laws.specs.Records.{part_at, part_other, length_flat, length_message_record, message_vector_of, record_word}
use Rattle.keeping.specs.Untouched.{ok_at, Tested, form_each, each_form, form_changed, form_put, form_part, home}
use Rattle.keeping.specs.InRange.{dropped_ok, vector_like, head_ok_lem, free_ok, message_ok_lem, unused_ok, place_again, message_again, message_new}

module _ (L : Limits) where
  -- one state
  pub kept_state : (σ : State) (r s : ℕ) → r < used σ → state_ok (for_desk σ r) s ≡ true → in_form L σ ≡ true → in_form L (put σ (MessageState r) s) ≡ true
  unfolding ok_at put same
  kept_state σ r s l ok e =
      let w = message_form (form L σ e) r l in
      let τ = put σ (MessageState r) s in
      let m = numbers_put σ (MessageState r) s refl in
      form_put L σ (MessageState r) s refl
      (message_ok_lem L (σ Size) τ r (subst (λ n. r < n) (sym m.used_same) l) (subst (λ x. state_ok (for_desk σ r) x ≡ true) (sym (put_same σ (MessageState r) s)) ok)
      w.sender_lt w.receiver_ok w.incarnation_le w.number_pos w.number_le
      (subst (λ v. vector_ok L (σ Size) v ≡ true)
      (message_vector_of σ τ r (λ owner _. (
        sym (put_other σ (MessageState r) (MessagePairIncarnation r owner) s (λ q. let z : message_head + 2 * owner ≡ word (MessageState r) = cc in omega arith)),
        sym (put_other σ (MessageState r) (MessagePairNumber r owner) s (λ q. let z : message_head + 2 * owner + 1 ≡ word (MessageState r) = cc in omega arith)),
      ))) w.vector_ok_lem)) e

  -- the states of all messages, none of them of an unused record
  pub kept_states : (σ : State) (s : ℕ → ℕ) → ((r : ℕ) → r < used σ → state_ok (for_desk σ r) (s r) ≡ true) → ((r : ℕ) → r < L.messages → used σ ≤ r → s r ≡ σ (MessageState r)) →
      in_form L σ ≡ true → in_form L (put_states σ s) ≡ true
  unfolding put_states ok_at
  kept_states σ s ok rest e =
      form_changed L σ (put_states σ s) in_messages
      (record {
        size = refl;
        numbers = numbers_states σ s;
        others = others;
        live = λ c p _. refl;
        passes = passes;
      }) e
    where
      f : Form L σ
      f = form L σ e

      in_messages : Field → Bool
      in_messages g = region g == region (MessageState 0)

      others : (g : Field) → in_messages (home g) ≡ false → put_states σ s g ≡ σ g
      others (OfHead k) q = refl
      others (OfController c k) q = refl
      others (Known holder owner i) q = refl
      others (End holder owner i) q = refl
      others (OfPlace c p k) q = refl
      others (OfMessage r k) q = absurd (true≢false q)

      -- all words of a message but its state
      rest_word : (r k : ℕ) → k ≢ word (MessageState r) → put_states σ s (OfMessage r k) ≡ σ (OfMessage r k)
      rest_word r k ne = rw (ne_eqb k (word (MessageState r)) ne)

      -- its vector stays
      vector : (r : ℕ) → message_vector σ r ≡ message_vector (put_states σ s) r
      vector r =
          message_vector_of σ (put_states σ s) r
          (λ owner _. (sym (rest_word r (word (MessagePairIncarnation r owner)) (omega arith)), sym (rest_word r (word (MessagePairNumber r owner)) (omega arith))))

      sent_ok : (r : ℕ) → r < used σ → message_ok L (σ Size) (put_states σ s) r ≡ true
      sent_ok r l =
          let w = message_form f r l in
          message_ok_lem L (σ Size) (put_states σ s) r (subst (λ n. r < n) (sym (numbers_states σ s).used_same) l) (ok r l) w.sender_lt w.receiver_ok w.incarnation_le w.number_pos w.number_le
          (subst (λ v. vector_ok L (σ Size) v ≡ true) (vector r) w.vector_ok_lem)

      unsent_word : (r k : ℕ) → r < L.messages → used σ ≤ r → k < message_words → (b : Bool) → (k == word (MessageState r)) ≡ b → put_states σ s (OfMessage r k) ≡ 0
      unsent_word r k rl l kl true q =
          ap (λ k. put_states σ s (OfMessage r k)) (eqb-true k (word (MessageState r)) q) ∙ rest r rl l ∙ no_message f r (word (MessageState r)) rl l (omega arith)
      unsent_word r k rl l kl false q = rest_word r k (eqb-false k (word (MessageState r)) q) ∙ no_message f r k rl l kl

      unsent_ok : (r : ℕ) → r < L.messages → used σ ≤ r → message_ok L (σ Size) (put_states σ s) r ≡ true
      unsent_ok r rl l =
          unused_ok L (σ Size) (put_states σ s) r (subst (λ n. n ≤ r) (sym (numbers_states σ s).used_same) l)
          (λ k kl. unsent_word r k rl l kl (k == word (MessageState r)) refl)

      passes : (g : Field) → Tested L g → in_messages (home g) ≡ true → ok_at L (σ Size) (put_states σ s) g ≡ true
      passes (OfHead k) v q = absurd (true≢false (sym q))
      passes (OfController c k) v q = absurd (true≢false (sym q))
      passes (Known holder owner i) v q = absurd (true≢false (sym q))
      passes (End holder owner i) v q = absurd (true≢false (sym q))
      passes (OfPlace c p k) v q = absurd (true≢false (sym q))
      passes (OfMessage r k) v q = le? (r + 1) (used σ) (λ l. sent_ok r (omega arith)) (λ l. unsent_ok r v (omega arith))

  -- the causes of removed intervals are released or dropped; none of them is for the desk
  pub kept_causes : (σ : State) (c k : ℕ) → in_form L σ ≡ true → in_form L (causes σ c k) ≡ true
  unfolding causes causes_in caused_in causing offered_again state_ok
  kept_causes σ c k e = kept_states σ _ (λ r l. cond_ind (λ x. state_ok (for_desk σ r) x ≡ true) (caused_in σ c k _ r) (again r) (λ _. (message_form (form L σ e) r l).state_ok_lem))
      (λ r _ l. cond_ind (λ x. x ≡ σ (MessageState r)) (caused_in σ c k _ r) (λ q. absurd (unsent r q l)) (λ _. refl)) e
    where
      n : ℕ
      n = σ (LiveCount c) - k

      cause : (r : ℕ) → caused_in σ c k n r ≡ true → causing σ r ≡ true
      cause r q = and_left (causing σ r) _ q

      unsent : (r : ℕ) → caused_in σ c k n r ≡ true → used σ ≤ r → ⊥
      unsent r q l = let u = ltb-true r (used σ) (and_left (r <? used σ) _ (cause r q)) in omega arith

      again : (r : ℕ) → caused_in σ c k n r ≡ true → state_ok (for_desk σ r) (offered_again σ c r) ≡ true
      again r q =
          let d : for_desk σ r ≡ false = not-true _ (and_right (r <? used σ) _ (cause r q)) in
          subst (λ b. state_ok b (offered_again σ c r) ≡ true) (sym d) (cond_ind (λ x. state_ok false x ≡ true) (condemned σ c (message_vector σ r)) (λ _. refl) (λ _. refl))

  -- held messages sent from there are dropped
  pub kept_drop_held : (σ : State) (c k : ℕ) → in_form L σ ≡ true → in_form L (drop_held σ c k) ≡ true
  unfolding drop_held held_or_dropped
  kept_drop_held σ c k e =
      kept_states σ _ (λ r l. cond_ind (λ x. state_ok (for_desk σ r) x ≡ true) (orphaned σ c (number_of σ c k) r) (λ _. dropped_ok (for_desk σ r)) (λ _. (message_form (form L σ e) r l).state_ok_lem))
      (λ r rl l. cond_ind (λ x. x ≡ σ (MessageState r)) (orphaned σ c (number_of σ c k) r) (λ q. absurd (unsent r rl l q)) (λ _. refl)) e
    where
      unsent : (r : ℕ) → r < L.messages → used σ ≤ r → orphaned σ c (number_of σ c k) r ≡ true → ⊥
      unsent r rl l q =
          let held = eqb-true (σ (MessageState r)) state_held (and_left (σ (MessageState r) == state_held) _ q) in
          omega (arith, no_message (form L σ e) r (word (MessageState r)) rl l (omega arith))

  -- another vector
  pub kept_vector : (σ : State) (r : ℕ) (v : Vector) → r < used σ → vector_ok L (σ Size) v ≡ true → in_form L σ ≡ true → in_form L (put_part σ (OfMessage r 0) message_head (flat v)) ≡ true
  unfolding ok_at message_vector put_part
  kept_vector σ r v l ok e =
      let w = message_form (form L σ e) r l in
      let st = head (word (MessageState r)) (omega arith) in
      let receiver = head (word (Receiver r)) (omega arith) in
      form_part L σ (OfMessage r 0) message_head (flat v) (λ i. refl) (λ i. refl)
      (message_ok_lem L (σ Size) τ r (subst (λ n. r < n) (sym m.used_same) l) ((λ d. state_ok (receiver d == desk) (st d)) ∙ w.state_ok_lem)
      (subst (λ x. x < σ Size) (sym (head (word (Sender r)) (omega arith))) w.sender_lt) ((λ d. (receiver d <? σ Size) || (receiver d == desk)) ∙ w.receiver_ok)
      (subst (λ x. x ≤ last_incarnation) (sym (head (word (SendingIncarnation r)) (omega arith))) w.incarnation_le)
      (subst (λ x. 1 ≤ x) (sym (head (word (SendingNumber r)) (omega arith))) w.number_pos) (subst (λ x. x ≤ L.numbers) (sym (head (word (SendingNumber r)) (omega arith))) w.number_le)
      (vector_like L (σ Size) v (message_vector τ r) ok (λ owner ol. (
        ap incarnation (get_d_tab controllers _ owner [] ol) ∙ vector owner 0 ol (omega arith) (word (MessagePairIncarnation r owner)) (omega arith),
        ap number (get_d_tab controllers _ owner [] ol) ∙ vector owner 1 ol (omega arith) (word (MessagePairNumber r owner)) (omega arith),
      )))) e
    where
      τ : State
      τ = put_part σ (OfMessage r 0) message_head (flat v)

      m : Numbered τ σ
      m = numbers_part σ (OfMessage r 0) message_head (flat v) (λ k l. numbering_vector r (message_head + k) (omega arith))

      -- the words before it stay
      head : (k : ℕ) → k < message_head → τ (OfMessage r k) ≡ σ (OfMessage r k)
      head k l = part_other σ (OfMessage r 0) (OfMessage r k) message_head (flat v) (λ i h q. let z : k ≡ message_head + i = cc in omega arith)

      -- its own are those of v
      vector : (owner i : ℕ) → owner < controllers → i < 2 → (k : ℕ) → k ≡ message_head + (2 * owner + i) → τ (OfMessage r k) ≡ get_or (pair_of v owner) i 0
      vector owner i ol il k q =
          part_at σ (OfMessage r 0) message_head (flat v) (2 * owner + i) k (omega (arith, length_flat v)) q ∙ record_word [] v 0 refl owner i (2 * owner + i) ol il (omega arith)

  -- R
  pub kept_let_out : (σ : State) (r : ℕ) (v : Vector) (st : ℕ) → r < used σ → vector_ok L (σ Size) v ≡ true → state_ok (for_desk σ r) st ≡ true → in_form L σ ≡ true → in_form L (let_out σ r v st) ≡ true
  unfolding let_out
  kept_let_out σ r v st l ok st_ok e =
      let τ = put_part σ (OfMessage r 0) message_head (flat v) in
      let m = numbers_part σ (OfMessage r 0) message_head (flat v) (λ k l. numbering_vector r (message_head + k) (omega arith)) in
      let receiver = part_other σ (OfMessage r 0) (Receiver r) message_head (flat v) (λ i h q. let z : word (Receiver r) ≡ message_head + i = cc in omega arith) in
      kept_state τ r st (subst (λ n. r < n) (sym m.used_same) l) (ap (λ x. state_ok (x == desk) st) receiver ∙ st_ok) (kept_vector σ r v l ok e)

  -- a message put into the first unused record
  pub kept_posted : (σ : State) (st sender receiver i x payload : ℕ) (v : Vector) → used σ < L.messages → state_ok (receiver == desk) st ≡ true → sender < σ Size →
      ((receiver <? σ Size) || (receiver == desk)) ≡ true → i ≤ last_incarnation → 1 ≤ x → x ≤ L.numbers → vector_ok L (σ Size) v ≡ true → in_form L σ ≡ true →
      in_form L (posted σ (message_record st sender receiver i x payload v)) ≡ true
  unfolding ok_at posted put same put_part head_zeros zeros allb place_vector message_vector message_record controller_ok row_ok
  kept_posted σ st sender receiver i x payload v room st_ok sl rl il xp xl ok e = each_form L τ passes
    where
      w : List ℕ
      w = message_record st sender receiver i x payload v

      τ : State
      τ = posted σ w

      f : Form L σ
      f = form L σ e

      long : length w ≡ message_words
      long = length_message_record st sender receiver i x payload v

      -- the new record
      at : (k : ℕ) → k < message_words → τ (OfMessage (used σ) k) ≡ get_or w k 0
      at k l = posted_at σ w k (subst (λ n. k < n) (sym long) l)

      new : message_ok L (σ Size) τ (used σ) ≡ true
      new = message_new L (σ Size) τ (used σ) st sender receiver i x payload v at (omega (arith, posted_used σ w)) st_ok sl rl il xp xl ok

      -- the others
      other : (r k : ℕ) → (r ≡ used σ → ⊥) → τ (OfMessage r k) ≡ σ (OfMessage r k)
      other r k ne = posted_kept σ w (OfMessage r k) refl (rw (ne_eqb r (used σ) ne))

      sent_ok : (r : ℕ) → r < used σ → message_ok L (σ Size) τ r ≡ true
      sent_ok r l = message_again L σ τ r (message_form f r l) (omega (arith, posted_used σ w)) (λ k. other r k (omega arith))

      unsent_ok : (r : ℕ) → r < L.messages → used σ < r → message_ok L (σ Size) τ r ≡ true
      unsent_ok r rl l =
          unused_ok L (σ Size) τ r (omega (arith, posted_used σ w)) (λ k kl. other r k (omega arith) ∙ no_message f r k rl (omega arith) kl)

      place : (c p : ℕ) → c < controllers → p < L.places → place_ok L (σ Size) τ c p ≡ true
      place c p cl pl =
          le? (p + 1) (σ (LiveCount c))
          (λ l. let u : p < σ (LiveCount c) = omega arith in
          place_again L σ τ c p (place_form f c p (live_named f c p cl u) u) u (posted_number σ w c (p + 1)) (omega (arith, posted_last σ w)) (λ k. refl))
          (λ l. free_ok L (σ Size) τ c p (omega arith) (λ k kl. no_place_lem f c p k cl pl (omega arith) kl))

      passes : (g : Field) → Tested L g → ok_at L (σ Size) τ g ≡ true
      passes (OfHead k) t = head_ok_lem L τ f.size_pos f.size_le (omega (arith, posted_used σ w)) f.spare_ok f.gap_le f.served_le f.again_ok
      passes (OfController c k) t = form_each L σ e (OfController c k) t
      passes (Known holder owner k) t = form_each L σ e (Known holder owner k) t
      passes (End holder owner k) t = form_each L σ e (End holder owner k) t
      passes (OfPlace c p k) t = place c p t.0 t.1
      passes (OfMessage r k) t =
          le? (r + 1) (used σ) (λ l. sent_ok r (omega arith))
          (λ l. le? (used σ + 1) r (λ u. unsent_ok r t (omega arith)) (λ u. let z : used σ ≡ r = omega arith in subst (λ r. message_ok L (σ Size) τ r ≡ true) z new))
