-- Sets: what a set may count on where none of its refusals applies; what stays while its messages go out, one after the other, so that each
-- goes with the vector that it had at the start; and the ledger on the way.
use Rattle.std.specs.Prelude.{◌≡◌, refl, Bool, true, false, not, cond, ◌||◌, List, [], ◌∷◌, ◌≢◌, ℕ, zero, suc, ◌+◌, ◌≤◌, ◌<◌, length, ◌==◌}
use Rattle.std.proofs.Common.{sym, ap, ◌∙◌, subst, true≢false, arith, get_or-set_same, leb-false, ltb-false, eqb-true}
use Rattle.std.proofs.lemmas.Bool.{eqb-false, not-false}
use Rattle.base.specs.Choice.{◌≤?◌, le?, or_left, or_right}
use Rattle.base.specs.Ranges.{anyb_clear}
use Rattle.base.specs.Lists.{tab_same}
use Rattle.base.specs.Cases.{first_of, cleared}
use Rattle.base.specs.Splice.{splice, length_splice}
use Rattle.table.specs.Field.{Field, State, OfMessage, Known, MessageState, Sender, Receiver, Payload, MessagePairIncarnation, MessagePairNumber, message_head, desk, region, word, owner}
use Rattle.table.specs.Change.{put_same, put_other, part_ind}
use Rattle.table.specs.Layout.{controllers}
use Rattle.table.specs.Numbering.{used, Numbered, numbering}
use Rattle.table.proofs.Numbering.{numbers_kept, numbering_vector, record_one}
use Rattle.rules.specs.Limits.{Limits}
use Rattle.rules.specs.Vector.{Vector, no_pair, incarnation, number, pair_of, message_vector, flat, known_stable, filter_pair, filtered}
use Rattle.rules.specs.Form.{state_held, state_released, state_published, for_desk}
use Rattle.rules.specs.Ledger.{count_at, entry_at, count_of, ledger_ok, appended}
use Rattle.rules.specs.Steps.{own_vector, let_out, state_out, gone, ledger_out}
use Rattle.rules.specs.Sets.{set_most, nth, record_in, absent, some_absent, bad_length, named_before, named_twice, not_held, some_not_held, sender_of, many_senders, set_refusals, desks, out_to, ledger_to}
use Rattle.laws.specs.Records.{message_vector_of}
use Rattle.laws.specs.Ledger.{ledger_form, appended_sound}

-- REFUSALS
-- no two messages of a list stand in one record
abbrev pub Apart : State → List ℕ → Type 0
Apart σ l = (i j : ℕ) → j < i → i < length l → record_in σ l i ≢ record_in σ l j

-- a set that is not refused: all its messages are there, as many as may be, apart, held and of one sender, and the ledger is in form
pub record SetAllowed (L : Limits) (σ : State) (g l : List ℕ) : Type 0 where
  pub sound : ledger_ok L g ≡ true
  pub here : (i : ℕ) → i < length l → record_in σ l i < used σ
  pub some : 1 ≤ length l
  pub most : length l ≤ set_most
  pub apart : Apart σ l
  pub held : (i : ℕ) → i < length l → σ (MessageState (record_in σ l i)) ≡ state_held
  pub one_sender : (i : ℕ) → i < length l → sender_of σ (nth l i) ≡ sender_of σ (nth l 0)

-- 4 doesn't apply
pub all_here : (σ : State) (l : List ℕ) → some_absent σ l ≡ false → (i : ℕ) → i < length l → record_in σ l i < used σ
unfolding some_absent
all_here σ l e i p = leb-false _ _ (anyb_clear (λ (i : ℕ). absent σ (nth l i)) (length l) i e p)

-- nor does 6
apart_of : (σ : State) (l : List ℕ) → ((i : ℕ) → i < length l → record_in σ l i < used σ) → named_twice l ≡ false → Apart σ l
unfolding named_twice named_before
apart_of σ l h e i j ji il q =
    let ne : nth l j ≢ nth l i = eqb-false _ _ (anyb_clear (λ (j : ℕ). nth l j == nth l i) i j (anyb_clear (named_before l) (length l) i e il) ji) in
    ne (sym (record_one σ (nth l i) (nth l j) (h i il) (h j (omega arith)) q))

-- a list whose length is allowed has a message
pub some_named : (l : List ℕ) → bad_length l ≡ false → 1 ≤ length l
some_named l e = let ne : length l ≢ 0 = eqb-false _ _ (or_left (length l == 0) _ e) in omega arith

-- nor do 7 and 15
all_held : (σ : State) (l : List ℕ) → some_not_held σ l ≡ false → (i : ℕ) → i < length l → σ (MessageState (record_in σ l i)) ≡ state_held
unfolding some_not_held
all_held σ l e i h = eqb-true _ _ (not-false _ (anyb_clear (λ (i : ℕ). not_held σ (nth l i)) (length l) i e h))

all_one : (σ : State) (l : List ℕ) → many_senders σ l ≡ false → (i : ℕ) → i < length l → sender_of σ (nth l i) ≡ sender_of σ (nth l 0)
unfolding many_senders
all_one σ l e i h = eqb-true _ _ (not-false _ (anyb_clear (λ (i : ℕ). not (sender_of σ (nth l i) == sender_of σ (nth l 0))) (length l) i e h))

pub set_allowed : (L : Limits) (σ : State) (g l : List ℕ) → 0 ≡ first_of (set_refusals L σ g l) → SetAllowed L σ g l
set_allowed L σ g l e =
    let w = cleared _ refl e in
    let six : (bad_length l || named_twice l) ≡ false = search w in
    let long : bad_length l ≡ false = or_left (bad_length l) (named_twice l) six in
    let there = all_here σ l (search w) in
    record {
      sound = not-false _ (search w);
      here = there;
      some = some_named l long;
      most = ltb-false _ _ (or_right (length l == 0) _ long);
      apart = apart_of σ l there (or_right (bad_length l) (named_twice l) six);
      held = all_held σ l (search w);
      one_sender = all_one σ l (search w);
    }

-- GOING OUT
-- a message that goes out leaves all words but its state and its vector
out_other : (σ : State) (r : ℕ) (v : Vector) (st : ℕ) (f : Field) → f ≢ MessageState r → ((k : ℕ) → message_head ≤ k → f ≢ OfMessage r k) → let_out σ r v st f ≡ σ f
unfolding let_out
out_other σ r v st f ns nv =
    put_other _ (MessageState r) f st ns
    ∙ part_ind (λ f x. ((k : ℕ) → message_head ≤ k → f ≢ OfMessage r k) → x ≡ σ f) σ (OfMessage r 0) message_head (flat v)
    (λ i h n. absurd (n (message_head + i) (omega arith) refl)) (λ f _ _. refl) f nv

gone_other : (σ : State) (r : ℕ) (f : Field) → f ≢ MessageState r → ((k : ℕ) → message_head ≤ k → f ≢ OfMessage r k) → gone σ r f ≡ σ f
unfolding gone
gone_other σ r f = out_other σ r (own_vector σ r) (state_out σ r) f

-- the first n of a list: all words but their states and vectors stay
pub outs_other : (σ : State) (l : List ℕ) (n : ℕ) (f : Field) → ((j : ℕ) → j < n → f ≢ MessageState (record_in σ l j)) →
    ((j k : ℕ) → j < n → message_head ≤ k → f ≢ OfMessage (record_in σ l j) k) → out_to σ l n f ≡ σ f
unfolding out_to
outs_other σ l zero f ns nv = refl
outs_other σ l (suc n) f ns nv =
    gone_other (out_to σ l n) (record_in σ l n) f (ns n (omega arith)) (λ k. nv n k (omega arith)) ∙ outs_other σ l n f (λ j h. ns j (omega arith)) (λ j k h. nv j k (omega arith))

-- no word outside the messages' region changes
pub outs_region : (σ : State) (l : List ℕ) (n : ℕ) (f : Field) → region f ≢ region (MessageState 0) → out_to σ l n f ≡ σ f
outs_region σ l n f ne = outs_other σ l n f (λ j h e. ne (ap region e)) (λ j k h _ e. ne (ap region e))

-- nor do the words of a record that isn't among them
pub outs_message : (σ : State) (l : List ℕ) (n r k : ℕ) → ((j : ℕ) → j < n → r ≢ record_in σ l j) → out_to σ l n (OfMessage r k) ≡ σ (OfMessage r k)
outs_message σ l n r k ne = outs_other σ l n (OfMessage r k) (λ j h e. ne j h (ap owner e)) (λ j i h _ e. ne j h (ap owner e))

-- nor the receiver of one that is
pub outs_receiver : (σ : State) (l : List ℕ) (n r : ℕ) → out_to σ l n (Receiver r) ≡ σ (Receiver r)
outs_receiver σ l n r = outs_other σ l n (Receiver r) (λ j h e. absurd (let z : ◌≡◌ {A = ℕ} 0 1 = cc in omega arith)) (λ j k h p e. let z : word (Receiver r) ≡ k = cc in omega arith)

-- nor do numbers
pub outs_numbers : (σ : State) (l : List ℕ) (n : ℕ) → Numbered (out_to σ l n) σ
outs_numbers σ l n =
    numbers_kept _ σ
    (λ f e. outs_other σ l n f (λ j h z. absurd (true≢false (sym e ∙ ap numbering z)))
    (λ j k h lk z. absurd (true≢false (sym e ∙ ap numbering z ∙ numbering_vector (record_in σ l j) k lk))))

-- a filtered vector is made of known words and of the words of its own record
own_same : (σ τ : State) (r : ℕ) → ((holder own i : ℕ) → σ (Known holder own i) ≡ τ (Known holder own i)) → ((k : ℕ) → σ (OfMessage r k) ≡ τ (OfMessage r k)) →
    own_vector σ r ≡ own_vector τ r
unfolding own_vector filtered filter_pair known_stable
own_same σ τ r known same =
    ap (λ v. filtered σ (σ (Sender r)) v) vec ∙ ap (λ s. filtered σ s (message_vector τ r)) (same (word (Sender r)))
    ∙ tab_same controllers (λ a. filter_pair σ (τ (Sender r)) a (pair_of (message_vector τ r) a)) (λ a. filter_pair τ (τ (Sender r)) a (pair_of (message_vector τ r) a))
    (λ a h. let p = pair_of (message_vector τ r) a in ap (λ x. cond (number p ≤? x) no_pair p) (known (τ (Sender r)) a (incarnation p)))
  where
    vec : message_vector σ r ≡ message_vector τ r
    vec = message_vector_of σ τ r (λ a h. (same (word (MessagePairIncarnation r a)), same (word (MessagePairNumber r a))))

-- "each with its own filtered vector": those that have gone leave the vectors of those that are still to go
pub own_stays : (σ : State) (l : List ℕ) (n r : ℕ) → ((j : ℕ) → j < n → r ≢ record_in σ l j) → own_vector (out_to σ l n) r ≡ own_vector σ r
own_stays σ l n r ne =
    own_same (out_to σ l n) σ r (λ holder own i. outs_region σ l n (Known holder own i) (λ e. absurd (omega (arith, e)))) (λ k. outs_message σ l n r k ne)

-- the state that a message has once it has gone
gone_state : (σ : State) (r : ℕ) → gone σ r (MessageState r) ≡ state_out σ r
unfolding gone let_out
gone_state σ r = put_same _ (MessageState r) (state_out σ r)

pub outs_state : (σ : State) (l : List ℕ) → Apart σ l → (n i : ℕ) → i < n → n ≤ length l → out_to σ l n (MessageState (record_in σ l i)) ≡ state_out σ (record_in σ l i)
unfolding out_to
outs_state σ l apart zero i h p = absurd (omega arith)
outs_state σ l apart (suc n) i h p =
    le? (suc i) n
    (λ q. let ne : record_in σ l i ≢ record_in σ l n = λ e. apart n i (omega arith) (omega arith) (sym e) in
    gone_other (out_to σ l n) (record_in σ l n) (MessageState (record_in σ l i)) (λ e. ne (ap owner e)) (λ k _ e. ne (ap owner e)) ∙ outs_state σ l apart n i (omega arith) (omega arith))
    (λ q. let e : i ≡ n = omega arith in
    subst (λ j. gone (out_to σ l n) (record_in σ l n) (MessageState (record_in σ l j)) ≡ state_out σ (record_in σ l j)) (sym e)
    (gone_state (out_to σ l n) (record_in σ l n) ∙ ap (λ x. cond (x == desk) state_published state_released) (outs_receiver σ l n (record_in σ l n))))

-- THE LEDGER
-- one entry more
count_appended : (L : Limits) (g : List ℕ) (m payload : ℕ) → ledger_ok L g ≡ true → count_of g < L.entries → count_of (appended g (m ∷ payload ∷ [])) ≡ count_of g + 1
unfolding appended
count_appended L g m payload e room =
    let w = ledger_form L g e in
    let same = length_splice (entry_at (count_of g)) g (m ∷ payload ∷ []) (omega (arith, w.long)) in
    get_or-set_same (splice g (entry_at (count_of g)) (m ∷ payload ∷ [])) count_at (count_of g + 1) 0 (omega (arith, same, w.long))

-- the ledger on its way is in form, and has an entry more for each that is for the desk
pub record Entered (L : Limits) (g h : List ℕ) (n : ℕ) : Type 0 where
  pub sound : ledger_ok L h ≡ true
  pub count_is : count_of h ≡ count_of g + n

pub entries : (L : Limits) (σ : State) (g l : List ℕ) (n : ℕ) → ledger_ok L g ≡ true → count_of g + desks σ l n ≤ L.entries → Entered L g (ledger_to σ g l n) (desks σ l n)
unfolding ledger_to desks ledger_out
entries L σ g l zero e room = record { sound = e; count_is = omega arith }
entries L σ g l (suc n) e room = go (for_desk σ (record_in σ l n)) room (entries L σ g l n e)
  where
    h : List ℕ
    h = ledger_to σ g l n

    payload : ℕ
    payload = σ (Payload (record_in σ l n))

    go : (b : Bool) → count_of g + (desks σ l n + cond b 1 0) ≤ L.entries → (count_of g + desks σ l n ≤ L.entries → Entered L g h (desks σ l n)) →
        Entered L g (cond b (appended h (nth l n ∷ payload ∷ [])) h) (desks σ l n + cond b 1 0)
    go true room so_far =
        let w = so_far (omega arith) in
        let c = w.count_is in
        record {
          sound = appended_sound L h (nth l n) payload w.sound (omega arith);
          count_is = count_appended L h (nth l n) payload w.sound (omega arith) ∙ omega arith;
        }
    go false room so_far = let w = so_far (omega arith) in record { sound = w.sound; count_is = w.count_is ∙ omega arith }

-- of fewer messages fewer are for the desk
pub desks_le : (σ : State) (l : List ℕ) (n k : ℕ) → n ≤ k → desks σ l n ≤ desks σ l k
unfolding desks
desks_le σ l n zero h = let e : n ≡ 0 = omega arith in subst (λ i. desks σ l i ≤ 0) (sym e) (omega arith)
desks_le σ l n (suc k) h =
    le? n k (λ p. omega (arith, desks_le σ l n k p)) (λ p. let e : n ≡ suc k = omega arith in subst (λ i. desks σ l i ≤ desks σ l (suc k)) (sym e) (omega arith))
