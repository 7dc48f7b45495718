-- The walk along the places of removed intervals that gives their causes a state.
use Rattle.std.specs.Prelude.{◌≡◌, refl, Bool, true, false, not, cond, ◌&&◌, ◌||◌, List, ◌≢◌, ℕ, ◌+◌, ◌-◌, ◌≤◌, ◌<◌, length, ◌==◌}
use Rattle.std.proofs.Math.Path.{sym, ap}
use Rattle.std.proofs.Common.{◌∙◌, true≢false, arith}
use Rattle.std.proofs.Math.Bool.{and-false, and-or_distrib_left}
use borrow.Author.Tests.{ltb-true, lt-ltb, le-ltb, eq-eqb, ne_eqb}
use Rattle.base.specs.Choice.{◌<?◌, and_left}
use Rattle.base.specs.Ranges.{anyb, anyb_zero, anyb_step}
use Rattle.table.specs.Field.{Field, State, LiveCount, Cause, MessageState, Receiver, MessagePairIncarnation, MessagePairNumber, word, owner, message_head, desk}
use Rattle.table.specs.Change.{put, is_state, put_states, states_ind, states_at}
use Rattle.table.specs.Layout.{messages, table_words}
use Rattle.table.specs.Words.{state, words, Agree}
use Rattle.table.proofs.Words.{words_state, words_same, agree_trans, agree_put, agree_states, agree_words, long_of, states_kept, states_more}
use Rattle.table.specs.Numbering.{used, record_of, message_of}
use Rattle.table.proofs.Numbering.{record_of_message, message_of_record, numbers_states, message_agree}
use Rattle.rules.specs.Vector.{Vector, message_vector, condemned_pair, condemned}
use Rattle.rules.specs.Form.{state_released, state_dropped, for_desk}
use Rattle.rules.specs.Shared.{causing, caused_in, causes_in, causes, offered_again}
use Rattle.laws.specs.Records.{message_vector_of}
use Rattle.laws.specs.Agree.{offered_again_same, causing_same}
use Rattle.laws.specs.Chain.{Chain, chain_states, chain_words_lem}

-- what the code finds, with the vector v of record r
module _ (σ : State) (c r : ℕ) (x : Bool) (v : Vector) (ev : v ≡ message_vector σ r) (ex : x ≡ condemned σ c v) where
  pub gets_dropped : x ≡ true → state_dropped ≡ offered_again σ c r
  unfolding offered_again
  gets_dropped h = rw (← ev, ← ex, h)

  pub gets_released : x ≡ false → state_released ≡ offered_again σ c r
  unfolding offered_again
  gets_released h = rw (← ev, ← ex, h)

-- the state that record r has after causes got theirs
abbrev settled : State → ℕ → ℕ → ℕ → ℕ → ℕ
settled σ c k n r = cond (caused_in σ c k n r) (offered_again σ c r) (σ (MessageState r))

-- a message for the desk, or in no record in use, is no cause: n records are in use, and d is the receiver
module _ (σ : State) (r n : ℕ) (ne : n ≡ used σ) where
  pub causes_none : n ≤ r → false ≡ causing σ r
  unfolding causing
  causes_none l = rw (← ne, le-ltb r n l)

  pub causes_some : (d : ℕ) → r < n → d ≡ σ (Receiver r) → not (d == desk) ≡ causing σ r
  unfolding causing
  causes_some d l de = rw (← ne, lt-ltb r n l, de)

-- a message that can be one stands in a record in use
causing_used : (σ : State) (r : ℕ) → causing σ r ≡ true → r < used σ
unfolding causing
causing_used σ r e = ltb-true _ _ (and_left (r <? used σ) _ e)

pub causing_there : (σ : State) (c r : ℕ) (b : Bool) → Chain σ c → b ≡ causing σ r → b ≡ true → r < messages
causing_there σ c r b w e h = omega (arith, w.used_le, causing_used σ r (sym e ∙ h))

-- ONE PLACE
-- record r is the cause of place p
caused_one : (σ : State) (c p r : ℕ) → caused_in σ c p 1 r ≡ (causing σ r && (σ (Cause c p) == message_of σ r))
unfolding caused_in
caused_one σ c p r =
    let e : p + 0 ≡ p = omega arith in
    ap (λ b. causing σ r && b) (sym (anyb_step _ 0 _ _ (anyb_zero _) refl)) ∙ ap (λ q. causing σ r && (σ (Cause c q) == message_of σ r)) e

-- the record that is found for it is, where its message can be a cause
caused_found : (σ : State) (c p : ℕ) → causing σ (record_of σ (σ (Cause c p))) ≡ true → caused_in σ c p 1 (record_of σ (σ (Cause c p))) ≡ true
caused_found σ c p h =
    let r = record_of σ (σ (Cause c p)) in
    caused_one σ c p r ∙ rw (h, eq-eqb (σ (Cause c p)) (message_of σ r) (sym (message_of_record σ _ (causing_used σ r h))))

-- and no other is
caused_other : (σ : State) (c p r : ℕ) → (causing σ r ≡ true → r ≢ record_of σ (σ (Cause c p))) → caused_in σ c p 1 r ≡ false
caused_other σ c p r ne = caused_one σ c p r ∙ go (causing σ r) refl
  where
    go : (b : Bool) → causing σ r ≡ b → (b && (σ (Cause c p) == message_of σ r)) ≡ false
    go true q = ne_eqb _ _ (λ e. ne q (sym (ap (record_of σ) e ∙ record_of_message σ r (causing_used σ r q))))
    go false q = refl

-- The code looks for the cause m of place p: the state x of its record r is put ..
pub settle_write : (t u : List ℕ) (c p m r x : ℕ) (b : Bool) → m ≡ state t (Cause c p) → r ≡ record_of (state t) m → b ≡ causing (state t) r → b ≡ true →
    x ≡ offered_again (state t) c r → u ≡ words (put (state t) (MessageState r) x) → u ≡ words (causes_in (state t) c p 1)
unfolding causes_in
settle_write t u c p m r x b em er eb h ex q =
    let σ = state t in
    let found : r ≡ record_of σ (σ (Cause c p)) = er ∙ ap (record_of σ) em in
    let here : caused_in σ c p 1 r ≡ true = ap (caused_in σ c p 1) found ∙ caused_found σ c p (ap (causing σ) (sym found) ∙ sym eb ∙ h) in
    let own : ℕ → ℕ = λ i. σ (MessageState i) in
    let put_own = agree_put σ (put_states σ own) (MessageState r) x (states_kept σ own (λ i. refl)) in
    q ∙ words_same _ _ (agree_trans _ _ _ put_own (states_more σ own _ r x (rw here ex) (λ i ne. rw (caused_other σ c p i (λ _ e. ne (e ∙ sym found))))))

-- .. or, where it can be none, no word is
pub settle_keep : (t : List ℕ) (c p m r : ℕ) (b : Bool) → length t ≡ table_words → m ≡ state t (Cause c p) → r ≡ record_of (state t) m → b ≡ causing (state t) r → b ≡ false →
    t ≡ words (causes_in (state t) c p 1)
unfolding causes_in
settle_keep t c p m r b l em er eb h =
    let σ = state t in
    let found : r ≡ record_of σ (σ (Cause c p)) = er ∙ ap (record_of σ) em in
    words_state t l
    ∙ words_same _ _ (states_kept σ _ (λ i. rw (caused_other σ c p i (λ q e. absurd (true≢false (sym q ∙ ap (causing σ) (e ∙ sym found) ∙ sym eb ∙ h))))))

-- ONE PLACE MORE
-- whether a record is one of the causes
caused_opened : (σ : State) (c k n r : ℕ) → caused_in σ c k (n + 1) r ≡ (caused_in σ c k n r || (causing σ r && (σ (Cause c (k + n)) == message_of σ r)))
unfolding caused_in
caused_opened σ c k n r = ap (λ b. causing σ r && b) (sym (anyb_step _ n _ _ refl refl)) ∙ and-or_distrib_left (causing σ r) _ _

caused_more : (σ : State) (c k p r : ℕ) → k ≤ p → caused_in σ c k (p + 1 - k) r ≡ (caused_in σ c k (p - k) r || caused_in σ c p 1 r)
caused_more σ c k p r l =
    let n : p + 1 - k ≡ p - k + 1 = omega arith in
    let q : k + (p - k) ≡ p = omega arith in
    ap (λ n. caused_in σ c k n r) n ∙ caused_opened σ c k (p - k) r
    ∙ ap (λ q. caused_in σ c k (p - k) r || (causing σ r && (σ (Cause c q) == message_of σ r))) q ∙ ap (λ b. caused_in σ c k (p - k) r || b) (sym (caused_one σ c p r))

-- a state that two tests in a row put
cond_or : (a b : Bool) (x y : ℕ) → cond b x (cond a x y) ≡ cond (a || b) x y
cond_or true true x y = refl
cond_or true false x y = refl
cond_or false b x y = refl

-- states put over others
states_over : (σ : State) (s u : ℕ → ℕ) → Agree (put_states (put_states σ s) u) (put_states σ u)
unfolding put_states
states_over σ s u g v = cond_over (is_state g)
  where
    cond_over : (b : Bool) → cond b (u (owner g)) (cond b (s (owner g)) (σ g)) ≡ cond b (u (owner g)) (σ g)
    cond_over true = refl
    cond_over false = refl

-- a cause is judged by words that settling does not write
vector_states : (σ : State) (s : ℕ → ℕ) (r : ℕ) → message_vector (put_states σ s) r ≡ message_vector σ r
vector_states σ s r =
    message_vector_of (put_states σ s) σ r (λ owner l. (kept (MessagePairIncarnation r owner) (omega arith), kept (MessagePairNumber r owner) (omega arith)))
  where
    kept : (f : Field) → message_head ≤ word f → put_states σ s f ≡ σ f
    kept = states_ind (λ f y. message_head ≤ word f → y ≡ σ f) σ s (λ r l. absurd (omega arith)) (λ f ne l. refl)

causing_states : (σ : State) (s : ℕ → ℕ) (r : ℕ) → causing (put_states σ s) r ≡ causing σ r
unfolding causing put_states
causing_states σ s r = ap (λ n. (r <? n) && not (for_desk σ r)) (numbers_states σ s).used_same

offered_states : (σ : State) (s : ℕ → ℕ) (c r : ℕ) → offered_again (put_states σ s) c r ≡ offered_again σ c r
unfolding offered_again condemned condemned_pair put_states
offered_states σ s c r = ap (λ v. cond (condemned σ c v) state_dropped state_released) (vector_states σ s r)

-- THE WALK
-- Before place p the table has the words of `causes_in` up to it.
pub record Walk (σ : State) (c k live : ℕ) (t : List ℕ) (p : ℕ) : Type 0 where
  pub chain : Chain σ c
  pub live_is : live ≡ σ (LiveCount c)
  pub from : k ≤ p
  pub bound : p ≤ live
  pub done : t ≡ words (causes_in σ c k (p - k))

-- before the first place
caused_none : (σ : State) (c k r : ℕ) → caused_in σ c k (k - k) r ≡ false
unfolding caused_in
caused_none σ c k r =
    let e : k - k ≡ 0 = omega arith in
    ap (λ n. causing σ r && anyb n (λ (j : ℕ). σ (Cause c (k + j)) == message_of σ r)) e ∙ ap (λ b. causing σ r && b) (sym (anyb_zero _)) ∙ and-false (causing σ r)

pub walk_none : (t : List ℕ) (c k live : ℕ) → length t ≡ table_words → Chain (state t) c → k ≤ state t (LiveCount c) → live ≡ state t (LiveCount c) →
    Walk (state t) c k live t k
unfolding causes_in
walk_none t c k live l w b e =
    record {
      chain = w;
      live_is = e;
      from = omega arith;
      bound = omega arith;
      done = words_state t l ∙ words_same _ _ (states_kept (state t) _ (λ r. rw (caused_none (state t) c k r)));
    }

module _ {σ : State} {c k live : ℕ} {t : List ℕ} {p : ℕ} (w : Walk σ c k live t p) where
  abbrev so_far : ℕ → ℕ
  so_far = settled σ c k (p - k)

  agrees : Agree (state t) (put_states σ so_far)
  unfolding causes_in
  agrees = agree_words _ w.done

  pub walk_long : length t ≡ table_words
  walk_long = long_of _ w.done

  -- what settling place p asks for
  pub walk_asks : p < live → (length t ≡ table_words) × Chain (state t) c × (p < state t (LiveCount c))
  unfolding causes_in put_states
  walk_asks l =
      let kept : state t (LiveCount c) ≡ σ (LiveCount c) = agrees (LiveCount c) (w.chain.named, omega arith) in
      (walk_long, chain_words_lem (put_states σ so_far) c w.done (chain_states σ c so_far w.chain), omega (arith, w.live_is))

  module _ (l : p < live) (r : ℕ) (rl : r < messages) where
    -- record r is the cause of place p, or not, as before the walk
    caused_same : caused_in (state t) c p 1 r ≡ caused_in σ c p 1 r
    unfolding put_states
    caused_same =
        let y = causing_same (state t) _ agrees r rl ∙ causing_states σ so_far r in
        let m = message_agree (state t) _ agrees r rl ∙ (numbers_states σ so_far).message r in
        let x : state t (Cause c p) ≡ σ (Cause c p) = agrees (Cause c p) (w.chain.named, omega (arith, w.live_is, w.chain.live_le), omega arith) in
        caused_one (state t) c p r ∙ (λ d. y d && (x d == m d)) ∙ sym (caused_one σ c p r)

    -- and it is judged as before the walk
    fate_same : offered_again (state t) c r ≡ offered_again σ c r
    fate_same = offered_again_same (state t) _ agrees c r w.chain.named rl ((walk_asks l).1.message_near r rl) ∙ offered_states σ so_far c r

    -- so it has the state that it gets in a walk one place longer
    settled_same : settled (state t) c p 1 r ≡ settled σ c k (p + 1 - k) r
    settled_same =
        let fate = offered_again σ c r in
        (λ d. cond (caused_same d) (fate_same d) (agrees (MessageState r) (rl, omega arith) d)) ∙ ap (cond (caused_in σ c p 1 r) fate) (states_at σ so_far r)
        ∙ cond_or (caused_in σ c k (p - k) r) (caused_in σ c p 1 r) fate _ ∙ ap (λ b. cond b fate (σ (MessageState r))) (sym (caused_more σ c k p r w.from))

  -- place p is settled
  pub walk_more : {u : List ℕ} → p < live → u ≡ words (causes_in (state t) c p 1) → Walk σ c k live u (p + 1)
  unfolding causes_in
  walk_more l q =
      let after = settled σ c k (p + 1 - k) in
      record {
        chain = w.chain;
        live_is = w.live_is;
        from = omega (arith, w.from);
        bound = omega arith;
        done = q ∙ words_same _ _ (agree_trans _ _ _ (agree_states (state t) _ _ after (settled_same l) agrees) (states_over σ so_far after));
      }

  -- after the last place
  pub walk_all : live ≤ p → t ≡ words (causes σ c k)
  unfolding causes
  walk_all l = let e : p ≡ σ (LiveCount c) = omega (arith, w.live_is, w.bound) in w.done ∙ ap (λ p. words (causes_in σ c k (p - k))) e
