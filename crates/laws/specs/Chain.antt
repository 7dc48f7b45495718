-- A controller of the house, its live chain, and the ranges of their words: what code that goes along the chain counts on. A
-- change of words that it does not look at keeps it.
use Rattle.std.specs.Prelude.{◌≡◌, refl, Bool, true, false, ◌||◌, List, ℕ, ◌+◌, ◌≤◌, ◌<◌, set, ◌==◌}
use Rattle.std.proofs.Common.{sym, ap, ◌∙◌, subst, true≢false, arith, le-leb}
use Rattle.std.proofs.Math.Bool.{or-true}
use Rattle.base.specs.Choice.{◌≤?◌, ◌<?◌, cond_ind}
use Rattle.base.specs.Cases.{first_of}
use Rattle.table.specs.Field.{Field, State, OfHead, OfController, Known, End, OfPlace, OfMessage, Size, Incarnation, LiveCount, StableCount, Flag, Sender, Receiver, SendingNumber, PairIncarnation, PairNumber, MessagePairIncarnation, MessagePairNumber, same, word, message_head}
use Rattle.table.specs.Change.{put, put_ind, put_same, put_part, put_states, states_ind}
use Rattle.table.specs.Layout.{controllers, places, messages}
use Rattle.table.specs.Words.{state, words}
use Rattle.table.proofs.Words.{agree_words}
use Rattle.table.specs.Numbering.{number_of, last_live, used, numbering}
use Rattle.table.proofs.Numbering.{numbers_kept, number_same, used_agree}
use Rattle.rules.specs.Limits.{house, last_incarnation, last_number}
use Rattle.rules.specs.Vector.{Vector, pair, place_vector, message_vector}
use Rattle.rules.specs.Form.{state_released}
use Rattle.rules.specs.Shared.{place_record, logged, logged_to, checkpointed, forced, capped, causes_in, causes, new_vector, placed, entered, restarted}
use Rattle.rules.specs.Steps.{chain_full, interval_added, noted, message_refusals, release_refusals}
use Rattle.laws.specs.Facts.{Near, Form, form, below_8, controller_form, place_form, message_form, released_lt, no_message, message_near, house_fits, numbers_le}
use Rattle.laws.specs.Records.{place_vector_of, message_vector_of}
use Rattle.laws.specs.Allowed.{MessageAllowed, message_allowed, release_allowed, Room, room_left}
use Rattle.laws.specs.Numbers.{numbers_capped, numbers_added, numbers_restarted, room_same}
use Rattle.laws.specs.Agree.{incarnation_same, live_same, place_vector_same, message_vector_same, live_restarted}
use Rattle.laws.specs.Answering.{Lent}

-- message records from those in use on have no sending number: going along the records in use passes over no message
abbrev pub Unsent : State → Type 0
Unsent σ = (r : ℕ) → r < messages → used σ ≤ r → σ (SendingNumber r) ≡ 0

-- a controller of the house, its incarnation, its live count and its numbers: what logging and a checkpoint count on
pub record Counts (σ : State) (c : ℕ) : Type 0 where
  pub named : c < controllers
  pub incarnation_le : σ (Incarnation c) ≤ last_incarnation
  pub live_pos : 1 ≤ σ (LiveCount c)
  pub live_le : σ (LiveCount c) ≤ places
  pub numbers_le : last_live σ c ≤ last_number

-- and its chain
pub record Chain (σ : State) (c : ℕ) : Type 0 where
  pub named : c < controllers
  pub incarnation_le : σ (Incarnation c) ≤ last_incarnation
  pub live_pos : 1 ≤ σ (LiveCount c)
  pub live_le : σ (LiveCount c) ≤ places
  pub numbers_le : last_live σ c ≤ last_number
  pub first_flag : σ (Flag c 0) ≡ 1
  pub near : (p : ℕ) → p < σ (LiveCount c) → Near (place_vector σ c p)
  pub used_le : used σ ≤ messages
  pub message_near : (r : ℕ) → r < messages → Near (message_vector σ r)
  pub unsent : Unsent σ

-- a controller of a state in form has it
pub chain_form : (σ : State) (c : ℕ) → Form house σ → c < σ Size → Chain σ c
chain_form σ c f h =
    let k = controller_form f c h in
    record {
      named = below_8 f c h;
      incarnation_le = k.incarnation_le;
      live_pos = k.live_pos;
      live_le = k.live_le;
      numbers_le = numbers_le f house_fits c h;
      first_flag = (place_form f c 0 h k.live_pos).first_flag refl;
      near = λ p q. (place_form f c p h q).vector.near;
      used_le = f.used_le;
      message_near = message_near f;
      unsent = λ r l u. no_message f r (word (SendingNumber r)) l u (omega arith);
    }

pub chain_counts : {σ : State} {c : ℕ} → Chain σ c → Counts σ c
chain_counts w = record { named = w.named; incarnation_le = w.incarnation_le; live_pos = w.live_pos; live_le = w.live_le; numbers_le = w.numbers_le }

-- a state with the same incarnation, live count and numbers has the same counts
counts_same : {σ τ : State} {c : ℕ} → τ (Incarnation c) ≡ σ (Incarnation c) → τ (LiveCount c) ≡ σ (LiveCount c) → ((k : ℕ) → number_of τ c k ≡ number_of σ c k) →
    Counts σ c → Counts τ c
counts_same {σ} {τ} {c} own live number w =
    let last = number (τ (LiveCount c)) ∙ ap (number_of σ c) live in
    record {
      named = w.named;
      incarnation_le = omega (arith, w.incarnation_le);
      live_pos = omega (arith, w.live_pos);
      live_le = omega (arith, w.live_le);
      numbers_le = omega (arith, last, w.numbers_le);
    }

-- so has a table with the words of σ
pub counts_words : (σ : State) (c : ℕ) {t : List ℕ} → t ≡ words σ → Counts σ c → Counts (state t) c
counts_words σ c {t} q w =
    let e = agree_words σ q in
    let cl = w.named in
    counts_same (incarnation_same (state t) σ e c cl) (live_same (state t) σ e c cl) (λ k. number_same (state t) σ e c k cl) w

-- logging writes no word of a controller but the stable count
pub logged_word : (σ : State) (c k w : ℕ) → (w == word (StableCount c)) ≡ false → logged_to σ c k (OfController c w) ≡ σ (OfController c w)
unfolding logged_to logged put same
logged_word σ c k w ne = cond_ind (λ (τ : State). τ (OfController c w) ≡ σ (OfController c w)) (σ (StableCount c) <? k) (λ _. rw ne) (λ _. refl)

-- a state in which a checkpoint was made, if one was due
pub counts_capped : (σ : State) (c : ℕ) → Counts σ c → Counts (capped σ c) c
unfolding capped checkpointed put same
counts_capped σ c = counts_same (kept (word (Incarnation c)) refl) (kept (word (LiveCount c)) refl) ((numbers_capped σ c).number c)
  where
    kept : (w : ℕ) → (w == word (StableCount c)) ≡ false → capped σ c (OfController c w) ≡ σ (OfController c w)
    kept w ne = cond_ind (λ (τ : State). τ (OfController c w) ≡ σ (OfController c w)) (forced σ c) (λ _. logged_word σ c (σ (LiveCount c)) w ne) (λ _. refl)

-- a state whose newest interval is the one after the k-th of σ, where σ has room for that
counts_next : {σ τ : State} {c k : ℕ} → c < controllers → τ (Incarnation c) ≤ last_incarnation → τ (LiveCount c) ≡ k + 1 →
    number_of τ c (k + 1) ≡ number_of σ c (k + 1) → Room house σ c k → Counts τ c
counts_next {σ} {τ} {c} {k} named own live number room =
    let last = ap (number_of τ c) live ∙ number in
    record {
      named = named;
      incarnation_le = own;
      live_pos = omega arith;
      live_le = omega (arith, room.place_lt);
      numbers_le = omega (arith, last, room.number_le);
    }

-- an interval more
pub counts_added : (σ : State) (c m r : ℕ) (v : Vector) → Counts σ c → Room house σ c (σ (LiveCount c)) → Counts (interval_added σ c m r v) c
unfolding interval_added put same put_part
counts_added σ c m r v w room =
    let i = σ (Incarnation c) in
    let live = σ (LiveCount c) in
    let x = number_of σ c (live + 1) in
    let n = put_same (put_part σ (OfPlace c live 0) 0 (place_record i x m 0 (set v c (pair i x)))) (LiveCount c) (live + 1) in
    counts_next w.named w.incarnation_le n ((numbers_added σ c m r v).number c (live + 1)) room

pub chain_of_lem : (t : List ℕ) (c : ℕ) → Lent t → c < state t Size → Chain (state t) c
chain_of_lem t c l h = chain_form (state t) c (form house (state t) l.good) h

-- the words that it looks at: those of numbering, incarnations and live counts, and all flags, sending numbers and vectors
abbrev pub on_chain : Field → Bool
on_chain (OfHead k) = numbering (OfHead k)
on_chain (OfController c k) = (k == word (Incarnation c)) || (k == word (LiveCount c))
on_chain (Known holder owner i) = false
on_chain (End holder owner i) = false
on_chain (OfPlace c p k) = word (Flag c p) ≤? k
on_chain (OfMessage r k) = numbering (OfMessage r k) || (word (SendingNumber r) ≤? k)

numbering_on : (f : Field) → numbering f ≡ true → on_chain f ≡ true
numbering_on (OfHead k) e = e
numbering_on (OfController c k) e = absurd (true≢false (sym e))
numbering_on (Known holder owner i) e = absurd (true≢false (sym e))
numbering_on (End holder owner i) e = absurd (true≢false (sym e))
numbering_on (OfPlace c p k) e = absurd (true≢false (sym e))
numbering_on (OfMessage r k) e = ap (λ b. b || (word (SendingNumber r) ≤? k)) e

-- a change that leaves these words keeps it
pub chain_kept : (σ τ : State) (c : ℕ) → ((f : Field) → on_chain f ≡ true → τ f ≡ σ f) → Chain σ c → Chain τ c
chain_kept σ τ c h w =
    let live : τ (LiveCount c) ≡ σ (LiveCount c) = h (LiveCount c) refl in
    let own : τ (Incarnation c) ≡ σ (Incarnation c) = h (Incarnation c) refl in
    let numbers = numbers_kept τ σ (λ f e. h f (numbering_on f e)) in
    let count = numbers.used_same in
    let k = counts_same own live (numbers.number c) (chain_counts w) in
    record {
      named = k.named;
      incarnation_le = k.incarnation_le;
      live_pos = k.live_pos;
      live_le = k.live_le;
      numbers_le = k.numbers_le;
      first_flag = h (Flag c 0) refl ∙ w.first_flag;
      near = λ p l. subst Near (sym (vector_of_lem p)) (w.near p (omega arith));
      used_le = omega (arith, w.used_le);
      message_near = λ r l. subst Near (sym (message_of_lem r)) (w.message_near r l);
      unsent = λ r l u. h (SendingNumber r) refl ∙ w.unsent r l (omega arith);
    }
  where
    vector_of_lem : (p : ℕ) → place_vector τ c p ≡ place_vector σ c p
    vector_of_lem p =
        place_vector_of τ σ c p
        (λ owner l. (h (PairIncarnation c p owner) (le-leb (word (Flag c p)) (word (PairIncarnation c p owner)) (omega arith)), h (PairNumber c p owner) (le-leb (word (Flag c p)) (word (PairNumber c p owner)) (omega arith))))

    message_of_lem : (r : ℕ) → message_vector τ r ≡ message_vector σ r
    message_of_lem r =
        message_vector_of τ σ r
        (λ owner l. (h (MessagePairIncarnation r owner) (past r (word (MessagePairIncarnation r owner)) (omega arith)), h (MessagePairNumber r owner) (past r (word (MessagePairNumber r owner)) (omega arith))))
      where
        past : (r k : ℕ) → message_head ≤ k → (numbering (OfMessage r k) || (word (SendingNumber r) ≤? k)) ≡ true
        past r k l = ap (λ b. numbering (OfMessage r k) || b) (le-leb (word (SendingNumber r)) k (omega arith)) ∙ or-true (numbering (OfMessage r k))

-- one other word was put, or states of messages were
pub chain_put : (σ : State) (c : ℕ) (f : Field) (x : ℕ) → on_chain f ≡ false → Chain σ c → Chain (put σ f x) c
chain_put σ c f x n =
    chain_kept σ _ c (put_ind (λ g y. on_chain g ≡ true → y ≡ σ g) σ f x (λ e. absurd (true≢false (sym e ∙ n))) (λ g ne e. refl))

pub chain_states : (σ : State) (c : ℕ) (s : ℕ → ℕ) → Chain σ c → Chain (put_states σ s) c
chain_states σ c s =
    chain_kept σ _ c (states_ind (λ g y. on_chain g ≡ true → y ≡ σ g) σ s (λ r e. absurd (true≢false (sym e))) (λ g ne e. refl))

-- a hearer has noted a crash
pub chain_noted : (σ : State) (c hearer owner i : ℕ) → Chain σ c → Chain (noted σ hearer owner i) c
unfolding noted
chain_noted σ c hearer owner i w = chain_put _ c (Known hearer owner i) _ refl (chain_put σ c (End hearer owner i) _ refl w)

-- a table with the words of σ has it where σ has
pub chain_words_lem : (σ : State) (c : ℕ) {t : List ℕ} → t ≡ words σ → Chain σ c → Chain (state t) c
chain_words_lem σ c {t} q w =
    let e = agree_words σ q in
    let live = live_same (state t) σ e c w.named in
    let k = counts_words σ c q (chain_counts w) in
    record {
      named = k.named;
      incarnation_le = k.incarnation_le;
      live_pos = k.live_pos;
      live_le = k.live_le;
      numbers_le = k.numbers_le;
      first_flag = e (Flag c 0) (w.named, omega arith, omega arith) ∙ w.first_flag;
      near = λ p l. subst Near (sym (place_vector_same (state t) σ e c p w.named (omega (arith, w.live_le)))) (w.near p (omega arith));
      used_le = omega (arith, used_agree (state t) σ e, w.used_le);
      message_near = λ r l. subst Near (sym (message_vector_same (state t) σ e r l)) (w.message_near r l);
      unsent = λ r l u. e (SendingNumber r) (l, omega arith) ∙ w.unsent r l (omega (arith, used_agree (state t) σ e));
    }

-- what starting anew at c after its k-th interval counts on
pub record Starts (σ : State) (c k : ℕ) : Type 0 where
  pub chain : Chain σ c
  pub kept : 1 ≤ k
  pub room : Room house σ c k
  pub below : k ≤ σ (LiveCount c)
  pub left : σ (Incarnation c) < last_incarnation

-- then the start itself has its counts
pub counts_restarted : (σ : State) (c k : ℕ) → Starts σ c k → Counts (restarted σ c k) c
unfolding restarted entered put same
counts_restarted σ c k s =
    let i = σ (Incarnation c) + 1 in
    let own : restarted σ c k (Incarnation c) ≡ i = put_same (placed σ c k i (number_of σ c (k + 1)) (new_vector σ c k)) (Incarnation c) i in
    counts_next s.chain.named (omega (arith, s.left)) (live_restarted σ c k) ((numbers_restarted σ c k).number c (k + 1)) s.room

-- a change of words that it does not look at keeps what starting anew counts on
pub starts_kept : (σ τ : State) (c k : ℕ) → ((f : Field) → on_chain f ≡ true → τ f ≡ σ f) → Starts σ c k → Starts τ c k
starts_kept σ τ c k h s =
    let live : τ (LiveCount c) ≡ σ (LiveCount c) = h (LiveCount c) refl in
    let own : τ (Incarnation c) ≡ σ (Incarnation c) = h (Incarnation c) refl in
    record {
      chain = chain_kept σ τ c h s.chain;
      kept = s.kept;
      room = room_same ((numbers_kept τ σ (λ f e. h f (numbering_on f e))).number c (k + 1)) s.room;
      below = omega (arith, s.below);
      left = omega (arith, s.left);
    }

-- one other word was put, or states of messages were
pub starts_put : (σ : State) (c k : ℕ) (f : Field) (x : ℕ) → on_chain f ≡ false → Starts σ c k → Starts (put σ f x) c k
starts_put σ c k f x n =
    starts_kept σ _ c k (put_ind (λ g y. on_chain g ≡ true → y ≡ σ g) σ f x (λ e. absurd (true≢false (sym e ∙ n))) (λ g ne e. refl))

pub starts_states : (σ : State) (c k : ℕ) (s : ℕ → ℕ) → Starts σ c k → Starts (put_states σ s) c k
starts_states σ c k s =
    starts_kept σ _ c k (states_ind (λ g y. on_chain g ≡ true → y ≡ σ g) σ s (λ r e. absurd (true≢false (sym e))) (λ g ne e. refl))

-- a table with the words of σ has it where σ has
pub starts_words : (σ : State) (c k : ℕ) {t : List ℕ} → t ≡ words σ → Starts σ c k → Starts (state t) c k
starts_words σ c k {t} q s =
    let e = agree_words σ q in
    let live = live_same (state t) σ e c s.chain.named in
    let own = incarnation_same (state t) σ e c s.chain.named in
    record {
      chain = chain_words_lem σ c q s.chain;
      kept = s.kept;
      room = room_same (number_same (state t) σ e c (k + 1) s.chain.named) s.room;
      below = omega (arith, s.below);
      left = omega (arith, s.left);
    }

-- causes got their states; intervals were logged, if any
pub starts_causes : (σ : State) (c k j : ℕ) → Starts σ c k → Starts (causes σ c j) c k
unfolding causes causes_in
starts_causes σ c k j = starts_states σ c k _

pub starts_logged_to : (σ : State) (c k j : ℕ) → Starts σ c k → Starts (logged_to σ c j) c k
unfolding logged_to logged
starts_logged_to σ c k j s =
    cond_ind (λ τ. Starts τ c k) (σ (StableCount c) <? j)
    (λ e. starts_put _ c k (Known c c (σ (Incarnation c))) _ refl (starts_put σ c k (StableCount c) j refl s)) (λ e. s)

-- D: the message in record r, which its refusals let pass
pub record Taken (σ : State) (r : ℕ) : Type 0 where
  pub record_lt : r < messages
  pub receiver : Chain σ (σ (Receiver r))
  pub room : chain_full house σ (σ (Receiver r)) ≡ false → Room house σ (σ (Receiver r)) (σ (LiveCount (σ (Receiver r))))

-- a released message in use is one, on a state in form
pub taken_there : {σ : State} {r : ℕ} → Form house σ → MessageAllowed σ r state_released → Taken σ r
taken_there {σ} {r} f a =
    record { record_lt = omega (arith, f.used_le, a.record_used); receiver = chain_form σ _ f (released_lt f r a.record_used a.state_is); room = room_left house σ f house_fits _ _ }

pub taken : (t : List ℕ) (r : ℕ) → Lent t → 0 ≡ first_of (message_refusals (state t) r state_released) → Taken (state t) r
taken t r l e = taken_there (form house (state t) l.good) (message_allowed (state t) r state_released e)

-- R: the same; its receiver may be the desk
pub record Releasable (σ : State) (r : ℕ) : Type 0 where
  pub record_lt : r < messages
  pub sender_lt : σ (Sender r) < controllers
  pub near : Near (message_vector σ r)

pub releasable_there : {σ : State} {r : ℕ} → Form house σ → r < used σ → Releasable σ r
releasable_there {σ} {r} f l = let k = message_form f r l in record { record_lt = omega (arith, f.used_le); sender_lt = below_8 f _ k.sender_lt; near = k.vector.near }

pub releasable : (t g : List ℕ) (r : ℕ) → Lent t → 0 ≡ first_of (release_refusals house (state t) g r) → Releasable (state t) r
releasable t g r l e = releasable_there (form house (state t) l.good) (release_allowed house (state t) g r e).0.record_used
