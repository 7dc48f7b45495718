-- The walk along the message records that drops held messages.
use Rattle.std.specs.Prelude.{◌≡◌, refl, Bool, true, false, cond, List, ◌≢◌, ℕ, ◌+◌, ◌≤◌, ◌<◌, length}
use Rattle.std.proofs.Common.{sym, ap, ◌∙◌, arith, lt-ltb, le-ltb}
use Rattle.std.proofs.Math.Bool.{and-false}
use Rattle.base.specs.Choice.{◌<?◌, le?}
use Rattle.table.specs.Field.{State, MessageState, SendingNumber}
use Rattle.table.specs.Change.{put, put_states}
use Rattle.table.specs.Layout.{messages, table_words}
use Rattle.table.specs.Words.{state, words}
use Rattle.table.proofs.Words.{words_state, words_same, agree_trans, agree_put, agree_words, agree_states, states_kept, states_more, put_again}
use Rattle.table.specs.Numbering.{number_of, used}
use Rattle.rules.specs.Form.{state_dropped}
use Rattle.rules.specs.Shared.{orphaned, held_or_dropped, drop_held}
use Rattle.laws.specs.Agree.{held_or_dropped_same}
use Rattle.laws.specs.Chain.{Unsent}

-- what going along the records in use counts on
pub record Sent (σ : State) : Type 0 where
  pub used_le : used σ ≤ messages
  pub unsent : Unsent σ

-- record r is orphaned, and is dropped ..
pub drop_write : (t u : List ℕ) (c x r : ℕ) (b : Bool) → b ≡ orphaned (state t) c x r → b ≡ true → u ≡ words (put (state t) (MessageState r) state_dropped) →
    u ≡ words (put (state t) (MessageState r) (held_or_dropped (state t) c x r))
unfolding held_or_dropped
drop_write t u c x r b e h q = rw (← e, h) q

-- .. or it isn't, and keeps its state
pub drop_keep : (t : List ℕ) (c x r : ℕ) (b : Bool) → length t ≡ table_words → b ≡ orphaned (state t) c x r → b ≡ false →
    t ≡ words (put (state t) (MessageState r) (held_or_dropped (state t) c x r))
unfolding held_or_dropped
drop_keep t c x r b l e h = rw (← e, h) (words_state t l ∙ words_same _ _ (put_again (state t) (MessageState r) _ refl))

-- the words once the records below i were looked at
unfoldable pub dropped_to : State → ℕ → ℕ → ℕ → State
dropped_to σ c x i = put_states σ (λ (r : ℕ). cond (r <? i) (held_or_dropped σ c x r) (σ (MessageState r)))

pub drop_none : (t : List ℕ) (c x : ℕ) → length t ≡ table_words → t ≡ words (dropped_to (state t) c x 0)
unfolding dropped_to
drop_none t c x l = words_state t l ∙ words_same _ _ (states_kept (state t) _ (λ r. rw (le-ltb r 0 (omega arith))))

-- record i is then as it was
untouched : (σ : State) (c x i : ℕ) → held_or_dropped (dropped_to σ c x i) c x i ≡ held_or_dropped σ c x i
unfolding dropped_to held_or_dropped put_states
untouched σ c x i = rw (le-ltb i i (omega arith))

pub drop_more : (t u : List ℕ) (σ : State) (c x n i : ℕ) → t ≡ words (dropped_to σ c x i) → i < n → n ≤ messages →
    u ≡ words (put (state t) (MessageState i) (held_or_dropped (state t) c x i)) → u ≡ words (dropped_to σ c x (i + 1))
unfolding dropped_to
drop_more t u σ c x n i e l m q =
    let h = agree_words (dropped_to σ c x i) e in
    let y = held_or_dropped_same (state t) (dropped_to σ c x i) h c i (omega arith) refl ∙ untouched σ c x i in
    q ∙ ap (λ y. words (put (state t) (MessageState i) y)) y ∙ words_same _ _ (agree_trans _ _ _ (agree_put _ _ (MessageState i) (held_or_dropped σ c x i) h)
    (states_more σ _ _ i _ (rw (lt-ltb i (i + 1) (omega arith))) others))
  where
    others : (r : ℕ) → r ≢ i → cond (r <? i) (held_or_dropped σ c x r) (σ (MessageState r)) ≡ cond (r <? i + 1) (held_or_dropped σ c x r) (σ (MessageState r))
    others r ne = le? (r + 1) i (λ l. rw (lt-ltb r i (omega arith), lt-ltb r (i + 1) (omega arith))) (λ l. rw (le-ltb r i (omega arith), le-ltb r (i + 1) (omega arith)))

-- in a record that is not in use no message is held
unsent_kept : (σ : State) (c x r : ℕ) → σ (SendingNumber r) ≡ 0 → held_or_dropped σ c x r ≡ σ (MessageState r)
unfolding held_or_dropped
unsent_kept σ c x r z = simp (z, le-ltb x 0 (omega arith), and-false)

pub drop_all : (u : List ℕ) (σ : State) (c k x n i : ℕ) → u ≡ words (dropped_to σ c x i) → x ≡ number_of σ c k → n ≡ used σ → n ≤ i → Sent σ → u ≡ words (drop_held σ c k)
unfolding dropped_to drop_held
drop_all u σ c k x n i e q ne l s = e ∙ words_same _ _ (agree_states σ σ _ _ looked (λ f v. refl))
  where
    looked : (r : ℕ) → r < messages → cond (r <? i) (held_or_dropped σ c x r) (σ (MessageState r)) ≡ held_or_dropped σ c (number_of σ c k) r
    looked r m =
        le? (r + 1) i (λ y. rw (lt-ltb r i (omega arith)) (ap (λ x. held_or_dropped σ c x r) q))
        (λ y. rw (le-ltb r i (omega arith)) (sym (unsent_kept σ c (number_of σ c k) r (s.unsent r m (omega arith)))))
