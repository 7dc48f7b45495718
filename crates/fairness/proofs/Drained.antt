-- As many calls of the dispatcher as there are message records leave nothing that could be delivered: each call that serves somebody leaves one released
-- message fewer, and one that says idle changes nothing.
use Rattle.std.specs.Prelude.{◌≡◌, refl, Bool, true, false, cond, ◌&&◌, ◌≢◌, ◌⊎◌, replicate}
use Rattle.std.proofs.Math.Path.{sym}
use Rattle.std.proofs.Common.{ap, ◌∙◌, subst, true≢false, inl, inr, ⊎_elim, arith, ◌==◌}
use Rattle.std.proofs.Math.Bool.{not, and-false}
use mathlib.Core.List.{List, []}
use Prim.Native.Nat.{ℕ, zero, suc, ◌+◌, ◌≤◌, ◌<◌}
use borrow.Author.Tests.{eqb-true, eq-eqb, ne_eqb, lt-ltb, ltb-true}
use Rattle.base.specs.Choice.{◌<?◌, fails, and_left, and_right, le?}
use Rattle.base.specs.Ranges.{count, count_le}
use Rattle.table.specs.Field.{Field, State, OfMessage, Known, End, Served, MessageState, Receiver, same, word}
use Rattle.table.specs.Layout.{controllers, messages}
use Rattle.table.specs.Change.{put}
use Rattle.table.specs.Words.{state, words}
use Rattle.table.proofs.Words.{words_state, word_at}
use Rattle.table.specs.Numbering.{used, record_of, message_of}
use Rattle.table.proofs.Numbering.{record_of_message, numbers_put, numbers_trans, used_agree}
use Rattle.rules.specs.Limits.{house}
use Rattle.rules.specs.Refusal.{PLACES_USED_UP}
use Rattle.rules.specs.Form.{state_released, in_form}
use Rattle.rules.specs.Steps.{prospect, comes_of, deliver, step_deliver}
use Rattle.rules.specs.Step.{perform, step_on, step, dispatch, step_call}
use Rattle.rules.specs.Dispatch.{goes, has_message}
use Rattle.rules.specs.declared.Answer.TheVariants.{Refused}
use Rattle.rules.specs.declared.Command.TheVariants.{Deliver}
use Rattle.rules.specs.declared.Prospect.TheVariants.{NoPlaceLeft}
use Rattle.history.specs.Demand.{Run, next, runs}
use Rattle.history.specs.Fair.{IsReleased}
use Rattle.history.specs.Emptied.{drained, Drains}
use Rattle.laws.specs.Facts.{Form, form, house_fits, released_lt, below_8, message_near}
use Rattle.laws.specs.Records.{message_vector_of}
use Rattle.laws.specs.Agree.{message_vector_same}
use Rattle.laws.specs.Fixed.{Fixed, fixed_step, numbers_fixed}
use Rattle.laws.specs.Answering.{Lent}
use Rattle.keeping.proofs.Changes.{kept_served}
use Rattle.keeping.proofs.Steps.{form_kept}
use Rattle.keeping.proofs.Kept.{lent_words}
use Rattle.laws.specs.Dispatching.{Servable, has_one, record_lt, NobodyHas, Takes, serving, dispatched_cases, let_through}
use Rattle.keeping.proofs.Dispatch.{deliver_is, dispatch_is}
use Rattle.calls.specs.Would.{would_not}
use Rattle.fairness.specs.Fair.{passes_over}
use Rattle.fairness.specs.Settling.{Unhindered, leaves, deliver_leaves, deliver_settles, full_if_passed, unhindered_kept}

-- COUNTING
-- one that passes the second test alone makes a difference
count_less : (n : ℕ) (f g : ℕ → Bool) (q : ℕ) → ((a : ℕ) → f a ≡ true → g a ≡ true) → q < n → f q ≡ false → g q ≡ true → count n f < count n g
unfolding count
count_less zero f g q h l misses hits = absurd (omega arith)
count_less (suc n) f g q h l misses hits =
    le? (suc q) n
    (λ p. let rest = count_less n f g q h p misses hits in
    let one = at_most (f n) (g n) (h n) in
    omega arith)
    (λ p. let z : q ≡ n = omega arith in
    let rest = count_le n f g h in
    let none : f n ≡ false = ap f (sym z) ∙ misses in
    let one : g n ≡ true = ap g (sym z) ∙ hits in
    rw (none, one) (omega (arith, rest)))
  where
    at_most : (b c : Bool) → (b ≡ true → c ≡ true) → cond b 1 0 ≤ cond c 1 0
    at_most true true i = omega arith
    at_most true false i = absurd (true≢false (sym (i refl)))
    at_most false true i = omega arith
    at_most false false i = omega arith

count_most : (n : ℕ) (f : ℕ → Bool) → count n f ≤ n
unfolding count
count_most zero f = omega arith
count_most (suc n) f = let rest = count_most n f in go (f n) rest
  where
    go : (b : Bool) → count n f ≤ n → cond b 1 0 + count n f ≤ suc n
    go true h = omega arith
    go false h = omega arith

-- the released messages of a table
abbrev is_released : State → ℕ → Bool
is_released σ k = (k <? used σ) && (σ (MessageState k) == state_released)

unfoldable left : State → ℕ
left σ = count messages (is_released σ)

is_released_lem : (σ : State) (k : ℕ) → k < used σ → σ (MessageState k) ≡ state_released → is_released σ k ≡ true
is_released_lem σ k l e = rw (lt-ltb k (used σ) l, eq-eqb (σ (MessageState k)) state_released e)

-- one is left, if one is there
left_some : (σ : State) (k : ℕ) → Form house σ → k < used σ → σ (MessageState k) ≡ state_released → 1 ≤ left σ
unfolding left
left_some σ k f l e =
    omega (arith, count_less messages (λ _. false) (is_released σ) k (λ a z. absurd (true≢false (sym z))) (omega (arith, f.used_le)) refl (is_released_lem σ k l e))

-- ONE CALL
-- what a call that serves somebody leaves: a table in form, a released message fewer, and none that is hindered and wasn't
record Onward (t u : List ℕ) : Type 0 where
  somebody : NobodyHas house (state t) → ⊥
  table : Lent u
  fewer : left (state u) < left (state t)
  released_then : (k : ℕ) → k < used (state u) → state u (MessageState k) ≡ state_released → (k < used (state t)) × (state t (MessageState k) ≡ state_released)
  free_then : (k : ℕ) → k < used (state u) → state u (MessageState k) ≡ state_released → Unhindered (state t) k → Unhindered (state u) k

module _ (t : List ℕ) (table : Lent t) (c q : ℕ) (w : Takes house (state t) c q) where
  abbrev σ : State
  σ = state t

  abbrev m : ℕ
  m = message_of σ q

  abbrev ρ : State
  ρ = (serving house σ c q).left

  abbrev τ : State
  τ = state (words ρ)

  f : Form house σ
  f = form house σ table.good

  back : record_of σ m ≡ q
  back = record_of_message σ q w.it.here

  -- the words that the delivery leaves
  word_left : (g : Field) → leaves q g ≡ true → (step_deliver house σ m).left g ≡ σ g
  word_left g is = deliver_leaves house σ m g (ap (λ k. leaves k g) back ∙ is)

  form_left : in_form house (step_deliver house σ m).left ≡ true
  unfolding step_on perform
  form_left = rw table.good at (form_kept house house_fits σ [] (Deliver m) table.good)

  good : in_form house ρ ≡ true
  good = kept_served house _ c (let l = released_lt f q w.it.here w.it.is_released_lem in let e = w.it.for in omega (arith, l, e, f.size_le)) form_left

  used_left : used τ ≡ used σ
  unfolding step_on perform
  used_left =
      let fixed : (g : Field) → Fixed σ g ((step_deliver house σ m).left g) = rw table.good at (fixed_step house σ [] (Deliver m) refl) in
      used_agree τ ρ (word_at ρ)
      ∙ (numbers_trans ρ _ σ (numbers_put _ Served c refl) (numbers_fixed σ _ fixed)).used_same

  -- a message that is released then is another, and was released
  state_left : (k : ℕ) → k < used τ → τ (MessageState k) ≡ state_released → (k ≢ q) × (σ (MessageState k) ≡ state_released)
  unfolding put same
  state_left k l e =
      let is : (step_deliver house σ m).left (MessageState k) ≡ state_released = sym (word_at ρ (MessageState k) (omega (arith, used_left, f.used_le), omega arith)) ∙ e in
      let other : k ≢ q = λ z. deliver_settles house σ m (subst (Servable house σ c) (sym back) w.it) (ap (λ j. (step_deliver house σ m).left (MessageState j)) (back ∙ sym z) ∙ is) in
      (other, sym (word_left (MessageState k) (ap not (ne_eqb k q other))) ∙ is)

  -- one fewer
  fewer_left : left τ < left σ
  unfolding left
  fewer_left =
      count_less messages (is_released τ) (is_released σ) q
      (λ k e. let l = ltb-true k (used τ) (and_left (k <? used τ) _ e) in
      is_released_lem σ k (omega (arith, l, used_left)) (state_left k l (eqb-true _ _ (and_right (k <? used τ) _ e))).1)
      (record_lt table.good w.it)
      (fails _ (λ e. (state_left q (ltb-true q (used τ) (and_left (q <? used τ) _ e)) (eqb-true _ _ (and_right (q <? used τ) _ e))).0 refl))
      (is_released_lem σ q w.it.here w.it.is_released_lem)

  -- it is hindered by nothing that didn't hinder it
  free_left : (k : ℕ) → k < used τ → k ≢ q → σ (MessageState k) ≡ state_released → Unhindered σ k → Unhindered τ k
  unfolding put same
  free_left k l other e =
      let u : k < used σ = omega (arith, l, used_left) in
      let kl : k < messages = omega (arith, u, f.used_le) in
      let c : ℕ = σ (Receiver k) in
      let cl : c < controllers = below_8 f c (released_lt f k u e) in
      let of_record : (j : ℕ) → (step_deliver house σ m).left (OfMessage k j) ≡ σ (OfMessage k j) = λ j. word_left (OfMessage k j) (rw (ne_eqb k q other) (ap not (and-false (j == 0)))) in
      unhindered_kept σ τ k (word_at ρ (Receiver k) (kl, omega arith) ∙ of_record (word (Receiver k)))
      (message_vector_same τ ρ (word_at ρ) k kl ∙ message_vector_of ρ σ k (λ owner _. (of_record _, of_record _)))
      (λ owner i ol ne il. word_at ρ (Known c owner i) (cl, ol, il) ∙ word_left (Known c owner i) (ap not (ne_eqb c owner (λ z. ne (sym z)))))
      (λ owner i ol il. word_at ρ (End c owner i) (cl, ol, il) ∙ word_left (End c owner i) refl) (message_near f k kl)

  onward : Onward t (words ρ)
  onward =
      record {
        somebody = λ nobody. true≢false (sym (ap (has_message house σ) w.whose ∙ has_one house σ c q (record_lt table.good w.it) w.it) ∙ nobody w.place w.short);
        table = lent_words ρ good;
        fewer = fewer_left;
        released_then = λ k l e. (omega (arith, l, used_left), (state_left k l e).1);
        free_then = λ k l e. let s = state_left k l e in free_left k l s.0 s.1;
      }

-- a call says idle, and leaves the table as it is, or serves somebody
call_on : (t g : List ℕ) → Lent t → (NobodyHas house (state t) × ((step_call t g dispatch).table ≡ t)) ⊎ Onward t (step_call t g dispatch).table
call_on t g table =
    subst (λ o. (NobodyHas house (state t) × (o.table ≡ t)) ⊎ Onward t o.table) (sym (dispatch_is t g table))
    (dispatched_cases house (state t) (λ o. (NobodyHas house (state t) × (words o.left ≡ t)) ⊎ Onward t (words o.left)) (λ c q w. inr (onward t table c q w))
    (λ nobody. inl (nobody, sym (words_state t table.long))))

-- MANY CALLS
-- none does anything where nobody has a message
idle_stays : (n : ℕ) (r : Run) → Lent r.table → NobodyHas house (state r.table) → (runs r (replicate n dispatch)).table ≡ r.table
unfolding runs next
idle_stays zero r table nobody = refl
idle_stays (suc n) r table nobody =
    let q = next dispatch r in
    let same : q.table ≡ r.table = ⊎_elim (λ h. h.1) (λ h. absurd (h.somebody nobody)) (call_on r.table r.ledger table) in
    idle_stays n q (subst Lent (sym same) table) (subst (λ t. NobodyHas house (state t)) (sym same) nobody) ∙ same

-- where n calls lead: to a table in form, and nobody has a message that the dispatcher may take, or n messages fewer are released
record Led (n : ℕ) (t u : List ℕ) : Type 0 where
  table : Lent u
  far : NobodyHas house (state u) ⊎ (left (state u) + n ≤ left (state t))
  released_then : (k : ℕ) → k < used (state u) → state u (MessageState k) ≡ state_released → (k < used (state t)) × (state t (MessageState k) ≡ state_released)
  free_then : (k : ℕ) → k < used (state u) → state u (MessageState k) ≡ state_released → Unhindered (state t) k → Unhindered (state u) k

led : (n : ℕ) (r : Run) → Lent r.table → Led n r.table (runs r (replicate n dispatch)).table
unfolding runs next
led zero r table = record { table = table; far = inr (omega arith); released_then = λ k l e. (l, e); free_then = λ k l e h. h }
led (suc n) r table =
    ⊎_elim
    (λ h. subst (Led (suc n) r.table) (sym (idle_stays (suc n) r table h.0))
    (record { table = table; far = inl h.0; released_then = λ k l e. (l, e); free_then = λ k l e h. h }))
    (λ h. let then = led n (next dispatch r) h.table in
    record {
      table = then.table;
      far = ⊎_elim (λ nobody. inl nobody) (λ few. inr (omega (arith, few, h.fewer))) then.far;
      released_then = λ k l e. let was = then.released_then k l e in h.released_then k was.0 was.1;
      free_then = λ k l e free. let was = then.released_then k l e in then.free_then k l e (h.free_then k was.0 was.1 free);
    })
    (call_on r.table r.ledger table)

-- THE THEOREMS
-- as many calls as there are records leave none that the dispatcher may take
drained_over : (r : Run) → Lent r.table → (m : ℕ) → IsReleased (drained r) m →
    let σ = state (drained r).table in goes (prospect house σ (record_of σ m)) ≡ false
unfolding left
drained_over r table m is =
    let q = drained r in
    let then = led messages r table in
    ⊎_elim (λ nobody. passes_over q then.table nobody m is)
    (λ few. absurd (omega (arith, few, count_most messages (is_released (state r.table)), left_some (state q.table) (record_of (state q.table) m) (form house _ then.table.good) is.there is.released)))
    then.far

pub drains : Drains
drains r long good m is =
    let table : Lent r.table = record { long = long; good = good } in
    would_not (drained r).table (drained r).ledger m (led messages r table).table is.there is.released (drained_over r table m is)

-- and, where none could wait, only those whose receiver has no place left
full : (t g : List ℕ) (m : ℕ) → Lent t → let σ = state t in record_of σ m < used σ → σ (MessageState (record_of σ m)) ≡ state_released →
    prospect house σ (record_of σ m) ≡ NoPlaceLeft → (step t g (Deliver m)).answer ≡ Refused PLACES_USED_UP
unfolding deliver comes_of
full t g m table l e z = rw (deliver_is t g m table, let_through house (state t) m l e, z)

pub drains_all : (r : Run) → Lent r.table → ((m : ℕ) → IsReleased r m → Unhindered (state r.table) (record_of (state r.table) m)) → (m : ℕ) → IsReleased (drained r) m →
    (step (drained r).table (drained r).ledger (Deliver m)).answer ≡ Refused PLACES_USED_UP
drains_all r table free m is =
    let q = drained r in
    let σ = state r.table in
    let k = record_of (state q.table) m in
    let then = led messages r table in
    let was = then.released_then k is.there is.released in
    let back = record_of_message σ k was.0 in
    let at_first : Unhindered σ k = subst (Unhindered σ) back (free (message_of σ k)
    (record { there = subst (λ j. j < used σ) (sym back) was.0; released = ap (λ j. σ (MessageState j)) back ∙ was.1 })) in
    full q.table q.ledger m then.table is.there is.released
    (full_if_passed house (state q.table) k (then.free_then k is.there is.released at_first) (drained_over r table m is))
