-- The dispatcher is fair, and leaves nothing when it is idle: the statements are in crate `history`, and hold of every run, whatever its table. A
-- controller with a message has a place in the round. Each call serves it or brings it nearer, and no other call moves it.
use Rattle.std.specs.Prelude.{◌≡◌, refl, true, false, List, [], ◌∷◌, ◌++◌, ◌≢◌, ◌⊎◌, ℕ, ◌+◌, ◌-◌, ◌%◌, ◌≤◌, ◌<◌}
use Rattle.std.proofs.Common.{sym, ap₂, ◌∙◌, subst, true≢false, inl, inr, ⊎_elim, arith}
use Rattle.std.proofs.Math.Path.{ap}
use Rattle.base.specs.Choice.{fails, le?}
use Rattle.table.specs.Field.{State, Size, Served, Receiver, same}
use Rattle.table.specs.Change.{put, put_same}
use Rattle.table.specs.Words.{state}
use Rattle.table.proofs.Words.{word_at}
use Rattle.table.specs.Numbering.{record_of, message_of}
use Rattle.table.proofs.Numbering.{record_of_message}
use Rattle.rules.specs.Limits.{house}
use Rattle.rules.specs.Form.{in_form}
use Rattle.rules.specs.Steps.{prospect, step_deliver}
use Rattle.rules.specs.Step.{perform, step_on, step_call, Call, asks, release_set, dispatch}
use Rattle.rules.specs.Dispatch.{goes, has_message, turn, dispatched}
use Rattle.rules.specs.declared.Answer.TheVariants.{Done}
use Rattle.rules.specs.declared.Command.TheVariants.{Deliver}
use Rattle.history.specs.Demand.{Run, step_in, next, runs, NoOpening}
use Rattle.history.specs.Fair.{size_in, DeliveredOrDropped, Has, Serves, dispatches, ServedIn, Fair, IsReleased, IdleLeavesNothing}
use Rattle.laws.specs.Facts.{form, released_lt}
use Rattle.laws.specs.Fixed.{fixed_step}
use Rattle.laws.specs.Answering.{Lent}
use Rattle.laws.specs.Round.{turn_of, nearer}
use Rattle.fairness.specs.Leaves.{SameRound, step_leaves, set_leaves}
use Rattle.laws.specs.Dispatching.{Servable, record_lt, has_one, NobodyHas, Takes, serving, dispatched_cases}
use Rattle.keeping.proofs.Dispatch.{dispatch_is}
use Rattle.calls.specs.Would.{taken_goes, would, would_not, idle_nobody}

-- a call of D leaves the number of controllers
deliver_size : (σ : State) (m : ℕ) → in_form house σ ≡ true → (step_deliver house σ m).left Size ≡ σ Size
unfolding step_on perform
deliver_size σ m good = rw good at (fixed_step house σ [] (Deliver m) refl Size refl)

-- ONE CALL
-- c is nearer on the state that a call leaves
record Nearer (n c j : ℕ) (τ : State) : Type 0 where
  place : ℕ
  less : place < j
  size : τ Size ≡ n
  whose : turn τ place ≡ c

-- where c has a message and is the j-th of the round, a call serves it or brings it nearer
served_or_nearer : (σ : State) (c r j : ℕ) → in_form house σ ≡ true → Servable house σ c r → turn σ j ≡ c → j < σ Size →
    ((m : ℕ) × (σ (Receiver (record_of σ m)) ≡ c) × DeliveredOrDropped m (dispatched house σ).answer) ⊎ Nearer (σ Size) c j (dispatched house σ).left
unfolding turn put same
served_or_nearer σ c r j good s at short =
    dispatched_cases house σ (λ o. ((m : ℕ) × (σ (Receiver (record_of σ m)) ≡ c) × DeliveredOrDropped m o.answer) ⊎ Nearer (σ Size) c j o.left)
    (λ d q w. le? j w.place (λ l. inl (here d q w l)) (λ l. inr (there d q w l)))
    (λ nobody. absurd (true≢false (sym has ∙ ap (has_message house σ) (sym at) ∙ nobody j short)))
  where
    has : has_message house σ c ≡ true
    has = has_one house σ c r (record_lt good s) s

    here : (d q : ℕ) (w : Takes house σ d q) → j ≤ w.place →
        (m : ℕ) × (σ (Receiver (record_of σ m)) ≡ c) × DeliveredOrDropped m (serving house σ d q).answer
    here d q w l =
        le? w.place j
        (λ u. let z : w.place ≡ j = omega arith in
        let mine : d ≡ c = sym w.whose ∙ ap (turn σ) z ∙ at in
        (message_of σ q, ap (λ k. σ (Receiver k)) (record_of_message σ q w.it.here) ∙ w.it.for ∙ mine, taken_goes house σ w.it))
        (λ u. absurd (true≢false (sym has ∙ ap (has_message house σ) (sym at) ∙ w.first_has j u)))

    there : (d q : ℕ) (w : Takes house σ d q) → w.place < j → Nearer (σ Size) c j (serving house σ d q).left
    there d q w l =
        let τ = (step_deliver house σ (message_of σ q)).left in
        let size : τ Size ≡ σ Size = deliver_size σ (message_of σ q) good in
        let i = w.place in
        record {
          place = j - i - 1;
          less = omega arith;
          size = size;
          whose =
              ap₂ (λ x n. (x + 1 + (j - i - 1)) % n) (put_same τ Served d ∙ sym w.whose) size ∙ nearer (σ Served + 1) (σ Size) i j l ∙ at;
        }

-- the same in a run
call_for : (r : Run) (c j : ℕ) → Has r c → turn (state r.table) j ≡ c → j < size_in r → Serves r c ⊎ Nearer (size_in r) c j (state (next dispatch r).table)
unfolding next turn
call_for r c j has at short =
    let σ = state r.table in
    let o = dispatched house σ in
    let w = would r.table r.ledger has.message has.would in
    let is = dispatch_is r.table r.ledger w.table in
    let s = subst (λ d. Servable house σ d (record_of σ has.message)) has.for w.it in
    ⊎_elim (λ h. inl (record { message = h.0; for = h.1; does = subst (λ o. DeliveredOrDropped h.0 o.answer) (sym is) h.2 }))
    (λ h. let size = word_at o.left Size (omega arith) in
    let served = word_at o.left Served (omega arith) in
    inr (subst (λ o. Nearer (size_in r) c j (state o.table)) (sym is)
    (record { place = h.place; less = h.less; size = size ∙ h.size; whose = ap₂ (λ x n. (x + 1 + h.place) % n) served size ∙ h.whose })))
    (served_or_nearer σ c _ j w.table.good s at short)

-- LISTS OF CALLS
-- c has a message at each call of the dispatcher in a list
abbrev HasAtEach : Run → List Call → ℕ → Type 0
HasAtEach r l c = (before after : List Call) → l ≡ before ++ dispatch ∷ after → Has (runs r before) c

-- after the first call of a list the rest of it is like the whole
module _ (r : Run) (x : Call) (l : List Call) where
  no_opening_later : NoOpening r (x ∷ l) → NoOpening (next x r) l
  unfolding runs
  no_opening_later unopened before after size degree e = unopened (x ∷ before) after size degree (ap (λ l. x ∷ l) e)

  has_later : (c : ℕ) → HasAtEach r (x ∷ l) c → HasAtEach (next x r) l c
  unfolding runs
  has_later c has before after e = has (x ∷ before) after (ap (λ l. x ∷ l) e)

  served_later : {c : ℕ} → ServedIn (next x r) l c → ServedIn r (x ∷ l) c
  unfolding runs
  served_later s = record { before = x ∷ s.before; after = s.after; here = ap (λ l. x ∷ l) s.here; serves = s.serves }

-- a call that leaves where the round begins leaves the places in it
same_turn : (r q : Run) (j : ℕ) → SameRound r.table q.table → turn (state q.table) j ≡ turn (state r.table) j
unfolding turn
same_turn r q j k = ap₂ (λ s n. (s + 1 + j) % n) k.served k.size

-- where c is the j-th of the round, it is served in one of the next j + 1 calls
served_by : (l : List Call) (r : Run) (c j : ℕ) → NoOpening r l → turn (state r.table) j ≡ c → j < size_in r → j < dispatches l → HasAtEach r l c → ServedIn r l c
unfolding runs dispatches next step_call
served_by [] r c j unopened at short h has = absurd (omega arith)
served_by (asks x ∷ l) r c j unopened at short h has =
    let q = next (asks x) r in
    let k = step_leaves r.table r.ledger x (λ n d e. subst (λ y. (step_in r y).answer ≢ Done) (sym e) (unopened [] l n d (ap (λ y. asks y ∷ l) e))) in
    served_later r (asks x) l
    (served_by l q c j (no_opening_later r (asks x) l unopened) (same_turn r q j k ∙ at) (omega (arith, k.size)) h (has_later r (asks x) l c has))
served_by (release_set messages ∷ l) r c j unopened at short h has =
    let q = next (release_set messages) r in
    let k = set_leaves r.table r.ledger messages in
    served_later r (release_set messages) l
    (served_by l q c j (no_opening_later r (release_set messages) l unopened) (same_turn r q j k ∙ at) (omega (arith, k.size)) h (has_later r (release_set messages) l c has))
served_by (dispatch ∷ l) r c j unopened at short h has =
    ⊎_elim (λ s. record { before = []; after = l; here = refl; serves = s })
    (λ k. served_later r dispatch l
    (served_by l (next dispatch r) c k.place (no_opening_later r dispatch l unopened) k.whose (omega (arith, k.less, k.size)) (omega (arith, k.less)) (has_later r dispatch l c has)))
    (call_for r c j (has [] l refl) at short)

pub fair : Fair
unfolding turn
fair r l c unopened below enough has =
    let σ = state r.table in
    let (i, p) = turn_of (σ Served + 1) (σ Size) c below in
    served_by l r c i unopened p.meets p.below (omega (arith, p.below)) has

-- IDLE
-- where nobody has a message that the dispatcher may take, it passes over all that are released
pub passes_over : (r : Run) → Lent r.table → NobodyHas house (state r.table) → (m : ℕ) → IsReleased r m →
    goes (prospect house (state r.table) (record_of (state r.table) m)) ≡ false
unfolding turn has_message
passes_over r table nobody m is =
    let σ = state r.table in
    let q = record_of σ m in
    let c = σ (Receiver q) in
    let (i, p) = turn_of (σ Served + 1) (σ Size) c (released_lt (form house σ table.good) q is.there is.released) in
    let none : has_message house σ c ≡ false = ap (has_message house σ) (sym p.meets) ∙ nobody i p.below in
    fails (goes (prospect house σ q))
    (λ will. let s : Servable house σ c q = record { here = is.there; is_released_lem = is.released; for = refl; will = will } in
    true≢false (sym (has_one house σ c q (record_lt table.good s) s) ∙ none))

pub idle_leaves_nothing : IdleLeavesNothing
idle_leaves_nothing r e m is =
    let (table, nobody) = idle_nobody r.table r.ledger e in
    would_not r.table r.ledger m table is.there is.released (passes_over r table nobody m is)
