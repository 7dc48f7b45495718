-- n calls are needed. In a house of two just opened controller 0 sends a message to controller 1, and controller 1 one to controller 0; both are released.
-- The round begins at controller 0, so that one call of the dispatcher doesn't serve controller 1, which has a message; two calls do.
use Rattle.std.proofs.Math.Path.{◌≡◌, refl, sym, ap, ap₂, subst}
use Rattle.std.proofs.Common.{◌∙◌}
use Rattle.std.specs.Prelude.{true, ℕ, ◌+◌, ◌-◌, ◌%◌, ◌≤◌, ◌<◌, set}
use mathlib.Core.List.{List, [], ◌∷◌, ◌++◌}
use native.Mathlib.Omega.{arith}
use Rattle.std.proofs.Math.ListN.{length, length-append}
use borrow.Author.Tests.{eq-eqb}
use Rattle.base.specs.Choice.{le?}
use Rattle.base.specs.Lists.{tab}
use Rattle.base.specs.Cases.{first_of}
use Rattle.table.specs.Field.{State, OfMessage, OfPlace, Size, SentCount, Served, LiveCount, MessageState, Receiver, message_head}
use Rattle.table.specs.Change.{blank, put, put_part}
use Rattle.table.specs.Layout.{controllers, table_words, position}
use Rattle.table.specs.Words.{state, words}
use Rattle.table.proofs.Words.{length_words, words_put, agree_words}
use Rattle.table.specs.Numbering.{record_of}
use Rattle.table.proofs.Numbering.{record_agree, present_pos}
use Rattle.rules.specs.Limits.{house, last_served}
use Rattle.rules.specs.Vector.{Vector, pair, no_pair, flat}
use Rattle.rules.specs.Form.{state_held, state_released, state_delivered, in_form}
use Rattle.rules.specs.Ledger.{ledger_words, blank_ledger}
use Rattle.rules.specs.Shared.{place_record}
use Rattle.rules.specs.Steps.{after_both, refusing_both, open_house, step_open, message_record}
use Rattle.rules.specs.Step.{out_both, written_both, looks_at_form, perform, step_on, lent, step, Call, asks, dispatch, step_call}
use Rattle.rules.specs.declared.Answer.{Answer}
use Rattle.rules.specs.declared.Answer.TheVariants.{Done, Sent, Released, Delivered}
use Rattle.rules.specs.declared.Command.{Command}
use Rattle.rules.specs.declared.Command.TheVariants.{Open, Send, Release, Deliver}
use Rattle.history.specs.Demand.{Run, call_in, step_in, next, runs, just_opened, NoOpening}
use Rattle.history.specs.Fair.{size_in, receiver_in, DeliveredOrDropped, delivered, dropped, Has, Serves, dispatches, ServedIn, FairIn, turn_in}
use Rattle.laws.specs.Facts.{form, house_fits}
use Rattle.laws.specs.Ledger.{ledger_form}
use Rattle.keeping.proofs.Changes.{kept_served}
use Rattle.keeping.proofs.Opening.{form_open}
use Rattle.keeping.proofs.Steps.{form_kept}
use Rattle.keeping.proofs.StepSame.{step_words_lem}
use Rattle.listing.specs.Run.{steps, release_of, by_message, blank_ok}
use Rattle.fairness.specs.Fair.{fair}
use Rattle.fairness.specs.InTurn.{servable_in, serves_in_turn, serves_first}

-- THE STATES, each with the words that the next step writes
abbrev none : Vector
none = tab controllers (λ (_ : ℕ). no_pair)

abbrev ledger : List ℕ
ledger = blank_ledger house

abbrev opened : State
opened = open_house 2 2

abbrev one_sent : State
one_sent = put (put_part opened (OfMessage 0 0) 0 (message_record state_held 0 1 0 1 7 none)) SentCount 1

abbrev both_sent : State
both_sent = put (put_part one_sent (OfMessage 1 0) 0 (message_record state_held 1 0 0 1 9 none)) SentCount 2

abbrev one_released : State
one_released = put (put_part both_sent (OfMessage 0 0) message_head (flat none)) (MessageState 0) state_released

abbrev both_released : State
both_released = put (put_part one_released (OfMessage 1 0) message_head (flat none)) (MessageState 1) state_released

abbrev one_delivered : State
one_delivered = put (put (put_part both_released (OfPlace 0 1 0) 0 (place_record 0 2 2 0 (set none 0 (pair 0 2)))) (LiveCount 0) 2) (MessageState 1) state_delivered

-- what the steps do on them
record Computed : Type 0 where
  sends : perform house opened ledger (Send 0 1 7) ≡ after_both (Sent 1) one_sent ledger
  sends_too : perform house one_sent ledger (Send 1 0 9) ≡ after_both (Sent 2) both_sent ledger
  releases : release_of both_sent ledger 1 ≡ after_both (Released 1 0) one_released ledger
  releases_too : release_of one_released ledger 2 ≡ after_both (Released 2 0) both_released ledger
  delivers : perform house both_released ledger (Deliver 2) ≡ after_both (Delivered 2 0 2) one_delivered ledger
  would : (perform house both_released ledger (Deliver 1)).answer ≡ Delivered 1 0 2
  would_still : (perform house (put one_delivered Served 0) ledger (Deliver 1)).answer ≡ Delivered 1 0 2

computed : Computed
unfolding steps
computed = record { sends = refl; sends_too = refl; releases = refl; releases_too = refl; delivers = refl; would = refl; would_still = refl }

-- ON TABLES OF WORDS
-- a run that stands at one of these states
record At (r : Run) (σ : State) : Type 0 where
  table_is : r.table ≡ words σ
  ledger_is : r.ledger ≡ ledger
  good : in_form house σ ≡ true

module _ {r : Run} {σ : State} (at : At r σ) where
  -- it has the words of that state
  size_at : size_in r ≡ σ Size
  size_at = agree_words σ at.table_is Size (omega arith)

  receiver_at : (m : ℕ) → record_of σ m < house.messages → receiver_in r m ≡ σ (Receiver (record_of σ m))
  receiver_at m l =
      let e = agree_words σ at.table_is in
      let q = sym (record_agree σ (state r.table) (λ f v. sym (e f v)) m (form house σ at.good).used_le) in
      ap (λ k. state r.table (Receiver k)) q ∙ e (Receiver (record_of σ m)) (l, omega arith)

  -- a step that looks at the form does what it does on the state
  step_at : (x : Command) → looks_at_form x ≡ true → step_in r x ≡ written_both (perform house σ ledger x)
  unfolding step_on
  step_at x looks = ap₂ (λ t g. step t g x) at.table_is at.ledger_is ∙ step_words_lem σ ledger x ∙ rw (looks, at.good)

  next_at : (x : Command) (a : Answer) (τ : State) → looks_at_form x ≡ true → perform house σ ledger x ≡ after_both a τ ledger → At (next (asks x) r) τ
  unfolding next step_call step_on
  next_at x a τ looks e =
      let o = step_at x looks ∙ ap written_both e in
      record {
        table_is = ap (λ o. o.table) o;
        ledger_is = ap (λ o. o.ledger) o;
        good = rw (looks, at.good, e) at (form_kept house house_fits σ ledger x at.good);
      }

  -- a call that serves c with message m answers as the delivery does, and leaves what that leaves, with c in word 12
  dispatched_at : (m c : ℕ) (s : Serves r c) → s.message ≡ m →
      call_in r dispatch ≡ (let o = written_both (perform house σ ledger (Deliver m)) in out_both o.answer (set o.table (position Served) c) o.ledger)
  dispatched_at m c s is =
      (serves_in_turn r c s).performs
      ∙ ap (λ o. out_both o.answer (set o.table (position Served) c) o.ledger) (ap (λ n. step_in r (Deliver n)) is ∙ step_at (Deliver m) refl)

  served_at : (m c : ℕ) (a : Answer) (τ : State) (s : Serves r c) → s.message ≡ m → c ≤ last_served → perform house σ ledger (Deliver m) ≡ after_both a τ ledger →
      At (next dispatch r) (put τ Served c)
  unfolding next step_on
  served_at m c a τ s is l e =
      let o = dispatched_at m c s is ∙ ap (λ o. out_both o.answer (set (words o.left) (position Served) c) o.ledger) e in
      record {
        table_is = ap (λ o. o.table) o ∙ words_put τ Served c (omega arith);
        ledger_is = ap (λ o. o.ledger) o;
        good = kept_served house τ c l (rw (at.good, e) at (form_kept house house_fits σ ledger (Deliver m) at.good));
      }

  -- who has a message there
  has_at : (m c i x : ℕ) → record_of σ m < house.messages → σ (Receiver (record_of σ m)) ≡ c → (perform house σ ledger (Deliver m)).answer ≡ Delivered m i x → Has r c
  has_at m c i x l for is =
      record {
        message = m;
        for = receiver_at m l ∙ for;
        would = subst (DeliveredOrDropped m) (sym (ap (λ o. o.answer) (step_at (Deliver m) refl) ∙ is)) (delivered i x);
      }

  -- the first of the round
  turn_at : turn_in r 0 ≡ (σ Served + 1 + 0) % σ Size
  turn_at = ap₂ (λ s n. (s + 1 + 0) % n) (agree_words σ at.table_is Served (omega arith)) size_at

-- the message that an answer delivers
only_message : {m n i x : ℕ} {a : Answer} → DeliveredOrDropped m a → a ≡ Delivered n i x → m ≡ n
only_message (delivered j y) e = cc
only_message (dropped crashed j) e = absurd (let z : ◌≡◌ {A = ℕ} 0 1 = cc in omega arith)

-- message 0 is never there
has_pos : (r : Run) (c : ℕ) (h : Has r c) → 1 ≤ h.message
has_pos r c h = present_pos (state r.table) h.message (servable_in r c h).here

module _ (t g : List ℕ) (long : length t ≡ table_words) (wide : length g ≡ ledger_words house) where
  -- the run after the opening, the two sends and the two releases
  abbrev pub start : Run
  start = runs (just_opened t g 2 2) (asks (Send 0 1 7) ∷ asks (Send 1 0 9) ∷ asks (Release 1) ∷ asks (Release 2) ∷ [])

  opening_at : At (just_opened t g 2 2) opened
  unfolding just_opened step lent step_on perform step_open refusing_both first_of
  opening_at =
      let o : step t g (Open 2 2) ≡ out_both Done (words opened) ledger = rw (eq-eqb (length t) table_words long, eq-eqb (length g) (ledger_words house) wide) in
      record {
        table_is = ap (λ o. o.table) o;
        ledger_is = ap (λ o. o.ledger) o;
        good = form_open house house_fits 2 2 (record { size_pos = omega arith; size_le = omega arith; degree_le = omega arith });
      }

  start_at : At start both_released
  unfolding runs
  start_at =
      next_at (next_at (next_at (next_at opening_at (Send 0 1 7) (Sent 1) one_sent refl computed.sends) (Send 1 0 9) (Sent 2) both_sent refl computed.sends_too) (Release 1)
      (Released 1 0) one_released refl (by_message both_sent ledger 1 blank_ok ∙ computed.releases)) (Release 2) (Released 2 0) both_released refl
      (by_message one_released ledger 2 blank_ok ∙ computed.releases_too)

  -- THE FIRST CALL
  -- both have a message,
  zero_has : Has start 0
  unfolding steps
  zero_has = has_at start_at 2 0 0 2 (omega arith) refl (ap (λ o. o.answer) computed.delivers)

  pub one_has : Has start 1
  unfolding steps
  one_has = has_at start_at 1 1 0 2 (omega arith) refl computed.would

  -- and controller 0 is served.
  first_serves : Serves start 0
  unfolding steps has_at zero_has one_has
  first_serves =
      record {
        message = 2;
        for = zero_has.for;
        does = serves_first start 0 0 zero_has (omega (arith, size_at start_at)) (turn_at start_at) (λ i l. absurd (omega arith))
            (λ other. le? 2 other.message (λ l. l)
            (λ l. let one : other.message ≡ 1 = omega (arith, has_pos start 0 other) in
            let z : ◌≡◌ {A = ℕ} 1 0 = sym one_has.for ∙ ap (receiver_in start) (sym one) ∙ other.for in
            absurd (omega arith)));
      }

  pub first_call : (call_in start dispatch).answer ≡ Delivered 2 0 2
  unfolding first_serves
  first_call = ap (λ o. o.answer) (dispatched_at start_at 2 0 first_serves refl ∙ ap (λ o. out_both o.answer (set (words o.left) (position Served) 0) o.ledger) computed.delivers)

  then_at : At (next dispatch start) (put one_delivered Served 0)
  unfolding first_serves
  then_at = served_at start_at 2 0 (Delivered 2 0 2) one_delivered first_serves refl (omega arith) computed.delivers

  -- THE SECOND CALL
  -- controller 1 still has its message, and is the first of the round.
  pub one_has_still : Has (next dispatch start) 1
  unfolding steps
  one_has_still = has_at then_at 1 1 0 2 (omega arith) refl computed.would_still

  second_serves : Serves (next dispatch start) 1
  unfolding steps has_at one_has_still
  second_serves =
      record {
        message = 1;
        for = one_has_still.for;
        does = serves_first (next dispatch start) 1 0 one_has_still (omega (arith, size_at then_at)) (turn_at then_at) (λ i l. absurd (omega arith))
            (λ other. has_pos (next dispatch start) 1 other);
      }

  pub second_call : (call_in (next dispatch start) dispatch).answer ≡ Delivered 1 0 2
  unfolding second_serves
  second_call = ap (λ o. o.answer) (dispatched_at then_at 1 1 second_serves refl) ∙ computed.would_still

  -- ONE CALL
  -- it doesn't serve controller 1: the message that it delivers is for controller 0
  unserved : ServedIn start (dispatch ∷ []) 1 → ⊥
  unfolding runs first_serves
  unserved s = go s.before s.after s.here s.serves
    where
      one : Serves start 1 → ⊥
      one h =
          let same : h.message ≡ 2 = only_message h.does first_call in
          let z : ◌≡◌ {A = ℕ} 1 0 = sym h.for ∙ ap (receiver_in start) same ∙ first_serves.for in
          omega arith

      go : (before after : List Call) → dispatch ∷ [] ≡ before ++ dispatch ∷ after → Serves (runs start before) 1 → ⊥
      go [] after e h = one h
      go (x ∷ before) after e h = absurd (let z = ap length e in omega (arith, z, length-append before (dispatch ∷ after)))

  -- no opening is among the calls of such a list, and controller 1 has its message at each,
  one_unopened : NoOpening start (dispatch ∷ [])
  one_unopened [] after n k e = absurd (let z : ◌≡◌ {A = ℕ} 0 1 = cc in omega arith)
  one_unopened (x ∷ before) after n k e = absurd (let z = ap length e in omega (arith, z, length-append before (asks (Open n k) ∷ after)))

  has_at_one : (before after : List Call) → dispatch ∷ [] ≡ before ++ dispatch ∷ after → Has (runs start before) 1
  unfolding runs
  has_at_one [] after e = one_has
  has_at_one (x ∷ before) after e = absurd (let z = ap length e in omega (arith, z, length-append before (dispatch ∷ after)))

  -- so that a call less than n won't do
  one_less_fails : FairIn (λ n. n - 1) → ⊥
  unfolding dispatches steps
  one_less_fails f = unserved (f start (dispatch ∷ []) 1 one_unopened (omega (arith, size_at start_at)) (omega (arith, size_at start_at)) has_at_one)

  -- TWO CALLS
  -- the same of these
  two_unopened : NoOpening start (dispatch ∷ dispatch ∷ [])
  two_unopened [] after n k e = absurd (let z : ◌≡◌ {A = ℕ} 0 1 = cc in omega arith)
  two_unopened (x ∷ []) after n k e = absurd (let z : ◌≡◌ {A = ℕ} 0 1 = cc in omega arith)
  two_unopened (x ∷ y ∷ before) after n k e = absurd (let z = ap length e in omega (arith, z, length-append before (asks (Open n k) ∷ after)))

  has_at_two : (before after : List Call) → dispatch ∷ dispatch ∷ [] ≡ before ++ dispatch ∷ after → Has (runs start before) 1
  unfolding runs
  has_at_two [] after e = one_has
  has_at_two (x ∷ []) after e = let z : dispatch ≡ x = cc in subst (λ x. Has (next x start) 1) z one_has_still
  has_at_two (x ∷ y ∷ before) after e = absurd (let z = ap length e in omega (arith, z, length-append before (dispatch ∷ after)))

  -- so the theorem speaks of them, and controller 1 is served in one: it is the second
  pub served_in_two : ServedIn start (dispatch ∷ dispatch ∷ []) 1
  unfolding dispatches steps
  served_in_two = fair start (dispatch ∷ dispatch ∷ []) 1 two_unopened (omega (arith, size_at start_at)) (omega (arith, size_at start_at)) has_at_two

-- "A controller that has such a message at each of n calls running": of n - 1 it doesn't hold.
pub n_calls_needed : FairIn (λ n. n - 1) → ⊥
n_calls_needed = one_less_fails (words blank) ledger (length_words blank) (ledger_form house ledger blank_ok).long
