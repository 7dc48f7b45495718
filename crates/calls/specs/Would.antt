-- What D would answer on a lent table tells which messages the dispatcher may take: those that D would deliver or drop. It passes over those that
-- D would leave waiting, or refuse because their receiver has no place left.
use Rattle.std.proofs.Math.Path.{◌≡◌, refl}
use Rattle.std.proofs.Common.{sym, ap, ◌∙◌, subst, arith}
use Rattle.std.specs.Prelude.{true, false, not, List, ℕ, ◌<◌, length, ◌==◌}
use borrow.Author.Tests.{eqb-true, not-false}
use Rattle.base.specs.Choice.{cond_ind}
use Rattle.base.specs.Cases.{first_of}
use Rattle.table.specs.Field.{State, MessageState, Receiver}
use Rattle.table.specs.Layout.{table_words}
use Rattle.table.specs.Words.{state}
use Rattle.table.specs.Numbering.{used, record_of, message_of}
use Rattle.table.proofs.Numbering.{record_of_message}
use Rattle.rules.specs.Limits.{Limits, house}
use Rattle.rules.specs.Form.{state_released, in_form}
use Rattle.rules.specs.Steps.{After, AfterBoth, refusing, message_refusals, interval_begins, prospect, comes_of, deliver, step_deliver}
use Rattle.rules.specs.Step.{OutBoth, perform, step_on, lent, step, dispatch_on, dispatch, step_call}
use Rattle.rules.specs.Dispatch.{goes, dispatched}
use Rattle.rules.specs.declared.Answer.{Answer}
use Rattle.rules.specs.declared.Answer.TheVariants.{Refused, Idle}
use Rattle.rules.specs.declared.Command.TheVariants.{Deliver}
use Rattle.rules.specs.declared.Prospect.{Prospect}
use Rattle.rules.specs.declared.Prospect.TheVariants.{WouldDrop, WouldWait, NoPlaceLeft, WouldBegin}
use Rattle.history.specs.Fair.{DeliveredOrDropped, delivered, dropped, PassedOver, waits, no_place_lem}
use Rattle.laws.specs.Allowed.{message_allowed}
use Rattle.laws.specs.Answering.{Lent}
use Rattle.laws.specs.Dispatching.{Servable, let_through, NobodyHas, Takes, dispatched_cases}
use Rattle.keeping.proofs.Dispatch.{deliver_is}
use Rattle.history.specs.History.{value_at}
use Rattle.rules.specs.Report.{report}

-- ANSWERS
-- a refusal delivers nothing, nor does idle, and idle is no refusal
not_refused : {A : Type 0} {m number : ℕ} {a : Answer} → DeliveredOrDropped m a → a ≡ Refused number → A
not_refused (delivered i x) e = absurd (let z : ◌≡◌ {A = ℕ} 0 1 = cc in omega arith)
not_refused (dropped crashed i) e = absurd (let z : ◌≡◌ {A = ℕ} 0 1 = cc in omega arith)

not_idle : {A : Type 0} {m : ℕ} {a : Answer} → DeliveredOrDropped m a → a ≡ Idle → A
not_idle (delivered i x) e = absurd (let z : ◌≡◌ {A = ℕ} 0 1 = cc in omega arith)
not_idle (dropped crashed i) e = absurd (let z : ◌≡◌ {A = ℕ} 0 1 = cc in omega arith)

-- it begins with the number of its message
pub names_it : {m : ℕ} {a : Answer} → DeliveredOrDropped m a → value_at a 0 ≡ m
unfolding value_at report
names_it (delivered i x) = refl
names_it (dropped crashed i) = refl

refused_not_idle : {A : Type 0} {number : ℕ} → Refused number ≡ Idle → A
refused_not_idle e = absurd (let z : ◌≡◌ {A = ℕ} 0 1 = cc in omega arith)

-- ON STATES
-- what comes of message m, in record r
module _ (σ : State) (m r : ℕ) where
  goes_comes : (p : Prospect) → goes p ≡ true → DeliveredOrDropped m (comes_of σ m r p).answer
  unfolding comes_of interval_begins
  goes_comes (WouldDrop owner i) e = dropped owner i
  goes_comes WouldWait e = absurd (let z : ◌≡◌ {A = ℕ} 0 1 = cc in omega arith)
  goes_comes NoPlaceLeft e = absurd (let z : ◌≡◌ {A = ℕ} 0 1 = cc in omega arith)
  goes_comes WouldBegin e = delivered _ _

  stays_comes : (p : Prospect) → goes p ≡ false → PassedOver m (comes_of σ m r p).answer
  unfolding comes_of
  stays_comes (WouldDrop owner i) e = absurd (let z : ◌≡◌ {A = ℕ} 0 1 = cc in omega arith)
  stays_comes WouldWait e = waits
  stays_comes NoPlaceLeft e = no_place_lem
  stays_comes WouldBegin e = absurd (let z : ◌≡◌ {A = ℕ} 0 1 = cc in omega arith)

  comes_goes : (p : Prospect) → DeliveredOrDropped m (comes_of σ m r p).answer → goes p ≡ true
  unfolding comes_of
  comes_goes (WouldDrop owner i) d = refl
  comes_goes WouldWait d = not_waiting d refl
    where
      not_waiting : {A : Type 0} {a : Answer} → DeliveredOrDropped m a → a ≡ (comes_of σ m r WouldWait).answer → A
      not_waiting (delivered i x) e = absurd (let z : ◌≡◌ {A = ℕ} 0 1 = cc in omega arith)
      not_waiting (dropped crashed i) e = absurd (let z : ◌≡◌ {A = ℕ} 0 1 = cc in omega arith)
  comes_goes NoPlaceLeft d = not_refused d refl
  comes_goes WouldBegin d = refl

module _ (L : Limits) (σ : State) (m : ℕ) where
  -- its record
  abbrev r : ℕ
  r = record_of σ m

  servable_delivers : {c : ℕ} → Servable L σ c r → DeliveredOrDropped m (step_deliver L σ m).answer
  unfolding deliver
  servable_delivers s = rw (let_through L σ m s.here s.is_released_lem) (goes_comes σ m r (prospect L σ r) s.will)

  passed_over : r < used σ → σ (MessageState r) ≡ state_released → goes (prospect L σ r) ≡ false → PassedOver m (step_deliver L σ m).answer
  unfolding deliver
  passed_over l e z = rw (let_through L σ m l e) (stays_comes σ m r (prospect L σ r) z)

  delivers_servable : DeliveredOrDropped m (step_deliver L σ m).answer → Servable L σ (σ (Receiver r)) r
  unfolding step_deliver refusing deliver
  delivers_servable =
      cond_ind (λ (o : After). DeliveredOrDropped m o.answer → Servable L σ (σ (Receiver r)) r) (first_of (message_refusals σ r state_released) == 0)
      (λ e d. let a = message_allowed σ r state_released (sym (eqb-true _ _ e)) in
      record { here = a.record_used; is_released_lem = a.state_is; for = refl; will = comes_goes σ m r (prospect L σ r) d })
      (λ _ d. not_refused d refl)

-- the message that a call takes is delivered or dropped
pub taken_goes : (L : Limits) (σ : State) {c r : ℕ} → Servable L σ c r → DeliveredOrDropped (message_of σ r) (step_deliver L σ (message_of σ r)).answer
taken_goes L σ {c} {r} s = servable_delivers L σ (message_of σ r) {c = c} (rw (record_of_message σ r s.here) s)

-- ON LENT TABLES
module _ (t g : List ℕ) where
  -- D would deliver or drop message m: then the table is in form, and the dispatcher may take m
  pub record Would (m : ℕ) : Type 0 where
    pub table : Lent t
    pub it : let σ = state t in Servable house σ (σ (Receiver (record_of σ m))) (record_of σ m)

  pub would : (m : ℕ) → DeliveredOrDropped m (step t g (Deliver m)).answer → Would m
  unfolding step lent step_on perform
  would m =
      cond_ind (λ (o : OutBoth). DeliveredOrDropped m o.answer → Would m) (length t == table_words)
      (λ long. cond_ind (λ (o : AfterBoth). DeliveredOrDropped m o.answer → Would m) (not (in_form house (state t))) (λ _ d. not_refused d refl)
      (λ good d. record { table = record { long = eqb-true _ _ long; good = not-false _ good }; it = delivers_servable house (state t) m d }))
      (λ _ d. not_refused d refl)

  -- and the other way round
  pub would_go : (m : ℕ) {c : ℕ} → Lent t → Servable house (state t) c (record_of (state t) m) → DeliveredOrDropped m (step t g (Deliver m)).answer
  would_go m h s = rw (deliver_is t g m h) (servable_delivers house (state t) m s)

  -- a released message that it may not take is left as it is
  pub would_not : (m : ℕ) → Lent t → let σ = state t in record_of σ m < used σ → σ (MessageState (record_of σ m)) ≡ state_released →
      goes (prospect house σ (record_of σ m)) ≡ false → PassedOver m (step t g (Deliver m)).answer
  would_not m h l e z = rw (deliver_is t g m h) (passed_over house (state t) m l e z)

  -- what a call answers: the table is refused, or it is lent, and the answer is that on its state
  dispatch_answers : (P : Answer → Type 0) → ((number : ℕ) → P (Refused number)) → (Lent t → P (dispatched house (state t)).answer) → P (step_call t g dispatch).answer
  unfolding step_call lent dispatch_on
  dispatch_answers P refused lets =
      cond_ind (λ (o : OutBoth). P o.answer) (length t == table_words)
      (λ long. cond_ind (λ (o : After). P o.answer) (not (in_form house (state t))) (λ _. refused _)
      (λ good. lets (record { long = eqb-true _ _ long; good = not-false _ good })))
      (λ _. refused _)

  -- a call that says idle finds its table in form, and nobody with a message that it may take
  pub idle_nobody : (step_call t g dispatch).answer ≡ Idle → Lent t × NobodyHas house (state t)
  idle_nobody =
      dispatch_answers (λ a. a ≡ Idle → Lent t × NobodyHas house (state t)) (λ number e. refused_not_idle e)
      (λ table. dispatched_cases house (state t) (λ o. o.answer ≡ Idle → Lent t × NobodyHas house (state t)) (λ c r w e. not_idle (taken_goes house (state t) w.it) e)
      (λ nobody _. (table, nobody)))

  -- one that delivers or drops message m finds it in form, and takes m
  pub record TakesMessage (m : ℕ) : Type 0 where
    pub table : Lent t
    pub controller : ℕ
    pub taken : Takes house (state t) controller (record_of (state t) m)

  pub takes_message : (m : ℕ) → DeliveredOrDropped m (step_call t g dispatch).answer → TakesMessage m
  takes_message m =
      dispatch_answers (λ a. DeliveredOrDropped m a → TakesMessage m) (λ number d. not_refused d refl)
      (λ table. dispatched_cases house (state t) (λ o. DeliveredOrDropped m o.answer → TakesMessage m)
      (λ c r w d. let is : record_of (state t) m ≡ r = ap (record_of (state t)) (sym (names_it d) ∙ names_it (taken_goes house (state t) w.it)) ∙ record_of_message (state t) r w.it.here in
      record { table = table; controller = c; taken = subst (Takes house (state t) c) (sym is) w })
      (λ nobody d. not_idle d refl))
