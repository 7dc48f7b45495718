-- The dispatcher on a state, by its cases: it takes a controller and a message for it, and does what D does; or nobody has one.
use Rattle.std.specs.Prelude.{◌≡◌, refl, false}
use Rattle.std.proofs.Math.Path.{ap}
use Rattle.std.proofs.Common.{◌∙◌, arith}
use Rattle.std.proofs.Math.Bool.{Bool, true}
use Prim.Native.Nat.{ℕ, ◌<◌}
use borrow.Author.Tests.{ltb-true, ltb-false, eqb-true, lt-ltb, lt-leb, eq-eqb, le-ltb}
use Rattle.base.specs.Choice.{◌<?◌, cond_ind}
use Rattle.base.specs.Ranges.{anyb_at, first, first_at, first_none, first_hit, first_before, first_some}
use Rattle.base.specs.Cases.{all_of, first_of, passed}
use Rattle.table.specs.Field.{State, Size, Served, MessageState, Receiver}
use Rattle.table.specs.Change.{put}
use Rattle.table.specs.Numbering.{used, record_of, message_of}
use Rattle.table.proofs.Numbering.{record_of_message}
use Rattle.rules.specs.Limits.{Limits, house}
use Rattle.rules.specs.Form.{state_released, in_form}
use Rattle.rules.specs.Steps.{After, after, refusing, prospect, deliver, step_deliver}
use Rattle.rules.specs.Dispatch.{goes, servable, has_message, turn, first_turn, lowest_for, serve, dispatched}
use Rattle.rules.specs.declared.Answer.TheVariants.{Idle}
use Rattle.laws.specs.Facts.{form}

-- what is left where o was done for controller c: c is kept as the one last served
abbrev pub turned : After → ℕ → After
turned o c = after o.answer (put o.left Served c)

module _ (L : Limits) (σ : State) where
  -- record r has a released message for c which would be delivered or dropped
  pub record Servable (c r : ℕ) : Type 0 where
    pub here : r < used σ
    pub is_released_lem : σ (MessageState r) ≡ state_released
    pub for : σ (Receiver r) ≡ c
    pub will : goes (prospect L σ r) ≡ true

  pub servable_is : (c r : ℕ) → servable L σ c r ≡ true → Servable c r
  unfolding servable
  servable_is c r e =
      let w = passed _ e in
      record { here = ltb-true _ _ (search w); is_released_lem = eqb-true _ _ (search w); for = eqb-true _ _ (search w); will = search w }

  pub is_servable : (c r : ℕ) → Servable c r → servable L σ c r ≡ true
  unfolding servable all_of
  is_servable c r s = rw (lt-ltb r (used σ) s.here, eq-eqb (σ (MessageState r)) state_released s.is_released_lem, eq-eqb (σ (Receiver r)) c s.for, s.will)

  -- a controller with such a message has one
  pub has_one : (c r : ℕ) → r < L.messages → Servable c r → has_message L σ c ≡ true
  unfolding has_message
  has_one c r l s = anyb_at (servable L σ c) L.messages r l (is_servable c r s)

  -- D of a message that is there and released is not refused with 4 or 7;
  pub let_through : (m : ℕ) → record_of σ m < used σ → σ (MessageState (record_of σ m)) ≡ state_released → step_deliver L σ m ≡ deliver L σ m (record_of σ m)
  unfolding step_deliver refusing first_of
  let_through m l e = let r = record_of σ m in rw (lt-leb (used σ) r l, eq-eqb (σ (MessageState r)) state_released e)

  -- the same of the message in record r
  pub record_through : (r : ℕ) → r < used σ → σ (MessageState r) ≡ state_released → step_deliver L σ (message_of σ r) ≡ deliver L σ (message_of σ r) r
  record_through r l e =
      let back = record_of_message σ r l in
      let_through (message_of σ r) (rw back l) (ap (λ r. σ (MessageState r)) back ∙ e) ∙ ap (deliver L σ (message_of σ r)) back

  -- nobody has one
  abbrev pub NobodyHas : Type 0
  NobodyHas = (i : ℕ) → i < σ Size → has_message L σ (turn σ i) ≡ false

  -- What a call takes: the first controller of the round that has one, and the first record of those.
  pub record Takes (c r : ℕ) : Type 0 where
    pub place : ℕ
    pub short : place < σ Size
    pub whose : turn σ place ≡ c
    pub first_has : (i : ℕ) → i < place → has_message L σ (turn σ i) ≡ false
    pub it : Servable c r
    pub lowest : (q : ℕ) → q < r → servable L σ c q ≡ false

  -- "and performs that delivery", and keeps c as the one last served
  abbrev pub serving : ℕ → ℕ → After
  serving c r = turned (step_deliver L σ (message_of σ r)) c

  pub dispatched_cases : (P : After → Type 0) → ((c r : ℕ) → Takes c r → P (serving c r)) → (NobodyHas → P (after Idle σ)) → P (dispatched L σ)
  unfolding dispatched first_turn serve lowest_for has_message
  dispatched_cases P serves idles =
      let has : ℕ → Bool = λ i. has_message L σ (turn σ i) in
      let place = first (σ Size) has in
      cond_ind P (place <? σ Size)
      (λ e. let short = ltb-true _ _ e in
      let c = turn σ place in
      let l = first_some L.messages (servable L σ c) (first_hit (σ Size) has short) in
      serves c (first L.messages (servable L σ c))
      (record {
        place = place;
        short = short;
        whose = refl;
        first_has = first_before (σ Size) has;
        it = servable_is c _ (first_hit L.messages (servable L σ c) l);
        lowest = first_before L.messages (servable L σ c);
      }))
      (λ e. idles (λ i l. first_before (σ Size) has i (omega (arith, ltb-false place (σ Size) e))))

  -- So a call does take what is first of all,
  pub takes : (c r : ℕ) → r < L.messages → Takes c r → dispatched L σ ≡ serving c r
  unfolding dispatched first_turn serve lowest_for
  takes c r l t =
      let has : ℕ → Bool = λ i. has_message L σ (turn σ i) in
      let one : has t.place ≡ true = ap (has_message L σ) t.whose ∙ has_one c r l t.it in
      let place_is = first_at (σ Size) t.place has t.short t.first_has one in
      let record_is = first_at L.messages r (servable L σ c) l t.lowest (is_servable c r t.it) in
      rw (place_is, lt-ltb t.place (σ Size) t.short, t.whose, record_is)

  -- and is idle where nobody has anything
  pub none_taken : NobodyHas → dispatched L σ ≡ after Idle σ
  unfolding dispatched first_turn
  none_taken nobody = rw (first_none (σ Size) (λ i. has_message L σ (turn σ i)) nobody, le-ltb (σ Size) (σ Size) (omega arith))

-- the record of a message that the dispatcher may take is one of the table's
pub record_lt : {σ : State} {c r : ℕ} → in_form house σ ≡ true → Servable house σ c r → r < house.messages
record_lt {σ} good s = omega (arith, (form house σ good).used_le, s.here)
