-- Whom a call serves, and with which message, is told by what D would answer: the first of the round with a message that D would deliver or drop, and
-- the lowest of these. The other way round, the first with such a message is served.
use Rattle.std.specs.Prelude.{◌≡◌, ℕ, ◌+◌, ◌≤◌, ◌<◌, set}
use Rattle.std.proofs.Common.{sym, ap, ◌∙◌, subst, true≢false, arith}
use Rattle.base.specs.Choice.{fails, le?}
use Rattle.base.specs.Ranges.{anyb_some}
use Rattle.table.specs.Field.{State, Served, Receiver}
use Rattle.table.specs.Layout.{position}
use Rattle.table.specs.Words.{state}
use Rattle.table.proofs.Words.{words_put, words_state}
use Rattle.table.specs.Numbering.{used, record_of, message_of}
use Rattle.table.proofs.Numbering.{message_of_record, record_of_message, message_rises}
use Rattle.rules.specs.Limits.{house}
use Rattle.rules.specs.Steps.{beside, step_deliver}
use Rattle.rules.specs.Step.{out_both, written_both, dispatch}
use Rattle.rules.specs.Dispatch.{has_message, turn}
use Rattle.rules.specs.declared.Answer.TheVariants.{Idle}
use Rattle.rules.specs.declared.Command.TheVariants.{Deliver}
use Rattle.history.specs.Demand.{Run, call_in, step_in}
use Rattle.history.specs.Fair.{size_in, DeliveredOrDropped, Has, turn_in, ServesInTurn, IdleIfNobodyHas}
use Rattle.laws.specs.Answering.{Lent}
use Rattle.laws.specs.Dispatching.{Servable, servable_is, is_servable, has_one, record_lt, Takes, dispatched_cases, takes}
use Rattle.keeping.proofs.Dispatch.{deliver_is, dispatch_is}
use Rattle.calls.specs.Would.{would, would_go, takes_message}

module _ (r : Run) where
  abbrev σ : State
  σ = state r.table

  -- a controller has a message where the dispatcher would find one,
  abbrev has_in : (c q : ℕ) → Lent r.table → Servable house σ c q → Has r c
  has_in c q table s =
      let back = record_of_message σ q s.here in
      record {
        message = message_of σ q;
        for = ap (λ k. σ (Receiver k)) back ∙ s.for;
        would = would_go r.table r.ledger (message_of σ q) table (subst (Servable house σ c) (sym back) s);
      }

  -- and the other way round
  pub servable_in : (c : ℕ) (h : Has r c) → Servable house σ c (record_of σ h.message)
  servable_in c h = subst (λ d. Servable house σ d (record_of σ h.message)) h.for (would r.table r.ledger h.message h.would).it

  -- a call that takes the message in record q performs its delivery, and keeps c in word 12
  performs : (c q : ℕ) → Lent r.table → Takes house σ c q →
      call_in r dispatch ≡ (let o = step_in r (Deliver (message_of σ q)) in out_both o.answer (set o.table (position Served) c) o.ledger)
  performs c q table w =
      let o = step_deliver house σ (message_of σ q) in
      dispatch_is r.table r.ledger table
      ∙ ap (λ o. written_both (beside o r.ledger)) (takes house σ c q (record_lt table.good w.it) w)
      ∙ ap (λ t. out_both o.answer t r.ledger) (sym (words_put o.left Served c (omega arith)))
      ∙ ap (λ o. out_both o.answer (set o.table (position Served) c) o.ledger) (sym (deliver_is r.table r.ledger (message_of σ q) table))

  -- of two messages the one in the lower record has the lower number
  lower : (m n : ℕ) → record_of σ m < used σ → record_of σ n < used σ → (record_of σ n < record_of σ m → ⊥) → m ≤ n
  lower m n l h not =
      let a = message_of_record σ m l in
      let b = message_of_record σ n h in
      le? (record_of σ n + 1) (record_of σ m) (λ p. absurd (not (omega arith)))
      (λ p. le? (record_of σ m + 1) (record_of σ n) (λ q. omega (arith, a, b, message_rises σ (record_of σ m) (record_of σ n) (omega arith) h))
      (λ q. let z : record_of σ m ≡ record_of σ n = omega arith in
      let e : m ≡ n = sym a ∙ ap (message_of σ) z ∙ b in
      omega arith))

pub serves_in_turn : ServesInTurn
unfolding turn
serves_in_turn r c s =
    let σ = state r.table in
    let m = s.message in
    let k = takes_message r.table r.ledger m s.does in
    let whose : k.controller ≡ c = sym k.taken.it.for ∙ s.for in
    let w : Takes house σ c (record_of σ m) = subst (λ d. Takes house σ d (record_of σ m)) whose k.taken in
    record {
      place = w.place;
      short = w.short;
      whose = w.whose;
      first = λ i l h. let it = servable_in r _ h in true≢false (sym (has_one house σ _ _ (record_lt k.table.good it) it) ∙ w.first_has i l);
      lowest = λ h. let it = servable_in r c h in
          lower r m h.message w.it.here it.here (λ l. true≢false (sym (is_servable house σ c _ it) ∙ w.lowest _ l));
      performs = subst (λ n. call_in r dispatch ≡ (let o = step_in r (Deliver n) in out_both o.answer (set o.table (position Served) c) o.ledger))
          (message_of_record σ m w.it.here) (performs r c (record_of σ m) k.table w);
    }

-- the first of the round with such a message is served with the lowest of these
pub serves_first : (r : Run) (c place : ℕ) (h : Has r c) → place < size_in r → turn_in r place ≡ c → ((i : ℕ) → i < place → Has r (turn_in r i) → ⊥) →
    ((other : Has r c) → h.message ≤ other.message) → DeliveredOrDropped h.message (call_in r dispatch).answer
unfolding turn has_message
serves_first r c place h short whose first lowest =
    let σ = state r.table in
    let m = h.message in
    let k = would r.table r.ledger m h.would in
    let it = servable_in r c h in
    let back = message_of_record σ m it.here in
    let w : Takes house σ c (record_of σ m) =
    record {
      place = place;
      short = short;
      whose = whose;
      first_has = λ i l. fails _ (λ e. let s = anyb_some _ _ e in first i l (has_in r _ s.index k.table (servable_is house σ _ _ s.passes)));
      it = it;
      lowest = λ q l. fails _ (λ e. let n = lowest (has_in r c q k.table (servable_is house σ c q e)) in omega (arith, n, back, message_rises σ q (record_of σ m) l it.here));
    } in
    subst (λ o. DeliveredOrDropped m o.answer) (sym (performs r c (record_of σ m) k.table w)) (subst (λ n. DeliveredOrDropped m (step_in r (Deliver n)).answer) (sym back) h.would)

-- where nobody has one, it says idle and changes no word
pub idle_if_nobody_has : IdleIfNobodyHas
idle_if_nobody_has r long good nobody =
    let table : Lent r.table = record { long = long; good = good } in
    dispatch_is r.table r.ledger table
    ∙ dispatched_cases house (state r.table) (λ o. written_both (beside o r.ledger) ≡ out_both Idle r.table r.ledger)
    (λ c q w. absurd (nobody c (has_in r c q table w.it))) (λ _. ap (λ t. out_both Idle t r.ledger) (sym (words_state r.table long)))
