-- A call of the dispatcher in a run: one that serves is the delivery of its message, answer and history included, with its controller put into
-- the word of the one last served; any other leaves all as it is.
use Rattle.std.specs.Prelude.{◌≡◌, refl, not, List, ℕ, ◌≤◌, length, ◌==◌}
use Rattle.std.proofs.Common.{sym, ap, ◌∙◌, subst, eqb-true}
use Rattle.std.proofs.lemmas.Bool.{not-false}
use Rattle.base.specs.Choice.{cond_ind}
use Rattle.table.specs.Field.{Served}
use Rattle.table.specs.Change.{put}
use Rattle.table.specs.Layout.{table_words}
use Rattle.table.specs.Words.{state, words}
use Rattle.table.proofs.Words.{words_state, then_put}
use Rattle.table.specs.Numbering.{message_of}
use Rattle.rules.specs.Limits.{house, last_served}
use Rattle.rules.specs.Refusal.{LENGTH}
use Rattle.rules.specs.Form.{in_form}
use Rattle.rules.specs.Steps.{After, beside, step_deliver}
use Rattle.rules.specs.Step.{OutBoth, out_both, written_both, lent, step, dispatch_on, dispatch, asks, step_call}
use Rattle.rules.specs.Report.{report}
use Rattle.rules.specs.declared.Answer.{Answer}
use Rattle.rules.specs.declared.Answer.TheVariants.{Refused, Idle}
use Rattle.rules.specs.declared.Command.TheVariants.{Deliver}
use Rattle.laws.specs.Answering.{Lent}
use Rattle.laws.specs.Dispatching.{Servable, dispatched_cases}
use Rattle.keeping.proofs.Dispatch.{served_low, deliver_is}
use Rattle.history.specs.History.{History, answers, value_at, fed_step, fed}
use Rattle.history.specs.Citations.{cited_step, cited}
use Rattle.history.specs.Demand.{Run, call_in, next}
use Rattle.history.specs.Fair.{DeliveredOrDropped, delivered, dropped}
use Rattle.calls.specs.Would.{names_it, taken_goes}

-- ON LENT BUFFERS
-- the message in record k, for controller c, is one that D delivers or drops
pub record Serves (t : List ℕ) (c k : ℕ) : Type 0 where
  pub table : Lent t
  pub it : Servable house (state t) c k

-- that message, and the table with c as the controller last served
abbrev pub message_at : List ℕ → ℕ → ℕ
message_at t k = message_of (state t) k

abbrev pub served_in : List ℕ → ℕ → List ℕ
served_in t c = words (put (state t) Served c)

-- What becomes of a call: it is refused or idle, and leaves every word of both buffers, or it does what D does, and keeps whom it served.
pub data DispatchIn (t g : List ℕ) : OutBoth → Type 0 where
  refused : (number : ℕ) → DispatchIn t g (out_both (Refused number) t g)
  idle : DispatchIn t g (out_both Idle t g)
  serves : (c k : ℕ) → Serves t c k →
      DispatchIn t g (out_both (step t g (Deliver (message_at t k))).answer (served_in (step t g (Deliver (message_at t k))).table c) g)

pub dispatch_in : (t g : List ℕ) → DispatchIn t g (step_call t g dispatch)
unfolding step_call lent dispatch_on
dispatch_in t g =
    cond_ind (DispatchIn t g) (length t == table_words)
    (λ e. let long = eqb-true (length t) table_words e in
    cond_ind (λ (o : After). DispatchIn t g (written_both (beside o g))) (not (in_form house (state t))) (λ _. left long (refused _))
    (λ z. let h : Lent t = record { long = long; good = not-false _ z } in
    dispatched_cases house (state t) (λ o. DispatchIn t g (written_both (beside o g))) (λ c k w. by c k (record { table = h; it = w.it })) (λ _. left long idle)))
    (λ _. refused LENGTH)
  where
    left : length t ≡ table_words → {a : Answer} → DispatchIn t g (out_both a t g) → DispatchIn t g (out_both a (words (state t)) g)
    left long {a} s = subst (λ u. DispatchIn t g (out_both a u g)) (words_state t long) s

    by : (c k : ℕ) → Serves t c k → let o = step_deliver house (state t) (message_at t k) in DispatchIn t g (out_both o.answer (words (put o.left Served c)) g)
    by c k w =
        let o = deliver_is t g (message_at t k) w.table in
        let is = ap (λ (o : OutBoth). o.answer) o in
        let word = ap (λ (o : OutBoth). served_in o.table c) o ∙ then_put (step_deliver house (state t) (message_at t k)).left Served c refl refl in
        subst (DispatchIn t g) (λ d. out_both (is d) (word d) g) (serves c k w)

-- it delivers or drops that message
pub serves_goes : (t g : List ℕ) (c k : ℕ) → Serves t c k → DeliveredOrDropped (message_at t k) (step t g (Deliver (message_at t k))).answer
serves_goes t g c k w =
    subst (λ (o : OutBoth). DeliveredOrDropped (message_at t k) o.answer) (sym (deliver_is t g (message_at t k) w.table)) (taken_goes house (state t) w.it)

-- so what an answer says of its message D would say
pub answered_as : (t g : List ℕ) (m : ℕ) → DeliveredOrDropped m (step_call t g dispatch).answer → (step_call t g dispatch).answer ≡ (step t g (Deliver m)).answer
answered_as t g m = go (dispatch_in t g)
  where
    go : {o : OutBoth} → DispatchIn t g o → DeliveredOrDropped m o.answer → o.answer ≡ (step t g (Deliver m)).answer
    go (refused number) s = elim s [ ]
    go idle s = elim s [ ]
    go (serves c k w) s = ap (λ n. (step t g (Deliver n)).answer) (sym (names_it (serves_goes t g c k w)) ∙ names_it s)

-- who is served may be kept in form
pub serves_low : {t : List ℕ} {c k : ℕ} → Serves t c k → c ≤ last_served
serves_low {t} {c} {k} w = served_low house (state t) c k w.table.good w.it

-- one that is refused or idle leaves every word
pub not_served_keeps : (t g : List ℕ) → let o = step_call t g dispatch in ((m : ℕ) → DeliveredOrDropped m o.answer → ⊥) → (o.table ≡ t) × (o.ledger ≡ g)
not_served_keeps t g = go (dispatch_in t g)
  where
    go : {o : OutBoth} → DispatchIn t g o → ((m : ℕ) → DeliveredOrDropped m o.answer → ⊥) → (o.table ≡ t) × (o.ledger ≡ g)
    go (refused number) other = (refl, refl)
    go idle other = (refl, refl)
    go (serves c k w) other = absurd (other _ (serves_goes t g c k w))

-- IN A RUN
-- r with c as the controller last served
abbrev pub turned : Run → ℕ → Run
turned r c = record { table = served_in r.table c; ledger = r.ledger; history = r.history; citations = r.citations }

-- the delivery of the message in record k
abbrev pub delivery_at : Run → ℕ → Run
delivery_at r k = next (asks (Deliver (message_at r.table k))) r

-- The equation of runs.
pub data DispatchRun (r : Run) : Type 0 where
  nobody : ((m : ℕ) → DeliveredOrDropped m (call_in r dispatch).answer → ⊥) → next dispatch r ≡ r → DispatchRun r
  somebody : (c k : ℕ) → Serves r.table c k → next dispatch r ≡ turned (delivery_at r k) c → DispatchRun r

-- what the history makes of a delivery that is answered by the dispatcher is what it makes of that delivery
fed_alike : (m : ℕ) (h : History) {a : Answer} → DeliveredOrDropped m a → fed dispatch a h ≡ fed_step (Deliver m) a h
unfolding fed fed_step answers value_at report
fed_alike m h (delivered i x) = refl
fed_alike m h (dropped crashed i) = refl

pub dispatch_run : (r : Run) → DispatchRun r
unfolding next step_call fed cited cited_step answers report
dispatch_run r = go (dispatch_in t g) refl
  where
    t : List ℕ
    t = r.table

    g : List ℕ
    g = r.ledger

    -- the run after the call, from what it answers and leaves
    then : OutBoth → Run
    then o = record { table = o.table; ledger = o.ledger; history = fed dispatch o.answer r.history; citations = r.citations }

    go : {o : OutBoth} → DispatchIn t g o → call_in r dispatch ≡ o → DispatchRun r
    go (refused number) is = nobody (λ m s. elim (subst (λ (o : OutBoth). DeliveredOrDropped m o.answer) is s) [ ]) (ap then is)
    go idle is = nobody (λ m s. elim (subst (λ (o : OutBoth). DeliveredOrDropped m o.answer) is s) [ ]) (ap then is)
    go (serves c k w) is =
        let m = message_at t k in
        let history = fed_alike m r.history (serves_goes t g c k w) in
        let ledger = sym (ap (λ (o : OutBoth). o.ledger) (deliver_is t g m w.table)) in
        somebody c k w
        (ap then is ∙ (λ d. record { table = served_in (step t g (Deliver m)).table c; ledger = ledger d; history = history d; citations = r.citations }))
