-- Demand 3 holds of every list of calls over a lent table and a lent ledger: every outcome of a step keeps the invariant of the
-- model, and calls are made of steps.
use Rattle.std.specs.Prelude.{◌≡◌, refl, List, ℕ, ◌≤◌, ◌<◌}
use Rattle.std.proofs.Common.{sym, subst, ◌∙◌, arith}
use Rattle.table.specs.Layout.{incarnations}
use Rattle.table.specs.Words.{state}
use Rattle.rules.specs.Report.{report}
use Rattle.rules.specs.Limits.{house}
use Rattle.rules.specs.Sets.{nth}
use Rattle.rules.specs.Step.{Call, step_call}
use Rattle.rules.specs.declared.Answer.{Answer}
use Rattle.rules.specs.declared.Answer.TheVariants.{Sent, Released, Refused}
use Rattle.rules.specs.declared.Command.{Command}
use Rattle.rules.specs.declared.Command.TheVariants.{Open, SetDegree, Send, Release, Deliver, Log, Checkpoint, Tell, Crash, Hear, SetGap}
use Rattle.history.specs.History.{History, delivering, answers, value_at, fed_step, fed}
use Rattle.history.specs.Demand.{Run, call_in, step_in, next, just_opened, Accepted, LetsGo, alone, together, FromOpening, Demand3}
use Rattle.laws.specs.Facts.{form}
use Rattle.calls.specs.Sets.{set_goes}
use Rattle.calls.specs.Made.{NoDoneOpening}
use Rattle.model.specs.Model.{Model, put_controller, cap_model, begin_controller, send_message}
use Rattle.model.proofs.Invariant.{Inv}
use Rattle.model.proofs.Keeping.{Keeps, keeps_refl}
use Rattle.model.proofs.Capping.{keeps_log, keeps_checkpoint}
use Rattle.model.proofs.Steps.{LetsOut, LetUnder, let_under, keeps_degree, keeps_send, keeps_release, keeps_deliver, keeps_tell, keeps_gap}
use Rattle.model.proofs.Recovery.{keeps_crash, keeps_heard, keeps_rolled}
use Rattle.model.proofs.Runs.{Holds, Follows, demand3}
use Rattle.image.specs.Outcome.{Outcome, refused, opened, degree_set_lem, sent, released, held, dropped, waits, delivered, logged, checkpointed, told, crashed, heard, rolled, gap_set_lem, kept_size}
use Rattle.image.proofs.Sets.{set_found}
use Rattle.image.proofs.Tables.{model_of, size_of, stepped, opening_done, size_served, model_served}

-- a refused step changes nothing in the history
pub fed_refused : (x : Command) (number : ℕ) (h : History) → fed_step x (Refused number) h ≡ h
unfolding fed_step answers report
fed_refused (Open n k) number h = refl
fed_refused (SetDegree c k) number h = refl
fed_refused (Send s r p) number h = refl
fed_refused (Release m) number h = refl
fed_refused (Deliver m) number h = refl
fed_refused (Log c q) number h = refl
fed_refused (Checkpoint c) number h = refl
fed_refused (Tell a b) number h = refl
fed_refused (Crash c) number h = refl
fed_refused (Hear b a i) number h = refl
fed_refused (SetGap q) number h = refl

-- every step but a done opening keeps the invariant
outcome_keeps : {n : ℕ} {μ : Model} {x : Command} {a : Answer} {j : ℕ} {μ' : Model} {h : History} → Outcome n μ x a j μ' →
    NoDoneOpening x a → Inv n μ h → Keeps n μ h μ' (fed_step x a h)
unfolding fed_step answers value_at report
outcome_keeps {n} {μ} {h = h} (refused x number) o v = subst (Keeps n μ h μ) (sym (fed_refused x number h)) (keeps_refl v)
outcome_keeps (opened j k p q r) o v = absurd (o j k refl refl)
outcome_keeps (degree_set_lem c k p q) o v = keeps_degree v c k p
outcome_keeps (sent s r payload sender receiver ne) o v = keeps_send v s r sender
outcome_keeps (released m mask l w) o v = keeps_release v m l.pos l.sent
outcome_keeps (held m mask) o v = keeps_refl v
outcome_keeps (dropped m owner p l w z) o v = keeps_refl v
outcome_keeps (waits m) o v = keeps_refl v
outcome_keeps {n} {μ} {h = h} (delivered m c e d) o v =
    subst (λ b. Keeps n μ h (cap_model (put_controller μ b (begin_controller b (μ.controller b) (μ.message m).vec)) b) (delivering h m)) (sym e) (keeps_deliver v m d)
outcome_keeps (logged c q below pos fits) o v = keeps_log v c q below pos fits
outcome_keeps (checkpointed c l) o v = keeps_checkpoint v c l
outcome_keeps (told a b p q ne) o v = keeps_tell v a b p q
outcome_keeps (crashed c lost l) o v = keeps_crash v c l
outcome_keeps (heard b a i f w) o v = keeps_heard v f w
outcome_keeps (rolled b a i j undone f w) o v = keeps_rolled v f w
outcome_keeps (gap_set_lem q l) o v = keeps_gap v q

-- the controller of an accepted hearing is one of the house
hearer_below : {n : ℕ} {μ : Model} {b a i : ℕ} {y : Answer} {j : ℕ} {μ' : Model} → Outcome n μ (Hear b a i) y j μ' → Accepted y → b < n
hearer_below (refused x number) z = elim z [ ]
hearer_below (heard b a i f w) z = f.hearer_below
hearer_below (rolled b a i j undone f w) z = f.hearer_below

-- what a release that lets message m out with this mask has found
pub record Found (n : ℕ) (μ : Model) (m mask : ℕ) : Type 0 where
  pub out : LetsOut μ m mask
  pub low : (c : ℕ) → c < n → (μ.controller c).incarnation < incarnations

-- every release that answers so has
released_found : {n : ℕ} {μ : Model} {m echoed mask j : ℕ} {μ' : Model} → Outcome n μ (Release m) (Released echoed mask) j μ' → Found n μ m mask
released_found (released m mask l w) = record { out = l; low = w }

-- the same of an answer that is echoed to be so
pub found : {n : ℕ} {μ : Model} {m echoed mask : ℕ} {y : Answer} {j : ℕ} {μ' : Model} → Outcome n μ (Release m) y j μ' → y ≡ Released echoed mask → Found n μ m mask
found {n} {μ} {m} {echoed} {mask} {y} {j} {μ'} o e = released_found (subst (λ z. Outcome n μ (Release m) z j μ') e o)

-- a send that answers so has made its message the last
pub sent_last : {n : ℕ} {μ : Model} {s r p m j : ℕ} {μ' : Model} → Outcome n μ (Send s r p) (Sent m) j μ' → (1 ≤ m) × (m ≤ μ'.sent)
unfolding send_message
sent_last (sent s r p sender receiver ne) = (omega arith, omega arith)

-- a run of a house of n controllers has the model of its table
pub record ReadOff (n : ℕ) (r : Run) (μ : Model) : Type 0 where
  pub size_is : size_of r.table ≡ n
  pub model_is : model_of r.table ≡ μ

-- the outcome of a step in such a run
pub outcome : {n : ℕ} {r : Run} {μ : Model} (x : Command) → ReadOff n r μ →
    Outcome n μ x (step_in r x).answer (size_of (step_in r x).table) (model_of (step_in r x).table)
outcome {n} {r} {μ} x e =
    subst (λ j. Outcome j μ x (step_in r x).answer (size_of (step_in r x).table) (model_of (step_in r x).table)) e.size_is
    (subst (λ ν. Outcome (size_of r.table) ν x (step_in r x).answer (size_of (step_in r x).table) (model_of (step_in r x).table)) e.model_is
    (stepped r.table r.ledger x))

-- the invariant of such a run is one of the model of its table
pub table_inv : {n : ℕ} {r : Run} → Holds n (ReadOff n) r → Inv n (model_of r.table) r.history
table_inv {n} {r} s = subst (λ μ. Inv n μ r.history) (sym s.reads.model_is) s.inv

-- and so is the outcome of a step
pub table_outcome : {n : ℕ} {r : Run} → Holds n (ReadOff n) r → (x : Command) →
    Outcome n (model_of r.table) x (step_in r x).answer (size_of (step_in r x).table) (model_of (step_in r x).table)
table_outcome {n} {r} s x = outcome {r = r} x (record { size_is = s.reads.size_is; model_is = refl })

-- what a call that lets message m out counts on: a release by its outcome, a set by the words of the table
let_out_under : {n : ℕ} {r : Run} (s : Holds n (ReadOff n) r) {x : Call} {a : Answer} {m mask : ℕ} → LetsGo x a m mask → (call_in r x).answer ≡ a → LetUnder s.model m mask
unfolding step_call
let_out_under s (alone m echoed mask) e = let_under (found (outcome (Release m) s.reads) e).out
let_out_under {r = r} s (together l i mask h) e =
    let (w, is) = set_goes r.table r.ledger l mask e in
    subst (λ (μ : Model). LetUnder μ (nth l i) mask) s.reads.model_is
    (subst (LetUnder (model_of r.table) (nth l i)) is (set_found (form house (state r.table) w.table.good) w.all i h))

-- so the runs of a house of n controllers follow the model
pub follows : (n : ℕ) → Follows n (ReadOff n)
unfolding just_opened next step_call fed
follows n =
    record {
      open_reads = λ t g k done. let o = opening_done t g n k done in record { size_is = o.size_is; model_is = o.model_is };
      step_keeps = λ s x unopened.
          let o = outcome x s.reads in
          let k = outcome_keeps o unopened s.inv in
          record { holds = record { model = _; reads = record { size_is = kept_size o unopened; model_is = refl }; inv = k.inv }; keeps = k };
      turn_reads = λ μ q c lent low e. record { size_is = size_served q.table c ∙ e.size_is; model_is = model_served q.table c lent low ∙ e.model_is };
      hearer_below = λ s b a i accepted. hearer_below (outcome (Hear b a i) s.reads) accepted;
      lets_out = λ s x m mask goes. let_out_under s goes refl;
    }

-- Demand 3, for every table, ledger, opening and list of calls.
pub demand_3 : (t g : List ℕ) (n k : ℕ) (l : List Call) → FromOpening t g n k l → Demand3 t g n k l
demand_3 t g n k l = demand3 (follows n) t g k l
