-- What each controller knows at least holds along every list: its own live intervals that are stable, and the end of each crash that it
-- has heard. Every outcome of a step keeps it.
use Rattle.std.specs.Prelude.{◌≡◌, refl, List, ◌++◌, ℕ, ◌<◌}
use Rattle.std.proofs.Common.{sym, subst, arith}
use Rattle.rules.specs.Step.{Call, asks, step_call}
use Rattle.rules.specs.declared.Answer.{Answer}
use Rattle.rules.specs.declared.Command.{Command}
use Rattle.history.specs.History.{History}
use Rattle.history.specs.Demand.{Run, step_in, next, just_opened, FromOpening, up_to}
use Rattle.model.specs.Model.{Model, put_message, gap_model, send_message, release_message, note_controller}
use Rattle.model.proofs.Invariant.{Inv}
use Rattle.model.proofs.Informed.{AllInformed, informed_opened, informed_degree, informed_logged, informed_checkpointed, informed_told, informed_begun, informed_crashed, informed_heard, informed_rolled}
use Rattle.calls.specs.Made.{NoDoneOpening, Unturned}
use Rattle.model.proofs.Runs.{Holds, along}
use Rattle.image.specs.Outcome.{Outcome, refused, opened, degree_set_lem, sent, released, held, dropped, waits, delivered, logged, checkpointed, told, crashed, heard, rolled, gap_set_lem}
use Rattle.image.proofs.Tables.{model_of, opening_done, model_served}
use Rattle.demand.specs.Demanded.{ReadOff, table_inv, table_outcome, follows}

-- every step but a done opening keeps what each controller knows at least
outcome_informed : {n : ℕ} {μ : Model} {x : Command} {a : Answer} {j : ℕ} {μ' : Model} {h : History} → Outcome n μ x a j μ' → NoDoneOpening x a →
    Inv n μ h → AllInformed n μ → AllInformed n μ'
unfolding put_message gap_model send_message release_message note_controller
outcome_informed (refused x number) o v all = all
outcome_informed (opened j k p q r) o v all = absurd (o j k refl refl)
outcome_informed (degree_set_lem c k p q) o v all = informed_degree v all c p k
outcome_informed (sent s r payload p q ne) o v all = all
outcome_informed (released m mask l w) o v all = all
outcome_informed (held m mask) o v all = all
outcome_informed (dropped m owner p l w z) o v all = all
outcome_informed (waits m) o v all = all
outcome_informed {n} (delivered m c e d) o v all = informed_begun v all c (subst (λ b. b < n) (sym e) d.to_below) _
outcome_informed (logged c q below pos fits) o v all = informed_logged v all c below _ fits
outcome_informed (checkpointed c l) o v all = informed_checkpointed v all c l
outcome_informed (told a b p q ne) o v all = informed_told v all b q a _
outcome_informed (crashed c lost l) o v all = informed_crashed v all c l
outcome_informed (heard b a i f w) o v all = informed_heard v all b f.hearer_below a i
outcome_informed (rolled b a i j undone f w) o v all = informed_rolled v all b f.hearer_below f j (omega (arith, w.below))
outcome_informed (gap_set_lem q l) o v all = all

-- the same of a step in a run
pub informed_next : {n : ℕ} {r : Run} (s : Holds n (ReadOff n) r) (x : Command) → NoDoneOpening x (step_in r x).answer → AllInformed n (model_of r.table) →
    AllInformed n (model_of (next (asks x) r).table)
unfolding next step_call
informed_next s x unopened all = outcome_informed (table_outcome s x) unopened (table_inv s) all

-- whoever was served last
pub informed_turned : {n : ℕ} → Unturned (λ r. AllInformed n (model_of r.table))
informed_turned {n} q c lent low = subst (AllInformed n) (sym (model_served q.table c lent low))

-- After each first part of a list from an opening each controller knows that.
pub all_informed : (t g : List ℕ) (n k : ℕ) (l : List Call) → FromOpening t g n k l → (before rest : List Call) → l ≡ before ++ rest →
    AllInformed n (model_of (up_to t g n k before).table)
unfolding just_opened
all_informed t g n k l O =
    along (follows n) t g k l O (λ r. AllInformed n (model_of r.table)) informed_turned
    (subst (AllInformed n) (sym (opening_done t g n k O.done).model_is) (informed_opened n k))
    (λ before x after e q y s. informed_next s.holds y s.unopened)
