-- Along a run that was computed on states: the answer to each step, the history and the citations, which are fed with the answers
-- alone, the tables, each of which is that of its state, and the ledgers.
use Rattle.std.specs.Prelude.{◌≡◌, refl, Bool, true, false, not, ◌&&◌, List, [], ◌∷◌, ℕ, zero, suc, ◌<◌, length, get_or, take, drop}
use Rattle.std.proofs.Common.{sym, ap, ap₂, ◌∙◌, true≢false, not-suc-le-zero, le_of_suc-le-suc}
use Rattle.table.specs.Field.{State}
use Rattle.table.specs.Words.{words}
use Rattle.rules.specs.Limits.{house}
use Rattle.rules.specs.Form.{in_form}
use Rattle.rules.specs.Step.{perform, looks_at_form, step_on, written_both, step, asks, step_call}
use Rattle.rules.specs.declared.Answer.{Answer}
use Rattle.rules.specs.declared.Answer.TheVariants.{Done}
use Rattle.rules.specs.declared.Command.{Command}
use Rattle.rules.specs.declared.Command.TheVariants.{Open}
use Rattle.listing.specs.Run as states
use Rattle.listing.specs.Run.{left_form}
use Rattle.history.specs.History.{fed}
use Rattle.history.specs.Citations.{cited}
use Rattle.history.specs.Demand.{Run, step_in, next, runs}
use Rattle.history.specs.Examples.{ListingLine, line, all, all_cited}
use Rattle.keeping.proofs.StepSame.{step_words_lem}
use Rattle.testers.specs.Sample.{asked, answered, calls, answers_from}

-- ANSWERS AND HISTORY
-- the run after the first j lines, and line j
abbrev pub first_steps : Run → List ListingLine → ℕ → Run
first_steps r l j = runs r (calls (asked (take j l)))

abbrev pub line_at : List ListingLine → ℕ → ListingLine
line_at l j = get_or l j (line (Open 0 0) Done)

-- the calls of l get the answers of l
abbrev pub Answered : Run → List ListingLine → Type 0
Answered r l = answers_from r.table r.ledger (calls (asked l)) ≡ answered l

pub head_answered : (r : Run) (x : ListingLine) (l : List ListingLine) → Answered r (x ∷ l) → (step_in r x.asked).answer ≡ x.answered
unfolding answers_from step_call
head_answered r x l h = ap (λ ys. get_or ys 0 Done) h

pub tail_answered : (r : Run) (x : ListingLine) (l : List ListingLine) → Answered r (x ∷ l) → Answered (next (asks x.asked) r) l
unfolding answers_from next
tail_answered r x l h = ap (drop 1) h

pub answer_at : (r : Run) (l : List ListingLine) → Answered r l → (j : ℕ) → j < length l → (step_in (first_steps r l j) (line_at l j).asked).answer ≡ (line_at l j).answered
unfolding runs
answer_at r [] h j b = absurd (not-suc-le-zero b)
answer_at r (x ∷ l) h zero b = head_answered r x l h
answer_at r (x ∷ l) h (suc j) b = answer_at (next (asks x.asked) r) l (tail_answered r x l h) j (le_of_suc-le-suc b)

pub history_at : (r : Run) (l : List ListingLine) → Answered r l → (j : ℕ) → (first_steps r l j).history ≡ all (take j l) r.history
unfolding runs all next step_call
history_at r [] h zero = refl
history_at r [] h (suc j) = refl
history_at r (x ∷ l) h zero = refl
history_at r (x ∷ l) h (suc j) =
    history_at (next (asks x.asked) r) l (tail_answered r x l h) j ∙ ap (λ a. all (take j l) (fed (asks x.asked) a r.history)) (head_answered r x l h)

pub citations_after : (r : Run) (l : List ListingLine) → Answered r l → (runs r (calls (asked l))).citations ≡ all_cited l r.citations
unfolding runs all_cited next step_call
citations_after r [] h = refl
citations_after r (x ∷ l) h =
    citations_after (next (asks x.asked) r) l (tail_answered r x l h) ∙ ap (λ a. all_cited l (cited (asks x.asked) a r.citations)) (head_answered r x l h)

-- TABLES AND LEDGERS
-- the state that step j of a run on states finds, and the ledger; those at its end for a step further on
unfoldable pub state_at : {σ : State} {g : List ℕ} {xs : List Command} {ys : List Answer} → states.Run σ g xs ys → ℕ → State
state_at (states.end {σ}) j = σ
state_at (states.next {σ} change e w) zero = σ
state_at (states.next change e w) (suc j) = state_at w j

unfoldable pub ledger_at : {σ : State} {g : List ℕ} {xs : List Command} {ys : List Answer} → states.Run σ g xs ys → ℕ → List ℕ
ledger_at (states.end {g = g}) j = g
ledger_at (states.next {g = g} change e w) zero = g
ledger_at (states.next change e w) (suc j) = ledger_at w j

-- step x finds the table t, that of the state σ, in form if it looks, and the ledger g, which is k
pub record Stage (t g : List ℕ) (σ : State) (k : List ℕ) (x : Command) : Type 0 where
  pub table_is : t ≡ words σ
  pub ledger_is : g ≡ k
  pub good : looks_at_form x ≡ true → in_form house σ ≡ true

-- then it does what its rule says
pub stage_step : {t g : List ℕ} {σ : State} {k : List ℕ} {x : Command} → Stage t g σ k x → step t g x ≡ written_both (perform house σ k x)
unfolding step_on
stage_step {σ = σ} {k = k} {x = x} s = ap₂ (λ u k. step u k x) s.table_is s.ledger_is ∙ step_words_lem σ k x ∙ rw (looks (looks_at_form x) refl)
  where
    looks : (b : Bool) → looks_at_form x ≡ b → (looks_at_form x && not (in_form house σ)) ≡ false
    looks true q = rw (q, s.good q)
    looks false q = rw q

-- the command of step j; an opening, which looks at no form, for a step further on
abbrev pub command_at : List Command → ℕ → Command
command_at xs j = get_or xs j (Open 0 0)

-- step j of the run r, which is w on states
abbrev pub StageAt : Run → {σ : State} {g : List ℕ} {xs : List Command} {ys : List Answer} → states.Run σ g xs ys → ℕ → Type 0
StageAt r {xs = xs} w j = let s = runs r (calls (take j xs)) in Stage s.table s.ledger (state_at w j) (ledger_at w j) (command_at xs j)

opening_stage : {t g : List ℕ} {σ : State} {k : List ℕ} (n degree : ℕ) → t ≡ words σ → g ≡ k → Stage t g σ k (Open n degree)
opening_stage n degree e h = record { table_is = e; ledger_is = h; good = λ z. absurd (true≢false (sym z)) }

pub stage_at : {σ : State} {g : List ℕ} {xs : List Command} {ys : List Answer} (w : states.Run σ g xs ys) → in_form house σ ≡ true → (r : Run) → r.table ≡ words σ → r.ledger ≡ g →
    (j : ℕ) → StageAt r w j
unfolding runs state_at ledger_at next step_call
stage_at states.end f r e h zero = opening_stage 0 0 e h
stage_at states.end f r e h (suc j) = opening_stage 0 0 e h
stage_at (states.next change p w) f r e h zero = record { table_is = e; ledger_is = h; good = λ _. f }
stage_at (states.next {σ} {g = k} {x = x} change p w) f r e h (suc j) =
    let s : Stage r.table r.ledger σ k x = record { table_is = e; ledger_is = h; good = λ _. f } in
    let o = stage_step s ∙ ap written_both p in
    stage_at w (left_form σ k x f p) (next (asks x) r) (ap (λ o. o.table) o) (ap (λ o. o.ledger) o) j
