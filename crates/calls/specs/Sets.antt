-- A set on lent buffers, and in a run: one that goes is the list of its releases, table, ledger, history and citations included; one that doesn't
-- leaves all as it is.
use Rattle.std.specs.Prelude.{◌≡◌, refl, not, List, [], ◌∷◌, ◌++◌, map, ◌≢◌, length, take, ◌==◌}
use Rattle.std.proofs.Math.Path.{sym, ap}
use Rattle.std.proofs.Common.{◌∙◌, subst, arith, take-suc, eqb-true}
use Rattle.std.proofs.lemmas.List.{map-append}
use Prim.Native.Nat.{ℕ, zero, suc, ◌≤◌, ◌<◌}
use Rattle.std.proofs.Math.Seq.{take-length}
use Rattle.std.proofs.lemmas.Bool.{not-false}
use Rattle.base.specs.Choice.{cond_ind}
use Rattle.table.specs.Field.{State}
use Rattle.table.specs.Layout.{table_words}
use Rattle.table.specs.Words.{state, words}
use Rattle.table.proofs.Words.{words_state}
use Rattle.rules.specs.Limits.{house}
use Rattle.rules.specs.Refusal.{LENGTH}
use Rattle.rules.specs.Form.{in_form}
use Rattle.rules.specs.Report.{report}
use Rattle.rules.specs.Steps.{AfterBoth}
use Rattle.rules.specs.Sets.{nth, union, out_to, ledger_to}
use Rattle.rules.specs.Step.{OutBoth, out_both, written_both, lent, set_on, Call, asks, release_set, step_call, perform}
use Rattle.rules.specs.declared.Answer.{Answer}
use Rattle.rules.specs.declared.Answer.TheVariants.{Released, Refused, SetReleased, SetHeld}
use Rattle.rules.specs.declared.Command.TheVariants.{Release}
use Rattle.history.specs.History.{answers, fed_step, fed}
use Rattle.history.specs.Citations.{Citations, let_out_to, cited_step, all_let_out, cited}
use Rattle.history.specs.Demand.{Run, call_in, step_in, next, runs}
use Rattle.laws.specs.Facts.{house_fits}
use Rattle.laws.specs.Answering.{Lent}
use Rattle.laws.proofs.Together as T
use Rattle.laws.specs.Together.{Goes}
use Rattle.laws.proofs.Together.{own_mask, Stays, each_released, SetOutcome, set_outcome}
use Rattle.keeping.proofs.StepSame.{step_words_lem}
use Rattle.keeping.proofs.Steps.{performed}
use Rattle.keeping.proofs.Sets.{kept_on_the_way}

-- runs of a list in two parts
pub runs_append : (r : Run) (l l' : List Call) → runs r (l ++ l') ≡ runs (runs r l) l'
unfolding runs
runs_append r [] l' = refl
runs_append r (x ∷ l) l' = runs_append (next x r) l l'

-- the messages of a list, released one after the other
abbrev pub releases : List ℕ → List Call
releases l = map (λ (m : ℕ). asks (Release m)) l

-- a list with one more at its end
pub releases_more : (r : Run) (l : List ℕ) (i : ℕ) → i < length l → runs r (releases (take (suc i) l)) ≡ next (asks (Release (nth l i))) (runs r (releases (take i l)))
unfolding runs
releases_more r l i h =
    ap (λ l. runs r (releases l)) (take-suc l i 0 h) ∙ ap (runs r) (map-append _ (take i l) (nth l i ∷ [])) ∙ runs_append r (releases (take i l)) _

-- releases change nothing in the history
pub releases_history : (r : Run) (l : List ℕ) → (runs r (releases l)).history ≡ r.history
unfolding runs next fed fed_step
releases_history r [] = refl
releases_history r (m ∷ l) = releases_history (next (asks (Release m)) r) l

-- one more is let out
let_out_more : (q : Citations) (l : List ℕ) (m : ℕ) → all_let_out q (l ++ m ∷ []) ≡ let_out_to (all_let_out q l) m
unfolding all_let_out
let_out_more q [] m = refl
let_out_more q (x ∷ l) m = let_out_more (let_out_to q x) l m

-- ON LENT BUFFERS
-- a set that goes, of the messages l
pub record SetGoes (t g l : List ℕ) : Type 0 where
  pub table : Lent t
  pub all : Goes house (state t) g l

-- What becomes of a set: it is refused or held, and leaves every word of both buffers, or all of it goes.
pub data SetIn (t g l : List ℕ) : OutBoth → Type 0 where
  refused : (number : ℕ) → SetIn t g l (out_both (Refused number) t g)
  held : Lent t → Stays house (state t) g l → SetIn t g l (out_both (SetHeld (union (state t) l)) t g)
  goes : SetGoes t g l → SetIn t g l (out_both (SetReleased (union (state t) l)) (words (out_to (state t) l (length l))) (ledger_to (state t) g l (length l)))

pub set_in : (t g l : List ℕ) → SetIn t g l (step_call t g (release_set l))
unfolding step_call lent set_on
set_in t g l =
    cond_ind (SetIn t g l) (length t == table_words)
    (λ e. let long = eqb-true (length t) table_words e in
    let same = words_state t long in
    cond_ind (λ (o : AfterBoth). SetIn t g l (written_both o)) (not (in_form house (state t))) (λ _. left same (refused _))
    (λ good. by same (record { long = long; good = not-false _ good }) (set_outcome house (state t) g l)))
    (λ _. refused LENGTH)
  where
    left : t ≡ words (state t) → {a : Answer} → SetIn t g l (out_both a t g) → SetIn t g l (out_both a (words (state t)) g)
    left same {a} s = subst (λ u. SetIn t g l (out_both a u g)) same s

    by : t ≡ words (state t) → Lent t → {o : AfterBoth} → SetOutcome house (state t) g l o → SetIn t g l (written_both o)
    by same table (T.refused number) = left same (refused number)
    by same table (T.held w) = left same (held table w)
    by same table (T.goes w) = goes (record { table = table; all = w })

-- one that answers otherwise leaves every word
pub not_gone_keeps : (t g l : List ℕ) → let o = step_call t g (release_set l) in ((mask : ℕ) → o.answer ≢ SetReleased mask) → (o.table ≡ t) × (o.ledger ≡ g)
not_gone_keeps t g l = go (set_in t g l)
  where
    go : {o : OutBoth} → SetIn t g l o → ((mask : ℕ) → o.answer ≢ SetReleased mask) → (o.table ≡ t) × (o.ledger ≡ g)
    go (refused number) other = (refl, refl)
    go (held table w) other = (refl, refl)
    go (goes w) other = absurd (other _ refl)

-- one that answers released goes
pub set_goes : (t g l : List ℕ) (mask : ℕ) → (step_call t g (release_set l)).answer ≡ SetReleased mask → SetGoes t g l × (union (state t) l ≡ mask)
set_goes t g l mask = go (set_in t g l)
  where
    go : {o : OutBoth} → SetIn t g l o → o.answer ≡ SetReleased mask → SetGoes t g l × (union (state t) l ≡ mask)
    go (refused number) e = absurd (let z : ◌≡◌ {A = ℕ} 0 1 = cc in omega arith)
    go (held table w) e = absurd (let z : ◌≡◌ {A = ℕ} 0 1 = cc in omega arith)
    go (goes w) e = (w, let z : union (state t) l ≡ mask = cc in z)

-- one that answers held holds back messages that are there
pub set_holds : (t g l : List ℕ) (mask : ℕ) → (step_call t g (release_set l)).answer ≡ SetHeld mask → Lent t × Stays house (state t) g l × (union (state t) l ≡ mask)
set_holds t g l mask = go (set_in t g l)
  where
    go : {o : OutBoth} → SetIn t g l o → o.answer ≡ SetHeld mask → Lent t × Stays house (state t) g l × (union (state t) l ≡ mask)
    go (refused number) e = absurd (let z : ◌≡◌ {A = ℕ} 0 1 = cc in omega arith)
    go (held table w) e = (table, w, let z : union (state t) l ≡ mask = cc in z)
    go (goes w) e = absurd (let z : ◌≡◌ {A = ℕ} 0 1 = cc in omega arith)

-- IN A RUN
-- one that goes
module _ (r : Run) {l : List ℕ} (w : SetGoes r.table r.ledger l) where
  abbrev σ : State
  σ = state r.table

  -- the run after the first i
  abbrev way : ℕ → Run
  way i = record { table = words (out_to σ l i); ledger = ledger_to σ r.ledger l i; history = r.history; citations = all_let_out r.citations (take i l) }

  -- R on the i-th, after those before it
  way_step : (i : ℕ) → i < length l →
      step_in (way i) (Release (nth l i)) ≡ out_both (Released (nth l i) (own_mask σ l i)) (words (out_to σ l (suc i))) (ledger_to σ r.ledger l (suc i))
  unfolding perform
  way_step i h =
      let τ = out_to σ l i in
      let k = ledger_to σ r.ledger l i in
      let good = (kept_on_the_way house house_fits σ r.ledger l w.table.good w.all i (omega arith)).table in
      step_words_lem τ k (Release (nth l i)) ∙ ap written_both (performed house τ k good (Release (nth l i)) ∙ each_released w.all i h)

  way_next : (i : ℕ) → i < length l → next (asks (Release (nth l i))) (way i) ≡ way (suc i)
  unfolding next step_call fed fed_step cited cited_step answers report
  way_next i h =
      let q = all_let_out r.citations (take i l) in
      let more = sym (ap (all_let_out r.citations) (take-suc l i 0 h) ∙ let_out_more r.citations (take i l) (nth l i)) in
      ap (λ (o : OutBoth). record { table = o.table; ledger = o.ledger; history = r.history; citations = cited_step (Release (nth l i)) o.answer q }) (way_step i h)
      ∙ ap (λ (q : Citations). record { table = words (out_to σ l (suc i)); ledger = ledger_to σ r.ledger l (suc i); history = r.history; citations = q }) more

  way_runs : (i : ℕ) → i ≤ length l → runs r (releases (take i l)) ≡ way i
  unfolding runs out_to ledger_to all_let_out
  way_runs zero h = ap (λ t. record { table = t; ledger = r.ledger; history = r.history; citations = r.citations }) (words_state r.table w.table.long)
  way_runs (suc i) h = releases_more r l i h ∙ ap (next (asks (Release (nth l i)))) (way_runs i (omega arith)) ∙ way_next i h

  -- what the i-th answers on the way
  pub way_answer : (i : ℕ) → i < length l → (step_in (runs r (releases (take i l))) (Release (nth l i))).answer ≡ Released (nth l i) (own_mask σ l i)
  way_answer i h = ap (λ q. (step_in q (Release (nth l i))).answer) (way_runs i (omega arith)) ∙ ap (λ o. o.answer) (way_step i h)

  -- all of them
  all_runs : runs r (releases l) ≡ way (length l)
  all_runs = ap (λ l. runs r (releases l)) (sym (take-length l)) ∙ way_runs (length l) (omega arith)

-- The equation of runs: a set that goes is the list of its releases, and any other changes nothing.
pub data SetRun (r : Run) (l : List ℕ) : Type 0 where
  stays : ((mask : ℕ) → (call_in r (release_set l)).answer ≢ SetReleased mask) → next (release_set l) r ≡ r → SetRun r l
  goes_out : (mask : ℕ) → (call_in r (release_set l)).answer ≡ SetReleased mask → next (release_set l) r ≡ runs r (releases l) → SetRun r l

pub set_run : (r : Run) (l : List ℕ) → SetRun r l
unfolding next fed cited answers report
set_run r l = go (set_in r.table r.ledger l) refl
  where
    -- the run after the call, from what it answers and leaves
    then : OutBoth → Run
    then o = record { table = o.table; ledger = o.ledger; history = r.history; citations = cited (release_set l) o.answer r.citations }

    go : {o : OutBoth} → SetIn r.table r.ledger l o → call_in r (release_set l) ≡ o → SetRun r l
    go (refused number) is = stays (λ mask e. absurd (let z : ◌≡◌ {A = ℕ} 0 1 = cc in omega arith)) (ap then is)
    go (held table w) is = stays (λ mask e. absurd (let z : ◌≡◌ {A = ℕ} 0 1 = cc in omega arith)) (ap then is)
    go (goes w) is =
        let σ = state r.table in
        goes_out (union σ l) (ap (λ o. o.answer) is)
        (ap then is
        ∙ ap (λ m. record { table = words (out_to σ l (length l)); ledger = ledger_to σ r.ledger l (length l); history = r.history; citations = all_let_out r.citations m }) (sym (take-length l))
        ∙ sym (all_runs r w))

-- so one that answers released is its releases
pub set_runs : (r : Run) (l : List ℕ) (mask : ℕ) → (call_in r (release_set l)).answer ≡ SetReleased mask → next (release_set l) r ≡ runs r (releases l)
set_runs r l mask e = go (set_run r l)
  where
    go : SetRun r l → next (release_set l) r ≡ runs r (releases l)
    go (stays other same) = absurd (other mask e)
    go (goes_out mask e same) = same
