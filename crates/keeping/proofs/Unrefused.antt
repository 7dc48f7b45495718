-- What the form keeps away: a step on a table and a ledger in form leaves a ledger in form, and is not refused for the table's length, the
-- table's form or the ledger.
use Rattle.std.specs.Prelude.{◌≡◌, Bool, false, ◌&&◌, ◌||◌, List, [], ◌∷◌, ◌≢◌, ℕ, length}
use Rattle.std.proofs.Math.Path.{refl}
use Rattle.std.proofs.Common.{sym, ap, ◌∙◌, subst, eq-eqb, eqb-true, ◌==◌}
use Rattle.std.proofs.Math.Bool.{true, not}
use Rattle.std.proofs.lemmas.Bool.{eqb-false, not-true}
use Rattle.base.specs.Choice.{◌≤?◌, and_left, and_right, or_left, or_right, cond_ind}
use Rattle.base.specs.Cases.{Case, ◌⇒◌, first_of}
use Rattle.table.specs.Field.{State, Incarnation, LiveCount}
use Rattle.table.specs.Layout.{table_words}
use Rattle.table.specs.Words.{state}
use Rattle.table.specs.Numbering.{record_of}
use Rattle.rules.specs.Limits.{Limits, house, last_incarnation}
use Rattle.rules.specs.Refusal.{LENGTH, FORM, LEDGER}
use Rattle.rules.specs.Form.{in_form}
use Rattle.rules.specs.Ledger.{ledger_words, ledger_ok}
use Rattle.rules.specs.Steps.{After, AfterBoth, refusing, refusing_both, open_refusals, step_open, step_degree, step_send, release_refusals, step_release, interval_begins, step_deliver, step_log, step_checkpoint, step_tell, step_crash, hear, step_hear, step_gap}
use Rattle.rules.specs.Step.{perform, looks_at_form, step_on, OutBoth, lent, step}
use Rattle.rules.specs.declared.Answer.{Answer}
use Rattle.rules.specs.declared.Answer.TheVariants.{Done, Sent, Released, Held, Delivered, Dropped, Waits, Crashed, Heard, Rolled, Refused, SetReleased, SetHeld, Idle}
use Rattle.rules.specs.declared.Command.{Command}
use Rattle.rules.specs.declared.Command.TheVariants.{Open, SetDegree, Send, Release, Deliver, Log, Checkpoint, Tell, Crash, Hear, SetGap}
use Rattle.laws.specs.Answering.{not_done, Lent}
use Rattle.laws.specs.Ledger.{ledger_form, blank_sound, appended_sound}
use Rattle.laws.specs.Releasing.{release_cases}
use Rattle.laws.specs.Delivering.{deliver_cases}
use Rattle.keeping.proofs.Steps.{performed}
use Rattle.keeping.proofs.Kept.{kept, opened}

-- THE LEDGER
module _ (L : Limits) where
  kept_open : (σ : State) (g : List ℕ) (n k : ℕ) → ledger_ok L g ≡ true → ledger_ok L (step_open L σ g n k).ledger ≡ true
  unfolding step_open refusing_both
  kept_open σ g n k e = cond_ind (λ (o : AfterBoth). ledger_ok L o.ledger ≡ true) (first_of (open_refusals L g n k) == 0) (λ _. blank_sound L) (λ _. e)

  kept_release : (σ : State) (g : List ℕ) (m : ℕ) → ledger_ok L g ≡ true → ledger_ok L (step_release L σ g m).ledger ≡ true
  unfolding step_release refusing_both
  kept_release σ g m e =
      let sound : AfterBoth → Type 0 = λ o. ledger_ok L o.ledger ≡ true in
      cond_ind sound (first_of (release_refusals L σ g (record_of σ m)) == 0)
      (λ _. release_cases L σ g m (record_of σ m) sound (λ _. e) (λ _ _. e) (λ _ _. e) (λ _ _ room. appended_sound L g m _ e room)) (λ _. e)

  -- every step leaves a ledger in form in form
  pub ledger_kept : (σ : State) (g : List ℕ) (x : Command) → ledger_ok L g ≡ true → ledger_ok L (step_on L σ g x).ledger ≡ true
  unfolding step_on perform
  ledger_kept σ g x e = cond_ind (λ (o : AfterBoth). ledger_ok L o.ledger ≡ true) (looks_at_form x && not (in_form L σ)) (λ _. e) (λ _. go x)
    where
      go : (x : Command) → ledger_ok L (perform L σ g x).ledger ≡ true
      go (Open n k) = kept_open σ g n k e
      go (SetDegree c k) = e
      go (Send sender receiver payload) = e
      go (Release m) = kept_release σ g m e
      go (Deliver m) = e
      go (Log c q) = e
      go (Checkpoint c) = e
      go (Tell owner holder) = e
      go (Crash c) = e
      go (Hear hearer owner i) = e
      go (SetGap q) = e

-- REFUSALS
-- "1 length is not 15,152"; "2 table not in form"; "14 when the ledger's length is not 257 .."
abbrev pub by_buffer : ℕ → Bool
by_buffer number = (number == LENGTH) || ((number == FORM) || (number == LEDGER))

abbrev pub refused_by_buffer : Answer → Bool
refused_by_buffer Done = false
refused_by_buffer (Sent m) = false
refused_by_buffer (Released m mask) = false
refused_by_buffer (Held m mask) = false
refused_by_buffer (Delivered m i x) = false
refused_by_buffer (Dropped m owner i) = false
refused_by_buffer (Waits m) = false
refused_by_buffer (Crashed c i k lost replayed) = false
refused_by_buffer (Heard b) = false
refused_by_buffer (Rolled b k undone replayed owner i) = false
refused_by_buffer (Refused number) = by_buffer number
refused_by_buffer (SetReleased mask) = false
refused_by_buffer (SetHeld mask) = false
refused_by_buffer Idle = false

-- none of the cases is one of these
abbrev others : List Case → Bool
others [] = true
others (x ∷ xs) = not (by_buffer x.number) && others xs

first_other : (cases : List Case) → others cases ≡ true → by_buffer (first_of cases) ≡ false
unfolding first_of
first_other [] e = refl
first_other (x ∷ xs) e =
    cond_ind (λ n. by_buffer n ≡ false) x.test (λ _. not-true (by_buffer x.number) (and_left (not (by_buffer x.number)) _ e))
    (λ _. first_other xs (and_right (not (by_buffer x.number)) (others xs) e))

-- the first does not apply, and the others are none of these
pub past_first : (b : Bool) (number : ℕ) (xs : List Case) → b ≡ false → others xs ≡ true → by_buffer (first_of ((b ⇒ number) ∷ xs)) ≡ false
unfolding first_of
past_first b number xs e h = rw e (first_other xs h)

module _ (L : Limits) (σ : State) (g : List ℕ) where
  -- the answer is no refusal for a buffer
  abbrev pub Let : Answer → Type 0
  Let a = refused_by_buffer a ≡ false

  let_refusing : (cases : List Case) (o : After) → others cases ≡ true → Let o.answer → Let (refusing cases σ o).answer
  unfolding refusing
  let_refusing cases o e h = cond_ind (λ (o : After). Let o.answer) (first_of cases == 0) (λ _. h) (λ _. first_other cases e)

  pub let_refusing_both : (cases : List Case) (o : AfterBoth) → by_buffer (first_of cases) ≡ false → Let o.answer → Let (refusing_both cases σ g o).answer
  unfolding refusing_both
  let_refusing_both cases o e h = cond_ind (λ (o : AfterBoth). Let o.answer) (first_of cases == 0) (λ _. h) (λ _. e)

  let_open : (n k : ℕ) → ledger_ok L g ≡ true → Let (step_open L σ g n k).answer
  unfolding step_open
  let_open n k e = let_refusing_both _ _ (past_first _ LEDGER _ (ap not (eq-eqb (length g) (ledger_words L) (ledger_form L g e).long)) refl) refl

  let_release : (m : ℕ) → ledger_ok L g ≡ true → Let (step_release L σ g m).answer
  unfolding step_release
  let_release m e =
      let_refusing_both _ _ (past_first _ LEDGER _ (ap not e) refl)
      (release_cases L σ g m (record_of σ m) (λ o. Let o.answer) (λ _. refl) (λ _ _. refl) (λ _ _. refl) (λ _ _ _. refl))

  pub let_deliver : (m : ℕ) → Let (step_deliver L σ m).answer
  unfolding step_deliver interval_begins
  let_deliver m = let_refusing _ _ refl (deliver_cases L σ (record_of σ m) m (λ o. Let o.answer) (λ _. refl) (λ _. refl) (λ _. refl) (λ _ _ _. refl))

  let_hear : (hearer owner i : ℕ) → Let (step_hear σ hearer owner i).answer
  unfolding step_hear hear
  let_hear hearer owner i =
      let_refusing _ _ refl
      (cond_ind (λ (o : After). Let o.answer) (σ (LiveCount hearer) ≤? _) (λ _. refl)
      (λ _. cond_ind (λ (o : After). Let o.answer) (last_incarnation ≤? σ (Incarnation hearer)) (λ _. refl) (λ _. refl)))

  let_perform : (x : Command) → ledger_ok L g ≡ true → Let (perform L σ g x).answer
  unfolding perform step_degree step_send step_log step_checkpoint step_tell step_crash step_gap
  let_perform (Open n k) e = let_open n k e
  let_perform (SetDegree c k) e = let_refusing _ _ refl refl
  let_perform (Send sender receiver payload) e = let_refusing _ _ refl refl
  let_perform (Release m) e = let_release m e
  let_perform (Deliver m) e = let_deliver m
  let_perform (Log c q) e = let_refusing _ _ refl refl
  let_perform (Checkpoint c) e = let_refusing _ _ refl refl
  let_perform (Tell owner holder) e = let_refusing _ _ refl refl
  let_perform (Crash c) e = let_refusing _ _ refl refl
  let_perform (Hear hearer owner i) e = let_hear hearer owner i
  let_perform (SetGap q) e = let_refusing _ _ refl refl

  -- a step on a state and a ledger in form
  pub let_step : (x : Command) → in_form L σ ≡ true → ledger_ok L g ≡ true → Let (step_on L σ g x).answer
  let_step x f e = subst (λ (o : AfterBoth). Let o.answer) (sym (performed L σ g f x)) (let_perform x e)

-- TABLES AND LEDGERS OF WORDS
-- both lent buffers are in form
pub record Sound (t g : List ℕ) : Type 0 where
  pub table : Lent t
  pub ledger : ledger_ok house g ≡ true

-- every step leaves both in form
pub sound_step : (t g : List ℕ) (x : Command) → Sound t g → Sound (step t g x).table (step t g x).ledger
unfolding step lent
sound_step t g x s =
    record { table = kept t g x s.table; ledger = rw (eq-eqb (length t) table_words s.table.long) (ledger_kept house (state t) g x s.ledger) }

-- an opening that is done makes them so
pub sound_opened : (t g : List ℕ) (n k : ℕ) → (step t g (Open n k)).answer ≡ Done → Sound (step t g (Open n k)).table (step t g (Open n k)).ledger
unfolding step lent step_on perform step_open refusing_both
sound_opened t g n k e = record { table = opened t g n k (long e) e; ledger = blank e }
  where
    long : (step t g (Open n k)).answer ≡ Done → length t ≡ table_words
    long = cond_ind (λ (o : OutBoth). o.answer ≡ Done → length t ≡ table_words) (length t == table_words) (λ l _. eqb-true (length t) table_words l) (λ _. not_done LENGTH)

    blank : (step t g (Open n k)).answer ≡ Done → ledger_ok house (step t g (Open n k)).ledger ≡ true
    blank =
        cond_ind (λ (o : OutBoth). o.answer ≡ Done → ledger_ok house o.ledger ≡ true) (length t == table_words)
        (λ _. cond_ind (λ (o : AfterBoth). o.answer ≡ Done → ledger_ok house o.ledger ≡ true) (first_of (open_refusals house g n k) == 0) (λ _ _. blank_sound house)
        (λ _. not_done (first_of (open_refusals house g n k)))) (λ _. not_done LENGTH)

-- a refusal that is none for a buffer
pub buffers_fit : {a : Answer} {number : ℕ} → a ≡ Refused number → refused_by_buffer a ≡ false → (number ≢ LENGTH) × (number ≢ FORM) × (number ≢ LEDGER)
buffers_fit {number = number} q through =
    let none : by_buffer number ≡ false = ap refused_by_buffer (sym q) ∙ through in
    let more = or_right (number == LENGTH) _ none in
    (eqb-false number LENGTH (or_left (number == LENGTH) _ none), eqb-false number FORM (or_left (number == FORM) _ more), eqb-false number LEDGER (or_right (number == FORM) _ more))

-- and no step is refused for one of them
pub sound_let : (t g : List ℕ) (x : Command) (number : ℕ) → Sound t g → (step t g x).answer ≡ Refused number → (number ≢ LENGTH) × (number ≢ FORM) × (number ≢ LEDGER)
unfolding step lent
sound_let t g x number s q =
    buffers_fit q (rw (eq-eqb (length t) table_words s.table.long) (let_step house (state t) g x s.table.good s.ledger))
