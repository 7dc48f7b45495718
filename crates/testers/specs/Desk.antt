-- W2, of one step: what publishing does, which steps write to the ledger, and which don't look at it.
use Rattle.std.specs.Prelude.{◌≡◌, refl, true, false, not, List, ◌⊎◌, ◌≢◌, ℕ, length, ◌==◌}
use Rattle.std.proofs.Common.{sym, ap, ◌∙◌, true≢false, eqb-true}
use Rattle.std.proofs.Math.Logic.{inl, inr}
use Rattle.base.specs.Choice.{cond_ind}
use Rattle.base.specs.Cases.{first_of}
use Rattle.table.specs.Field.{State}
use Rattle.table.specs.Layout.{table_words}
use Rattle.table.specs.Words.{state}
use Rattle.table.specs.Numbering.{record_of}
use Rattle.rules.specs.Limits.{house}
use Rattle.rules.specs.Refusal.{LENGTH, FORM, LEDGER_USED_UP}
use Rattle.rules.specs.Vector.{mask}
use Rattle.rules.specs.Form.{in_form, for_desk}
use Rattle.rules.specs.Ledger.{entry_of, appended}
use Rattle.rules.specs.Report.{report}
use Rattle.rules.specs.Steps.{AfterBoth, refusing_both, open_refusals, step_open, own_vector, may_go, release_refusals, step_release}
use Rattle.rules.specs.Step.{perform, step_on, OutBoth, written_both, lent, step}
use Rattle.rules.specs.declared.Answer.{Answer}
use Rattle.rules.specs.declared.Answer.TheVariants.{Done, Released, Held, Refused}
use Rattle.rules.specs.declared.Command.{Command}
use Rattle.rules.specs.declared.Command.TheVariants.{Open, SetDegree, Send, Release, Deliver, Log, Checkpoint, Tell, Crash, Hear, SetGap}
use Rattle.laws.specs.Releasing.{release_cases}
use Rattle.laws.specs.Beside.{looks_at_ledger, beside_any}
use Rattle.testers.specs.Refused.{answers_differ}

-- A MESSAGE TO THE DESK
-- an answer that lets a message out does so with mask 0, and the ledger that is left is h
pub record Publishes (h : List ℕ) (a : Answer) (ledger : List ℕ) : Type 0 where
  pub nobody_named : (m mask : ℕ) → a ≡ Released m mask → mask ≡ 0
  pub ledger_is : (m mask : ℕ) → a ≡ Released m mask → ledger ≡ h

-- other answers let none out
no_publication : {h g : List ℕ} (a : Answer) → ((report a).number == (report (Released 0 0)).number) ≡ false → Publishes h a g
unfolding report
no_publication a e =
    let no : (m mask : ℕ) → a ≢ Released m mask = λ m mask. answers_differ a (Released m mask) e in
    record { nobody_named = λ m mask q. absurd (no m mask q); ledger_is = λ m mask q. absurd (no m mask q) }

publishes_release : (σ : State) (g : List ℕ) (m : ℕ) → let r = record_of σ m in for_desk σ r ≡ true →
    let o = step_on house σ g (Release m) in
    Publishes (appended g (entry_of σ m r)) o.answer o.ledger
unfolding step_on perform step_release refusing_both may_go report
publishes_release σ g m d =
    let r = record_of σ m in
    let published : AfterBoth → Type 0 = λ o. Publishes (appended g (entry_of σ m r)) o.answer o.ledger in
    cond_ind published (not (in_form house σ)) (λ _. no_publication (Refused FORM) refl)
    (λ _. cond_ind published (first_of (release_refusals house σ g r) == 0)
    (λ _. release_cases house σ g m r published (λ _. no_publication (Held m _) refl) (λ _ z. absurd (true≢false (sym d ∙ z))) (λ _ _. no_publication (Refused LEDGER_USED_UP) refl)
    (λ e _ _. let none = eqb-true (mask (own_vector σ r)) 0 (rw d at e) in
    record { nobody_named = λ echoed mask' q. let z : mask (own_vector σ r) ≡ mask' = cc in sym z ∙ none; ledger_is = λ echoed mask' q. refl }))
    (λ _. no_publication (Refused (first_of (release_refusals house σ g r))) refl))

-- on every table, beside every ledger
pub publishes : (t g : List ℕ) (m : ℕ) → let σ = state t in let r = record_of σ m in for_desk σ r ≡ true →
    let o = step t g (Release m) in
    Publishes (appended g (entry_of σ m r)) o.answer o.ledger
unfolding step lent report
publishes t g m d =
    let σ = state t in
    cond_ind (λ (o : OutBoth). Publishes (appended g (entry_of σ m (record_of σ m))) o.answer o.ledger) (length t == table_words)
    (λ _. publishes_release σ g m d) (λ _. no_publication (Refused LENGTH) refl)

-- WORDS OF THE LEDGER
-- the steps that write to it, by their answers: an opening that is done, and a release that lets a message for the desk out
pub data Writes (σ : State) : Command → Answer → Type 0 where
  opens : (n k : ℕ) → Writes σ (Open n k) Done
  lets_out : (m mask : ℕ) → for_desk σ (record_of σ m) ≡ true → Writes σ (Release m) (Released m mask)

-- a step that doesn't look at it leaves it
unlooked : (t g : List ℕ) (x : Command) → looks_at_ledger x ≡ false → (step t g x).ledger ≡ g
unlooked t g x n = sym (ap (λ (o : OutBoth). o.ledger) (beside_any t g (step t g x).ledger g x _ _ n refl))

-- on every table, beside every ledger: it stays, or the step is one of them
module _ (t g : List ℕ) where
  abbrev Unwritten : Command → OutBoth → Type 0
  Unwritten x o = (o.ledger ≡ g) ⊎ Writes (state t) x o.answer

  unwritten_open : (n k : ℕ) → Unwritten (Open n k) (step t g (Open n k))
  unfolding step lent step_on perform step_open refusing_both
  unwritten_open n k =
      cond_ind (Unwritten (Open n k)) (length t == table_words)
      (λ _. cond_ind (λ (o : AfterBoth). Unwritten (Open n k) (written_both o)) (first_of (open_refusals house g n k) == 0) (λ _. inr (opens n k)) (λ _. inl refl)) (λ _. inl refl)

  unwritten_release : (m : ℕ) → Unwritten (Release m) (step t g (Release m))
  unfolding step lent step_on perform step_release refusing_both
  unwritten_release m =
      let σ = state t in
      let r = record_of σ m in
      let kept : AfterBoth → Type 0 = λ o. Unwritten (Release m) (written_both o) in
      cond_ind (Unwritten (Release m)) (length t == table_words)
      (λ _. cond_ind kept (not (in_form house σ)) (λ _. inl refl)
      (λ _. cond_ind kept (first_of (release_refusals house σ g r) == 0)
      (λ _. release_cases house σ g m r kept (λ _. inl refl) (λ _ _. inl refl) (λ _ _. inl refl) (λ _ d _. inr (lets_out m _ d)))
      (λ _. inl refl)))
      (λ _. inl refl)

  pub ledger_stays : (x : Command) → Unwritten x (step t g x)
  ledger_stays (Open n k) = unwritten_open n k
  ledger_stays (SetDegree c k) = inl (unlooked t g (SetDegree c k) refl)
  ledger_stays (Send sender receiver payload) = inl (unlooked t g (Send sender receiver payload) refl)
  ledger_stays (Release m) = unwritten_release m
  ledger_stays (Deliver m) = inl (unlooked t g (Deliver m) refl)
  ledger_stays (Log c q) = inl (unlooked t g (Log c q) refl)
  ledger_stays (Checkpoint c) = inl (unlooked t g (Checkpoint c) refl)
  ledger_stays (Tell owner holder) = inl (unlooked t g (Tell owner holder) refl)
  ledger_stays (Crash c) = inl (unlooked t g (Crash c) refl)
  ledger_stays (Hear hearer owner i) = inl (unlooked t g (Hear hearer owner i) refl)
  ledger_stays (SetGap q) = inl (unlooked t g (SetGap q) refl)

-- STEPS THAT DON'T LOOK AT IT
-- they answer the same and leave the same table beside any two ledgers
pub whatever_ledger : (t g h : List ℕ) (x : Command) → looks_at_ledger x ≡ false → ((step t g x).answer ≡ (step t h x).answer) × ((step t g x).table ≡ (step t h x).table)
whatever_ledger t g h x n =
    let e = beside_any t g (step t g x).ledger h x _ _ n refl in
    (ap (λ (o : OutBoth). o.answer) e, ap (λ (o : OutBoth). o.table) e)
