-- A refused step leaves the state and the ledger that it found: every rule that refuses gives back what it got.
use Rattle.std.specs.Prelude.{◌≡◌, refl, false, ◌&&◌, List, ◌≢◌, ℕ, ◌==◌}
use Rattle.std.proofs.Common.{sym, ap, ◌∙◌, true≢false, eq-eqb}
use Rattle.std.proofs.Math.Bool.{not}
use Rattle.base.specs.Choice.{◌≤?◌, cond_ind}
use Rattle.base.specs.Cases.{Case, first_of}
use Rattle.table.specs.Field.{State, Incarnation, LiveCount}
use Rattle.rules.specs.Limits.{house, last_incarnation}
use Rattle.rules.specs.Refusal.{FORM, PLACES_USED_UP, INCARNATIONS_USED_UP, LEDGER_USED_UP}
use Rattle.rules.specs.Form.{in_form}
use Rattle.laws.specs.Releasing.{release_cases}
use Rattle.laws.specs.Delivering.{deliver_cases}
use Rattle.rules.specs.Report.{report}
use Rattle.rules.specs.Steps.{After, after, refuse, refusing, AfterBoth, after_both, beside, refusing_both, step_open, step_degree, step_send, release, step_release, interval_begins, deliver, step_deliver, step_log, step_checkpoint, step_tell, step_crash, step_gap, noted, lowest_condemned, hear, step_hear}
use Rattle.rules.specs.Step.{perform, looks_at_form, step_on}
use Rattle.rules.specs.declared.Answer.{Answer}
use Rattle.rules.specs.declared.Answer.TheVariants.{Done, Sent, Released, Held, Delivered, Dropped, Waits, Crashed, Heard, Rolled, Refused}
use Rattle.rules.specs.declared.Command.{Command}
use Rattle.rules.specs.declared.Command.TheVariants.{Open, SetDegree, Send, Release, Deliver, Log, Checkpoint, Tell, Crash, Hear, SetGap}

-- if it answers a refusal, it leaves σ
pub record KeepsRefused (σ : State) (o : After) : Type 0 where
  pub kept : (number : ℕ) → o.answer ≡ Refused number → o.left ≡ σ

-- the same of a step that looks at both buffers: it leaves g too
pub record KeepsBoth (σ : State) (g : List ℕ) (o : AfterBoth) : Type 0 where
  pub kept : (number : ℕ) → o.answer ≡ Refused number → o.left ≡ σ
  pub ledger_kept : (number : ℕ) → o.answer ≡ Refused number → o.ledger ≡ g

-- a refusal does
refused : (σ : State) (number : ℕ) → KeepsRefused σ (refuse number σ)
refused σ number = record { kept = λ n q. refl }

-- beside a ledger
keeps_beside : (σ : State) (g : List ℕ) {o : After} → KeepsRefused σ o → KeepsBoth σ g (beside o g)
keeps_beside σ g h = record { kept = h.kept; ledger_kept = λ n q. refl }

-- answers with other numbers on paper differ
pub answers_differ : (a b : Answer) → ((report a).number == (report b).number) ≡ false → a ≢ b
answers_differ a b e q = true≢false (sym (eq-eqb _ _ (ap (λ b. (report b).number) q)) ∙ e)

-- so another answer is no refusal
other : (σ : State) (a : Answer) (τ : State) → ((report a).number == (report (Refused 0)).number) ≡ false → KeepsRefused σ (after a τ)
unfolding report
other σ a τ e = record { kept = λ n q. absurd (answers_differ a (Refused n) e q) }

other_both : (σ : State) (g : List ℕ) (a : Answer) (τ : State) (h : List ℕ) → ((report a).number == (report (Refused 0)).number) ≡ false → KeepsBoth σ g (after_both a τ h)
unfolding report
other_both σ g a τ h e = record { kept = λ n q. absurd (answers_differ a (Refused n) e q); ledger_kept = λ n q. absurd (answers_differ a (Refused n) e q) }

-- a step after its refusals
keeps_refusing : (σ : State) (cases : List Case) {o : After} → KeepsRefused σ o → KeepsRefused σ (refusing cases σ o)
unfolding refusing
keeps_refusing σ cases h = cond_ind (KeepsRefused σ) (first_of cases == 0) (λ _. h) (λ _. refused σ (first_of cases))

keeps_refusing_both : (σ : State) (g : List ℕ) (cases : List Case) {o : AfterBoth} → KeepsBoth σ g o → KeepsBoth σ g (refusing_both cases σ g o)
unfolding refusing_both
keeps_refusing_both σ g cases h = cond_ind (KeepsBoth σ g) (first_of cases == 0) (λ _. h) (λ _. keeps_beside σ g (refused σ (first_of cases)))

module _ (σ : State) where
  -- R
  keeps_release : (g : List ℕ) (m r : ℕ) → KeepsBoth σ g (release house σ g m r)
  unfolding report
  keeps_release g m r =
      release_cases house σ g m r (KeepsBoth σ g) (λ _. other_both σ g (Held m _) σ g refl) (λ _ _. other_both σ g (Released m _) _ g refl)
      (λ _ _. keeps_beside σ g (refused σ LEDGER_USED_UP)) (λ _ _ _. other_both σ g (Released m _) _ _ refl)

  -- D
  keeps_deliver : (m r : ℕ) → KeepsRefused σ (deliver house σ m r)
  unfolding interval_begins report
  keeps_deliver m r =
      deliver_cases house σ r m (KeepsRefused σ) (λ _. other σ (Dropped m _ _) _ refl) (λ _. other σ (Waits m) σ refl) (λ _. refused σ PLACES_USED_UP)
      (λ _ _ _. other σ (Delivered m _ _) _ refl)

  -- H
  keeps_hear : (hearer owner i : ℕ) → KeepsRefused σ (hear σ hearer owner i)
  unfolding hear report
  keeps_hear hearer owner i =
      let k = lowest_condemned (noted σ hearer owner i) hearer in
      cond_ind (KeepsRefused σ) (σ (LiveCount hearer) ≤? k) (λ _. other σ (Heard hearer) _ refl)
      (λ _. cond_ind (KeepsRefused σ) (last_incarnation ≤? σ (Incarnation hearer)) (λ _. refused σ INCARNATIONS_USED_UP) (λ _. other σ (Rolled hearer _ _ _ _ _) _ refl))

  -- after the host's refusals
  keeps_perform : (g : List ℕ) (x : Command) → KeepsBoth σ g (perform house σ g x)
  unfolding perform step_open step_degree step_send step_release step_deliver step_log step_checkpoint step_tell step_crash step_hear step_gap report
  keeps_perform g (Open n k) = keeps_refusing_both σ g _ (other_both σ g Done _ _ refl)
  keeps_perform g (SetDegree c k) = keeps_beside σ g (keeps_refusing σ _ (other σ Done _ refl))
  keeps_perform g (Send sender receiver payload) = keeps_beside σ g (keeps_refusing σ _ (other σ (Sent _) _ refl))
  keeps_perform g (Release m) = keeps_refusing_both σ g _ (keeps_release g m _)
  keeps_perform g (Deliver m) = keeps_beside σ g (keeps_refusing σ _ (keeps_deliver m _))
  keeps_perform g (Log c q) = keeps_beside σ g (keeps_refusing σ _ (other σ Done _ refl))
  keeps_perform g (Checkpoint c) = keeps_beside σ g (keeps_refusing σ _ (other σ Done _ refl))
  keeps_perform g (Tell owner holder) = keeps_beside σ g (keeps_refusing σ _ (other σ Done _ refl))
  keeps_perform g (Crash c) = keeps_beside σ g (keeps_refusing σ _ (other σ (Crashed _ _ _ _ _) _ refl))
  keeps_perform g (Hear hearer owner i) = keeps_beside σ g (keeps_refusing σ _ (keeps_hear hearer owner i))
  keeps_perform g (SetGap q) = keeps_beside σ g (keeps_refusing σ _ (other σ Done _ refl))

  -- every step
  pub keeps_refused : (g : List ℕ) (x : Command) → KeepsBoth σ g (step_on house σ g x)
  unfolding step_on
  keeps_refused g x =
      cond_ind (KeepsBoth σ g) (looks_at_form x && not (in_form house σ)) (λ _. keeps_beside σ g (refused σ FORM)) (λ _. keeps_perform g x)
