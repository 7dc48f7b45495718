-- A message that is there stays there: every step but an opening that is done leaves it in its record, with what its send put between state
-- and vector.
use Rattle.std.specs.Prelude.{◌≡◌, refl, true, not, List, ◌≢◌, ℕ, ◌≤◌, ◌<◌, ◌==◌}
use Rattle.std.proofs.Common.{arith, ne_eqb}
use Rattle.base.specs.Choice.{cond_ind}
use Rattle.base.specs.Cases.{first_of}
use Rattle.table.specs.Field.{Field, State, OfMessage}
use Rattle.table.specs.Numbering.{used, record_of, posted}
use Rattle.table.proofs.Numbering.{posted_used, posted_record, posted_kept}
use Rattle.rules.specs.Limits.{Limits}
use Rattle.rules.specs.Form.{in_form}
use Rattle.rules.specs.Steps.{After, AfterBoth, refusing, refusing_both, open_refusals, step_open, sent, send_refusals, step_send}
use Rattle.rules.specs.Step.{perform, step_on}
use Rattle.rules.specs.declared.Answer.TheVariants.{Done}
use Rattle.rules.specs.declared.Command.{Command}
use Rattle.rules.specs.declared.Command.TheVariants.{Open, SetDegree, Send, Release, Deliver, Log, Checkpoint, Tell, Crash, Hear, SetGap}
use Rattle.laws.specs.Fixed.{fixed, Fixed, numbers_fixed, fixed_step}

-- the messages of σ are there in τ
pub record Stays (σ τ : State) : Type 0 where
  pub used_le : used σ ≤ used τ
  pub record_same : (m : ℕ) → record_of σ m < used σ → record_of τ m ≡ record_of σ m
  pub word_same : (r k : ℕ) → r < used σ → fixed (OfMessage r k) ≡ true → τ (OfMessage r k) ≡ σ (OfMessage r k)

-- so is one of them
pub there_stays : (σ τ : State) → Stays σ τ → (m : ℕ) → record_of σ m < used σ → (record_of τ m ≡ record_of σ m) × (record_of τ m < used τ)
there_stays σ τ s m l = let e = s.record_same m l in (e, omega (arith, s.used_le))

-- where nothing changes
stays_same : (σ : State) → Stays σ σ
stays_same σ = record { used_le = omega arith; record_same = λ m _. refl; word_same = λ r k _ _. refl }

-- a change of other words
stays_fixed : (σ τ : State) → ((f : Field) → Fixed σ f (τ f)) → Stays σ τ
stays_fixed σ τ h =
    let n = numbers_fixed σ τ h in
    record { used_le = omega (arith, n.used_same); record_same = λ m _. n.record_same m; word_same = λ r k _. h (OfMessage r k) }

-- S puts another record
stays_posted : (σ : State) (w : List ℕ) → Stays σ (posted σ w)
stays_posted σ w =
    record {
      used_le = omega (arith, posted_used σ w);
      record_same = posted_record σ w;
      word_same = λ r k l _. let ne : r ≢ used σ = λ z. absurd (omega arith) in posted_kept σ w (OfMessage r k) refl (rw (ne_eqb r (used σ) ne));
    }

-- THE STEPS
module _ (L : Limits) (σ : State) (g : List ℕ) where
  -- O, where it isn't done
  stays_open : (n k : ℕ) → (step_open L σ g n k).answer ≢ Done → Stays σ (step_open L σ g n k).left
  unfolding step_open refusing_both
  stays_open n k =
      cond_ind (λ (o : AfterBoth). o.answer ≢ Done → Stays σ o.left) (first_of (open_refusals L g n k) == 0)
      (λ _ ne. absurd (ne refl)) (λ _ _. stays_same σ)

  -- S
  stays_send : (sender receiver payload : ℕ) → Stays σ (step_send L σ sender receiver payload).left
  unfolding step_send refusing sent
  stays_send sender receiver payload =
      cond_ind (λ (o : After). Stays σ o.left) (first_of (send_refusals L σ sender receiver) == 0) (λ _. stays_posted σ _) (λ _. stays_same σ)

  -- every step but an opening that is done
  pub stays_step : (x : Command) → ((n k : ℕ) → x ≡ Open n k → (step_on L σ g x).answer ≢ Done) → Stays σ (step_on L σ g x).left
  unfolding step_on perform
  stays_step (Open n k) ne = stays_open n k (ne n k refl)
  stays_step (Send sender receiver payload) ne =
      cond_ind (λ (o : AfterBoth). Stays σ o.left) (not (in_form L σ)) (λ _. stays_same σ) (λ _. stays_send sender receiver payload)
  stays_step (SetDegree c k) ne = stays_fixed σ _ (fixed_step L σ g (SetDegree c k) refl)
  stays_step (Release m) ne = stays_fixed σ _ (fixed_step L σ g (Release m) refl)
  stays_step (Deliver m) ne = stays_fixed σ _ (fixed_step L σ g (Deliver m) refl)
  stays_step (Log c q) ne = stays_fixed σ _ (fixed_step L σ g (Log c q) refl)
  stays_step (Checkpoint c) ne = stays_fixed σ _ (fixed_step L σ g (Checkpoint c) refl)
  stays_step (Tell owner holder) ne = stays_fixed σ _ (fixed_step L σ g (Tell owner holder) refl)
  stays_step (Crash c) ne = stays_fixed σ _ (fixed_step L σ g (Crash c) refl)
  stays_step (Hear hearer owner i) ne = stays_fixed σ _ (fixed_step L σ g (Hear hearer owner i) refl)
  stays_step (SetGap q) ne = stays_fixed σ _ (fixed_step L σ g (SetGap q) refl)
