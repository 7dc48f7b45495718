-- The mask of a release, let out or held, is that of a vector of eight pairs, so that its ones are the controllers named.
use Rattle.std.specs.Prelude.{◌≡◌, not, List, ℕ, length, ◌==◌}
use Rattle.std.proofs.Common.{subst, arith}
use Rattle.std.specs.Int.Count.{ones}
use Rattle.base.specs.Choice.{cond_ind}
use Rattle.base.specs.Ranges.{count}
use Rattle.base.specs.Cases.{first_of}
use Rattle.table.specs.Field.{State, Sender}
use Rattle.table.specs.Layout.{controllers, table_words}
use Rattle.table.specs.Words.{state}
use Rattle.table.specs.Numbering.{record_of}
use Rattle.rules.specs.Limits.{house}
use Rattle.rules.specs.Refusal.{LENGTH, FORM, LEDGER_USED_UP}
use Rattle.rules.specs.Vector.{message_vector, filtered, mask}
use Rattle.rules.specs.Form.{in_form}
use Rattle.rules.specs.Steps.{AfterBoth, refusing_both, release_refusals, own_vector, step_release}
use Rattle.rules.specs.Step.{perform, step_on, OutBoth, lent, step}
use Rattle.rules.specs.declared.Answer.{Answer}
use Rattle.rules.specs.declared.Answer.TheVariants.{Released, Held, Refused}
use Rattle.rules.specs.declared.Command.TheVariants.{Release}
use Rattle.history.specs.Demand.{named}
use Rattle.laws.specs.Records.{length_filtered}
use Rattle.laws.specs.Releasing.{release_cases}
use Rattle.image.specs.Mask.{ones_mask}

-- the ones of a mask are as many as the controllers named
abbrev pub CountsNamed : ℕ → Type 0
CountsNamed mask = ones mask ≡ count controllers (named mask)

-- what an answer to a release says of its mask
pub record Counted (a : Answer) : Type 0 where
  pub released : (m mask : ℕ) → a ≡ Released m mask → CountsNamed mask
  pub held : (m mask : ℕ) → a ≡ Held m mask → CountsNamed mask

counted_refused : (number : ℕ) → Counted (Refused number)
counted_refused number =
    record {
      released = λ m mask e. absurd (let z : ◌≡◌ {A = ℕ} 0 1 = cc in omega arith);
      held = λ m mask e. absurd (let z : ◌≡◌ {A = ℕ} 0 1 = cc in omega arith);
    }

counted_released : (m mask : ℕ) → CountsNamed mask → Counted (Released m mask)
counted_released m mask h =
    record {
      released = λ m' mask' e. let z : mask ≡ mask' = cc in subst CountsNamed z h;
      held = λ m mask e. absurd (let z : ◌≡◌ {A = ℕ} 0 1 = cc in omega arith);
    }

counted_held : (m mask : ℕ) → CountsNamed mask → Counted (Held m mask)
counted_held m mask h =
    record {
      released = λ m mask e. absurd (let z : ◌≡◌ {A = ℕ} 0 1 = cc in omega arith);
      held = λ m' mask' e. let z : mask ≡ mask' = cc in subst CountsNamed z h;
    }

counted_release : (σ : State) (g : List ℕ) (m : ℕ) → Counted (step_on house σ g (Release m)).answer
unfolding step_on perform step_release refusing_both own_vector
counted_release σ g m =
    let r = record_of σ m in
    let s = σ (Sender r) in
    let v = filtered σ s (message_vector σ r) in
    let h = ones_mask v (length_filtered σ s (message_vector σ r)) in
    let counted : AfterBoth → Type 0 = λ o. Counted o.answer in
    cond_ind counted (not (in_form house σ)) (λ _. counted_refused FORM)
    (λ _. cond_ind counted (first_of (release_refusals house σ g r) == 0)
    (λ _. release_cases house σ g m r counted (λ _. counted_held m (mask v) h) (λ _ _. counted_released m (mask v) h) (λ _ _. counted_refused LEDGER_USED_UP) (λ _ _ _. counted_released m (mask v) h))
    (λ _. counted_refused (first_of (release_refusals house σ g r))))

-- on every table, beside every ledger
pub counted_step : (t g : List ℕ) (m : ℕ) → Counted (step t g (Release m)).answer
unfolding step lent
counted_step t g m = cond_ind (λ (o : OutBoth). Counted o.answer) (length t == table_words) (λ _. counted_release (state t) g m) (λ _. counted_refused LENGTH)
