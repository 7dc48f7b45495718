-- The dispatcher and the form: a call keeps it, and is not refused for a table that is in form.
use Rattle.std.specs.Prelude.{◌≡◌, refl, true, List, [], ◌≢◌, ℕ, ◌≤◌, length}
use Rattle.std.proofs.Common.{sym, ap, ◌∙◌, subst, arith, eq-eqb}
use Rattle.table.specs.Field.{State, Served}
use Rattle.table.specs.Change.{put}
use Rattle.table.specs.Layout.{table_words}
use Rattle.table.specs.Words.{state, words}
use Rattle.rules.specs.Limits.{Limits, house, last_served}
use Rattle.rules.specs.Refusal.{LENGTH, FORM, LEDGER}
use Rattle.rules.specs.Form.{in_form}
use Rattle.rules.specs.Steps.{beside, step_deliver, AfterBoth}
use Rattle.rules.specs.Step.{written_both, perform, dispatch_on, dispatch, lent, step_call, step}
use Rattle.rules.specs.Dispatch.{dispatched}
use Rattle.rules.specs.declared.Answer.TheVariants.{Refused}
use Rattle.rules.specs.declared.Command.TheVariants.{Deliver}
use Rattle.laws.specs.Facts.{Fitting, form, house_fits, released_lt}
use Rattle.laws.specs.Answering.{Lent}
use Rattle.laws.specs.Dispatching.{Servable, dispatched_cases}
use Rattle.keeping.proofs.Changes.{kept_served}
use Rattle.keeping.proofs.Steps.{performed, form_kept}
use Rattle.keeping.proofs.Kept.{lent_words}
use Rattle.keeping.proofs.Unrefused.{Sound, Let, let_deliver, buffers_fit}
use Rattle.table.specs.Numbering.{message_of}

-- who is served may be kept
pub served_low : (L : Limits) (σ : State) (c r : ℕ) → in_form L σ ≡ true → Servable L σ c r → c ≤ last_served
served_low L σ c r good s = let f = form L σ good in omega (arith, released_lt f r s.here s.is_released_lem, s.for, f.size_le)

-- what a call leaves of a state in form is in form
dispatched_kept : (L : Limits) → Fitting L → (σ : State) → in_form L σ ≡ true → in_form L (dispatched L σ).left ≡ true
unfolding perform
dispatched_kept L fit σ good =
    dispatched_cases L σ (λ o. in_form L o.left ≡ true)
    (λ c r w. let m = message_of σ r in
    kept_served L (step_deliver L σ m).left c (served_low L σ c r good w.it)
    (ap (λ (o : AfterBoth). in_form L o.left) (sym (performed L σ [] good (Deliver m))) ∙ form_kept L fit σ [] (Deliver m) good)) (λ _. good)

-- on a lent table D, and a call of the dispatcher, are those of its state
pub deliver_is : (t g : List ℕ) (m : ℕ) → Lent t → step t g (Deliver m) ≡ written_both (beside (step_deliver house (state t) m) g)
unfolding step lent perform
deliver_is t g m h = rw (eq-eqb (length t) table_words h.long) (ap written_both (performed house (state t) g h.good (Deliver m)))

pub dispatch_is : (t g : List ℕ) → Lent t → step_call t g dispatch ≡ written_both (beside (dispatched house (state t)) g)
unfolding step_call lent dispatch_on
dispatch_is t g h = rw (eq-eqb (length t) table_words h.long, h.good)

-- buffers in form are so whoever was served last
pub sound_served : (t g : List ℕ) (c : ℕ) → c ≤ last_served → Sound t g → Sound (words (put (state t) Served c)) g
sound_served t g c low s = record { table = lent_words _ (kept_served house (state t) c low s.table.good); ledger = s.ledger }

-- a call leaves both buffers in form
pub sound_dispatch : (t g : List ℕ) → Sound t g → let o = step_call t g dispatch in Sound o.table o.ledger
sound_dispatch t g s =
    subst (λ o. Sound o.table o.ledger) (sym (dispatch_is t g s.table))
    (record { table = lent_words _ (dispatched_kept house house_fits (state t) s.table.good); ledger = s.ledger })

-- and is not refused for one of them
pub sound_let_dispatch : (t g : List ℕ) (number : ℕ) → Sound t g → (step_call t g dispatch).answer ≡ Refused number → (number ≢ LENGTH) × (number ≢ FORM) × (number ≢ LEDGER)
sound_let_dispatch t g number s q =
    buffers_fit (ap (λ o. o.answer) (sym (dispatch_is t g s.table)) ∙ q)
    (dispatched_cases house (state t) (λ o. Let house (state t) g o.answer) (λ c r w. let_deliver house (state t) g _) (λ _. refl))
