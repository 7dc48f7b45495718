-- A delivery that echoes: it begins the interval with the receiver's own vector, whatever the message brings.
use Rattle.std.specs.Prelude.{◌≡◌, refl, true, false, List, ℕ, ◌<◌, length}
use Rattle.std.proofs.Common.{sym, ap, ◌∙◌, arith, eq-eqb, ltb-true}
use Rattle.base.specs.Choice.{◌<?◌}
use Rattle.table.specs.Field.{State, MessageState, Receiver, PairNumber}
use Rattle.table.specs.Layout.{table_words}
use Rattle.table.specs.Words.{state, Agree}
use Rattle.table.proofs.Words.{word_at, long_of, agree_words}
use Rattle.table.specs.Numbering.{used, record_of}
use Rattle.table.proofs.Numbering.{record_agree}
use Rattle.rules.specs.Limits.{house}
use Rattle.rules.specs.Form.{state_released}
use Rattle.rules.specs.Ledger.{ledger_words}
use Rattle.rules.specs.Steps.{beside, chain_full}
use Rattle.rules.specs.Step.{looks_at_form, written_both, lent}
use Rattle.rules.specs.declared.Command.{Command}
use Rattle.listing.specs.Run.{steps, goes}
use Rattle.laws.specs.Facts.{Form, form, released_lt, house_fits}
use Rattle.laws.specs.Allowed.{room_left}
use Rattle.laws.specs.Chain.{chain_form}
use Rattle.keeping.proofs.StepSame.{Same, same_beside, same_written, same_begins, newest_filtered}
use Rattle.testers.proofs.Sample.{sample_run}
use Rattle.testers.proofs.Along.{state_at, Stage}
use Rattle.testers.proofs.Judged.{sample_at, sample_stage}
use Rattle.testers.specs.Echo.{echoed}

-- it too looks only at words of the table
echoed_same : (σ τ : State) → Agree σ τ → Form house σ → (m : ℕ) → let r = record_of σ m in r < used σ → σ (MessageState r) ≡ state_released →
    chain_full house σ (σ (Receiver r)) ≡ false → Same (echoed σ m) (echoed τ m)
echoed_same σ τ e f m l st left =
    let r = record_of σ m in
    let c = σ (Receiver r) in
    let w = chain_form σ c f (released_lt f r l st) in
    rw (← record_agree σ τ e m f.used_le, ← e (Receiver r) (omega (arith, f.used_le), omega arith)) (same_begins σ τ e c m r w (room_left house σ f house_fits c _ left) (newest_filtered σ τ e f c w))

echoed_words : {t g : List ℕ} (σ : State) (k : List ℕ) (m : ℕ) {x : Command} → Stage t g σ k x → looks_at_form x ≡ true → let r = record_of σ m in (r <? used σ) ≡ true →
    σ (MessageState r) ≡ state_released → chain_full house σ (σ (Receiver r)) ≡ false → lent t g (λ σ. beside (echoed σ m) g) ≡ written_both (beside (echoed σ m) g)
unfolding lent
echoed_words {t} {g} σ k m s looks here st left =
    let e = agree_words σ s.table_is in
    rw (eq-eqb (length t) table_words (long_of σ s.table_is))
    (sym (same_written (same_beside g (echoed_same σ (state t) (λ f v. sym (e f v)) (form house σ (s.good looks)) m (ltb-true _ _ here) st left))))

-- In the sample run the new interval of controller 2 would have no pair of controller 1.
pub pair_echoed : (t g : List ℕ) → length t ≡ table_words → length g ≡ ledger_words house →
    let r = sample_at t g 5 in
    state (lent r.table r.ledger (λ σ. beside (echoed σ 2) r.ledger)).table (PairNumber 2 1 1) ≡ 0
unfolding steps state_at sample_run goes
pair_echoed t g long wide =
    ap (λ o. state o.table (PairNumber 2 1 1)) (echoed_words _ _ 2 (sample_stage t g long wide 5) refl refl refl refl)
    ∙ word_at _ (PairNumber 2 1 1) (omega arith, omega arith, omega arith)
