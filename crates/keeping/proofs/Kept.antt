-- The same of tables of words: a table in form stays in form, and one that an opening has made is in form.
use Rattle.std.specs.Prelude.{◌≡◌, refl, true, List, [], ◌∷◌, ℕ, ◌+◌, length}
use Rattle.std.proofs.Common.{ap, ◌∙◌, arith, eq-eqb}
use Rattle.base.specs.Ranges.{allb, allb_ext}
use Rattle.base.specs.Cases.{all_of}
use Rattle.table.specs.Field.{State, OfHead, OfController, Known, End, OfPlace, OfMessage, Size, LiveCount}
use Rattle.table.specs.Layout.{controllers, places, messages, table_words}
use Rattle.table.specs.Words.{Agree, state, words}
use Rattle.table.proofs.Words.{length_words, agree_words}
use Rattle.table.proofs.Numbering.{number_same, used_agree, last_agree}
use Rattle.rules.specs.Limits.{house}
use Rattle.rules.specs.Form.{controller_ok, row_ok, place_ok, message_ok, in_form}
use Rattle.rules.specs.Step.{step_on, lent, step}
use Rattle.rules.specs.declared.Answer.TheVariants.{Done}
use Rattle.rules.specs.declared.Command.{Command}
use Rattle.rules.specs.declared.Command.TheVariants.{Open}
use Rattle.laws.specs.Facts.{house_fits}
use Rattle.laws.specs.Answering.{Lent}
use Rattle.keeping.specs.Untouched.{head_ok_of, controller_ok_of, row_ok_of, place_ok_of, message_ok_of}
use Rattle.keeping.proofs.Steps.{form_kept, form_opened}

-- The form looks only at words of the table: states with the same words are both in form, or neither is.
pub in_form_same : (σ τ : State) → Agree σ τ → in_form house σ ≡ in_form house τ
unfolding in_form
in_form_same σ τ e =
    let size = e Size (omega arith) in
    let n = τ Size in
    let count = used_agree σ τ e in
    let head = head_ok_of house σ τ (λ k l. e (OfHead k) (omega arith)) count in
    let each = ap (λ n. allb controllers (controller_ok house n σ)) size
    ∙ allb_ext _ _ controllers (λ c cl. controller_ok_of house σ τ n c (λ k l. e (OfController c k) (cl, l))) in
    let rows = ap (λ n. allb controllers (λ (holder : ℕ). allb controllers (row_ok house n σ holder))) size
    ∙ allb_ext _ _ controllers (λ holder hl. allb_ext _ _ controllers (λ owner ol.
    row_ok_of house σ τ n holder owner (λ i l. e (Known holder owner i) (hl, ol, l)) (λ i l. e (End holder owner i) (hl, ol, l)))) in
    let chains = ap (λ n. allb controllers (λ (c : ℕ). allb places (place_ok house n σ c))) size
    ∙ allb_ext _ _ controllers (λ c cl. allb_ext _ _ places (λ p pl.
    place_ok_of house σ τ n c p (e (LiveCount c) (cl, omega arith)) (number_same σ τ e c (p + 1) cl) (last_agree σ τ e) (λ k l. e (OfPlace c p k) (cl, pl, l)))) in
    let records = ap (λ n. allb messages (message_ok house n σ)) size
    ∙ allb_ext _ _ messages (λ r rl. message_ok_of house σ τ n r count (λ k l. e (OfMessage r k) (rl, l))) in
    λ d. all_of
    (head d ∷ each d ∷ rows d ∷ chains d ∷ records d ∷ [])

-- the table of a state in form
pub lent_words : (σ : State) → in_form house σ ≡ true → Lent (words σ)
lent_words σ e = record { long = length_words σ; good = in_form_same (state (words σ)) σ (agree_words σ refl) ∙ e }

-- every step leaves a table in form in form
pub kept : (t g : List ℕ) (x : Command) → Lent t → Lent (step t g x).table
unfolding step lent
kept t g x h = rw (eq-eqb (length t) table_words h.long) (lent_words (step_on house (state t) g x).left (form_kept house house_fits (state t) g x h.good))

-- an opening that is done leaves one in form, whatever stood there
pub opened : (t g : List ℕ) (n k : ℕ) → length t ≡ table_words → (step t g (Open n k)).answer ≡ Done → Lent (step t g (Open n k)).table
unfolding step lent
opened t g n k l = rw (eq-eqb (length t) table_words l) (λ e. lent_words (step_on house (state t) g (Open n k)).left (form_opened house house_fits (state t) g n k e))
