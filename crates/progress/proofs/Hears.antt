-- What H answers on a table in form, of a crash that its controller has noted and the hearer hasn't.
use Rattle.std.specs.Prelude.{◌≡◌, refl, true, not, List, ◌≢◌, ℕ, ◌≤◌, ◌<◌}
use Rattle.std.proofs.Common.{sym, ap, ◌∙◌, subst, inl, inr, eq-eqb, ne_eqb, leb-true, le-ltb}
use Rattle.std.proofs.lemmas.Bool.{lt-leb}
use Rattle.base.specs.Choice.{◌≤?◌, cond_ind}
use Rattle.table.specs.Field.{State, Size, End, Incarnation, LiveCount}
use Rattle.table.specs.Words.{state}
use Rattle.rules.specs.Limits.{Limits, house, last_incarnation}
use Rattle.rules.specs.Refusal.{CONTROLLER, NO_SUCH_CRASH, ALREADY_HEARD}
use Rattle.rules.specs.Form.{in_form}
use Rattle.base.specs.Cases.{none, skip}
use Rattle.rules.specs.Steps.{After, AfterBoth, noted, lowest_condemned, hear, hear_refusals, step_hear}
use Rattle.rules.specs.Step.{perform, step_on, step}
use Rattle.rules.specs.declared.Command.TheVariants.{Hear}
use Rattle.history.specs.Demand.{answers_heard, answers_rolled}
use Rattle.keeping.proofs.Unrefused.{Sound}
use Rattle.image.proofs.Tables.{size_of}
use Rattle.progress.specs.Answers.{unrefused}
use Rattle.progress.proofs.Answers.{same_answer}
use Rattle.keeping.proofs.Steps.{performed}
use Rattle.progress.specs.Hears.{Hears}

-- the rule after its refusals
hear_rule : (σ : State) (b c i : ℕ) → Hears (σ (Incarnation b)) (hear σ b c i).answer
unfolding hear
hear_rule σ b c i =
    let k = lowest_condemned (noted σ b c i) b in
    let P : After → Type 0 = λ o. Hears (σ (Incarnation b)) o.answer in
    cond_ind P (σ (LiveCount b) ≤? k) (λ _. inl (answers_heard b))
    (λ _. cond_ind P (last_incarnation ≤? σ (Incarnation b)) (λ e. inr (refl, leb-true last_incarnation (σ (Incarnation b)) e)) (λ _. inl (answers_rolled b _ _ _ _ _)))

-- on states
hear_done : (L : Limits) (σ : State) (g : List ℕ) → in_form L σ ≡ true → (b c i : ℕ) → b < σ Size → c < σ Size → i ≤ last_incarnation → σ (End c c i) ≢ 0 → σ (End b c i) ≡ 0 →
    Hears (σ (Incarnation b)) (step_on L σ g (Hear b c i)).answer
unfolding perform step_hear
hear_done L σ g good b c i bl cl il ended unheard =
    let e =
    ap (λ (o : AfterBoth). o.answer) (performed L σ g good (Hear b c i))
    ∙ ap (λ (o : After). o.answer) (unrefused (hear_refusals σ b c i) σ (hear σ b c i)
    (skip _ CONTROLLER 0 _ (rw (lt-leb (σ Size) b bl, lt-leb (σ Size) c cl))
    (skip _ NO_SUCH_CRASH 0 _ (rw (le-ltb last_incarnation i il, ne_eqb (σ (End c c i)) 0 ended))
    (skip _ ALREADY_HEARD 0 _ (ap not (eq-eqb (σ (End b c i)) 0 unheard)) none)))) in
    subst (Hears (σ (Incarnation b))) (sym e) (hear_rule σ b c i)

-- on tables
pub hear_answers : (t g : List ℕ) → Sound t g → (b c i : ℕ) → b < size_of t → c < size_of t → i ≤ last_incarnation → state t (End c c i) ≢ 0 → state t (End b c i) ≡ 0 →
    Hears (state t (Incarnation b)) (step t g (Hear b c i)).answer
hear_answers t g s b c i bl cl il ended unheard =
    subst (Hears (state t (Incarnation b))) (sym (same_answer t g s (Hear b c i))) (hear_done house (state t) g s.table.good b c i bl cl il ended unheard)
