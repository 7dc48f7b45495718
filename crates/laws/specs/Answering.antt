-- What code that answers a step has to show: the host's refusals, the step's own, and a step that is done.
use Rattle.std.specs.Prelude.{◌≡◌, refl, Bool, true, false, not, cond, ◌&&◌, List, ℕ, length, Result, Err}
use Rattle.std.proofs.Common.{sym, ap, ◌∙◌, arith, eq-eqb, ne_eqb}
use Rattle.base.specs.Cases.{Case, first_of}
use Rattle.table.specs.Field.{State}
use Rattle.table.specs.Layout.{table_words}
use Rattle.table.specs.Words.{state, words}
use Rattle.table.proofs.Words.{words_state}
use Rattle.rules.specs.Limits.{house}
use Rattle.rules.specs.Refusal.{LENGTH, FORM}
use Rattle.rules.specs.Refused.{number, number_positive, refusal_of}
use Rattle.rules.specs.Form.{in_form}
use Rattle.rules.specs.Steps.{After, refusing, AfterBoth, after_both, beside, refusing_both}
use Rattle.rules.specs.Step.{Out, out, written, OutBoth, out_both, written_both, looks_at_form, perform, step_on, lent, step}
use Rattle.rules.specs.declared.Answer.{Answer}
use Rattle.rules.specs.declared.Answer.TheVariants.{Done, Refused}
use Rattle.rules.specs.declared.Command.{Command}
use Rattle.rules.specs.declared.refusal.Refusal.{Refusal}

-- a refusal is not `done`
pub not_done : {A : Type 0} (number : ℕ) → Refused number ≡ Done → A
not_done number e = absurd (let z : ◌≡◌ {A = ℕ} 0 1 = cc in omega arith)

-- a lent table that the host's refusals let pass
pub record Lent (t : List ℕ) : Type 0 where
  pub long : length t ≡ table_words
  pub good : in_form house (state t) ≡ true

-- the same as `Lent` for a step that may not look at the form
pub record LentFor (t : List ℕ) (x : Command) : Type 0 where
  pub long : length t ≡ table_words
  pub good : looks_at_form x ≡ true → in_form house (state t) ≡ true

-- refused: the number is that of the first case that applies, and the table is as it was
pub refused : (cases : List Case) (t : List ℕ) (r : ℕ) (o : After) → length t ≡ table_words → r ≡ first_of cases → (r ≡ 0 → ⊥) →
    out (Refused r) t ≡ written (refusing cases (state t) o)
unfolding refusing
refused cases t r o l e ne =
    (λ d. out (Refused (e d)) (words_state t l d))
    ∙ sym (ap (λ (b : Bool). written (cond b o (record { answer = Refused (first_of cases); left = state t }))) (ne_eqb (first_of cases) 0 (λ z. ne (e ∙ z))))

-- not refused
pub granted : (cases : List Case) (σ : State) (o : After) (a : Answer) (u : List ℕ) → 0 ≡ first_of cases → out a u ≡ written o → out a u ≡ written (refusing cases σ o)
unfolding refusing
granted cases σ o a u e h =
    h ∙ sym (ap (λ (b : Bool). written (cond b o (record { answer = Refused (first_of cases); left = σ }))) (eq-eqb (first_of cases) 0 (sym e)))

-- the same of what the code found
pub turned_away : (cases : List Case) (t : List ℕ) (o : After) (found : Result Unit Refusal) (refusal : Refusal) → length t ≡ table_words →
    refusal_of found ≡ first_of cases → found ≡ Err refusal → out (Refused (number refusal)) t ≡ written (refusing cases (state t) o)
turned_away cases t o found refusal l e w = refused cases t (number refusal) o l (sym (ap refusal_of w) ∙ e) (λ z. let p = number_positive refusal in omega arith)

-- an answer that leaves the words of a state
pub leaves : (a : Answer) (u : List ℕ) (σ : State) → u ≡ words σ → out a u ≡ written (record { answer = a; left = σ })
leaves a u σ e = ap (out a) e

-- The same of a step that looks at both buffers: refused, and not refused.
pub refused_both : (cases : List Case) (t g : List ℕ) (r : ℕ) (o : AfterBoth) → length t ≡ table_words → r ≡ first_of cases → (r ≡ 0 → ⊥) →
    out_both (Refused r) t g ≡ written_both (refusing_both cases (state t) g o)
unfolding refusing_both
refused_both cases t g r o l e ne =
    (λ d. out_both (Refused (e d)) (words_state t l d) g)
    ∙ sym (ap (λ (b : Bool). written_both (cond b o (after_both (Refused (first_of cases)) (state t) g))) (ne_eqb (first_of cases) 0 (λ z. ne (e ∙ z))))

pub granted_both : (cases : List Case) (σ : State) (g : List ℕ) (o : AfterBoth) (a : Answer) (u h : List ℕ) (n : ℕ) → n ≡ first_of cases → n ≡ 0 →
    out_both a u h ≡ written_both o → out_both a u h ≡ written_both (refusing_both cases σ g o)
unfolding refusing_both
granted_both cases σ g o a u h n e z p =
    p ∙ sym (ap (λ (b : Bool). written_both (cond b o (after_both (Refused (first_of cases)) σ g))) (eq-eqb (first_of cases) 0 (sym e ∙ z)))

pub turned_away_both : (cases : List Case) (t g : List ℕ) (o : AfterBoth) (found : Result Unit Refusal) (refusal : Refusal) → length t ≡ table_words →
    refusal_of found ≡ first_of cases → found ≡ Err refusal → out_both (Refused (number refusal)) t g ≡ written_both (refusing_both cases (state t) g o)
turned_away_both cases t g o found refusal l e w =
    refused_both cases t g (number refusal) o l (sym (ap refusal_of w) ∙ e) (λ z. let p = number_positive refusal in omega arith)

-- a step beside which the ledger stays
pub left_beside : (a : Answer) (u g : List ℕ) (o : After) → out a u ≡ written o → out_both a u g ≡ written_both (beside o g)
left_beside a u g o e = ap (λ (o : Out). out_both o.answer o.table g) e

-- "1 length is not 15,152"; "2 table not in form"; and neither
pub too_short : (t g : List ℕ) (x : Command) → (length t ≡ table_words → ⊥) → out_both (Refused LENGTH) t g ≡ step t g x
unfolding step lent
too_short t g x ne = rw (ne_eqb (length t) table_words ne)

pub out_of_form : (t g : List ℕ) (x : Command) → length t ≡ table_words → looks_at_form x ≡ true → in_form house (state t) ≡ false → out_both (Refused FORM) t g ≡ step t g x
unfolding step lent step_on
out_of_form t g x l e f = rw (eq-eqb (length t) table_words l, e, f) (ap (λ u. out_both (Refused FORM) u g) (words_state t l))

pub answered : (t g : List ℕ) (x : Command) (o : OutBoth) → LentFor t x → o ≡ written_both (perform house (state t) g x) → o ≡ step t g x
unfolding step lent step_on
answered t g x o h e = e ∙ sym (rw (eq-eqb (length t) table_words h.long, lets (looks_at_form x) refl))
  where
    lets : (b : Bool) → looks_at_form x ≡ b → (looks_at_form x && not (in_form house (state t))) ≡ false
    lets true q = rw (q, h.good q)
    lets false q = rw q

-- a step that looks at the form has a table in form
pub lent_as : (t : List ℕ) (x y : Command) → LentFor t x → x ≡ y → looks_at_form y ≡ true → Lent t
lent_as t x y h e l = record { long = h.long; good = h.good (ap looks_at_form e ∙ l) }

-- an arm of a match on the command
pub by_command : (σ : State) (g : List ℕ) (x y : Command) (o : OutBoth) → o ≡ written_both (perform house σ g y) → x ≡ y → o ≡ written_both (perform house σ g x)
by_command σ g x y o e q = e ∙ sym (ap (λ (z : Command). written_both (perform house σ g z)) q)
