-- Every step on the lent buffers is one of the outcomes, for the model of the table's words.
use Rattle.std.specs.Prelude.{◌≡◌, refl, List, ℕ, ◌≤◌, length}
use Rattle.std.proofs.Common.{sym, ap, ◌∙◌, ⊎_elim, arith, eqb-true, ◌==◌}
use Rattle.base.specs.Choice.{cond_ind}
use Rattle.base.specs.Cases.{first_of}
use Rattle.table.specs.Field.{State, Size, Served, word}
use Rattle.table.specs.Change.{put, put_other}
use Rattle.table.specs.Layout.{controllers, table_words}
use Rattle.table.specs.Words.{state, words}
use Rattle.table.proofs.Words.{words_state, word_at}
use Rattle.rules.specs.Limits.{house, last_served}
use Rattle.rules.specs.Refusal.{LENGTH}
use Rattle.rules.specs.Ledger.{blank_ledger}
use Rattle.rules.specs.Steps.{AfterBoth, refusing_both, open_house, open_refusals, step_open}
use Rattle.rules.specs.Step.{perform, step_on, OutBoth, written_both, lent, step}
use Rattle.rules.specs.declared.Answer.TheVariants.{Done}
use Rattle.rules.specs.declared.Command.{Command}
use Rattle.rules.specs.declared.Command.TheVariants.{Open}
use Rattle.model.specs.Model.{Model, open_model}
use Rattle.laws.specs.Facts.{form}
use Rattle.laws.specs.Allowed.{open_allowed}
use Rattle.laws.specs.Answering.{Lent, not_done}
use Rattle.keeping.proofs.Changes.{kept_served}
use Rattle.image.specs.Image.{image}
use Rattle.image.specs.Open.{image_opened}
use Rattle.image.specs.Controllers.{image_served}
use Rattle.image.specs.Outcome as O
use Rattle.image.specs.Outcome.{Outcome}
use Rattle.image.specs.Tests.{fresh}
use Rattle.image.specs.Stepped.{outcome_as}
use Rattle.image.proofs.Stepped.{stepped_state}
use Rattle.image.specs.Bounds.{Bounded, bounded_form, bounded_opened, image_same, step_bounded}

-- the model of a table
abbrev pub model_of : List ℕ → Model
model_of t = image (state t)

-- the number of controllers of a table
abbrev pub size_of : List ℕ → ℕ
size_of t = state t Size

-- the model of the table of a state whose places and records are all in it
image_words : (σ : State) → Bounded σ → model_of (words σ) ≡ image σ
image_words σ b = image_same σ (state (words σ)) (λ f v. sym (word_at σ f v)) b

-- whoever was served last: the number of controllers and the model of a table in form stay
pub size_served : (t : List ℕ) (c : ℕ) → size_of (words (put (state t) Served c)) ≡ size_of t
size_served t c = word_at (put (state t) Served c) Size (omega arith) ∙ put_other (state t) Served Size c (λ e. absurd (let z : word Size ≡ word Served = ap word e in omega arith))

pub model_served : (t : List ℕ) (c : ℕ) → Lent t → c ≤ last_served → model_of (words (put (state t) Served c)) ≡ model_of t
model_served t c lent low =
    image_words (put (state t) Served c) (bounded_form _ (form house _ (kept_served house (state t) c low lent.good))) ∙ image_served (state t) c

-- such a state is left by every step on a table, unless it leaves that table as it was
image_left : (t g : List ℕ) (x : Command) → length t ≡ table_words → let τ = (step_on house (state t) g x).left in
    model_of (words τ) ≡ image τ
image_left t g x long =
    ⊎_elim (λ e. ap (λ σ. model_of (words σ)) e ∙ ap model_of (sym (words_state t long)) ∙ ap image (sym e)) (image_words _) (step_bounded (state t) g x)

-- Every step over a lent table and a lent ledger, whatever stands in them.
pub stepped : (t g : List ℕ) (x : Command) → Outcome (size_of t) (model_of t) x (step t g x).answer (size_of (step t g x).table) (model_of (step t g x).table)
unfolding step lent
stepped t g x =
    cond_ind (λ (o : OutBoth). Outcome (size_of t) (model_of t) x o.answer (size_of o.table) (model_of o.table)) (length t == table_words)
    (λ e. let o = step_on house (state t) g x in
    outcome_as _ _ x refl (word_at o.left Size (omega arith)) (image_left t g x (eqb-true (length t) table_words e)) (stepped_state house (state t) g (λ q. fresh (form house (state t) q)) x))
    (λ e. O.refused x LENGTH)

-- a house just opened, whatever stood in the table and in the ledger before
pub record Opened (n k : ℕ) (o : OutBoth) : Type 0 where
  pub size_pos : 1 ≤ n
  pub size_le : n ≤ controllers
  pub degree_le : k ≤ n
  pub size_is : size_of o.table ≡ n
  pub table_is : o.table ≡ words (open_house n k)
  pub ledger_is : o.ledger ≡ blank_ledger house
  pub model_is : model_of o.table ≡ open_model n k

-- what a done opening leaves
pub opening_done : (t g : List ℕ) (n k : ℕ) → (step t g (Open n k)).answer ≡ Done → Opened n k (step t g (Open n k))
unfolding step lent step_on perform step_open refusing_both open_house
opening_done t g n k =
    cond_ind (λ (o : OutBoth). o.answer ≡ Done → Opened n k o) (length t == table_words)
    (λ e. cond_ind (λ (o : AfterBoth). o.answer ≡ Done → Opened n k (written_both o)) (first_of (open_refusals house g n k) == 0)
    (λ q _. let d = open_allowed house g n k (sym (eqb-true (first_of (open_refusals house g n k)) 0 q)) in
    record {
      size_pos = d.size_pos;
      size_le = d.size_le;
      degree_le = d.degree_le;
      size_is = word_at (open_house n k) Size (omega arith);
      table_is = refl;
      ledger_is = refl;
      model_is = image_words (open_house n k) (bounded_opened n k) ∙ image_opened n k d.size_le;
    })
    (λ q. not_done (first_of (open_refusals house g n k))))
    (λ e. not_done LENGTH)
