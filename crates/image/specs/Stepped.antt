-- Every step on a state and a ledger is one of the outcomes, in a house of any limits.
use Rattle.std.specs.Prelude.{◌≡◌, true, List, ℕ, ◌≤◌, ◌==◌}
use Rattle.std.proofs.Math.Path.{refl, sym}
use Rattle.std.proofs.Common.{subst}
use native.Mathlib.Omega.{arith}
use Rattle.std.specs.Int.Count.{ones, ones_in}
use borrow.Author.Tests.{eqb-true, eq-eqb, leb-true}
use Rattle.base.specs.Choice.{◌<?◌, cond_ind}
use Rattle.base.specs.Cases.{Case, first_of}
use Rattle.table.specs.Field.{State, Size, Degree, LiveCount, StableCount, Sender, Receiver, desk, same}
use Rattle.table.specs.Change.{put}
use Rattle.rules.specs.Limits.{Limits}
use Rattle.rules.specs.Form.{for_desk}
use Rattle.rules.specs.Shared.{logged, logged_to, checkpointed, forced, capped}
use Rattle.rules.specs.Steps.{After, after, refusing, AfterBoth, refusing_both, open_house, open_refusals, step_open, may_go}
use Rattle.rules.specs.declared.Answer.{Answer}
use Rattle.rules.specs.declared.Command.{Command}
use Rattle.rules.specs.declared.Command.TheVariants.{Open}
use Rattle.model.specs.Model as M
use Rattle.laws.specs.Allowed.{open_allowed}
use Rattle.image.specs.Image.{image}
use Rattle.image.specs.Open.{image_opened}
use Rattle.image.specs.Outcome as O
use Rattle.image.specs.Outcome.{Outcome}

-- an outcome of step x on σ, as it stands after the step
abbrev pub Stepped : State → Command → After → Type 0
Stepped σ x o = Outcome (σ Size) (image σ) x o.answer (o.left Size) (image o.left)

-- the same of a step on both buffers; no outcome speaks of the ledger
abbrev pub SteppedBoth : State → Command → AfterBoth → Type 0
SteppedBoth σ x o = Stepped σ x (after o.answer o.left)

-- the same with another writing of the answer, the size and the model
pub outcome_as : (n : ℕ) (μ : M.Model) (x : Command) {a b : Answer} {j k : ℕ} {p q : M.Model} → a ≡ b → j ≡ k → p ≡ q → Outcome n μ x b k q → Outcome n μ x a j p
outcome_as n μ x {b = b} {j = j} {p = p} e s h o = subst (λ z. Outcome n μ x z j p) (sym e) (subst (λ z. Outcome n μ x b z p) (sym s) (subst (Outcome n μ x b _) (sym h) o))

-- a step after its refusals
pub stepped_refusing : (σ : State) (x : Command) (cases : List Case) (o : After) → (0 ≡ first_of cases → Stepped σ x o) → Stepped σ x (refusing cases σ o)
unfolding refusing
stepped_refusing σ x cases o h = cond_ind (Stepped σ x) (first_of cases == 0) (λ e. h (sym (eqb-true (first_of cases) 0 e))) (λ e. O.refused x (first_of cases))

-- a step on both buffers after its refusals
pub stepped_refusing_both : (σ : State) (g : List ℕ) (x : Command) (cases : List Case) (o : AfterBoth) → (0 ≡ first_of cases → SteppedBoth σ x o) →
    SteppedBoth σ x (refusing_both cases σ g o)
unfolding refusing_both
stepped_refusing_both σ g x cases o h =
    cond_ind (SteppedBoth σ x) (first_of cases == 0) (λ e. h (sym (eqb-true (first_of cases) 0 e))) (λ e. O.refused x (first_of cases))

-- O
pub stepped_open : (L : Limits) (σ : State) (g : List ℕ) (n k : ℕ) → SteppedBoth σ (Open n k) (step_open L σ g n k)
unfolding step_open open_house
stepped_open L σ g n k =
    stepped_refusing_both σ g (Open n k) (open_refusals L g n k) _
    (λ e. let d = open_allowed L g n k e in
    outcome_as _ _ (Open n k) refl refl (image_opened n k d.size_le) (O.opened n k d.size_pos d.size_le d.degree_le))

-- no rule but opening writes the number of controllers
pub logged_to_size : (σ : State) (c k : ℕ) → logged_to σ c k Size ≡ σ Size
unfolding logged_to logged put same
logged_to_size σ c k = cond_ind (λ (τ : State). τ Size ≡ σ Size) (σ (StableCount c) <? k) (λ e. refl) (λ e. refl)

pub capped_size : (σ : State) (c : ℕ) → capped σ c Size ≡ σ Size
unfolding capped checkpointed put same
capped_size σ c = cond_ind (λ (τ : State). τ Size ≡ σ Size) (forced σ c) (λ e. logged_to_size σ c (σ (LiveCount c))) (λ e. refl)

-- a message that may go names no more than its sender's degree
pub go_few : (σ : State) (r names : ℕ) → may_go σ r names ≡ true → ones names ≤ σ (Degree (σ (Sender r)))
unfolding may_go ones ones_in
go_few σ r names =
    let degree = σ (Degree (σ (Sender r))) in
    cond_ind (λ b. b ≡ true → ones names ≤ degree) (for_desk σ r) (λ d e. subst (λ x. ones x ≤ degree) (sym (eqb-true names 0 e)) (omega arith)) (λ d e. leb-true (ones names) degree e)

-- and nobody where it is for the desk
pub go_none : (σ : State) (r names : ℕ) → may_go σ r names ≡ true → σ (Receiver r) ≡ desk → names ≡ 0
unfolding may_go
go_none σ r names e d = eqb-true names 0 (rw (eq-eqb (σ (Receiver r)) desk d) at e)
