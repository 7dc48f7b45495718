use Rattle.base.specs.Ranges.{allb, allb_zero, allb_step, allb_end}
use Rattle.base.specs.Choice.{◌≤?◌}
use Rattle.table.specs.Field.{State}
use Rattle.table.specs.Layout.{incarnations}
use Rattle.rules.specs.Limits.{house}
use Rattle.rules.specs.Form.{highest, row_ok}
use Rattle.std.proofs.Common.{◌≡◌, ap, ◌∙◌, ◌&&◌, ℕ}
use Rattle.records.proofs.row_ok.Invariants.{within}
use Rattle.records.proofs.row_ok.Goals as goal

both-within : (most : ℕ) {x x' y y' : ℕ} → x ≡ x' → y ≡ y' → ((x ≤? most) && (y ≤? most)) ≡ ((x' ≤? most) && (y' ≤? most))
both-within most p q = λ d. (p d ≤? most) && (q d ≤? most)

row_within : (n : ℕ) (σ : State) (holder owner most : ℕ) → most ≡ highest house n holder owner → allb incarnations (within σ holder owner most) ≡ row_ok house n σ holder owner
unfolding row_ok
row_within n σ holder owner most e = ap (λ (most : ℕ). allb incarnations (within σ holder owner most)) e

pub loop-i-init : goal.loop-i-init
loop-i-init c = allb_zero _

pub loop-i-preserved : goal.loop-i-preserved
loop-i-preserved c = allb_step _ _ _ _ c.loop-i.invariant (both-within _ c.known-known.ensures c.end-end.ensures)

pub returns : goal.returns
returns c = allb_end _ _ _ _ c.loop-i.invariant c.loop-i.auto.i-end c.loop-i-test.false ∙ row_within _ _ _ _ _ c.highest_known-most.ensures
