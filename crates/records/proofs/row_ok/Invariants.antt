-- The flag gathers the tests of the incarnations before i, all against one bound.
use Rattle.base.specs.Ranges.{allb}
use Rattle.base.specs.Choice.{◌≤?◌}
use Rattle.table.specs.Field.{State, Known, End}
use Rattle.table.specs.Words.{state}
use Rattle.std.proofs.Common.{◌≡◌, ℕ, Bool, ◌&&◌}
use Rattle.records.proofs.row_ok.Given as goal

-- the test of incarnation i
abbrev pub within : State → ℕ → ℕ → ℕ → ℕ → Bool
within σ holder owner most i = (σ (Known holder owner i) ≤? most) && (σ (End holder owner i) ≤? most)

abbrev pub invariant-loop-i : goal.invariant-loop-i
invariant-loop-i l = l.ok ≡ allb l.i (within (state l.t) l.holder l.owner l.most)
