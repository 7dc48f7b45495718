-- W4's ceiling, on models alone: each live number stands less than M above the latest flagged one up to it.
use Rattle.std.specs.Prelude.{ℕ, ◌≤◌, ◌<◌}
use Rattle.model.specs.Model.{Controller, Model, above_latest}

-- the numbers of a controller stand less than M above the latest flagged one
abbrev pub CloseController : ℕ → Controller → Type 0
CloseController M k = (x : ℕ) → x ≤ k.live → above_latest k x < M

-- those of all controllers do
pub record Close (n M : ℕ) (μ : Model) : Type 0 where
  pub above_lt : (c : ℕ) → c < n → CloseController M (μ.controller c)
