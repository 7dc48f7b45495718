-- When a vector is condemned to a controller, and by whose pair.
use Rattle.std.specs.Prelude.{ℕ, ◌≤◌, ◌<◌}
use Rattle.model.specs.Model.{Vec, Controller}

-- The pair of an owner below n in v is condemned to a controller: it exceeds the controller's end word, which is not 0.
pub record CondemnedBy (n : ℕ) (k : Controller) (v : Vec) (owner : ℕ) : Type 0 where
  pub below : owner < n
  pub ended : 1 ≤ k.ends owner (v owner).incarnation
  pub above : k.ends owner (v owner).incarnation < (v owner).number

-- Vector v is condemned to it: one of its pairs is.
pub record Condemned (n : ℕ) (k : Controller) (v : Vec) : Type 0 where
  pub owner : ℕ
  pub by : CondemnedBy n k v owner

-- W6: this owner is the lowest whose pair is
pub record LowestOwner (n : ℕ) (k : Controller) (v : Vec) (owner : ℕ) : Type 0 where
  pub by : CondemnedBy n k v owner
  pub none_lower : (a : ℕ) → a < owner → CondemnedBy n k v a → ⊥
