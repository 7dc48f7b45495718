-- A set that goes is a list of R steps, one for each message in the order given, each of which answers released with a mask that is within the
-- union. So what every R that lets a message out keeps, a set keeps (`set_ind`).
use Rattle.std.specs.Prelude.{◌≡◌, List, length}
use Rattle.std.proofs.Math.Bool.{true}
use Prim.Native.Nat.{ℕ, ◌+◌, ◌≤◌}
use Rattle.table.specs.Field.{State}
use Rattle.rules.specs.Limits.{Limits}
use Rattle.rules.specs.Ledger.{count_of}
use Rattle.rules.specs.Sets.{union, desks, set_may_go}
use Rattle.laws.specs.Sets.{SetAllowed}

-- A SET THAT GOES
pub record Goes (L : Limits) (σ : State) (g l : List ℕ) : Type 0 where
  pub allowed : SetAllowed L σ g l
  pub may : set_may_go σ l (union σ l) ≡ true
  pub room : count_of g + desks σ l (length l) ≤ L.entries
