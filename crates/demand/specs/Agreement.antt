-- What the history and the table are to tell the same of each controller: its degree, its incarnation, which numbers are live, and which
-- of them are stable and flagged; and of Q.
use Rattle.std.specs.Prelude.{◌≡◌, true, ◌↔◌, ℕ, ◌≤◌}
use Rattle.table.specs.Field.{State, Gap, Degree, Incarnation, StableCount, Flag}
use Rattle.table.specs.Words.{state}
use Rattle.table.specs.Numbering.{number_of, last_live, place_of}
use Rattle.history.specs.History.{Interval, interval, newest, member}
use Rattle.history.specs.Demand.{Run}

-- the lowest number of c that isn't discarded, and the highest stable one, by its counts (`last_live` is the highest live one)
abbrev pub first_kept : State → ℕ → ℕ
first_kept σ c = number_of σ c 1

abbrev pub last_stable : State → ℕ → ℕ
last_stable σ c = number_of σ c (σ (StableCount c))

-- an interval of c is flagged just where its place has the flag 1
abbrev pub FlagAgrees : Run → ℕ → Interval → Type 0
FlagAgrees r c y = (r.history.flagged y ≡ true) ↔ (state r.table (Flag c (place_of (state r.table) c y.number)) ≡ 1)

-- controller c, and Q, in a run
pub record Agrees (r : Run) (c : ℕ) : Type 0 where
  pub degree : r.history.degree c ≡ state r.table (Degree c)
  pub incarnation : r.history.incarnation c ≡ state r.table (Incarnation c)
  -- the live intervals have the numbers from 1 to that of the newest, by the live count
  pub live : (y : Interval) → member y (r.history.chain c) ≡ true → (y.owner ≡ c) × (1 ≤ y.number) × (y.number ≤ last_live (state r.table) c)
  pub all_live : (x : ℕ) → 1 ≤ x → x ≤ last_live (state r.table) c → (i : ℕ) × (member (interval c i x) (r.history.chain c) ≡ true)
  pub newest_live : (newest (r.history.chain c)).number ≡ last_live (state r.table) c
  -- those up to the number that the stable count says are stable, and no others
  pub stable : (y : Interval) → member y (r.history.chain c) ≡ true → (r.history.stable y ≡ true) ↔ (y.number ≤ last_stable (state r.table) c)
  -- W4: flags agree for those that aren't discarded, and so have a place
  pub flagged : (y : Interval) → member y (r.history.chain c) ≡ true → first_kept (state r.table) c ≤ y.number → FlagAgrees r c y
  -- and Q is that of the table
  pub gap : r.history.gap ≡ state r.table Gap
