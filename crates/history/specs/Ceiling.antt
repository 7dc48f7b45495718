-- W4: "Arm controls want to know the longest restart beforehand." The ceiling on replay, about lists of calls from an opening; Q is told
-- by the history, which reads it off the steps. Where Q is set later than in the first step, or to 0 in between, nothing is claimed:
-- intervals that began while it was off may stand any number above the latest checkpoint, and a crash replays them.
use Rattle.std.specs.Prelude.{◌≡◌, List, [], ◌∷◌, ◌++◌, ℕ, ◌≤◌, ◌<◌, max}
use Rattle.std.proofs.Common.{arith}
use Rattle.rules.specs.Step.{Call, asks}
use Rattle.rules.specs.declared.Answer.TheVariants.{Crashed, Rolled}
use Rattle.rules.specs.declared.Command.TheVariants.{Crash, Hear}
use Rattle.history.specs.Demand.{Run, step_in, next, runs, just_opened, up_to}

-- "the largest Q set so far": the largest that the history keeps from a run on, along a list of calls
unfoldable pub largest_gap : Run → List Call → ℕ
largest_gap r [] = r.history.gap
largest_gap r (x ∷ l) = max r.history.gap (largest_gap (next x r) l)

-- lists from the opening of t, beside the ledger g, with n and k
module _ (t g : List ℕ) (n k : ℕ) (l : List Call) where
  -- "In a house where the first step after opening set Q to at least 1 and it was never 0 again": after each step of the list Q is at
  -- least 1. (At the opening it is 0, so it is the first step that set it.)
  abbrev pub NeverOff : Type 0
  NeverOff = (before after : List Call) (x : Call) → l ≡ before ++ x ∷ after → 1 ≤ (next x (up_to t g n k before)).history.gap

  -- "replayed is at most the largest Q set so far, less 1": it is below it, in every crash and in every rollback of the list
  pub record Ceiling : Type 0 where
    pub crashes : (before after : List Call) (c echoed i kept lost replayed : ℕ) → l ≡ before ++ asks (Crash c) ∷ after →
        (step_in (up_to t g n k before) (Crash c)).answer ≡ Crashed echoed i kept lost replayed →
        replayed < largest_gap (just_opened t g n k) before
    pub rollbacks : (before after : List Call) (hearer crashed i echoed kept undone replayed owner ended : ℕ) → l ≡ before ++ asks (Hear hearer crashed i) ∷ after →
        (step_in (up_to t g n k before) (Hear hearer crashed i)).answer ≡ Rolled echoed kept undone replayed owner ended →
        replayed < largest_gap (just_opened t g n k) before

-- Q after each first part of a list is at most the largest
pub largest_covers : (r : Run) (before rest : List Call) → (runs r before).history.gap ≤ largest_gap r (before ++ rest)
unfolding largest_gap runs
largest_covers r [] [] = omega arith
largest_covers r [] (x ∷ rest) = omega arith
largest_covers r (x ∷ before) rest = let h = largest_covers (next x r) before rest in omega arith
