-- W4's ceiling holds of every list: along it each live number stands less than the largest Q set so far above the latest flagged one up
-- to it, and what a crash or a rollback replays are such numbers.
use Rattle.std.specs.Prelude.{◌≡◌, ℕ, ◌≤◌, ◌<◌}
use Rattle.std.proofs.Common.{sym, ◌∙◌, arith}
use Rattle.std.proofs.Math.Path.{ap, subst}
use mathlib.Core.List.{List, [], ◌∷◌, ◌++◌, append_assoc, append-nil}
use Rattle.rules.specs.Step.{Call, asks, step_call}
use Rattle.rules.specs.declared.Answer.{Answer}
use Rattle.rules.specs.declared.Answer.TheVariants.{Crashed, Rolled}
use Rattle.rules.specs.declared.Command.{Command}
use Rattle.rules.specs.declared.Command.TheVariants.{Crash, Hear}
use Rattle.history.specs.History.{History}
use Rattle.history.specs.Demand.{Run, step_in, next, runs, just_opened, FromOpening}
use Rattle.history.specs.Ceiling.{largest_gap, NeverOff, Ceiling, largest_covers}
use Rattle.model.specs.Model.{Model, put_controller, note_controller}
use Rattle.model.proofs.Invariant.{Inv}
use Rattle.model.specs.Close.{Close}
use Rattle.model.proofs.Close.{cap_gap, close_opened}
use Rattle.calls.specs.Made.{part_history, part_then}
use Rattle.model.proofs.Runs.{in_list, first_part, along}
use Rattle.image.specs.Outcome.{Outcome, crashed, rolled}
use Rattle.image.proofs.Tables.{model_of, size_of, opening_done, model_served}
use Rattle.demand.specs.Demanded.{table_inv, table_outcome, follows}
use Rattle.demand.specs.Ceiled.{outcome_close}

-- what a step replays stands above the latest flagged one up to a live number, and the step leaves Q
record Replays (n : ℕ) (μ μ' : Model) (replayed : ℕ) : Type 0 where
  gap_same : μ'.gap ≡ μ.gap
  above : (M : ℕ) → Close n M μ → replayed < M

module _ {n : ℕ} {μ : Model} {h : History} (v : Inv n μ h) where
  -- a crash replays up to the stable number
  crash_replays : {c echoed i kept lost replayed j : ℕ} {μ' : Model} → Outcome n μ (Crash c) (Crashed echoed i kept lost replayed) j μ' →
      Replays n μ μ' replayed
  unfolding put_controller
  crash_replays (crashed c lost l) =
      record { gap_same = cap_gap _ c; above = λ M close. close.above_lt c l _ (v.controller_ok_lem c l).shape.stable_le }

  -- and a rollback up to the number that it kept
  roll_replays : {b a i echoed kept undone replayed owner ended j : ℕ} {μ' : Model} → Outcome n μ (Hear b a i) (Rolled echoed kept undone replayed owner ended) j μ' →
      Replays n μ μ' replayed
  unfolding put_controller note_controller
  roll_replays (rolled b a i x undone f w) =
      record { gap_same = cap_gap _ b; above = λ M close. close.above_lt b f.hearer_below x (omega (arith, w.below)) }

module _ (t g : List ℕ) (n k : ℕ) where
  -- the run from which the list starts
  abbrev start : Run
  start = just_opened t g n k

  -- at the end of a list: Q was at most the largest before each of its calls, and not 0 after it
  close_end : (l : List Call) → FromOpening t g n k l → NeverOff t g n k l → 1 ≤ largest_gap start l → Close n (largest_gap start l) (model_of (runs start l).table)
  unfolding just_opened next step_call
  close_end l O on pos =
      let M = largest_gap start l in
      along (follows n) t g k l O (λ r. Close n M (model_of r.table)) (λ q c lent low. subst (Close n M) (sym (model_served q.table c lent low)))
      (subst (Close n M) (sym (opening_done t g n k O.done).model_is) (close_opened n k M pos))
      (λ before x after e q y s close.
      let r = runs start before in
      let v = table_inv s.holds in
      let covers = subst (λ z. r.history.gap ≤ largest_gap start z) (sym e) (largest_covers start before (x ∷ after)) in
      let here = ap (λ (h : History). h.gap) (part_history s.part) in
      let there = ap (λ (h : History). h.gap) (part_then s.part) in
      outcome_close (table_outcome s.holds y) s.unopened v
      (omega (arith, on before after x e, there, (table_inv s.one.holds).gap_is)) (omega (arith, covers, here, v.gap_is)) close)
      l [] (sym (append-nil l))

  module _ (l : List Call) (O : FromOpening t g n k l) (on : NeverOff t g n k l) where
    -- What a step replays is below the largest Q before it: the calls before it are such a list, and Q, which it leaves, is not 0.
    below_largest : (before after : List Call) (x : Command) (a : Answer) → l ≡ before ++ asks x ∷ after → (step_in (runs start before) x).answer ≡ a → (replayed : ℕ) →
        ((μ μ' : Model) (h : History) (j : ℕ) → Inv n μ h → Outcome n μ x a j μ' → Replays n μ μ' replayed) → replayed < largest_gap start before
    unfolding next step_call
    below_largest before after x a e answer replayed replays =
        let r = runs start before in
        let s = in_list (follows n) t g k l O before (asks x) after e in
        let v = table_inv s.holds in
        let after_it = (step_in r x).table in
        let w = replays _ _ _ _ v (subst (λ y. Outcome n (model_of r.table) x y (size_of after_it) (model_of after_it)) answer (table_outcome s.holds x)) in
        let covers = subst (λ z. r.history.gap ≤ largest_gap start z) (append-nil before) (largest_covers start before []) in
        w.above _ (close_end before (first_part before (asks x ∷ after) (subst (FromOpening t g n k) e O))
        (λ first rest y d. on first (rest ++ asks x ∷ after) y (e ∙ ap (λ z. z ++ asks x ∷ after) d ∙ append_assoc first (y ∷ rest) (asks x ∷ after)))
        (omega (arith, on before after (asks x) e, (table_inv s.one.holds).gap_is, w.gap_same, v.gap_is, covers)))

    -- The ceiling, for every table, ledger, opening and list of calls.
    pub ceiling : Ceiling t g n k l
    ceiling =
        record {
          crashes = λ before after c echoed i kept lost replayed e answer. below_largest before after _ _ e answer replayed (λ μ μ' h j v o. crash_replays v o);
          rollbacks = λ before after hearer crashed i echoed kept undone replayed owner ended e answer.
              below_largest before after _ _ e answer replayed (λ μ μ' h j v o. roll_replays v o);
        }
