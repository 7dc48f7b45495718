-- What a checkpoint and a telling give, on models: a checkpoint makes all that is live at its controller stable, and a telling gives one
-- controller all that another knows of itself.
use Rattle.std.specs.Prelude.{◌≡◌, ◌≢◌}
use Rattle.std.proofs.Math.Path.{ap}
use Prim.Native.Nat.{ℕ, ◌≤◌, max}
use Rattle.std.proofs.Common.{arith, ltb-true, ltb-false}
use Rattle.base.specs.Choice.{◌<?◌, cond_ind}
use Rattle.model.specs.Model.{Controller, Model, put_controller, log_controller, logged_controller, flag_controller, checkpoint_controller, tell_controller}
use Rattle.model.proofs.Close.{logged_live}
use Rattle.model.proofs.Tests.{changed_at_same, changed_at_other}

-- a controller whose intervals are all stable
abbrev pub Secured : Model → ℕ → Type 0
Secured μ c = (μ.controller c).stable ≡ (μ.controller c).live

-- b knows all that a knows of itself
abbrev pub ToldBy : Model → ℕ → ℕ → Type 0
ToldBy μ b a = (i : ℕ) → (μ.controller a).known a i ≤ (μ.controller b).known a i

-- logging up to j leaves the larger of j and what was stable
pub logged_stable : (c : ℕ) (k : Controller) (j : ℕ) → (logged_controller c k j).stable ≡ max k.stable j
unfolding log_controller
logged_stable c k j =
    cond_ind (λ (q : Controller). q.stable ≡ max k.stable j) (k.stable <? j) (λ e. omega (arith, ltb-true k.stable j e))
    (λ e. omega (arith, ltb-false k.stable j e))

-- C secures its controller, and leaves what is live and stable of the others
module _ (μ : Model) (c : ℕ) where
  -- the model after it
  abbrev pub checkpointed_model : Model
  checkpointed_model = put_controller μ c (checkpoint_controller c (μ.controller c))

  -- then all that is live is stable
  all_stable_lem : (k : Controller) → k.stable ≤ k.live → (checkpoint_controller c k).stable ≡ (checkpoint_controller c k).live
  unfolding flag_controller
  all_stable_lem k l = omega (arith, logged_stable c k k.live, logged_live c k k.live)

  -- it is secured
  pub secured_here : (μ.controller c).stable ≤ (μ.controller c).live → Secured checkpointed_model c
  unfolding put_controller
  secured_here l =
      let k = μ.controller c in
      rw (changed_at_same μ.controller c (checkpoint_controller c k)) (all_stable_lem k l)

-- T tells b what a knows of itself
module _ (μ : Model) (a b : ℕ) where
  -- the model after it
  abbrev pub told_model : Model
  told_model = put_controller μ b (tell_controller a (μ.controller b) ((μ.controller a).known a))

  -- b knows what a knows of itself
  pub tell_tells : a ≢ b → ToldBy told_model b a
  unfolding put_controller tell_controller
  tell_tells ne i =
      let k = μ.controller b in
      let told_row_lem = ap (λ (row : ℕ → ℕ). row i) (changed_at_same k.known a (λ i. max (k.known a i) ((μ.controller a).known a i))) in
      rw (changed_at_same μ.controller b (tell_controller a k ((μ.controller a).known a)), changed_at_other μ.controller b a (tell_controller a k ((μ.controller a).known a)) ne)
      (omega (arith, told_row_lem))
