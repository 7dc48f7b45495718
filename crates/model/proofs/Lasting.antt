-- What a change of a model leaves of the live intervals of its controllers: all of one whose incarnation stays, and where one starts anew,
-- those below its new interval.
use Rattle.std.specs.Prelude.{◌≡◌, refl, ◌⊎◌, ℕ, ◌+◌, ◌≤◌, ◌<◌}
use Rattle.std.proofs.Common.{sym, ◌∙◌, ap, ⊎_elim, arith}
use Rattle.base.specs.Choice.{◌<?◌, cond_ind}
use Rattle.history.specs.History.{Interval, interval, History, member}
use Rattle.model.specs.Model.{Vec, Controller, Model, put_controller, log_controller, logged_controller, flag_controller, checkpoint_controller, forced_model, cap_model, begin_controller, anew_controller}
use Rattle.model.specs.Tests.{Is}
use Rattle.model.proofs.Tests.{changed_at_ind, changed_at_other}
use Rattle.model.proofs.Invariant.{Inv}
use Rattle.model.proofs.Consequences.{on_chain_lem, chain_live}
use Rattle.model.proofs.Renewing.{renewed_old}

-- where k became k': a live number is live still, begun in the same incarnation, if the controller is in the incarnation of before or the
-- number is below its newest
abbrev pub Lasts : Controller → Controller → Type 0
Lasts k k' = (x : ℕ) → x ≤ k.live → (k'.incarnation ≡ k.incarnation) ⊎ (x < k'.live) → (x ≤ k'.live) × (k'.begun_in x ≡ k.begun_in x)

-- of every controller
abbrev pub LastsIn : Model → Model → Type 0
LastsIn μ μ' = (c : ℕ) → Lasts (μ.controller c) (μ'.controller c)

-- nothing changes
pub lasts_same : (k : Controller) → Lasts k k
lasts_same k x l w = (l, refl)

pub unchanged : (μ : Model) → LastsIn μ μ
unchanged μ c = lasts_same (μ.controller c)

-- logging and a checkpoint leave them
lasts_logged : (k q : Controller) (c j : ℕ) → Lasts k q → Lasts k (logged_controller c q j)
unfolding log_controller
lasts_logged k q c j h = cond_ind (Lasts k) (q.stable <? j) (λ _. h) (λ _. h)

pub lasts_checkpoint : (k q : Controller) (c : ℕ) → Lasts k q → Lasts k (checkpoint_controller c q)
unfolding flag_controller
lasts_checkpoint k q c h = lasts_logged k q c q.live h

-- an interval begins: it has a new number
pub lasts_begun : (c : ℕ) (k : Controller) (w : Vec) → Lasts k (begin_controller c k w)
unfolding begin_controller
lasts_begun c k w x l _ = (omega arith, changed_at_other k.begun_in (k.live + 1) x k.incarnation (λ e. omega arith))

-- starting anew after number j
pub lasts_anew : (c : ℕ) (k : Controller) (j : ℕ) → Lasts k (anew_controller c k j)
unfolding anew_controller
lasts_anew c k j x l = ⊎_elim (λ e. absurd (omega arith)) (λ low. (omega arith, renewed_old j (k.incarnation + 1) 0 k.begun_in x (omega arith)))

-- one controller is put, in a model that was left
put_in : (μ ν : Model) (c : ℕ) (k : Controller) → LastsIn μ ν → Lasts (μ.controller c) k → LastsIn μ (put_controller ν c k)
unfolding put_controller
put_in μ ν c k all h = changed_at_ind (λ b q. Lasts (μ.controller b) q) ν.controller c k h (λ b _. all b)

pub lasts_put : (μ : Model) (c : ℕ) (k : Controller) → Lasts (μ.controller c) k → LastsIn μ (put_controller μ c k)
lasts_put μ c k h = put_in μ μ c k (unchanged μ) h

-- W4: and checkpointed where that is forced
pub lasts_capped : (μ : Model) (c : ℕ) (k : Controller) → Lasts (μ.controller c) k → LastsIn μ (cap_model (put_controller μ c k) c)
unfolding cap_model
lasts_capped μ c k h =
    let ν = put_controller μ c k in
    let put = lasts_put μ c k h in
    cond_ind (LastsIn μ) (forced_model ν c) (λ _. put_in μ ν c _ put (lasts_checkpoint (μ.controller c) (ν.controller c) c (put c))) (λ _. put)

-- interval y is live
abbrev pub LiveIn : History → Interval → Type 0
LiveIn h y = Is (member y (h.chain y.owner))

-- where μ became μ', the controller of y has not started anew, or only above it
abbrev pub SparedIn : Model → Model → Interval → Type 0
SparedIn μ μ' y =
    ((μ'.controller y.owner).incarnation ≡ (μ.controller y.owner).incarnation) ⊎ (y.number < (μ'.controller y.owner).live)

-- then it is live still
pub stays_live : {n : ℕ} {μ μ' : Model} {h h' : History} → Inv n μ h → Inv n μ' h' → LastsIn μ μ' → (y : Interval) → y.owner < n →
    SparedIn μ μ' y → LiveIn h y → LiveIn h' y
stays_live v v' lasts y below spared live =
    let c = y.owner in
    let on = on_chain_lem v c below y live in
    let (top, same) = lasts c y.number on.top spared in
    chain_live v' c below y (record { pos = on.pos; top = top; is = on.is ∙ ap (λ i. interval c i y.number) (sym same) })
