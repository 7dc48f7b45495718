-- What a step may do, in terms of the model alone: each answer with its change and with what was tested before it.
use Rattle.std.specs.Prelude.{◌≡◌, refl, ◌≢◌, ◌⊎◌, ℕ, ◌+◌, ◌≤◌, ◌<◌}
use Rattle.table.specs.Field.{desk}
use Rattle.table.specs.Layout.{controllers, incarnations}
use Rattle.rules.specs.Limits.{last_gap}
use Rattle.rules.specs.declared.Answer.{Answer}
use Rattle.rules.specs.declared.Answer.TheVariants.{Done, Sent, Released, Held, Delivered, Dropped, Waits, Crashed, Heard, Rolled, Refused}
use Rattle.rules.specs.declared.Command.{Command}
use Rattle.rules.specs.declared.Command.TheVariants.{Open, SetDegree, Send, Release, Deliver, Log, Checkpoint, Tell, Crash, Hear, SetGap}
use Rattle.model.specs.Model.{Model, put_controller, degree_controller, log_controller, logged_controller, checkpoint_controller, above_latest, cap_model, gap_model, tell_controller, end_controller, begin_controller, anew_controller, send_message, release_message, open_model}
use Rattle.model.specs.Vectors.{LowestOwner}
use Rattle.model.proofs.Steps.{Delivers, LetsOut}
use Rattle.model.proofs.Recovery.{HearsOf, noted_controller, NoneCondemned, LowestCondemned}

-- a message goes to a controller of the house, or to the desk (W2)
abbrev pub Receives : ℕ → ℕ → Type 0
Receives n r = (r < n) ⊎ (r ≡ desk)

-- In a house of n controllers with the model μ.
module _ (n : ℕ) (μ : Model) where
  -- the step, its answer, how many controllers the house has then, and its model
  pub data Outcome : Command → Answer → ℕ → Model → Type 0 where
    refused : (x : Command) (number : ℕ) → Outcome x (Refused number) n μ
    opened : (j k : ℕ) → 1 ≤ j → j ≤ controllers → k ≤ j → Outcome (Open j k) Done j (open_model j k)
    degree_set_lem : (c k : ℕ) → c < n → k ≤ n → Outcome (SetDegree c k) Done n (put_controller μ c (degree_controller (μ.controller c) k))
    sent : (sender receiver payload : ℕ) → sender < n → Receives n receiver → sender ≢ receiver →
        Outcome (Send sender receiver payload) (Sent (μ.sent + 1)) n (send_message μ (μ.sent + 1) sender receiver)
    released : (m mask : ℕ) → LetsOut μ m mask → ((c : ℕ) → c < n → (μ.controller c).incarnation < incarnations) → Outcome (Release m) (Released m mask) n (release_message μ m)
    held : (m mask : ℕ) → Outcome (Release m) (Held m mask) n μ
    dropped : (m owner : ℕ) → 1 ≤ m → m ≤ μ.sent → (μ.message m).to < n → LowestOwner n (μ.controller (μ.message m).to) (μ.message m).vec owner →
        Outcome (Deliver m) (Dropped m owner ((μ.message m).vec owner).incarnation) n μ
    waits : (m : ℕ) → Outcome (Deliver m) (Waits m) n μ
    delivered : (m c : ℕ) → c ≡ (μ.message m).to → Delivers n μ m →
        Outcome (Deliver m) (Delivered m (μ.controller c).incarnation ((μ.controller c).live + 1)) n
        (cap_model (put_controller μ c (begin_controller c (μ.controller c) (μ.message m).vec)) c)
    logged : (c q : ℕ) → c < n → 1 ≤ q → (μ.controller c).stable + q ≤ (μ.controller c).live →
        Outcome (Log c q) Done n (put_controller μ c (log_controller c (μ.controller c) ((μ.controller c).stable + q)))
    checkpointed : (c : ℕ) → c < n → Outcome (Checkpoint c) Done n (put_controller μ c (checkpoint_controller c (μ.controller c)))
    told : (owner holder : ℕ) → owner < n → holder < n → owner ≢ holder →
        Outcome (Tell owner holder) Done n (put_controller μ holder (tell_controller owner (μ.controller holder) ((μ.controller owner).known owner)))
    crashed : (c lost : ℕ) → c < n →
        Outcome (Crash c) (Crashed c (μ.controller c).incarnation (μ.controller c).stable lost (above_latest (μ.controller c) (μ.controller c).stable)) n
        (cap_model (put_controller μ c (anew_controller c (end_controller c (μ.controller c)) (μ.controller c).stable)) c)
    heard : (hearer owner i : ℕ) → HearsOf n μ hearer owner i → NoneCondemned n (noted_controller μ hearer owner i) →
        Outcome (Hear hearer owner i) (Heard hearer) n (put_controller μ hearer (noted_controller μ hearer owner i))
    rolled : (hearer owner i x undone : ℕ) → HearsOf n μ hearer owner i → LowestCondemned n (noted_controller μ hearer owner i) x →
        Outcome (Hear hearer owner i) (Rolled hearer x undone (above_latest (μ.controller hearer) x) owner i) n
        (cap_model (put_controller μ hearer (anew_controller hearer (logged_controller hearer (noted_controller μ hearer owner i) x) x)) hearer)
    gap_set_lem : (q : ℕ) → q ≤ last_gap → Outcome (SetGap q) Done n (gap_model μ q)

-- only a done opening changes the number of controllers
pub kept_size : {n : ℕ} {μ : Model} {x : Command} {a : Answer} {j : ℕ} {μ' : Model} → Outcome n μ x a j μ' → ((i k : ℕ) → x ≡ Open i k → a ≢ Done) → j ≡ n
kept_size (refused x number) o = refl
kept_size (opened j k p q r) o = absurd (o j k refl refl)
kept_size (degree_set_lem c k p q) o = refl
kept_size (sent sender receiver payload p q ne) o = refl
kept_size (released m mask h w) o = refl
kept_size (held m mask) o = refl
kept_size (dropped m owner p l w z) o = refl
kept_size (waits m) o = refl
kept_size (delivered m c e h) o = refl
kept_size (logged c q h i l) o = refl
kept_size (checkpointed c h) o = refl
kept_size (told owner holder p q ne) o = refl
kept_size (crashed c lost h) o = refl
kept_size (heard hearer owner i h s) o = refl
kept_size (rolled hearer owner i x undone h l) o = refl
kept_size (gap_set_lem q h) o = refl
