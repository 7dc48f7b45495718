-- What ends the holding of a message: a release lets it out, or its sender starts anew at or below its sending number.
use Rattle.std.specs.Prelude.{◌≡◌, ◌⊎◌, ℕ, ◌+◌, ◌≤◌, ◌<◌}
use Rattle.table.specs.Field.{State, Incarnation, MessageState, Sender, SendingNumber}
use Rattle.table.specs.Numbering.{last_live, record_of}
use Rattle.rules.specs.Form.{state_held}
use Rattle.rules.specs.declared.Answer.{Answer}
use Rattle.rules.specs.declared.Answer.TheVariants.{Released}
use Rattle.rules.specs.declared.Command.{Command}
use Rattle.rules.specs.declared.Command.TheVariants.{Release}

-- c starts anew, by a step from σ to τ, with an interval of the number x or a lower one
pub record Anew (σ τ : State) (c x : ℕ) : Type 0 where
  pub incarnation_is : τ (Incarnation c) ≡ σ (Incarnation c) + 1
  pub number_le : last_live τ c ≤ x

-- what ends the holding of the message in record r, by a step from σ to τ
pub data Leaves (σ τ : State) (r : ℕ) : Command → Answer → Type 0 where
  -- a release lets it out
  let_out_lem : (m mask : ℕ) → record_of σ m ≡ r → Leaves σ τ r (Release m) (Released m mask)
  -- its sender starts anew, at or below its sending number
  undone : (x : Command) (a : Answer) → Anew σ τ (σ (Sender r)) (σ (SendingNumber r)) → Leaves σ τ r x a

-- the sender of the message in record r has not started anew, by a step from σ to τ, or only above its sending number
abbrev pub Spared : State → State → ℕ → Type 0
Spared σ τ r = let c = σ (Sender r) in (τ (Incarnation c) ≡ σ (Incarnation c)) ⊎ (σ (SendingNumber r) < last_live τ c)

-- the message in record r was held before such a step, and is so after it
pub record KeptHeld (σ τ : State) (r : ℕ) : Type 0 where
  pub was : σ (MessageState r) ≡ state_held
  pub is : τ (MessageState r) ≡ state_held
  pub low : Spared σ τ r
