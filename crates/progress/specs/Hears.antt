-- What H answers on a table in form, of a crash that its controller has noted and the hearer hasn't.
use Rattle.std.specs.Prelude.{◌≡◌, ◌⊎◌, ℕ, ◌≤◌}
use Rattle.rules.specs.Limits.{last_incarnation}
use Rattle.rules.specs.Refusal.{INCARNATIONS_USED_UP}
use Rattle.rules.specs.declared.Answer.{Answer}
use Rattle.rules.specs.declared.Answer.TheVariants.{Refused}
use Rattle.history.specs.Demand.{Accepted}

-- it is accepted, unless the hearer must undo and is in the last incarnation
abbrev pub Hears : ℕ → Answer → Type 0
Hears i a = Accepted a ⊎ ((a ≡ Refused INCARNATIONS_USED_UP) × (last_incarnation ≤ i))
