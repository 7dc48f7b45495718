-- W7: "A dispatcher is wanted above the step function." A call of it on a state in form; its refusals, LENGTH and FORM, stand in Step.antt.
use Rattle.std.specs.Prelude.{Bool, true, false, cond, [], ◌∷◌, ℕ, ◌+◌, ◌%◌, ◌==◌}
use Rattle.base.specs.Choice.{◌<?◌}
use Rattle.base.specs.Ranges.{anyb, first}
use Rattle.base.specs.Cases.{all_of}
use Rattle.table.specs.Field.{State, Size, Served, MessageState, Receiver}
use Rattle.table.specs.Change.{put}
use Rattle.table.specs.Numbering.{used, message_of}
use Rattle.rules.specs.Limits.{Limits}
use Rattle.rules.specs.Form.{state_released}
use Rattle.rules.specs.Steps.{After, after, prospect, step_deliver}
use Rattle.rules.specs.declared.Answer.TheVariants.{Idle}
use Rattle.rules.specs.declared.Prospect.{Prospect}
use Rattle.rules.specs.declared.Prospect.TheVariants.{WouldDrop, WouldWait, NoPlaceLeft, WouldBegin}

-- "which would be delivered or dropped"; one that would wait, or be refused with 12, is passed over
abbrev pub goes : Prospect → Bool
goes (WouldDrop owner i) = true
goes WouldWait = false
goes NoPlaceLeft = false
goes WouldBegin = true

-- record r has "a released message for it", for controller c, which would
unfoldable pub servable : Limits → State → ℕ → ℕ → Bool
servable L σ c r = all_of ((r <? used σ) ∷ (σ (MessageState r) == state_released) ∷ (σ (Receiver r) == c) ∷ goes (prospect L σ r) ∷ [])

-- c "has" one
unfoldable pub has_message : Limits → State → ℕ → Bool
has_message L σ c = anyb L.messages (servable L σ c)

-- "Each call goes round from the controller that is word 12 plus 1, less n as often as needed": the i-th controller of that round
unfoldable pub turn : State → ℕ → ℕ
turn σ i = (σ Served + 1 + i) % σ Size

-- "and takes the first that has" one: its place in the round, or n
unfoldable pub first_turn : Limits → State → ℕ
first_turn L σ = first (σ Size) (λ (i : ℕ). has_message L σ (turn σ i))

-- "Of these it takes the lowest number", the first record's: numbers rise with the records
unfoldable pub lowest_for : Limits → State → ℕ → ℕ
lowest_for L σ c = message_of σ (first L.messages (servable L σ c))

-- "and performs that delivery"; "It keeps the controller last served .. in word 12"
unfoldable pub serve : Limits → State → ℕ → After
serve L σ c = let o = step_deliver L σ (lowest_for L σ c) in after o.answer (put o.left Served c)

-- "If no controller has one, it says idle and changes no word."
unfoldable pub dispatched : Limits → State → After
dispatched L σ = let i = first_turn L σ in cond (i <? σ Size) (serve L σ (turn σ i)) (after Idle σ)
