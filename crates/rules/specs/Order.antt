-- "Where several apply, the lowest number is given": each step's own refusals come after the host's, in the papers' order.
use Rattle.std.specs.Prelude.{◌≡◌, refl, Bool, true, ◌&&◌, List, [], ◌∷◌, ℕ, length, get_or, ◌==◌}
use Rattle.base.specs.Choice.{◌<?◌}
use Rattle.base.specs.Ranges.{first}
use Rattle.base.specs.Cases.{Case}
use Rattle.table.specs.Field.{State}
use Rattle.rules.specs.Limits.{Limits}
use Rattle.rules.specs.Refusal.{LENGTH, FORM, LEDGER, CONTROLLER, MESSAGE, DEGREE, SAME_CONTROLLER, STATE, SENDERS, LOG_COUNT, NO_SUCH_CRASH, ALREADY_HEARD, MESSAGES_USED_UP, PLACES_USED_UP, INCARNATIONS_USED_UP, LEDGER_USED_UP}
use Rattle.rules.specs.Steps.{open_refusals, degree_refusals, send_refusals, message_refusals, release_refusals, log_refusals, checkpoint_refusals, tell_refusals, crash_refusals, hear_refusals, gap_refusals}
use Rattle.rules.specs.Sets.{set_refusals}

-- Their order: that of their numbers, but for the ledger's and that of a set. W2: 14 "stands directly after 2, at release and, for the length only,
-- directly after 1 at opening"; 18 "stands last at release"; W5: 15 "stands directly after 7".
abbrev in_turn : List ℕ
in_turn =
    LENGTH
    ∷ FORM
    ∷ LEDGER
    ∷ CONTROLLER
    ∷ MESSAGE
    ∷ DEGREE
    ∷ SAME_CONTROLLER
    ∷ STATE
    ∷ SENDERS
    ∷ LOG_COUNT
    ∷ NO_SUCH_CRASH
    ∷ ALREADY_HEARD
    ∷ MESSAGES_USED_UP
    ∷ PLACES_USED_UP
    ∷ INCARNATIONS_USED_UP
    ∷ LEDGER_USED_UP
    ∷ []

-- where a number stands in it, or its length where it doesn't
abbrev turn : ℕ → ℕ
turn number = first (length in_turn) (λ (i : ℕ). get_or in_turn i 0 == number)

-- the cases stand in it and in that order, from one after number n on
abbrev rises : ℕ → List Case → Bool
rises n [] = true
rises n (x ∷ xs) = (turn n <? turn x.number) && ((turn x.number <? length in_turn) && rises x.number xs)

abbrev all_rise : List (List Case) → Bool
all_rise [] = true
all_rise (cases ∷ more) = rises FORM cases && all_rise more

pub in_order : (L : Limits) (σ : State) (g l : List ℕ) (a b c : ℕ) →
    all_rise
    (open_refusals L g a b
    ∷ degree_refusals σ a b
    ∷ send_refusals L σ a b
    ∷ release_refusals L σ g a
    ∷ message_refusals σ a b
    ∷ log_refusals σ a b
    ∷ checkpoint_refusals σ a
    ∷ tell_refusals σ a b
    ∷ crash_refusals L σ a
    ∷ hear_refusals σ a b c
    ∷ gap_refusals a
    ∷ set_refusals L σ g l
    ∷ [])
    ≡ true
unfolding first
in_order L σ g l a b c = refl
