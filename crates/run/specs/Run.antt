-- Many steps in one call: a list of steps, and the answers to them. They are the same steps done one by one, by `call`.
use Rattle.std.specs.Prelude.{◌≡◌, refl, Bool, cond, Option, ◌&&◌, List, [], ◌∷◌, ◌++◌, ℕ, zero, suc, ◌+◌, ◌*◌, ◌/◌, ◌%◌, length, get_or, replicate, ◌==◌}
use Rattle.std.specs.Option.{is_some}
use Rattle.base.specs.Ranges.{allb}
use Rattle.rules.specs.Report.{report}
use Rattle.rules.specs.declared.Answer.TheVariants.{Done}
use Rattle.rules.specs.declared.Command.{Command}
use Rattle.reporting.specs.Values.{value_room}
use Rattle.lines.specs.Lines.{step_of}
use Rattle.run.specs.Call.{unknown_letter, wrong_values, Returned, returned, call}

-- "five words a step (letter, a, b, c, d), seven an answer (number, six values)"
abbrev pub step_words : ℕ
step_words = 5

abbrev pub answer_words : ℕ
answer_words = 7

-- word k of step i
abbrev pub step_word : List ℕ → ℕ → ℕ → ℕ
step_word steps i k = get_or steps (i * step_words + k) 0

-- which step it asks for, and whether its letter is known
abbrev pub asked_by : List ℕ → ℕ → Option Command
asked_by steps i = step_of (step_word steps i 0) (step_word steps i 1) (step_word steps i 2) (step_word steps i 3)

abbrev pub known : Option Command → Bool
known p = is_some p

-- step i by itself, with room for its values
abbrev pub no_values : List ℕ
no_values = replicate value_room 0

abbrev pub call_by : List ℕ → List ℕ → List ℕ → ℕ → Returned
call_by t g steps i = call t g no_values (step_word steps i 0) (step_word steps i 1) (step_word steps i 2) (step_word steps i 3) (step_word steps i 4)

-- what a run returns that is done: the number of the answer `done`
abbrev pub ran_all : ℕ
ran_all = 0

pub ran_all_is_done : ran_all ≡ (report Done).number
unfolding report
ran_all_is_done = refl

-- one step more: on the table and the ledger that those before it left, with its answer behind theirs
unfoldable pub one_more : List ℕ → Returned → ℕ → Returned
one_more steps s i =
    let r = call_by s.table s.ledger steps i in
    returned ran_all r.table r.ledger (s.values ++ (r.number ∷ r.values))

-- the first i steps, one by one
unfoldable pub ran_to : List ℕ → List ℕ → List ℕ → ℕ → Returned
ran_to t g steps zero = returned ran_all t g []
ran_to t g steps (suc i) = one_more steps (ran_to t g steps i) i

-- lengths that are multiples of five and seven, of as many steps as answers
abbrev pub lengths_fit : ℕ → ℕ → Bool
lengths_fit steps answers = (steps % step_words == 0) && ((answers % answer_words == 0) && (steps / step_words == answers / answer_words))

-- A run: all steps one by one. Where the lengths don't fit, which is looked at first, or a letter is unknown, nothing
-- is done.
unfoldable pub run : List ℕ → List ℕ → List ℕ → List ℕ → Returned
run t g steps answers =
    let n = length steps / step_words in
    cond (lengths_fit (length steps) (length answers))
    (cond (allb n (λ (i : ℕ). known (asked_by steps i))) (ran_to t g steps n) (returned unknown_letter t g answers))
    (returned wrong_values t g answers)

-- an empty list is done, and does nothing
pub empty_list : (t g : List ℕ) → run t g [] [] ≡ returned ran_all t g []
unfolding run allb ran_to
empty_list t g = refl
