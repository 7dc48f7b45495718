-- What refuses a step in the code (src/refusal.rt), by the numbers of Refusal.antt.
use Rattle.std.specs.Prelude.{ℕ, ◌≤◌, Result, Ok, Err}
use Rattle.std.proofs.Common.{arith}
use Rattle.rules.specs.Refusal.{LENGTH, FORM, LEDGER, CONTROLLER, MESSAGE, DEGREE, SAME_CONTROLLER, STATE, SENDERS, LOG_COUNT, NO_SUCH_CRASH, ALREADY_HEARD, MESSAGES_USED_UP, PLACES_USED_UP, INCARNATIONS_USED_UP, LEDGER_USED_UP}
use Rattle.rules.specs.declared.Answer.{Answer}
use Rattle.rules.specs.declared.Answer.TheVariants.{Refused}
use Rattle.rules.specs.declared.refusal.Refusal.{Refusal}
use Rattle.rules.specs.declared.refusal.Refusal.TheVariants.{Length, Form, Ledger, Controller, Message, Degree, SameController, State, Senders, LogCount, NoSuchCrash, AlreadyHeard, MessagesUsedUp, PlacesUsedUp, IncarnationsUsedUp, LedgerUsedUp}

abbrev pub number : Refusal → ℕ
number Length = LENGTH
number Form = FORM
number Ledger = LEDGER
number Controller = CONTROLLER
number Message = MESSAGE
number Degree = DEGREE
number SameController = SAME_CONTROLLER
number State = STATE
number Senders = SENDERS
number LogCount = LOG_COUNT
number NoSuchCrash = NO_SUCH_CRASH
number AlreadyHeard = ALREADY_HEARD
number MessagesUsedUp = MESSAGES_USED_UP
number PlacesUsedUp = PLACES_USED_UP
number IncarnationsUsedUp = INCARNATIONS_USED_UP
number LedgerUsedUp = LEDGER_USED_UP

-- no number is 0
pub number_positive : (refusal : Refusal) → 1 ≤ number refusal
number_positive Length = omega arith
number_positive Form = omega arith
number_positive Ledger = omega arith
number_positive Controller = omega arith
number_positive Message = omega arith
number_positive Degree = omega arith
number_positive SameController = omega arith
number_positive State = omega arith
number_positive Senders = omega arith
number_positive LogCount = omega arith
number_positive NoSuchCrash = omega arith
number_positive AlreadyHeard = omega arith
number_positive MessagesUsedUp = omega arith
number_positive PlacesUsedUp = omega arith
number_positive IncarnationsUsedUp = omega arith
number_positive LedgerUsedUp = omega arith

-- what a look for refusals found: the number, or 0
abbrev pub refusal_of : Result Unit Refusal → ℕ
refusal_of (Ok done) = 0
refusal_of (Err refusal) = number refusal

-- the answer to a step that may have been refused
abbrev pub answer_of : Result Answer Refusal → Answer
answer_of (Ok a) = a
answer_of (Err refusal) = Refused (number refusal)
