-- Why a call changes nothing, by the numbers of Call.antt, and what a run returns.
use Rattle.std.specs.Prelude.{ℕ, Result, Ok, Err}
use Rattle.run.specs.declared.Fault.{Fault}
use Rattle.run.specs.declared.Fault.TheVariants.{UnknownLetter, WrongValues}
use Rattle.run.specs.Call.{unknown_letter, wrong_values}
use Rattle.run.specs.Run.{ran_all}

abbrev pub number : Fault → ℕ
number UnknownLetter = unknown_letter
number WrongValues = wrong_values

-- the number of a run that is done, or of its fault
abbrev pub number_of : Result Unit Fault → ℕ
number_of (Ok done) = ran_all
number_of (Err fault) = number fault
