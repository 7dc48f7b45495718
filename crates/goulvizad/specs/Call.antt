-- The calls of the C interface that no letter asks for. A step by its letter is in crates/run/specs/Call.antt, a list
-- of such steps in crates/run/specs/Run.antt, and the questions in crates/questions/specs/Numbers.antt.
use Rattle.std.specs.Prelude.{List, ℕ}
use Rattle.rules.specs.Step.{step, release_set, dispatch, step_call}
use Rattle.rules.specs.declared.Command.TheVariants.{SetGap}
use Rattle.run.specs.Call.{Returned, reported, handled}

-- W4: the step that sets the gap, beside the ledger g
unfoldable pub gap_call : List ℕ → List ℕ → List ℕ → ℕ → Returned
gap_call t g v q = handled t g v (reported (step t g (SetGap q)))

-- W5: the messages of the list l, released as a set
unfoldable pub set_call : List ℕ → List ℕ → List ℕ → List ℕ → Returned
set_call t g v l = handled t g v (reported (step_call t g (release_set l)))

-- W7: one call of the dispatcher, beside the ledger g
unfoldable pub dispatch_call : List ℕ → List ℕ → List ℕ → Returned
dispatch_call t g v = handled t g v (reported (step_call t g dispatch))
