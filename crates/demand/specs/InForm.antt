-- Both lent buffers stay in form along a list.
use Rattle.std.specs.Prelude.{◌≡◌, List, [], ◌∷◌, ℕ}
use Rattle.rules.specs.Step.{step, Call, asks, release_set, dispatch, step_call}
use Rattle.rules.specs.declared.Answer.TheVariants.{Done}
use Rattle.rules.specs.declared.Command.TheVariants.{Open}
use Rattle.history.specs.Demand.{Run, next, runs, just_opened, up_to}
use Rattle.keeping.proofs.Unrefused.{Sound, sound_step, sound_opened}
use Rattle.keeping.proofs.Sets.{sound_set}
use Rattle.keeping.proofs.Dispatch.{sound_dispatch}

-- one call leaves them in form
pub sound_next : (s : Run) (x : Call) → Sound s.table s.ledger → Sound (next x s).table (next x s).ledger
unfolding next step_call
sound_next s (asks x) h = sound_step s.table s.ledger x h
sound_next s (release_set l) h = sound_set s.table s.ledger l h
sound_next s dispatch h = sound_dispatch s.table s.ledger h

-- and so does a list of calls
sound_along : (s : Run) (l : List Call) → Sound s.table s.ledger → Sound (runs s l).table (runs s l).ledger
unfolding runs
sound_along s [] h = h
sound_along s (x ∷ l) h = sound_along (next x s) l (sound_next s x h)

-- after every list from an opening that is done
pub sound_after : (t g : List ℕ) (n k : ℕ) → (step t g (Open n k)).answer ≡ Done → (l : List Call) → Sound (up_to t g n k l).table (up_to t g n k l).ledger
unfolding just_opened
sound_after t g n k done l = sound_along (just_opened t g n k) l (sound_opened t g n k done)
