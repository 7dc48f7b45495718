-- Document 01, "To the testers": "Try to satisfy the statements with these". The statement of `machine::step` is an equation with
-- `step` on every table and ledger and for every command. Here is each wrong machine.
use Rattle.std.specs.Prelude.{List, ℕ, zero, suc, ◌+◌}
use Rattle.rules.specs.Refusal.{NO_SUCH_CRASH}
use Rattle.rules.specs.Steps.{beside}
use Rattle.rules.specs.Step.{OutBoth, out_both, lent, step}
use Rattle.rules.specs.declared.Answer.{Answer}
use Rattle.rules.specs.declared.Answer.TheVariants.{Done, Sent, Released, Held, Delivered, Dropped, Waits, Crashed, Heard, Rolled, Refused, SetReleased, SetHeld, Idle}
use Rattle.rules.specs.declared.Command.{Command}
use Rattle.rules.specs.declared.Command.TheVariants.{Open, SetDegree, Send, Release, Deliver, Log, Checkpoint, Tell, Crash, Hear, SetGap}
use Rattle.testers.specs.Echo.{echoed}

-- what the step function is too
abbrev pub Machine : Type 0
Machine = List ℕ → List ℕ → Command → OutBoth

-- "a machine that refuses all", with any number,
abbrev pub refuses_all : ℕ → Machine
refuses_all number t g x = out_both (Refused number) t g

-- "or answers `done` to all", though it writes what the rules say,
abbrev pub done_to_all : Machine
done_to_all t g x = let o = step t g x in out_both Done o.table o.ledger

-- "or writes no word", though it answers what they say;
abbrev pub writes_no_word : Machine
writes_no_word t g x = out_both (step t g x).answer t g

-- (a choice by the letter: R and D with their message, H with its hearer, and the others)
abbrev by_letter : {A : Type 0} → (ℕ → A) → (ℕ → A) → (ℕ → A) → A → Command → A
by_letter release deliver hear other (Open n k) = other
by_letter release deliver hear other (SetDegree c k) = other
by_letter release deliver hear other (Send sender receiver payload) = other
by_letter release deliver hear other (Release m) = release m
by_letter release deliver hear other (Deliver m) = deliver m
by_letter release deliver hear other (Log c q) = other
by_letter release deliver hear other (Checkpoint c) = other
by_letter release deliver hear other (Tell owner holder) = other
by_letter release deliver hear other (Crash c) = other
by_letter release deliver hear other (Hear hearer owner i) = hear hearer
by_letter release deliver hear other (SetGap q) = other

abbrev at_release : (List ℕ → List ℕ → ℕ → OutBoth) → Machine
at_release own t g x = by_letter (own t g) (λ m. step t g x) (λ b. step t g x) (step t g x) x

abbrev at_delivery : (List ℕ → List ℕ → ℕ → OutBoth) → Machine
at_delivery own t g x = by_letter (λ m. step t g x) (own t g) (λ b. step t g x) (step t g x) x

abbrev at_hearing : (List ℕ → List ℕ → ℕ → OutBoth) → Machine
at_hearing own t g x = by_letter (λ m. step t g x) (λ m. step t g x) (own t g) (step t g x) x

-- "one that tracks vectors for the first step of a run and afterwards only echoes": so many steps of the run are done, and a delivery
-- begins its interval with the receiver's own vector (Echo.antt);
abbrev pub tracks_first : ℕ → Machine
tracks_first zero = step
tracks_first (suc done) = at_delivery (λ t g m. lent t g (λ σ. beside (echoed σ m) g))

-- "one that invents lost, undone or replayed": so many more of each;
abbrev pub more : ℕ → ℕ → ℕ → Answer → Answer
more lost undone again Done = Done
more lost undone again (Sent m) = Sent m
more lost undone again (Released m mask) = Released m mask
more lost undone again (Held m mask) = Held m mask
more lost undone again (Delivered m i x) = Delivered m i x
more lost undone again (Dropped m owner i) = Dropped m owner i
more lost undone again (Waits m) = Waits m
more lost undone again (Crashed c i k l r) = Crashed c i k (l + lost) (r + again)
more lost undone again (Heard b) = Heard b
more lost undone again (Rolled b k u r owner i) = Rolled b k (u + undone) (r + again) owner i
more lost undone again (Refused number) = Refused number
more lost undone again (SetReleased mask) = SetReleased mask
more lost undone again (SetHeld mask) = SetHeld mask
more lost undone again Idle = Idle

abbrev pub invents : ℕ → ℕ → ℕ → Machine
invents lost undone again t g x = let o = step t g x in out_both (more lost undone again o.answer) o.table o.ledger

-- "one that says `waits`, `held` or `heard` before looking", `held` with any mask.
abbrev pub says_waits : Machine
says_waits = at_delivery (λ t g m. out_both (Waits m) t g)

abbrev pub says_held : ℕ → Machine
says_held mask = at_release (λ t g m. out_both (Held m mask) t g)

abbrev pub says_heard : Machine
says_heard = at_hearing (λ t g b. out_both (Heard b) t g)

-- "A machine that holds for ever" is `says_held`; "or never hears":
abbrev pub never_hears : Machine
never_hears = at_hearing (λ t g b. out_both (Refused NO_SUCH_CRASH) t g)
