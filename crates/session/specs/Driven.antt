-- What the contracts say of a `Session` of the code.
use Rattle.std.specs.Prelude.{◌≡◌, List, ℕ, ◌+◌, ◌≤◌, length, take, drop}
use Rattle.printing.specs.declared.Output.{Output}
use Rattle.session.specs.Taking.{Session, session}
use Rattle.session.specs.declared.Session.{Session as Driven}

-- its table, its ledger and the line that hasn't ended, with these answers that are yet to be written
abbrev pub with_owed : Driven → List ℕ → Session
with_owed s owed = session s.table.now s.ledger.now s.line owed

-- the same with the answers that stand in an output
abbrev pub owing : Driven → Output → Session
owing s out = with_owed s (take out.end out.bytes.now)

-- a session keeps its references: what it leaves in the table and the ledger is theirs who lent them
abbrev pub SameReferences : Driven → Driven → Type 0
SameReferences before after = (after.table.ghost_name ≡ before.table.ghost_name) × (after.ledger.ghost_name ≡ before.ledger.ghost_name)

-- bytes are added to an output, at most so many of them, and those behind its new end stay
pub record Added (before : Output) (most : ℕ) (after : Output) : Type 0 where
  pub grows : before.end ≤ after.end
  pub fits : after.end ≤ before.end + most
  pub size : length after.bytes.now ≡ length before.bytes.now
  pub beyond : drop after.end after.bytes.now ≡ drop after.end before.bytes.now
  pub same_reference : after.bytes.ghost_name ≡ before.bytes.ghost_name
