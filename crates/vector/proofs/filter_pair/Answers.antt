-- The test is the one of `known_stable`.
use Rattle.rules.specs.Vector.{known_stable, filter_pair}
use borrow.Author.Tests.{le-leb, lt-leb}
use Rattle.vector.proofs.filter_pair.Goals as goal

pub returns-then-p-known : goal.returns-then-p-known
unfolding filter_pair known_stable
returns-then-p-known c = simp (le-leb _ _ (rw c.known.ensures at c.if-p-known.true))

pub returns-else-p-known : goal.returns-else-p-known
unfolding filter_pair known_stable
returns-else-p-known c = simp (lt-leb _ _ (rw c.known.ensures at c.if-p-known.false))
