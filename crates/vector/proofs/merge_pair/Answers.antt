-- The test is the one of the definition.
use Rattle.rules.specs.Vector.{merge_pair}
use borrow.Author.Tests.{lt-ltb, le-ltb}
use Rattle.vector.proofs.merge_pair.Goals as goal

pub returns-then-p-q : goal.returns-then-p-q
unfolding merge_pair
returns-then-p-q c = simp (lt-ltb _ _ c.if-p-q.true)

pub returns-else-p-q : goal.returns-else-p-q
unfolding merge_pair
returns-else-p-q c = simp (le-ltb _ _ c.if-p-q.false)
