-- The two cases are those of the definition (goes_by_desk, goes_by_degree).
use Rattle.sets.specs.Returns.{goes_by_desk, goes_by_degree}
use Rattle.sets.proofs.set_may_go.Goals as goal

pub returns-then-n-gt0 : goal.returns-then-n-gt0
returns-then-n-gt0 c = goes_by_desk _ _ _ _ c.requires.2 c.if-n-gt0.true

pub returns : goal.returns
returns c = goes_by_degree _ _ _ _ c.requires.2 _ _ _ c.sender_of-sender.ensures c.degree.ensures c.within_degree.ensures c.if-n-gt0.false
