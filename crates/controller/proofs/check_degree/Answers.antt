-- The tests stand in the order of the cases; what was read is put for the words, and each test has its outcome.
use Rattle.base.specs.Cases.{first_of}
use Rattle.std.proofs.Common.{lt-ltb, le-ltb, le-leb}
use borrow.Author.Tests.{lt-leb}
use Rattle.controller.proofs.check_degree.Goals as goal

pub returns-then-n-c : goal.returns-then-n-c
unfolding first_of
returns-then-n-c c = rw (← c.size-n.ensures, le-leb _ _ c.if-n-c.true)

pub returns-then-n-k : goal.returns-then-n-k
unfolding first_of
returns-then-n-k c = rw (← c.size-n.ensures, lt-leb _ _ c.if-n-c.false, lt-ltb _ _ c.if-n-k.true)

pub returns : goal.returns
unfolding first_of
returns c = rw (← c.size-n.ensures, lt-leb _ _ c.if-n-c.false, le-ltb _ _ c.if-n-k.false)
