-- The tests stand in the order of the cases; what was read is put for the words, and each test has its outcome.
use Rattle.base.specs.Cases.{first_of}
use Rattle.std.proofs.Common.{eq-eqb, ne_eqb}
use Rattle.controller.proofs.check_tell.Goals as goal

pub returns-then-n-owner : goal.returns-then-n-owner
unfolding first_of
returns-then-n-owner c = rw (← c.size-n.ensures, c.if-n-owner.true)

pub returns-then-owner-holder : goal.returns-then-owner-holder
unfolding first_of
returns-then-owner-holder c = rw (← c.size-n.ensures, c.if-n-owner.false, eq-eqb _ _ c.if-owner-holder.true)

pub returns : goal.returns
unfolding first_of
returns c = rw (← c.size-n.ensures, c.if-n-owner.false, ne_eqb _ _ c.if-owner-holder.false)
