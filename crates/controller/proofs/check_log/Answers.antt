-- The tests stand in the order of the cases; what was read is put for the words, and each test has its outcome. A
-- controller of the house has its words (sized_named, sized_stable).
use Rattle.base.specs.Cases.{first_of}
use Rattle.std.proofs.Common.{le-leb}
use borrow.Author.Tests.{lt-leb}
use Rattle.controller.specs.Ready.{sized_named, sized_stable}
use Rattle.controller.proofs.check_log.Goals as goal

pub returns-then-size-c : goal.returns-then-size-c
unfolding first_of
returns-then-size-c c = rw (← c.size.ensures, le-leb _ _ c.if-size-c.true)

pub live_count-live-requires : goal.live_count-live-requires
live_count-live-requires c = search sized_named

pub stable_count-stable-requires : goal.stable_count-stable-requires
stable_count-stable-requires c = search sized_named

pub overflow_sub-live : goal.overflow_sub-live
overflow_sub-live c = search sized_stable

pub returns-then-q-live : goal.returns-then-q-live
unfolding first_of
returns-then-q-live c = rw (← c.size.ensures, ← c.live_count-live.ensures, ← c.stable_count-stable.ensures, lt-leb _ _ c.if-size-c.false, c.if-q-live.true)

pub returns : goal.returns
unfolding first_of
returns c = rw (← c.size.ensures, ← c.live_count-live.ensures, ← c.stable_count-stable.ensures, lt-leb _ _ c.if-size-c.false, c.if-q-live.false)
