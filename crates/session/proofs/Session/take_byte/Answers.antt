-- Each return is a case of a byte: a line feed, or another (taken_feed, taken_more).
use Rattle.session.proofs.Buffers.{taken_feed, taken_more}
use Rattle.session.proofs.Session.take_byte.Goals as goal

pub returns-then-b-eq-LINE_FEED-clause-answers : goal.returns-then-b-eq-LINE_FEED-clause-answers
returns-then-b-eq-LINE_FEED-clause-answers c = taken_feed _ _ c.if-b-eq-LINE_FEED.true c.end_line.ensures.answers

pub returns-else-b-eq-LINE_FEED-clause-answers : goal.returns-else-b-eq-LINE_FEED-clause-answers
returns-else-b-eq-LINE_FEED-clause-answers c = taken_more _ _ _ _ _ c.if-b-eq-LINE_FEED.false c.push.ensures
