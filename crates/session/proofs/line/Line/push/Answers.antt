-- A byte more in the buffer, where there is room (pushed), and where there is none (pushed_full).
use Rattle.session.proofs.Buffers.{pushed, pushed_full}
use Rattle.session.proofs.line.Line.push.Goals as goal

pub returns-then-self-lt-LINE_ROOM : goal.returns-then-self-lt-LINE_ROOM
returns-then-self-lt-LINE_ROOM c = rw (← c.self.view_is) (pushed c.self.inside.bytes c.self.inside.count c.args.b c.self.told c.if-self-lt-LINE_ROOM.true)

pub returns-else-self-lt-LINE_ROOM : goal.returns-else-self-lt-LINE_ROOM
returns-else-self-lt-LINE_ROOM c = rw (← c.self.view_is) (pushed_full c.self.inside.bytes c.self.inside.count c.args.b c.self.told c.self.invariant c.if-self-lt-LINE_ROOM.false)
