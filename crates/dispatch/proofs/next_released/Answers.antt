use Rattle.dispatch.specs.Searching.{passed_more}
use Rattle.dispatch.specs.Returns.{record_low}
use Rattle.std.proofs.Common.{arith}
use Rattle.dispatch.proofs.next_released.Goals as goal

pub message_state-requires : goal.message_state-requires
message_state-requires c = record_low c.requires (omega (arith, c.loop-r-test.true, c.records_used-used.ensures))

pub loop-r-preserved : goal.loop-r-preserved
loop-r-preserved c = passed_more c.loop-r.invariant c.message_state.ensures (λ e. c.if-message_state.false e)
