use Rattle.printing.proofs.Writing.{counting_more, counting_end, decimal_size}
use Rattle.std.proofs.Common.{arith}
use Rattle.printing.proofs.digit_count.Goals as goal

pub overflow_add-n : goal.overflow_add-n
overflow_add-n c = let r = c.loop-rest.invariant in omega (arith, decimal_size c.args.v)

pub loop-rest-preserved : goal.loop-rest-preserved
loop-rest-preserved c = counting_more c.loop-rest.invariant c.loop-rest-test.true

pub returns : goal.returns
returns c = counting_end c.loop-rest.invariant c.loop-rest-test.false
