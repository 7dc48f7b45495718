-- The word of c and k make the number (number_read), which fits, as is asked.
use Rattle.std.proofs.Common.{arith}
use Rattle.table.proofs.Numbering.{number_read}
use Rattle.table.specs.Words.{state}
use Rattle.table.proofs.number_of.Goals as goal

pub overflow_add-result : goal.overflow_add-result
overflow_add-result c = omega (arith, number_read (state c.args.t.now) _ c.args.k _ c.requires.0 c.discarded.ensures, c.requires.1)

pub returns : goal.returns
returns c = search number_read
