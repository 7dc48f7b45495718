use Rattle.base.specs.Splice.{splice_of}
use Rattle.std.proofs.Common.{arith, rules}
use Rattle.printing.proofs.Output.word.Goals as goal

pub returns-clause-written : goal.returns-clause-written
returns-clause-written c = record { stands = splice_of _ _ _ _ _ c.copy_from_slice.ensures.after (omega arith); ends = search rules }
