-- No message before i is named before (anyb_step).
use Rattle.base.specs.Ranges.{anyb}
use Rattle.rules.specs.Sets.{named_before}
use Rattle.std.proofs.Common.{◌≡◌, false}
use Rattle.sets.proofs.named_twice.Given as goal

abbrev pub invariant-loop-i : goal.invariant-loop-i
invariant-loop-i l = false ≡ anyb l.i (named_before l.list)
