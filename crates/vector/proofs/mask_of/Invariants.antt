-- Before each turn the mask is that of the pairs before `owner`, and `bit` is 2 to the power of it.
use Rattle.rules.specs.Vector.{mask_to}
use Rattle.table.specs.Layout.{controllers}
use Rattle.std.proofs.Common.{◌^◌, ◌≤◌, ◌≡◌}
use Rattle.vector.proofs.mask_of.Given as goal

abbrev pub invariant-loop-owner : goal.invariant-loop-owner
invariant-loop-owner l = (l.owner ≤ controllers) × (l.bit ≡ 2 ^ l.owner) × (l.mask ≡ mask_to l.owner l.v)
