-- All messages before m have the sender of the first (anyb_step).
use Rattle.base.specs.Ranges.{anyb}
use Rattle.table.specs.Words.{state}
use Rattle.rules.specs.Sets.{nth, sender_of}
use Rattle.std.proofs.Common.{not, ◌≡◌, false, ℕ, ◌==◌}
use Rattle.sets.proofs.many_senders.Given as goal

abbrev pub invariant-loop-m : goal.invariant-loop-m
invariant-loop-m l = false ≡ anyb l.m-index (λ (k : ℕ). not (sender_of (state l.t) (nth l.list k) == sender_of (state l.t) (nth l.list 0)))
