-- Each turn counts the last digit of rest, and the digits of rest that are left are yet to be counted (Counting).
use Rattle.printing.proofs.Writing.{Counting}
use Rattle.printing.proofs.digit_count.Given as goal

abbrev pub invariant-loop-rest : goal.invariant-loop-rest
invariant-loop-rest l = Counting l.v l.rest l.n

abbrev pub decreases-loop-rest : goal.decreases-loop-rest
decreases-loop-rest l = l.rest
