use Rattle.std.proofs.Common.{◌∙◌, ◌≤◌, length, arith}
use Rattle.std.proofs.lemmas.Bool.Decides.{nat_tests}
use Rattle.lines.specs.Lines.{most_digits}
use Rattle.parsing.proofs.Digits.{number_out, reader_start, reader_more, reader_fails, reader_room, reader_end}
use Rattle.parsing.proofs.number.Goals as goal
use Rattle.parsing.proofs.number.Goals.{Else-not-contains}

-- the field is not too long
few : (c : Else-not-contains) → (1 ≤ length c.args.field.now) × (length c.args.field.now ≤ most_digits)
few c = let h = c.if-not-contains.ensures.cases in grind (arith, nat_tests)

pub returns-then-not-contains : goal.returns-then-not-contains
returns-then-not-contains c = number_out _ (λ h l. let t = c.if-not-contains.ensures.cases in grind (arith, nat_tests))

pub loop-b-init : goal.loop-b-init
loop-b-init c = reader_start _ (few c).0 (few c).1

pub returns-then-not-is_ascii_digit : goal.returns-then-not-is_ascii_digit
returns-then-not-is_ascii_digit c = reader_fails c.loop-b.invariant c.loop-b-test.true (λ p q. let h = c.if-not-is_ascii_digit.ensures.cases in omega arith)

pub overflow_mul-v : goal.overflow_mul-v
overflow_mul-v c = omega (arith, reader_room c.loop-b.invariant (omega (arith, few (goal.at.overflow_mul-v c).Else-not-contains)))

pub overflow_add-v : goal.overflow_add-v
overflow_add-v c = omega (arith, reader_room c.loop-b.invariant (omega (arith, few (goal.at.overflow_add-v c).Else-not-contains)))

pub loop-b-preserved : goal.loop-b-preserved
loop-b-preserved c = let h = c.if-not-is_ascii_digit.ensures.cases in reader_more c.loop-b.invariant c.loop-b-test.true (omega arith) (omega arith)

pub returns : goal.returns
returns c = c.ok.ensures.value ∙ reader_end c.loop-b.invariant c.try_from.result c.try_from.ensures c.loop-b-test.false
