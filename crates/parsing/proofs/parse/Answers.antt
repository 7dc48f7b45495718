use Rattle.std.proofs.Common.{◌≡◌, ◌∷◌, drop, sym, ap, ◌∙◌, arith, rules, tests}
use Rattle.std.proofs.lemmas.List.{length_push}
use Rattle.std.proofs.lemmas.Iterator.Consumers.{YieldsList-turn, YieldsList-end, YieldsList-at}
use Rattle.lines.specs.Lines.{fields, with_numbers}
use Rattle.parsing.proofs.Reading.{Field, first_field, field_at, line_over, line_none, line_start, line_more, line_broken, line_long, line_end}
use Rattle.parsing.proofs.parse.Goals as goal
use Rattle.parsing.proofs.parse.Goals.{In_ok-next, In-Some}

-- the first field
first : (c : In_ok-next) → fields c.args.s.now ≡ c.in_ok-next.field-0.now ∷ drop 1 (fields c.args.s.now)
first c =
    let cut = c.split-fields.ensures in
    (first_field _ c.next.ensures.steps c.in_ok-next.was cut.rest cut.done cut.closure (λ x b q k. search (rules, tests))).is

-- a field behind it
field : (c : In-Some) → Field c.args.s.now c.loop-field.n c.in-Some.field.now
field c =
    let cut = c.split-fields.ensures in
    let f = first_field _ c.next.ensures.steps c.in_ok-next.was cut.rest cut.done cut.closure (λ x b q k. search (rules, tests)) in
    field_at _ c.loop-field.invariant.counts
    (YieldsList-turn (YieldsList-at c.into_iter-field-iterator.ensures.into_iter_gives f.others) c.loop-field.yielded _ c.loop-field.yielded_by _ _ c.in-Some.field c.in-Some.is c.next-in-loop-field.ensures.steps)

pub returns-then-s-gt-LONGEST_LINE : goal.returns-then-s-gt-LONGEST_LINE
returns-then-s-gt-LONGEST_LINE c = line_over _ c.if-s-gt-LONGEST_LINE.true

pub returns-in_default : goal.returns-in_default
returns-in_default c = line_none _ _ c.if-s-gt-LONGEST_LINE.false (first (goal.at.returns-in_default c).In_ok-next) (λ e. omega arith)

pub returns-in_default-2 : goal.returns-in_default-2
returns-in_default-2 c = line_none _ _ c.if-s-gt-LONGEST_LINE.false (first (goal.at.returns-in_default-2 c).In_ok-next) (λ e. omega arith)

pub loop-field-init : goal.loop-field-init
loop-field-init c = record { counts = λ i. 0; line = line_start _ _ c.if-s-gt-LONGEST_LINE.false (first (goal.at.loop-field-init c).In_ok-next) (omega arith) }

pub returns-then-n-ge-MOST_NUMBERS : goal.returns-then-n-ge-MOST_NUMBERS
returns-then-n-ge-MOST_NUMBERS c = line_long c.loop-field.invariant.line (field (goal.at.returns-then-n-ge-MOST_NUMBERS c).In-Some) c.if-n-ge-MOST_NUMBERS.true

pub returns-in_err-ns : goal.returns-in_err-ns
returns-in_err-ns c = c.from_residual-in_err-ns.ensures ∙ line_broken c.loop-field.invariant.line (field (goal.at.returns-in_err-ns c).In-Some) (sym c.number.ensures ∙ c.in_err-ns.was)

pub loop-field-preserved : goal.loop-field-preserved
loop-field-preserved c = record {
  counts = omega (arith, c.loop-field.invariant.counts, length_push c.loop-field.yielded c.in-Some.field);
  line = line_more c.loop-field.invariant.line (field (goal.at.loop-field-preserved c).In-Some) (sym c.number.ensures ∙ c.in_ok-ns.was) c.if-n-ge-MOST_NUMBERS.false;
}

pub returns : goal.returns
returns c =
    let cut = c.split-fields.ensures in
    let f = first_field _ c.next.ensures.steps c.in_ok-next.was cut.rest cut.done cut.closure (λ x b q k. search (rules, tests)) in
    let e = YieldsList-end (YieldsList-at c.into_iter-field-iterator.ensures.into_iter_gives f.others) c.loop-field.yielded _ c.loop-field.yielded_by _ _ c.in-None.is c.next-in-loop-field.ensures.steps in
    c.with_numbers.ensures ∙ ap (with_numbers _) c.step_of.ensures ∙ line_end c.loop-field.invariant.line (c.loop-field.invariant.counts ∙ e.1)
