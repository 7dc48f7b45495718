-- Numbers of c are bounded, so that this one fits (number_fits). Place p is the last of one place more: it is flagged
-- (flagged_here), or the figure stays (flagged_below).
use Rattle.laws.specs.Numbers.{number_fits}
use Rattle.interval.specs.Walks.{flagged_here, flagged_below}
use Rattle.std.proofs.Common.{refl, sym, ◌∙◌, arith}
use Rattle.interval.proofs.raise_flagged.Goals as goal

pub number_of-requires : goal.number_of-requires
number_of-requires c = let s = c.requires in (s.0, number_fits _ _ _ s.3 (omega arith))

pub returns-then-flag-eq1 : goal.returns-then-flag-eq1
returns-then-flag-eq1 c = c.number_of.ensures ∙ flagged_here _ _ _ _ refl (sym c.flag.ensures ∙ c.if-flag-eq1.true)

pub returns-else-flag-eq1 : goal.returns-else-flag-eq1
returns-else-flag-eq1 c = c.requires.2 ∙ flagged_below _ _ _ _ refl (λ e. c.if-flag-eq1.false (c.flag.ensures ∙ e))
