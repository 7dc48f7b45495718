-- The tests stand in the order of the definition; the words past the count are those from the next entry on.
use Rattle.base.specs.Cases.{all_of}
use Rattle.rules.specs.Ledger.{ledger_ok}
use Rattle.parts.specs.Zeros.{zeros_from, zeros_part}
use Rattle.std.specs.Prelude.{refl, ℕ, length, ◌-◌}
use Rattle.std.proofs.Common.{ap, ◌∙◌, arith, le-leb, eq-eqb, ne_eqb}
use borrow.Author.Tests.{lt-leb}
use Rattle.ledger.proofs.is_sound.Goals as goal

pub returns-in_default : goal.returns-in_default
unfolding ledger_ok all_of
returns-in_default c = rw (ne_eqb _ _ c.in_default.ensures.cases)

pub returns-then-n-gt-ENTRIES : goal.returns-then-n-gt-ENTRIES
unfolding ledger_ok all_of
returns-then-n-gt-ENTRIES c =
    let whole = c.in-Some.ensures.cases in
    rw (eq-eqb _ _ whole.long, ← whole.same, ← c.count-n.ensures, lt-leb _ _ c.if-n-gt-ENTRIES.true)

pub returns : goal.returns
unfolding ledger_ok all_of zeros_from
returns c =
    let whole = c.in-Some.ensures.cases in
    rw (eq-eqb _ _ whole.long, ← whole.same, ← c.count-n.ensures, le-leb _ _ c.if-n-gt-ENTRIES.false, ← c.entry_at.ensures)
    (c.all_zero.ensures ∙ zeros_part c.in-Some.g.now c.entry_at.result (257 - c.entry_at.result) _ refl (omega (arith, whole.long, ap (length {A = ℕ}) whole.same, c.entry_at.ensures, c.if-n-gt-ENTRIES.false)))
