-- The tests stand in the order of the cases.
use Rattle.base.specs.Cases.{none, hit, skip}
use Rattle.std.proofs.Common.{eq-eqb, ne_eqb}
use Rattle.opening.proofs.check_open.Goals as goal

pub returns-then-g-ne-LEDGER_WORDS : goal.returns-then-g-ne-LEDGER_WORDS
returns-then-g-ne-LEDGER_WORDS c = hit _ _ _ (rw (ne_eqb _ _ c.if-g-ne-LEDGER_WORDS.true))

pub returns-then-n-k : goal.returns-then-n-k
returns-then-n-k c = skip _ _ _ _ (rw (eq-eqb _ _ c.if-g-ne-LEDGER_WORDS.false)) (hit _ _ _ c.if-n-k.true)

pub returns : goal.returns
returns c = skip _ _ _ _ (rw (eq-eqb _ _ c.if-g-ne-LEDGER_WORDS.false)) (skip _ _ _ _ c.if-n-k.false none)
