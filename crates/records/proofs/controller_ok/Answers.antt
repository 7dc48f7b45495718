-- Each branch computes what the definition names there; the words of a record stand together (zeros_controller).
use Rattle.base.specs.Cases.{all_of}
use Rattle.rules.specs.Form.{controller_ok}
use Rattle.parts.specs.Zeros.{zeros_part, zeros_controller}
use Rattle.table.specs.Layout.{controller_words}
use Rattle.std.proofs.Common.{◌∙◌, lt-ltb, le-ltb, arith}
use Rattle.records.proofs.controller_ok.Goals as goal

pub returns-then-c-n : goal.returns-then-c-n
unfolding controller_ok all_of
returns-then-c-n c = rw (lt-ltb _ _ c.if-c-n.true, c.incarnation.ensures, c.degree.ensures, c.stable_count-stable.ensures, c.live_count-live.ensures)

pub returns-else-c-n : goal.returns-else-c-n
unfolding controller_ok
returns-else-c-n c = rw (le-ltb _ _ c.if-c-n.false) (c.all_zero.ensures ∙ zeros_part _ _ _ controller_words (omega arith) (omega (arith, c.told-t, c.controller_at-from.ensures)) ∙ zeros_controller _ _ _ c.controller_at-from.ensures)
