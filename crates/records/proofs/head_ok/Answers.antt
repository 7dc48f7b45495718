-- The tests are those of the definition, in its order.
use Rattle.base.specs.Cases.{all_of}
use Rattle.rules.specs.Form.{head_ok}
use Rattle.table.specs.Field.{spare_from, spare_again, Gap, word}
use Rattle.table.specs.Layout.{head_words}
use Rattle.parts.specs.Zeros.{zeros_part, zeros_head}
use Rattle.std.specs.Prelude.{refl}
use Rattle.std.proofs.Common.{◌∙◌, ◌-◌, arith}
use Rattle.records.proofs.head_ok.Goals as goal

pub returns : goal.returns
unfolding head_ok all_of
returns c =
    rw (
      c.all_zero.ensures ∙ zeros_part c.args.t.now spare_from (word Gap - spare_from) _ refl (omega (arith, c.told-t)) ∙ zeros_head _ spare_from (word Gap),
      c.gap.ensures,
      c.served.ensures,
      c.all_zero-2.ensures ∙ zeros_part c.args.t.now spare_again (head_words - spare_again) _ refl (omega (arith, c.told-t)) ∙ zeros_head _ spare_again head_words,
      c.records_used.ensures,
      c.size-n.ensures,
    )
