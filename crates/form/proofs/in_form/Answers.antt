-- A head that isn't in form settles the answer; where it is, the records do.
use Rattle.base.specs.Cases.{failed}
use Rattle.rules.specs.Form.{in_form}
use Rattle.std.proofs.Common.{sym, ◌∙◌}
use Rattle.form.proofs.in_form.Goals as goal

pub returns-then-not-head_ok : goal.returns-then-not-head_ok
unfolding in_form
returns-then-not-head_ok c = sym (failed _ (sym c.head_ok.ensures ∙ c.if-not-head_ok.true) (λ w. search w))
