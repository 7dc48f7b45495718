-- Each return is a refusal of the host, or the set on a table in form.
use Rattle.sets.specs.Returns.{too_short, out_of_form, answered}
use Rattle.std.proofs.Common.{sym, ◌∙◌}
use Rattle.sets.proofs.set_on.Goals as goal

pub returns-in_default : goal.returns-in_default
returns-in_default c = too_short _ _ _ c.in_default.ensures.cases

pub returns-then-not-in_form : goal.returns-then-not-in_form
returns-then-not-in_form c = out_of_form _ _ _ _ c.in-Some.ensures.cases (sym c.in_form.ensures ∙ c.if-not-in_form.true)

pub returns : goal.returns
returns c = answered _ _ _ _ c.in-Some.ensures.cases _ (sym c.in_form.ensures ∙ c.if-not-in_form.false) c.step_set.ensures
