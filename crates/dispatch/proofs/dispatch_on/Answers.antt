-- Each return is a refusal of the host, or the call on a table in form, beside any ledger.
use Rattle.dispatch.specs.Returns.{too_short, out_of_form, answered}
use Rattle.std.proofs.Common.{sym, ◌∙◌}
use Rattle.dispatch.proofs.dispatch_on.Goals as goal

pub returns-in_default : goal.returns-in_default
returns-in_default c g = too_short _ g c.in_default.ensures.cases

pub returns-then-not-in_form : goal.returns-then-not-in_form
returns-then-not-in_form c g = out_of_form _ g _ c.in-Some.ensures.cases (sym c.in_form.ensures ∙ c.if-not-in_form.true)

pub returns : goal.returns
returns c g = answered _ g _ c.in-Some.ensures.cases _ _ (sym c.in_form.ensures ∙ c.if-not-in_form.false) c.dispatch_formed.ensures
