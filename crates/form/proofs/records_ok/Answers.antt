-- The tests are those of the definition, in its order; each call promises its own, and the first that fails settles the
-- answer.
use Rattle.base.specs.Cases.{all_of, failed}
use Rattle.rules.specs.Form.{in_form}
use Rattle.std.proofs.Common.{sym, ◌∙◌}
use Rattle.form.proofs.records_ok.Goals as goal

pub returns-then-not-controllers_ok : goal.returns-then-not-controllers_ok
unfolding in_form
returns-then-not-controllers_ok c =
    let size = c.size-n.ensures in
    sym (failed _ (rw size at (sym c.controllers_ok.ensures) ∙ c.if-not-controllers_ok.true) (λ w. search w))

pub returns-then-not-all_rows_ok : goal.returns-then-not-all_rows_ok
unfolding in_form
returns-then-not-all_rows_ok c =
    let size = c.size-n.ensures in
    sym (failed _ (rw size at (sym c.all_rows_ok.ensures) ∙ c.if-not-all_rows_ok.true) (λ w. search w))

pub returns-then-not-all_places_ok : goal.returns-then-not-all_places_ok
unfolding in_form
returns-then-not-all_places_ok c =
    let size = c.size-n.ensures in
    sym (failed _ (rw size at (sym c.all_places_ok.ensures) ∙ c.if-not-all_places_ok.true) (λ w. search w))

pub returns : goal.returns
unfolding in_form all_of
returns c =
    let size = c.size-n.ensures in
    rw (
      c.requires,
      rw size at (sym c.controllers_ok.ensures ∙ c.if-not-controllers_ok.false),
      rw size at (sym c.all_rows_ok.ensures ∙ c.if-not-all_rows_ok.false),
      rw size at (sym c.all_places_ok.ensures ∙ c.if-not-all_places_ok.false),
    )
    (rw size at c.messages_ok.ensures)
