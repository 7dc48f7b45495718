-- A table that isn't in form is refused (out_of_form).
use Rattle.laws.specs.Answering.{out_of_form}
use Rattle.std.proofs.Common.{true≢false, sym, ◌∙◌}
use Rattle.machine.proofs.check_form.Goals as goal
use Rattle.machine.proofs.check_form.Goals.{else-looks_at_form-via-then-looks_at_form+else-not-in_form, else-looks_at_form-via-else-looks_at_form}

pub returns-then-not-in_form : goal.returns-then-not-in_form
returns-then-not-in_form c =
    λ g. out_of_form _ g _ c.told-t (sym c.looks_at_form.ensures ∙ c.if-looks_at_form.true) (sym c.in_form.ensures ∙ c.if-not-in_form.true)

pub returns : goal.returns
returns c = record {
  long = c.told-t;
  good =
      λ looks.
      elim c.else-looks_at_form.branch [
        | else-looks_at_form-via-then-looks_at_form+else-not-in_form w ↦ sym w.in_form.ensures ∙ w.if-not-in_form.false
        | else-looks_at_form-via-else-looks_at_form w ↦ absurd (true≢false (sym looks ∙ sym c.looks_at_form.ensures ∙ w.if-looks_at_form.false))
      ];
}
