-- Of a table in form, step_in_form says it all. One that isn't is refused (out_of_form), or opened (carried).
use Rattle.laws.specs.Answering.{out_of_form, answered}
use Rattle.rules.specs.Step.{out_both, step}
use Rattle.formed.specs.Carry.{lent_unseen, carried}
use Rattle.std.proofs.Common.{◌≡◌, sym, ◌∙◌}
use Rattle.formed.proofs.step_carried.Goals as goal

pub step_in_form-a-requires : goal.step_in_form-a-requires
step_in_form-a-requires c =
    let pre = c.requires in
    record { long = pre.0; good = sym pre.1 ∙ c.if-formed.true }

pub returns-then-formed : goal.returns-then-formed
returns-then-formed c =
    let e = c.step_in_form-a.ensures in
    record { answered = e.answered; form_known = (e.lent.long, sym e.lent.good) }

pub returns-then-looks_at_form : goal.returns-then-looks_at_form
returns-then-looks_at_form c =
    let pre = c.requires in
    let unformed = sym pre.1 ∙ c.if-formed.false in
    record {
      answered = rw c.from.ensures (out_of_form _ _ _ pre.0 (sym c.looks_at_form.ensures ∙ c.if-looks_at_form.true) unformed);
      form_known = (pre.0, sym unformed);
    }

pub perform-requires : goal.perform-requires
perform-requires c = lent_unseen _ _ c.requires.0 (sym c.looks_at_form.ensures ∙ c.if-looks_at_form.false)

pub returns : goal.returns
returns c =
    let pre = c.requires in
    let unseen = sym c.looks_at_form.ensures ∙ c.if-looks_at_form.false in
    let e : out_both c.from-a.result c.perform.new.t c.perform.new.g ≡ step c.args.t.now c.args.g.now c.args.x =
    rw c.from-a.ensures (answered _ _ _ _ (lent_unseen _ _ pre.0 unseen) c.perform.ensures) in
    let f = carried _ _ _ (pre.0, sym c.if-formed.false ∙ pre.1) unseen e in
    record { answered = e; form_known = (f.0, c.is_done.ensures ∙ f.1) }
