-- What is performed on a table in form is the step (answered), and leaves one in form (kept_by).
use Rattle.laws.specs.Answering.{answered}
use Rattle.formed.specs.Carry.{lent_for, kept_by}
use Rattle.rules.specs.Step.{out_both, step}
use Rattle.std.proofs.Common.{◌≡◌}
use Rattle.formed.proofs.step_in_form.Goals as goal

pub returns : goal.returns
returns c =
    let pre = c.requires in
    let e : out_both c.from.result c.perform.new.t c.perform.new.g ≡ step c.args.t.now c.args.g.now c.args.x =
    rw c.from.ensures (answered _ _ _ _ (lent_for _ _ pre) c.perform.ensures) in
    record { answered = e; lent = kept_by _ _ _ pre e }
