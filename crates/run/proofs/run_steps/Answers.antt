-- Step i is the i-th of the list's words (asked_in, called_in); its answer's words come back behind those before them
-- (step_answered).
use Rattle.base.specs.Ranges.{allb_get}
use Rattle.run.specs.Run.{known}
use Rattle.run.specs.Running.{in_answer}
use Rattle.run.proofs.Running.{asked_in, called_in, step_answered, ran_none, ran_more, ran_end}
use Rattle.std.proofs.Common.{refl, sym, ap, ◌∙◌, arith, rules}
use Rattle.run.proofs.run_steps.Goals as goal

pub loop-i-init : goal.loop-i-init
loop-i-init c = (ran_none _ _ _, c.form_of-formed.ensures, refl)

pub run_step-formed-requires : goal.run_step-formed-requires
run_step-formed-requires c =
    let here = c.loop-i-test.true in
    (c.loop-i.invariant.1, search rules, ap known (sym (asked_in _ _ c.told-steps here)) ∙ allb_get _ _ _ c.requires.1 here)

pub loop-i-preserved : goal.loop-i-preserved
loop-i-preserved c =
    let inv = c.loop-i.invariant in
    let here = c.loop-i-test.true in
    let e = c.run_step-formed.ensures in
    (ran_more _ _ _ _ inv.0 (step_answered _ _ _ _ c.loop-i.answers _ (omega (arith, c.requires.0, inv.2)) (search rules) (e.answered ∙ ap in_answer (sym (called_in _ _ c.told-steps here _ _)))), e.form_known, search rules)

pub returns : goal.returns
returns c =
    let inv = c.loop-i.invariant in
    ran_end _ _ _ _ _ _ c.loop-i.auto.i-end c.loop-i-test.false (omega (arith, c.requires.0, inv.2)) inv.0
