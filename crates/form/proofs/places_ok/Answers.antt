use Rattle.base.specs.Ranges.{allb_zero, allb_next, allb_stops, allb_end}
use Rattle.form.specs.Runs.{all_places}
use Rattle.parts.specs.Zeros.{zeros_part}
use Rattle.std.proofs.Common.{◌∙◌, ◌-◌, arith, ap, not}
use Rattle.form.proofs.places_ok.Goals as goal

pub loop-p-init : goal.loop-p-init
loop-p-init c = allb_zero _

pub returns-then-not-place_ok : goal.returns-then-not-place_ok
returns-then-not-place_ok c = allb_stops _ _ _ _ (omega arith) c.place_ok.ensures (ap not c.if-not-place_ok.true)

pub loop-p-preserved : goal.loop-p-preserved
loop-p-preserved c = allb_next _ _ _ c.loop-p.invariant c.place_ok.ensures (ap not c.if-not-place_ok.false)

pub returns : goal.returns
returns c =
    all_places _ _ _ _ _ _ _ (rw c.live_count.ensures at c.min-live.ensures) (allb_end _ _ _ _ c.loop-p.invariant c.loop-p.auto.p-end c.loop-p-test.false)
    c.place_at.ensures (c.all_zero.ensures ∙ zeros_part c.args.t.now c.place_at.result (c.place_at-2.result - c.place_at.result) _ (omega (arith, c.min-live.ensures, c.place_at.ensures, c.place_at-2.ensures)) (omega (arith, c.told-t, c.min-live.ensures, c.place_at.ensures)))
