-- The two tests are those of the definition, and the choice is made without a branch.
use Rattle.std.proofs.Common.{◌≡◌, refl, Bool, true, false, not, cond, ◌&&◌, ◌||◌, ◌==◌}
use mathlib.Core.Bool.{or-false}
use Rattle.base.specs.Choice.{◌≤?◌}
use Rattle.rules.specs.Form.{state_held, state_dropped, state_published, state_ok}
use Rattle.parts.proofs.state_ok.Goals as goal

chosen : (b x y : Bool) → ((b && x) || (not b && y)) ≡ cond b x y
chosen true x y = or-false x
chosen false x y = refl

pub returns : goal.returns
unfolding state_ok
returns c =
    let s = c.args.state in
    chosen c.args.desk ((s == state_held) || ((s == state_dropped) || (s == state_published))) ((state_held ≤? s) && (s ≤? state_dropped))
