-- The controller's words, its own known word and its place 0 are written one after the other (begun_at).
use Rattle.opening.specs.Opened.{controller_lent, begun_at}
use Rattle.std.proofs.Common.{refl}
use Rattle.opening.proofs.open_controller.Goals as goal

pub returns : goal.returns
returns c =
    let part = controller_lent _ _ _ _ _ _ c.told-t c.requires c.write_controller.ensures c.controller_at-from.ensures refl in
    begun_at c.args.t.now _ _ _ _ c.args.k _ part c.set_known.ensures c.first_vector.ensures c.write_place.ensures
