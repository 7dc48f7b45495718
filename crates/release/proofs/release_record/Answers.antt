-- The three cases are those of the rule (held, used_up, released).
use Rattle.release.specs.Releases.{Read, read, held, used_up, released}
use Rattle.std.proofs.Common.{ap, not}
use Rattle.release.proofs.release_record.Goals as goal

pub returns-then-not-may_go : goal.returns-then-not-may_go
returns-then-not-may_go c =
    let found : Read c.args.t.now c.args.r c.mask_of-mask.result = search read in
    held found c.may_go.ensures _ _ (ap not c.if-not-may_go.true) c.told-t

pub returns-then-no_room : goal.returns-then-no_room
returns-then-no_room c =
    let found : Read c.args.t.now c.args.r c.mask_of-mask.result = search read in
    used_up found c.may_go.ensures _ _ (ap not c.if-not-may_go.false) c.no_room.ensures c.if-no_room.true c.told-t

pub returns : goal.returns
returns c =
    let found : Read c.args.t.now c.args.r c.mask_of-mask.result = search read in
    let e = c.go_out.ensures in
    released found c.may_go.ensures _ _ (ap not c.if-not-may_go.false) c.no_room.ensures c.if-no_room.false e.0 e.1
