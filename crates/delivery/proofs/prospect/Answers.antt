-- The message is condemned, and its owner a controller (condemns); or the two vectors conflict, or no place is left, or
-- one is.
use Rattle.std.proofs.Common.{◌<◌, arith}
use Rattle.table.specs.Layout.{controllers}
use Rattle.delivery.specs.Delivers.{condemns, would_drop, Spared, spares, would_wait, no_place_left, would_begin}
use Rattle.delivery.proofs.prospect.Goals as goal
use Rattle.delivery.proofs.prospect.Goals.{After-condemning-owner, After-live_count-live}

-- the owner that is found is a controller
owner_lt : (c : After-condemning-owner) → c.condemning-owner.result < controllers
owner_lt c = condemns c.args.t.now _ _ _ _ c.receiver-c.ensures c.message_vector-sent.ensures c.condemned_vector.ensures c.if-condemned_vector.true _ c.condemning-owner.ensures

pub overflow_cast-result : goal.overflow_cast-result
overflow_cast-result c = omega (arith, owner_lt c)

pub offset_bounds-sent-owner : goal.offset_bounds-sent-owner
offset_bounds-sent-owner c = omega (arith, owner_lt c)

pub bounds-sent-owner : goal.bounds-sent-owner
bounds-sent-owner c = omega (arith, owner_lt c)

pub returns-then-condemned_vector : goal.returns-then-condemned_vector
returns-then-condemned_vector c =
    would_drop c.args.t.now _ _ _ _ c.receiver-c.ensures c.message_vector-sent.ensures c.condemned_vector.ensures c.if-condemned_vector.true _ c.condemning-owner.ensures

-- what is known where the message's vector is filtered, and the live count read
spared : (c : After-live_count-live) → Spared c.args.t.now c.args.r c.receiver-c.result c.filter_vector-theirs.result c.live_count-live.result
spared c =
    spares c.args.t.now _ _ _ _ _ _ c.receiver-c.ensures c.message_vector-sent.ensures c.condemned_vector.ensures c.if-condemned_vector.false
    c.filter_vector-theirs.ensures c.live_count-live.ensures

pub returns-then-place_conflict : goal.returns-then-place_conflict
returns-then-place_conflict c = would_wait (spared (goal.at.returns-then-place_conflict c).After-live_count-live) _ c.place_conflict.ensures c.if-place_conflict.true

pub returns-then-no_place : goal.returns-then-no_place
returns-then-no_place c =
    no_place_left (spared (goal.at.returns-then-no_place c).After-live_count-live) _ c.place_conflict.ensures c.if-place_conflict.false _ c.no_place.ensures c.if-no_place.true

pub returns : goal.returns
returns c = would_begin (spared (goal.at.returns c).After-live_count-live) _ c.place_conflict.ensures c.if-place_conflict.false _ c.no_place.ensures c.if-no_place.false
