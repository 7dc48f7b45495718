use Rattle.interval.specs.Walks.{come_latest, come_first, come_end, place_lt, judged_hit, judged_clear}
use Rattle.std.proofs.Common.{rules}
use Rattle.interval.proofs.lowest_condemned.Goals as goal

pub places-init : goal.places-init
places-init c = come_first _ _ _ _ (search rules) c.requires c.live_count-live.ensures c.latest_flagged-flagged.ensures

pub raise_flagged-flagged-requires : goal.raise_flagged-flagged-requires
raise_flagged-flagged-requires c =
    let w = c.loop-owner.invariant in
    (w.come.chain.named, place_lt _ _ _ _ _ _ w, come_latest _ _ _ _ _ w.come, w.come.chain.numbers_le)

pub places-preserved : goal.places-preserved
places-preserved c = judged_clear _ _ _ _ _ _ _ c.loop-owner.invariant c.loop-owner-test.false c.raise_flagged-flagged.ensures

pub returns-then-live-p : goal.returns-then-live-p
returns-then-live-p c = let w = c.places.invariant in (come_end _ _ _ _ _ w c.if-live-p.true, come_latest _ _ _ _ _ w)

pub returns-then-condemned_pair : goal.returns-then-condemned_pair
returns-then-condemned_pair c =
    let w = c.loop-owner.invariant in
    (judged_hit _ _ _ _ _ _ _ _ w c.loop-owner-test.true c.place_pair-entry.ensures c.condemned_pair.ensures c.if-condemned_pair.true, come_latest _ _ _ _ _ w.come)
