-- On the noted table the walk finds the place that the rule names: none (hear_none), one too late (hear_late), or one
-- from which on intervals are undone (hear_undone); its figure is the one that `undo` asks for.
use Rattle.hearing.specs.Hearing.{Walked, heard_chain, hear_none, hear_late, hear_starts, hear_undone}
use Rattle.hearing.proofs.hear_crash.Goals as goal
use Rattle.hearing.proofs.hear_crash.Goals.{After-lowest_condemned-stop}

-- what is known where the walk has found a place
walked : (c : After-lowest_condemned-stop) → let s = c.args in
    Walked s.t.now c.note.new.t s.h.hearer s.h.owner s.h.incarnation c.known-known.result c.lowest_condemned-stop.result.place
walked c =
    record {
      hears = c.requires;
      known_is = c.known-known.ensures;
      noted_is = c.note.ensures;
      place_is = c.lowest_condemned-stop.ensures.0;
    }

pub lowest_condemned-stop-requires : goal.lowest_condemned-stop-requires
lowest_condemned-stop-requires c = search heard_chain

pub returns-then-live_count-stop : goal.returns-then-live_count-stop
returns-then-live_count-stop c = hear_none (walked (goal.at.returns-then-live_count-stop c).After-lowest_condemned-stop) c.live_count.ensures c.if-live_count-stop.true

pub returns-then-incarnation-ge-LAST_INCARNATION : goal.returns-then-incarnation-ge-LAST_INCARNATION
returns-then-incarnation-ge-LAST_INCARNATION c =
    hear_late (walked (goal.at.returns-then-incarnation-ge-LAST_INCARNATION c).After-lowest_condemned-stop) c.live_count.ensures c.if-live_count-stop.false c.incarnation.ensures c.if-incarnation-ge-LAST_INCARNATION.true
    c.take_back.ensures

pub undo-requires : goal.undo-requires
undo-requires c =
    let w = walked (goal.at.undo-requires c).After-lowest_condemned-stop in (
      hear_starts w c.live_count.ensures c.if-live_count-stop.false c.incarnation.ensures c.if-incarnation-ge-LAST_INCARNATION.false,
      c.lowest_condemned-stop.ensures.1,
    )

pub returns : goal.returns
returns c =
    hear_undone (walked (goal.at.returns c).After-lowest_condemned-stop) c.live_count.ensures c.if-live_count-stop.false c.incarnation.ensures c.if-incarnation-ge-LAST_INCARNATION.false
    c.undo.ensures
