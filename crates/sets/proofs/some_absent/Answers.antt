-- The blocks and what is left are the list (absent_block, absent_rest).
use Rattle.sets.specs.Blocks.{absent_none, absent_block, absent_next, absent_stops, absent_rest}
use Rattle.std.proofs.Common.{◌∙◌}
use Rattle.sets.proofs.some_absent.Goals as goal

pub loop-block-init : goal.loop-block-init
loop-block-init c = absent_none _ _

pub loop-block-preserved : goal.loop-block-preserved
loop-block-preserved c =
    let a = c.as_chunks.ensures in
    let i = rw a.front_len at c.loop-block-test.true in
    let e = rw a.front at c.absent_among.ensures ∙ absent_block _ _ _ _ i in
    absent_next _ _ _ _ c.loop-block.invariant e c.if-absent_among.false

pub returns-then-absent_among : goal.returns-then-absent_among
returns-then-absent_among c =
    let a = c.as_chunks.ensures in
    let i = rw a.front_len at c.loop-block-test.true in
    let e = rw a.front at c.absent_among.ensures ∙ absent_block _ _ _ _ i in
    absent_stops _ _ _ _ i e c.if-absent_among.true

pub returns : goal.returns
returns c =
    let a = c.as_chunks.ensures in
    let x = rw a.front_len at c.loop-block.auto.block-index-end in
    let y = rw a.front_len at c.loop-block-test.false in
    let e = rw a.back at c.absent_among-2.ensures in
    e ∙ absent_rest _ _ _ c.loop-block.invariant x y
