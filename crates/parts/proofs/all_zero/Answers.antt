-- The blocks and what is left are the part (zeros_block, zeros_blocks).
use Rattle.parts.specs.Zeros.{zeros_block, zeros_blocks}
use Rattle.base.specs.Ranges.{allb_zero, allb_next, allb_stops, allb_end}
use Rattle.std.proofs.Common.{◌∙◌, ap, not}
use Rattle.parts.proofs.all_zero.Goals as goal

pub loop-block-init : goal.loop-block-init
loop-block-init c = allb_zero _

pub returns-then-not-words_zero : goal.returns-then-not-words_zero
returns-then-not-words_zero c =
    let a = c.as_chunks.ensures in
    let i = rw a.front_len at c.loop-block-test.true in
    let e = rw a.front at c.words_zero.ensures ∙ zeros_block _ _ _ i in
    rw (zeros_blocks, ← allb_stops _ _ _ _ i e (ap not c.if-not-words_zero.true))

pub loop-block-preserved : goal.loop-block-preserved
loop-block-preserved c =
    let a = c.as_chunks.ensures in
    let i = rw a.front_len at c.loop-block-test.true in
    let e = rw a.front at c.words_zero.ensures ∙ zeros_block _ _ _ i in
    allb_next _ _ _ c.loop-block.invariant e (ap not c.if-not-words_zero.false)

pub returns : goal.returns
returns c =
    let a = c.as_chunks.ensures in
    let all = allb_end _ _ _ _ c.loop-block.invariant (rw a.front_len at c.loop-block.auto.block-index-end) (rw a.front_len at c.loop-block-test.false) in
    rw (zeros_blocks, ← all, ← a.back) c.words_zero-2.ensures
