-- Each branch computes what the definition names there; vector and zeros stand together (place_vector_lem,
-- zeros_place).
use Rattle.base.specs.Cases.{all_of}
use Rattle.rules.specs.Limits.{house}
use Rattle.rules.specs.Form.{vector_ok, place_ok}
use Rattle.vector.specs.At.{place_vector_lem}
use Rattle.parts.specs.Zeros.{zeros_part, zeros_place}
use Rattle.table.specs.Layout.{place_words}
use Rattle.std.proofs.Common.{ap, ◌∙◌, lt-ltb, le-ltb, arith}
use Rattle.records.proofs.place_ok.Goals as goal

pub returns-then-q-live_count : goal.returns-then-q-live_count
unfolding place_ok all_of
returns-then-q-live_count c =
    let v = c.vector_ok.ensures ∙ ap (vector_ok house _) (place_vector_lem _ _ _ _ c.place_vector_at.ensures) in
    let live = rw c.live_count.ensures at c.if-q-live_count.true in
    rw (lt-ltb _ _ live, v, c.last_given.ensures, c.cause.ensures, c.is_number_of.ensures, c.place_number.ensures, c.place_incarnation.ensures, c.flag-flag.ensures)

pub returns-else-q-live_count : goal.returns-else-q-live_count
unfolding place_ok
returns-else-q-live_count c = rw (le-ltb _ _ (rw c.live_count.ensures at c.if-q-live_count.false)) (c.all_zero.ensures ∙ zeros_part _ _ _ place_words (omega arith) (omega (arith, c.told-t, c.place_at-from.ensures)) ∙ zeros_place _ _ _ _ c.place_at-from.ensures)
