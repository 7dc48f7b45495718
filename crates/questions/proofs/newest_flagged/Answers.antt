-- A controller below n has its chain in the table, with a newest place.
use Rattle.table.specs.Field.{Size}
use Rattle.table.specs.Layout.{table_words}
use Rattle.table.specs.Words.{state}
use Rattle.rules.specs.Limits.{house}
use Rattle.rules.specs.Form.{in_form}
use Rattle.laws.specs.Chain.{Chain, chain_of_lem}
use Rattle.std.proofs.Common.{◌≡◌, true, List, ℕ, ◌<◌, length, arith}
use Rattle.questions.proofs.newest_flagged.Goals as goal

chain : (t : List ℕ) (c n : ℕ) → length t ≡ table_words → in_form house (state t) ≡ true → n ≡ state t Size → c < n → Chain (state t) c
chain t c n l f e h = chain_of_lem t c (record { long = l; good = f }) (omega arith)

pub live_count-requires : goal.live_count-requires
live_count-requires c = (chain _ _ _ c.told-t c.requires c.size.ensures c.if-size-controller.false).named

pub overflow_sub-newest : goal.overflow_sub-newest
overflow_sub-newest c = omega (arith, (chain _ _ _ c.told-t c.requires c.size.ensures c.if-size-controller.false).live_pos)

pub flag-requires : goal.flag-requires
flag-requires c =
    let w = chain _ _ _ c.told-t c.requires c.size.ensures c.if-size-controller.false in
    (omega (arith, w.named), omega (arith, w.live_le))
