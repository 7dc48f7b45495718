-- What can be asked of a lent table, answered by a number.
use Rattle.std.specs.Prelude.{cond, ◌&&◌, List, ℕ, length, ◌==◌}
use Rattle.base.specs.Choice.{◌<?◌}
use Rattle.table.specs.Field.{Size, Flag}
use Rattle.table.specs.Layout.{table_words}
use Rattle.table.specs.Words.{state}
use Rattle.rules.specs.Limits.{house}
use Rattle.rules.specs.Form.{in_form}
use Rattle.rules.specs.Shared.{newest_place}

-- whether it is in form
abbrev pub formed : ℕ
formed = 1

abbrev pub unformed : ℕ
unformed = 0

unfoldable pub form_number : List ℕ → ℕ
form_number t = cond (length t == table_words) (cond (in_form house (state t)) formed unformed) unformed

-- "whether the newest live interval of a controller is flagged"; "0 where the table isn't in form or of another length,
-- or the controller isn't below n"
abbrev pub checkpoint : ℕ
checkpoint = 1

abbrev pub no_checkpoint : ℕ
no_checkpoint = 0

unfoldable pub checkpoint_number : List ℕ → ℕ → ℕ
checkpoint_number t c =
    let σ = state t in
    cond ((form_number t == formed) && ((c <? σ Size) && (σ (Flag c (newest_place σ c)) == 1))) checkpoint no_checkpoint
