-- The values of an answer in a buffer of the C interface. Which they are, and the answer's number, is in the rules'
-- Report.antt.
use Rattle.std.specs.Prelude.{◌≡◌, List, ℕ, length, get_or}
use Rattle.base.specs.Lists.{tab, length_tab}
use Rattle.rules.specs.Report.{report}
use Rattle.rules.specs.declared.Answer.{Answer}

-- how many words the value buffer has
abbrev pub value_room : ℕ
value_room = 6

-- the values of an answer, with zeros where there are fewer
unfoldable pub value_words : Answer → List ℕ
value_words a = tab value_room (λ (i : ℕ). get_or (report a).values i 0)

-- there are as many values as the buffer has words
pub value_count : (a : Answer) → length (value_words a) ≡ value_room
unfolding value_words
value_count a = length_tab value_room _
