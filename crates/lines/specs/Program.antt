-- Document 01, "The program and its lines": all that `house` writes, for all that it reads. Bytes are numbers.
use Rattle.std.specs.Prelude.{cond, Option, Some, None, List, [], ◌∷◌, ◌++◌, ℕ, replicate, ◌==◌}
use Rattle.table.specs.Layout.{table_words}
use Rattle.rules.specs.Limits.{house}
use Rattle.rules.specs.Ledger.{ledger_words}
use Rattle.rules.specs.Step.{step}
use Rattle.rules.specs.declared.Command.{Command}
use Rattle.lines.specs.Lines.{line_feed, first_more, parse, answer_line, bad_line}

-- the input cut at its line feeds; "A last line without line feed counts."
unfoldable pub lines_of : List ℕ → List (List ℕ)
lines_of [] = []
lines_of (b ∷ input) = cond (b == line_feed) ([] ∷ lines_of input) (first_more b (lines_of input))

-- "Each line gives one line", and leaves a table and a ledger.
pub record Reply : Type 0 where
  pub line : List ℕ
  pub table : List ℕ
  pub ledger : List ℕ

-- what is asked for is done on both; "Other lines, an empty one included, answer `bad`."
unfoldable pub reply_to : List ℕ → List ℕ → Option Command → Reply
reply_to t g (Some x) = let o = step t g x in record { line = answer_line o.answer; table = o.table; ledger = o.ledger }
reply_to t g None = record { line = bad_line; table = t; ledger = g }

unfoldable pub reply : List ℕ → List ℕ → List ℕ → Reply
reply t g line = reply_to t g (parse line)

-- the answers to some lines, in their order, each on the table and the ledger that the one before it left
unfoldable pub replies : List ℕ → List ℕ → List (List ℕ) → List ℕ
replies t g [] = []
replies t g (line ∷ more) = let r = reply t g line in r.line ++ replies r.table r.ledger more

-- "`house` starts with a table of 15,152 zero words and reads standard input." Its ledger (W2) is of zero words too.
abbrev pub first_table : List ℕ
first_table = replicate table_words 0

abbrev pub first_ledger : List ℕ
first_ledger = replicate (ledger_words house) 0

unfoldable pub house_writes : List ℕ → List ℕ
house_writes input = replies first_table first_ledger (lines_of input)
