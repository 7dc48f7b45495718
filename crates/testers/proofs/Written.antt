-- Listing A through the program, to the byte.
use Rattle.std.specs.Prelude.{◌≡◌, refl, Some, ℕ}
use Rattle.std.proofs.Common.{ap, ◌∙◌}
use mathlib.Core.List.{List, [], ◌∷◌, ◌++◌, map, flatten}
use Rattle.std.proofs.lemmas.List.{length-replicate, get_or-replicate}
use Rattle.table.specs.Layout.{table_words, position}
use Rattle.table.proofs.Positions.{position_lt}
use Rattle.table.specs.Change.{blank}
use Rattle.table.specs.Words.{words}
use Rattle.table.proofs.Words.{words_of}
use Rattle.rules.specs.Limits.{house}
use Rattle.rules.specs.Ledger.{ledger_words}
use Rattle.rules.specs.Bytes.{bytes}
use Rattle.rules.specs.Report.{report}
use Rattle.rules.specs.Step.{step, step_call}
use Rattle.rules.specs.declared.Command.{Command}
use Rattle.lines.specs.Lines.{step_of, with_numbers, command, fields, digits, value_from, is_number, are_numbers, asked, parse, decimal_in, spaced, line_of, answer_line}
use Rattle.lines.specs.Program.{lines_of, reply_to, reply, replies, first_table, first_ledger, house_writes}
use Rattle.listing.specs.ListingA as L
use Rattle.listing.specs.ListingA.{listing_a, listing_A}
use Rattle.testers.specs.Sample.{calls, answers_from}
use Rattle.testers.proofs.Sample.{answers_words}

-- lines that ask for these steps
data Asking : List (List ℕ) → List Command → Type 0 where
  nothing : Asking [] []
  also : {l : List ℕ} {x : Command} {ls : List (List ℕ)} {xs : List Command} → parse l ≡ Some x → Asking ls xs → Asking (l ∷ ls) (x ∷ xs)

-- their answers are those of the steps
asking_replies : (t g : List ℕ) {ls : List (List ℕ)} {xs : List Command} → Asking ls xs → replies t g ls ≡ flatten (map answer_line (answers_from t g (calls xs)))
unfolding replies reply reply_to flatten answers_from step_call
asking_replies t g nothing = refl
asking_replies t g (also {x = x} {xs = xs} e f) =
    let o = step t g x in
    rw e (ap (λ (l : List ℕ). answer_line o.answer ++ l) (asking_replies o.table o.ledger f))

-- the table that the program starts with is the one of blank words
first_blank : first_table ≡ words blank
first_blank = let zero : ℕ = 0 in words_of blank first_table (length-replicate table_words zero) (λ f v. get_or-replicate table_words (position f) zero zero (position_lt f v))

-- the two columns, a line feed after each line
abbrev pub left_column : List ℕ
left_column = bytes "O 3 1\nS 0 1 7\nR 1\nD 1\nS 1 2 9\nR 2\nD 2\nS 2 0 5\nR 3\nL 2 1\nR 3\nX 1\nD 3\nH 2 1 0\nH 0 1 0\nD 3\n"

abbrev pub right_column : List ℕ
right_column =
    bytes "done\nsent 1\nreleased 1 0\ndelivered 1 0 2\nsent 2\nreleased 2 2\ndelivered 2 0 2\nsent 3\nheld 3 6\ndone\nreleased 3 2\ncrashed 1 0 1 1 0\ndelivered 3 0 2\nrolled 2 1 1 0 1 0\nrolled 0 1 1 0 1 0\nrefused 7\n"

left_asks : Asking (lines_of left_column) listing_a
unfolding lines_of parse fields asked are_numbers is_number digits value_from command with_numbers step_of
left_asks =
    also refl (also refl (also refl (also refl (also refl (also refl (also refl (also refl (also refl (also refl (also refl (also refl (also refl (also refl (also refl (also refl nothing)))))))))))))))

right_lines : flatten (map answer_line L.right_column) ≡ right_column
unfolding flatten answer_line report line_of spaced decimal_in
right_lines = refl

pub listing_written : house_writes left_column ≡ right_column
unfolding house_writes
listing_written =
    let zero : ℕ = 0 in
    asking_replies first_table first_ledger left_asks
    ∙ ap (λ (t : List ℕ). flatten (map answer_line (answers_from t first_ledger (calls listing_a)))) first_blank
    ∙ ap (λ a. flatten (map answer_line a)) (answers_words blank first_ledger listing_a ∙ listing_A first_ledger (length-replicate (ledger_words house) zero))
    ∙ right_lines
