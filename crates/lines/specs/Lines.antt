-- Document 01, "The program and its lines": what a line asks, and the line of an answer. Bytes are numbers, without the
-- line feed that ends a line of input.
use Rattle.std.specs.Prelude.{Bool, true, cond, Option, Some, None, ◌&&◌, List, [], ◌∷◌, ◌++◌, map, ℕ, zero, suc, ◌+◌, ◌-◌, ◌*◌, ◌/◌, ◌%◌, length, get_or, ◌==◌}
use Prim.Native.Char.{code}
use Rattle.base.specs.Choice.{◌≤?◌, ◌<?◌}
use Rattle.rules.specs.Bytes.{bytes}
use Rattle.rules.specs.Report.{report}
use Rattle.rules.specs.declared.Answer.{Answer}
use Rattle.rules.specs.declared.Command.{Command}
use Rattle.rules.specs.declared.Command.TheVariants.{Open, SetDegree, Send, Release, Deliver, Log, Checkpoint, Tell, Crash, Hear, SetGap}

-- bytes of ASCII
abbrev pub space : ℕ
space = code " "

abbrev pub line_feed : ℕ
line_feed = code "\n"

abbrev pub zero_digit : ℕ
zero_digit = code "0"

abbrev pub nine_digit : ℕ
nine_digit = code "9"

-- "at most 64 bytes before the line feed"
abbrev pub longest_line : ℕ
longest_line = 64

-- "a number has 1 to 10 digits and is at most 4,294,967,295", in decimal
abbrev pub most_digits : ℕ
most_digits = 10

abbrev pub largest : ℕ
largest = 4294967295

abbrev pub radix : ℕ
radix = 10

-- "Letters are those of the program": the step of a letter and its numbers in their order. A step doesn't look at
-- numbers that it hasn't. W4: "New steps get a line in `house` only where a request names the letter", and it names
-- none for its own.
unfoldable pub step_of : ℕ → ℕ → ℕ → ℕ → Option Command
step_of letter a b c =
    cond (letter == code "O") (Some (Open a b))
    (cond (letter == code "K") (Some (SetDegree a b))
    (cond (letter == code "S") (Some (Send a b c))
    (cond (letter == code "R") (Some (Release a))
    (cond (letter == code "D") (Some (Deliver a))
    (cond (letter == code "L") (Some (Log a b))
    (cond (letter == code "C") (Some (Checkpoint a))
    (cond (letter == code "T") (Some (Tell a b))
    (cond (letter == code "X") (Some (Crash a))
    (cond (letter == code "H") (Some (Hear a b c)) None)))))))))

-- how many numbers a step has; no letter asks for the last (Letters.antt)
abbrev pub numbers_of : Command → ℕ
numbers_of (Open n k) = 2
numbers_of (SetDegree c k) = 2
numbers_of (Send s r p) = 3
numbers_of (Release m) = 1
numbers_of (Deliver m) = 1
numbers_of (Log c q) = 2
numbers_of (Checkpoint c) = 1
numbers_of (Tell a b) = 2
numbers_of (Crash c) = 1
numbers_of (Hear b a i) = 3
numbers_of (SetGap q) = 1

-- S and H have the most
abbrev pub most_numbers : ℕ
most_numbers = 3

-- what is asked, where it has just n numbers
unfoldable pub with_numbers : ℕ → Option Command → Option Command
with_numbers n (Some x) = cond (numbers_of x == n) (Some x) None
with_numbers n None = None

-- "A line is a letter and its numbers in the order above"
unfoldable pub command : ℕ → List ℕ → Option Command
command letter ns = with_numbers (length ns) (step_of letter (get_or ns 0 0) (get_or ns 1 0) (get_or ns 2 0))

-- "one space between": a line cut at its spaces; a line without one is one field
abbrev pub first_more : ℕ → List (List ℕ) → List (List ℕ)
first_more b [] = (b ∷ []) ∷ []
first_more b (f ∷ fs) = (b ∷ f) ∷ fs

unfoldable pub fields : List ℕ → List (List ℕ)
fields [] = [] ∷ []
fields (b ∷ l) = cond (b == space) ([] ∷ fields l) (first_more b (fields l))

-- a field of digits, and the number that it is
unfoldable pub digits : List ℕ → Bool
digits [] = true
digits (b ∷ w) = ((zero_digit ≤? b) && (b ≤? nine_digit)) && digits w

unfoldable pub value_from : ℕ → List ℕ → ℕ
value_from v [] = v
value_from v (b ∷ w) = value_from (v * radix + (b - zero_digit)) w

abbrev pub value_of : List ℕ → ℕ
value_of w = value_from 0 w

unfoldable pub is_number : List ℕ → Bool
is_number w = (1 ≤? length w) && ((length w ≤? most_digits) && (digits w && (value_of w ≤? largest)))

unfoldable pub are_numbers : List (List ℕ) → Bool
are_numbers [] = true
are_numbers (w ∷ ws) = is_number w && are_numbers ws

-- the first field is the letter, the others are its numbers
unfoldable pub asked : List (List ℕ) → Option Command
asked [] = None
asked ([] ∷ ws) = None
asked ((l ∷ []) ∷ ws) = cond (are_numbers ws) (command l (map value_of ws)) None
asked ((l ∷ b ∷ w) ∷ ws) = None

-- "Other lines, an empty one included, answer `bad`."
unfoldable pub parse : List ℕ → Option Command
parse line = cond (length line ≤? longest_line) (asked (fields line)) None

-- A number in decimal, without leading zeros.
unfoldable pub decimal_in : ℕ → ℕ → List ℕ
decimal_in zero n = []
decimal_in (suc d) n = cond (n <? radix) ((zero_digit + n) ∷ []) (decimal_in d (n / radix) ++ (zero_digit + n % radix) ∷ [])

abbrev pub decimal : ℕ → List ℕ
decimal n = decimal_in most_digits n

-- "Each line gives one line": the word of the answer, its values, each after a space, and the line feed
unfoldable pub spaced : List ℕ → List ℕ
spaced [] = []
spaced (v ∷ vs) = space ∷ (decimal v ++ spaced vs)

unfoldable pub line_of : List ℕ → List ℕ → List ℕ
line_of word values = word ++ (spaced values ++ line_feed ∷ [])

unfoldable pub answer_line : Answer → List ℕ
answer_line a = line_of (report a).word (report a).values

unfoldable pub bad_line : List ℕ
bad_line = line_of (bytes "bad") []
