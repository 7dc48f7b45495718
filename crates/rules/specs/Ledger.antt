-- W2: "A second lent buffer, the ledger, has 257 words: a count, then 128 pairs of message number and payload, in the order of
-- publishing. Unused pairs are 0." Its words are a list; the limit, how many entries it has, is a parameter. These are the only
-- positions in it; crates/ledger has the same as constants of the code.
use Rattle.std.specs.Prelude.{Bool, List, [], ◌∷◌, ℕ, ◌+◌, ◌-◌, ◌*◌, length, get_or, set, replicate, ◌==◌}
use Rattle.base.specs.Choice.{◌≤?◌}
use Rattle.base.specs.Cases.{all_of}
use Rattle.base.specs.Splice.{splice}
use Rattle.table.specs.Field.{State, Payload}
use Rattle.rules.specs.Limits.{Limits}
use Rattle.rules.specs.Form.{zeros}

-- the count, and where entry j begins
abbrev pub count_at : ℕ
count_at = 0

abbrev pub entry_words : ℕ
entry_words = 2

abbrev pub entry_at : ℕ → ℕ
entry_at j = 1 + entry_words * j

abbrev pub ledger_words : Limits → ℕ
ledger_words L = entry_at L.entries

abbrev pub count_of : List ℕ → ℕ
count_of g = get_or g count_at 0

-- the words of an entry, and what entry j says: "message number and payload"
abbrev pub message_word : ℕ
message_word = 0

abbrev pub payload_word : ℕ
payload_word = 1

abbrev pub cited_message : List ℕ → ℕ → ℕ
cited_message g j = get_or g (entry_at j + message_word) 0

abbrev pub cited_payload : List ℕ → ℕ → ℕ
cited_payload g j = get_or g (entry_at j + payload_word) 0

-- the entry of message m, in record r: "message number and payload"
abbrev pub entry_of : State → ℕ → ℕ → List ℕ
entry_of σ m r = m ∷ σ (Payload r) ∷ []

-- not "14 when the ledger's length is not 257, its count is above 128, or a pair past the count is not 0"
unfoldable pub ledger_ok : Limits → List ℕ → Bool
ledger_ok L g =
    let next = entry_at (count_of g) in
    all_of
    ((length g == ledger_words L)
    ∷ (count_of g ≤? L.entries)
    ∷ zeros (ledger_words L - next) (λ (k : ℕ). get_or g (next + k) 0)
    ∷ [])

-- "Publishing appends one pair": the count is one more, and the entry stands behind those that were there.
unfoldable pub appended : List ℕ → List ℕ → List ℕ
appended g entry = set (splice g (entry_at (count_of g)) entry) count_at (count_of g + 1)

-- "an opening that is done clears the ledger"
unfoldable pub blank_ledger : Limits → List ℕ
blank_ledger L = replicate (ledger_words L) 0
