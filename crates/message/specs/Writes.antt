-- What each function leaves, from what it has read and what its calls have left.
use Rattle.std.specs.Prelude.{◌≡◌, List, ◌++◌, ℕ, ◌+◌, ◌-◌, ◌<◌, length, take, drop}
use Rattle.std.proofs.Common.{ap, arith}
use Rattle.table.specs.Field.{OfMessage, SentCount, LiveCount, PlaceIncarnation, PlaceNumber}
use Rattle.table.specs.Change.{put, put_part}
use Rattle.table.specs.Layout.{messages, message_words, table_words, position}
use Rattle.table.specs.Words.{state, words}
use Rattle.table.proofs.Words.{words_state, fits_message, lent_part}
use Rattle.table.specs.Numbering.{used, last_given, next_message}
use Rattle.table.proofs.Numbering.{posted_words}
use Rattle.rules.specs.Vector.{Vector, place_vector, filtered}
use Rattle.rules.specs.Form.{state_held}
use Rattle.rules.specs.Shared.{newest_place}
use Rattle.rules.specs.Steps.{after, message_record, sent}
use Rattle.rules.specs.Step.{out, written}
use Rattle.rules.specs.declared.Answer.TheVariants.{Sent}
use Rattle.laws.specs.Records.{length_message_record}

-- the words of record r, from word a to word b, were lent and came back as the message
pub writes_held : (t ys : List ℕ) (r a b sender receiver i x payload : ℕ) (v : Vector) → length t ≡ table_words → r < messages →
    a ≡ position (OfMessage r 0) → b ≡ a + message_words → ys ≡ message_record state_held sender receiver i x payload v →
    take a t ++ (ys ++ drop (b - a) (drop a t)) ≡ words (put_part (state t) (OfMessage r 0) 0 (message_record state_held sender receiver i x payload v))
writes_held t ys r a b sender receiver i x payload v l rl p q e =
    let n = length_message_record state_held sender receiver i x payload v in
    rw p (lent_part (state t) (OfMessage r 0) 0 b t ys _ (words_state t l) e (omega arith) (fits_message r 0 _ rl (omega arith)))

-- S: one more record is in use, and the number m + 1 was given
pub writes_sent : (t u w : List ℕ) (sender receiver payload live i x r m : ℕ) (v : Vector) → live ≡ state t (LiveCount sender) →
    i ≡ state t (PlaceIncarnation sender (live - 1)) → x ≡ state t (PlaceNumber sender (live - 1)) →
    v ≡ filtered (state t) sender (place_vector (state t) sender (newest_place (state t) sender)) → r ≡ used (state t) → m ≡ last_given (state t) →
    u ≡ words (put_part (state t) (OfMessage r 0) 0 (message_record state_held sender receiver i x payload v)) → w ≡ words (put (state u) SentCount (m + 1)) →
    out (Sent (m + 1)) w ≡ written (after (Sent (next_message (state t))) (sent (state t) sender receiver payload))
unfolding sent
writes_sent t u w sender receiver payload live i x r m v le ie xe ve re me ue we =
    rw (← me, ← ve, ← le, ← ie, ← xe) (ap (out (Sent (m + 1))) (posted_words t u w r m _ re me ue we))
