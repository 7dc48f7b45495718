-- Document 01, "Rules used by several steps", but for those on vectors, which stand in Vector.antt; and W4's, which is applied
-- wherever an interval begins.
use Rattle.std.specs.Prelude.{Bool, not, cond, ◌&&◌, List, [], ◌∷◌, ◌++◌, ℕ, zero, suc, ◌+◌, ◌-◌, set, ◌==◌}
use Rattle.base.specs.Choice.{◌≤?◌, ◌<?◌}
use Rattle.base.specs.Ranges.{anyb}
use Rattle.table.specs.Field.{State, OfPlace, Known, Gap, Incarnation, LiveCount, StableCount, Cause, Flag, MessageState, Sender, SendingNumber}
use Rattle.table.specs.Change.{put, put_part, clear_places, put_states}
use Rattle.table.specs.Numbering.{number_of, used, message_of}
use Rattle.rules.specs.Vector.{Vector, pair, place_vector, message_vector, flat, filtered, condemned}
use Rattle.rules.specs.Form.{state_held, state_released, state_dropped, for_desk}

-- the place of the newest live interval
abbrev pub newest_place : State → ℕ → ℕ
newest_place σ c = σ (LiveCount c) - 1

-- a place's words: "incarnation, number, cause (message number, 0 for a start), checkpoint flag (0 or 1), vector"
unfoldable pub place_record : ℕ → ℕ → ℕ → ℕ → Vector → List ℕ
place_record i x cause flag v = (i ∷ x ∷ cause ∷ flag ∷ []) ++ flat v

-- Logging, of L, C and H: the k oldest live intervals of c are stable, and "c's known word for itself and its incarnation
-- becomes the new stable count".
unfoldable pub logged : State → ℕ → ℕ → State
logged σ c k = put (put σ (StableCount c) k) (Known c c (σ (Incarnation c))) (number_of σ c k)

-- the same "if any" of them are not yet stable
unfoldable pub logged_to : State → ℕ → ℕ → State
logged_to σ c k = cond (σ (StableCount c) <? k) (logged σ c k) σ

-- C c: "log all not yet stable, if any, as by L; flag the newest place."
unfoldable pub checkpointed : State → ℕ → State
checkpointed σ c = put (logged_to σ c (σ (LiveCount c))) (Flag c (newest_place σ c)) 1

-- "Replayed = k minus the highest flagged number on the chain that is at most k": of the first k places
unfoldable pub latest_flagged : State → ℕ → ℕ → ℕ
latest_flagged σ c zero = 0
latest_flagged σ c (suc p) = cond (σ (Flag c p) == 1) (number_of σ c (p + 1)) (latest_flagged σ c p)

unfoldable pub replayed : State → ℕ → ℕ → ℕ
replayed σ c k = number_of σ c k - latest_flagged σ c k

-- W4: "When a new interval of any cause would stand Q or more numbers above the latest flagged one on its chain": whether the one
-- that has just begun at c, the newest, with flag 0, does. (How many numbers that are is what would be replayed up to it.) "0 means
-- off".
unfoldable pub forced : State → ℕ → Bool
forced σ c = not (σ Gap == 0) && (σ Gap ≤? replayed σ c (σ (LiveCount c)))

-- "it is checkpointed as it begins, which logs all before it", and itself
unfoldable pub capped : State → ℕ → State
capped σ c = cond (forced σ c) (checkpointed σ c) σ

-- a message that can be a cause: it stands in record r; W2: "A message for receiver 8 .. is never changed as a cause"
unfoldable pub causing : State → ℕ → Bool
causing σ r = (r <? used σ) && not (for_desk σ r)

-- that message is the cause of an interval of c in one of the n places from k on
unfoldable pub caused_in : State → ℕ → ℕ → ℕ → ℕ → Bool
caused_in σ c k n r = causing σ r && anyb n (λ (j : ℕ). σ (Cause c (k + j)) == message_of σ r)

-- H: "each cause of an undone interval becomes dropped if its vector is condemned to b, else released again"; W1: "On a crash,
-- the cause of each lost interval becomes released again, or dropped if its vector is condemned to that controller by its ends
-- after the crash": the state of the cause in record r
unfoldable pub offered_again : State → ℕ → ℕ → ℕ
offered_again σ c r = cond (condemned σ c (message_vector σ r)) state_dropped state_released

-- the causes of these intervals, each with that state
unfoldable pub causes_in : State → ℕ → ℕ → ℕ → State
causes_in σ c k n = put_states σ (λ (r : ℕ). cond (caused_in σ c k n r) (offered_again σ c r) (σ (MessageState r)))

-- The causes of the live intervals of c from place k on.
unfoldable pub causes : State → ℕ → ℕ → State
causes σ c k = causes_in σ c k (σ (LiveCount c) - k)

-- "the kept vector filtered for c with c's own pair set to the new interval"
unfoldable pub new_vector : State → ℕ → ℕ → Vector
new_vector σ c k = set (filtered σ c (place_vector σ c (k - 1))) c (pair (σ (Incarnation c) + 1) (number_of σ c (k + 1)))

-- "Starting anew at c after kept number k: freed places become 0. Place k gets the controller's incarnation plus 1, number
-- k + 1, cause 0, flag 0, and the kept vector ..": these are i, x and v
unfoldable pub placed : State → ℕ → ℕ → ℕ → ℕ → Vector → State
placed σ c k i x v = let freed = clear_places σ c k (σ (LiveCount c)) in put_part freed (OfPlace c k 0) 0 (place_record i x 0 0 v)

-- "Live and stable counts become k + 1 and the controller's incarnation is the new one. Known for c by c gets k + 1 at it":
-- with k for k + 1, and x for its number
unfoldable pub entered : State → ℕ → ℕ → ℕ → ℕ → State
entered σ c k i x = put (put (put (put σ (Incarnation c) i) (LiveCount c) k) (StableCount c) k) (Known c c i) x

unfoldable pub restarted : State → ℕ → ℕ → State
restarted σ c k =
    let i = σ (Incarnation c) + 1 in
    let x = number_of σ c (k + 1) in
    entered (placed σ c k i x (new_vector σ c k)) c (k + 1) i x

-- "Held messages from c with sending number above k become dropped": whether that in record r is one, with x for k ..
abbrev pub orphaned : State → ℕ → ℕ → ℕ → Bool
orphaned σ c x r = (σ (MessageState r) == state_held) && ((σ (Sender r) == c) && (x <? σ (SendingNumber r)))

-- .. and the state that it has then
unfoldable pub held_or_dropped : State → ℕ → ℕ → ℕ → ℕ
held_or_dropped σ c x r = cond (orphaned σ c x r) state_dropped (σ (MessageState r))

unfoldable pub drop_held : State → ℕ → ℕ → State
drop_held σ c k = put_states σ (held_or_dropped σ c (number_of σ c k))

-- W4: the start is an interval that begins
unfoldable pub start_anew : State → ℕ → ℕ → State
start_anew σ c k = drop_held (capped (restarted σ c k) c) c k

-- The intervals of c from place k on are removed, lost by X or undone by H: their causes get their states; "then start anew".
unfoldable pub removed : State → ℕ → ℕ → State
removed σ c k = start_anew (causes σ c k) c k
