-- The ten steps of document 01 on a state, and W4's, which has no letter, each with its own refusals; O and R also look at the ledger
-- (W2). The host's refusals of the table, LENGTH and FORM, stand in Step.antt. Each step's refusals in their order, which is that of their
-- numbers but for those of the ledger (Refusal.antt; the test is in Order.antt):
--
--   O   LENGTH        LEDGER (its length) DEGREE
--   K   LENGTH FORM   CONTROLLER DEGREE
--   S   LENGTH FORM   CONTROLLER SAME_CONTROLLER MESSAGES_USED_UP
--   R   LENGTH FORM   LEDGER MESSAGE STATE, and, where it publishes, LEDGER_USED_UP
--   D   LENGTH FORM   MESSAGE STATE, and, where it neither drops nor waits, PLACES_USED_UP
--   L   LENGTH FORM   CONTROLLER LOG_COUNT
--   C   LENGTH FORM   CONTROLLER
--   T   LENGTH FORM   CONTROLLER SAME_CONTROLLER
--   X   LENGTH FORM   CONTROLLER PLACES_USED_UP INCARNATIONS_USED_UP
--   H   LENGTH FORM   CONTROLLER NO_SUCH_CRASH ALREADY_HEARD, and, where it must undo, INCARNATIONS_USED_UP
--   Q   LENGTH FORM   DEGREE (the gap, which no letter sets)
use Rattle.std.specs.Prelude.{Bool, not, cond, ◌&&◌, ◌||◌, List, [], ◌∷◌, ◌++◌, ℕ, ◌+◌, ◌-◌, max, length, get_or, set, ◌==◌}
use Rattle.std.specs.Int.Count.{ones}
use Rattle.base.specs.Choice.{◌≤?◌, ◌<?◌}
use Rattle.base.specs.Ranges.{first}
use Rattle.base.specs.Lists.{tab}
use Rattle.base.specs.Cases.{Case, ◌⇒◌, first_of}
use Rattle.table.specs.Field.{State, OfHead, OfController, Known, End, OfPlace, OfMessage, Size, Gap, Served, Degree, Incarnation, LiveCount, StableCount, PlaceIncarnation, PlaceNumber, MessageState, Sender, Receiver, desk, word, message_head}
use Rattle.table.specs.Change.{put, put_part}
use Rattle.table.specs.Layout.{controllers, incarnations}
use Rattle.table.specs.Numbering.{number_of, used, next_message, record_of, posted}
use Rattle.rules.specs.Limits.{Limits, last_incarnation, last_gap}
use Rattle.rules.specs.Refusal.{LEDGER, CONTROLLER, MESSAGE, DEGREE, SAME_CONTROLLER, STATE, LOG_COUNT, NO_SUCH_CRASH, ALREADY_HEARD, MESSAGES_USED_UP, PLACES_USED_UP, INCARNATIONS_USED_UP, LEDGER_USED_UP}
use Rattle.rules.specs.Vector.{Vector, pair, no_pair, incarnation, pair_of, place_vector, message_vector, flat, filtered, condemned, condemning, mask, conflict, merged}
use Rattle.rules.specs.Form.{state_held, state_released, state_delivered, state_dropped, state_published, for_desk}
use Rattle.rules.specs.Ledger.{ledger_words, count_of, entry_of, ledger_ok, appended, blank_ledger}
use Rattle.rules.specs.Shared.{newest_place, place_record, logged, logged_to, checkpointed, replayed, capped, removed}
use Rattle.rules.specs.declared.Answer.{Answer}
use Rattle.rules.specs.declared.Answer.TheVariants.{Done, Sent, Released, Held, Delivered, Dropped, Waits, Crashed, Heard, Rolled, Refused}
use Rattle.rules.specs.declared.Prospect.{Prospect}
use Rattle.rules.specs.declared.Prospect.TheVariants.{WouldDrop, WouldWait, NoPlaceLeft, WouldBegin}

-- an answer, and the state that is left
pub record After : Type 0 where
  pub answer : Answer
  pub left : State

abbrev pub after : Answer → State → After
after a σ = record { answer = a; left = σ }

-- "A refusal gives its number only, and the table's words all keep their values."
abbrev pub refuse : ℕ → State → After
refuse number σ = after (Refused number) σ

-- "Where several apply, the lowest number is given": the cases stand in that order, and the ledger's where W2 puts them; 0 is none of
-- them.
unfoldable pub refusing : List Case → State → After → After
refusing cases σ o = cond (first_of cases == 0) o (refuse (first_of cases) σ)

-- The same of a step that looks at both lent buffers: what it leaves of the table, and of the ledger.
pub record AfterBoth : Type 0 where
  pub answer : Answer
  pub left : State
  pub ledger : List ℕ

abbrev pub after_both : Answer → State → List ℕ → AfterBoth
after_both a σ g = record { answer = a; left = σ; ledger = g }

-- a step beside which the ledger stays as it is
abbrev pub beside : After → List ℕ → AfterBoth
beside o g = after_both o.answer o.left g

-- a refusal changes no word of either
unfoldable pub refusing_both : List Case → State → List ℕ → AfterBoth → AfterBoth
refusing_both cases σ g o = cond (first_of cases == 0) o (beside (refuse (first_of cases) σ) g)

-- "3 controller not below n"
abbrev pub no_controller : State → ℕ → Bool
no_controller σ c = σ Size ≤? c

-- O n k: "n controllers, all with K = k; each has (0,1), flagged, stable, known to its owner, own pair (0,1) in its vector;
-- all else 0." W7: "the controller last served, n − 1 after opening". The words of each controller, of its first place, and the vector
-- there:
abbrev pub first_controller : ℕ → List ℕ
first_controller k = k ∷ 0 ∷ 1 ∷ 1 ∷ []

abbrev pub first_place : Vector → List ℕ
first_place v = place_record 0 1 0 1 v

abbrev pub first_vector : ℕ → Vector
first_vector c = tab controllers (λ (owner : ℕ). cond (owner == c) (pair 0 1) no_pair)

unfoldable pub open_house : ℕ → ℕ → State
open_house n k (OfHead w) = cond (w == word Size) n (cond (w == word Served) (n - 1) 0)
open_house n k (OfController c w) = cond (c <? n) (get_or (first_controller k) w 0) 0
open_house n k (Known holder owner i) = cond ((holder <? n) && ((holder == owner) && (i == 0))) 1 0
open_house n k (End holder owner i) = 0
open_house n k (OfPlace c p w) = cond ((c <? n) && (p == 0)) (get_or (first_place (first_vector c)) w 0) 0
open_house n k (OfMessage r w) = 0

-- W2: "14 .. for the length only, directly after 1 at opening"; "5 n not 1 to 8, or a degree above n"
abbrev pub open_refusals : Limits → List ℕ → ℕ → ℕ → List Case
open_refusals L g n k =
    (not (length g == ledger_words L) ⇒ LEDGER) ∷ (((n == 0) || (controllers <? n) || (n <? k)) ⇒ DEGREE) ∷ []

-- W2: "an opening that is done clears the ledger"
unfoldable pub step_open : Limits → State → List ℕ → ℕ → ℕ → AfterBoth
step_open L σ g n k = refusing_both (open_refusals L g n k) σ g (after_both Done (open_house n k) (blank_ledger L))

-- K c k: "set the degree."
abbrev pub degree_refusals : State → ℕ → ℕ → List Case
degree_refusals σ c k = (no_controller σ c ⇒ CONTROLLER) ∷ ((σ Size <? k) ⇒ DEGREE) ∷ []

unfoldable pub step_degree : State → ℕ → ℕ → After
step_degree σ c k = refusing (degree_refusals σ c k) σ (after Done (put σ (Degree c) k))

-- a message's words: "state, sender, receiver, incarnation and number of the sending interval, payload, vector"
unfoldable pub message_record : ℕ → ℕ → ℕ → ℕ → ℕ → ℕ → Vector → List ℕ
message_record st sender receiver i x payload v = (st ∷ sender ∷ receiver ∷ i ∷ x ∷ payload ∷ []) ++ flat v

-- S s r p: "message held, with the newest vector of s filtered for s." It is put into the first unused record.
unfoldable pub sent : State → ℕ → ℕ → ℕ → State
sent σ sender receiver payload =
    let p = newest_place σ sender in
    let i = σ (PlaceIncarnation sender p) in
    let x = σ (PlaceNumber sender p) in
    let v = filtered σ sender (place_vector σ sender p) in
    posted σ (message_record state_held sender receiver i x payload v)

-- W2: "Sends may name receiver 8": a receiver is a controller or the desk
abbrev pub no_receiver : State → ℕ → Bool
no_receiver σ r = no_controller σ r && not (r == desk)

-- "11 128 messages were sent since opening"
unfoldable pub records_full : Limits → State → Bool
records_full L σ = L.messages ≤? used σ

-- "6 the two controllers of S or T are equal"
abbrev pub send_refusals : Limits → State → ℕ → ℕ → List Case
send_refusals L σ sender receiver =
    ((no_controller σ sender || no_receiver σ receiver) ⇒ CONTROLLER)
    ∷ ((sender == receiver) ⇒ SAME_CONTROLLER)
    ∷ (records_full L σ ⇒ MESSAGES_USED_UP)
    ∷ []

unfoldable pub step_send : Limits → State → ℕ → ℕ → ℕ → After
step_send L σ sender receiver payload =
    refusing (send_refusals L σ sender receiver) σ (after (Sent (next_message σ)) (sent σ sender receiver payload))

-- "4 message number 0 or above the messages sent": there is no record of it. "7 release of a message not held, delivery of one
-- not released": it stands in record r, in another state.
abbrev pub message_refusals : State → ℕ → ℕ → List Case
message_refusals σ r wanted = ((used σ ≤? r) ⇒ MESSAGE) ∷ (not (σ (MessageState r) == wanted) ⇒ STATE) ∷ []

-- R: "filter the message's vector for its sender": of the message in record r
unfoldable pub own_vector : State → ℕ → Vector
own_vector σ r = filtered σ (σ (Sender r)) (message_vector σ r)

-- R: "the filtered vector is stored and the state is released"; W2: of a message to the desk it "has state 6, published"
unfoldable pub let_out : State → ℕ → Vector → ℕ → State
let_out σ r v st = put (put_part σ (OfMessage r 0) message_head (flat v)) (MessageState r) st

abbrev pub state_out : State → ℕ → ℕ
state_out σ r = cond (for_desk σ r) state_published state_released

-- the message in record r has gone out, by a release or in a set
unfoldable pub gone : State → ℕ → State
gone σ r = let_out σ r (own_vector σ r) (state_out σ r)

-- W2: "Publishing appends one pair; a release that doesn't publish changes no ledger word": message m goes out, which stands in record r
unfoldable pub ledger_out : State → List ℕ → ℕ → ℕ → List ℕ
ledger_out σ g m r = cond (for_desk σ r) (appended g (entry_of σ m r)) g

-- R: "If the number of ones in the mask is at most K of the sender"; W2: "A message to the desk is released only with mask 0, at
-- any K"
unfoldable pub may_go : State → ℕ → ℕ → Bool
may_go σ r names = cond (for_desk σ r) (names == 0) (ones names ≤? σ (Degree (σ (Sender r))))

-- R m, in record r: "filter the message's vector for its sender; the mask has 2 to the power c for each non-empty pair. If .. the
-- filtered vector is stored and the state is released. Otherwise it stays held and no word changes." W2: "The answer to publishing is
-- `released m 0`"; "18 when publishing would carry the count past 128".
unfoldable pub release : Limits → State → List ℕ → ℕ → ℕ → AfterBoth
release L σ g m r =
    let names = mask (own_vector σ r) in
    let holding = after_both (Held m names) σ g in
    let full = beside (refuse LEDGER_USED_UP σ) g in
    let going = after_both (Released m names) (gone σ r) (ledger_out σ g m r) in
    cond (not (may_go σ r names)) holding
    (cond (for_desk σ r && (L.entries ≤? count_of g)) full going)

-- W2: 14 "stands directly after 2, at release"
abbrev pub release_refusals : Limits → State → List ℕ → ℕ → List Case
release_refusals L σ g r = (not (ledger_ok L g) ⇒ LEDGER) ∷ message_refusals σ r state_held

unfoldable pub step_release : Limits → State → List ℕ → ℕ → AfterBoth
step_release L σ g m = let r = record_of σ m in refusing_both (release_refusals L σ g r) σ g (release L σ g m r)

-- D: "Else a new interval begins with cause m and flag 0; each pair is the non-empty one or the one with the larger number,
-- and c's own pair is the new interval. State: delivered." v has the merged pairs; m stands in record r.
unfoldable pub interval_added : State → ℕ → ℕ → ℕ → Vector → State
interval_added σ c m r v =
    let i = σ (Incarnation c) in
    let live = σ (LiveCount c) in
    let x = number_of σ c (live + 1) in
    let added = put_part σ (OfPlace c live 0) 0 (place_record i x m 0 (set v c (pair i x))) in
    put (put added (LiveCount c) (live + 1)) (MessageState r) state_delivered

-- its answer with what it leaves; W4: it may be checkpointed as it begins
unfoldable pub interval_begins : State → ℕ → ℕ → ℕ → Vector → After
interval_begins σ c m r v =
    after (Delivered m (σ (Incarnation c)) (number_of σ c (σ (LiveCount c) + 1))) (capped (interval_added σ c m r v) c)

-- "12 delivery with 64 live, unless it drops or waits; crash with 64 stable": no place is left after the k-th interval of c, whose
-- number W11 will look at too ..
unfoldable pub no_place : Limits → State → ℕ → ℕ → Bool
no_place L σ c k = L.places ≤? k

-- .. at D after the newest
abbrev pub chain_full : Limits → State → ℕ → Bool
chain_full L σ c = no_place L σ c (σ (LiveCount c))

-- D: "filter both c's newest vector and the message's for c", of the message in record r
abbrev pub ours : State → ℕ → Vector
ours σ c = filtered σ c (place_vector σ c (newest_place σ c))

abbrev pub theirs : State → ℕ → ℕ → Vector
theirs σ c r = filtered σ c (message_vector σ r)

-- D, of the message in record r: "deliver at its receiver c. Condemned to c: dropped. Else filter both ..; if an owner other than c has
-- non-empty pairs of different incarnations in the two, it waits and no word changes. Else a new interval begins", if a place is left.
-- W6: "For a dropped delivery it is the lowest-numbered controller whose pair condemns the vector, with that pair's incarnation."
unfoldable pub prospect : Limits → State → ℕ → Prospect
prospect L σ r =
    let c = σ (Receiver r) in
    let sent = message_vector σ r in
    let owner = condemning σ c sent in
    cond (condemned σ c sent) (WouldDrop owner (incarnation (pair_of sent owner)))
    (cond (conflict c (ours σ c) (theirs σ c r)) WouldWait
    (cond (chain_full L σ c) NoPlaceLeft WouldBegin))

-- what then comes of message m, in record r
unfoldable pub comes_of : State → ℕ → ℕ → Prospect → After
comes_of σ m r (WouldDrop owner i) = after (Dropped m owner i) (put σ (MessageState r) state_dropped)
comes_of σ m r WouldWait = after (Waits m) σ
comes_of σ m r NoPlaceLeft = refuse PLACES_USED_UP σ
comes_of σ m r WouldBegin = let c = σ (Receiver r) in interval_begins σ c m r (merged (ours σ c) (theirs σ c r))

unfoldable pub deliver : Limits → State → ℕ → ℕ → After
deliver L σ m r = comes_of σ m r (prospect L σ r)

unfoldable pub step_deliver : Limits → State → ℕ → After
step_deliver L σ m = let r = record_of σ m in refusing (message_refusals σ r state_released) σ (deliver L σ m r)

-- L c q: "log the q oldest live intervals that are not stable"; "8 q is 0 or above live minus stable"
abbrev pub log_refusals : State → ℕ → ℕ → List Case
log_refusals σ c q = (no_controller σ c ⇒ CONTROLLER) ∷ (((q == 0) || (σ (LiveCount c) - σ (StableCount c) <? q)) ⇒ LOG_COUNT) ∷ []

unfoldable pub step_log : State → ℕ → ℕ → After
step_log σ c q = refusing (log_refusals σ c q) σ (after Done (logged σ c (σ (StableCount c) + q)))

-- C c: its rule stands in Shared.antt, since W4's new intervals follow it too
abbrev pub checkpoint_refusals : State → ℕ → List Case
checkpoint_refusals σ c = (no_controller σ c ⇒ CONTROLLER) ∷ []

unfoldable pub step_checkpoint : State → ℕ → After
step_checkpoint σ c = refusing (checkpoint_refusals σ c) σ (after Done (checkpointed σ c))

-- T a b, telling (a logging progress notification): "b's known words for a become the larger of b's and a's own, for each
-- incarnation."
unfoldable pub told_row : State → ℕ → ℕ → List ℕ
told_row σ owner holder = tab incarnations (λ (i : ℕ). max (σ (Known holder owner i)) (σ (Known owner owner i)))

unfoldable pub told : State → ℕ → ℕ → State
told σ owner holder = put_part σ (Known holder owner 0) 0 (told_row σ owner holder)

abbrev pub tell_refusals : State → ℕ → ℕ → List Case
tell_refusals σ owner holder = ((no_controller σ owner || no_controller σ holder) ⇒ CONTROLLER) ∷ ((owner == holder) ⇒ SAME_CONTROLLER) ∷ []

unfoldable pub step_tell : State → ℕ → ℕ → After
step_tell σ owner holder = refusing (tell_refusals σ owner holder) σ (after Done (told σ owner holder))

-- X c: "k is the stable count .. c's own end word for its incarnation becomes k. Then start anew." Since W1 the end word comes
-- first: the causes of the lost intervals are judged by the "ends after the crash".
unfoldable pub crashed : State → ℕ → State
crashed σ c =
    let k = σ (StableCount c) in
    let ended = put σ (End c c (σ (Incarnation c))) (number_of σ c k) in
    removed ended c k

-- 12: no place is left after those that a crash keeps
abbrev pub crash_full : Limits → State → ℕ → Bool
crash_full L σ c = no_place L σ c (σ (StableCount c))

-- "13 crash in incarnation 15"
abbrev pub crash_refusals : Limits → State → ℕ → List Case
crash_refusals L σ c =
    (no_controller σ c ⇒ CONTROLLER)
    ∷ (crash_full L σ c ⇒ PLACES_USED_UP)
    ∷ ((last_incarnation ≤? σ (Incarnation c)) ⇒ INCARNATIONS_USED_UP)
    ∷ []

unfoldable pub step_crash : Limits → State → ℕ → After
step_crash L σ c =
    let k = σ (StableCount c) in
    let answer = Crashed c (σ (Incarnation c)) (number_of σ c k) (σ (LiveCount c) - k) (replayed σ c k) in
    refusing (crash_refusals L σ c) σ (after answer (crashed σ c))

-- H b a t, the hearer, the owner of the crash and the incarnation that it ended: "copy a's own end word, and raise b's known
-- word to it."
unfoldable pub noted : State → ℕ → ℕ → ℕ → State
noted σ hearer owner i =
    let end = σ (End owner owner i) in
    put (put σ (End hearer owner i) end) (Known hearer owner i) (max (σ (Known hearer owner i)) end)

-- "Find the lowest place above 0 whose vector holds a condemned entry": that place, or the live count if there is none.
unfoldable pub lowest_condemned : State → ℕ → ℕ
lowest_condemned σ hearer = 1 + first (σ (LiveCount hearer) - 1) (λ (j : ℕ). condemned σ hearer (place_vector σ hearer (1 + j)))

-- "kept intervals not yet stable, if any, are logged as by L; each cause of an undone interval becomes dropped if its vector
-- is condemned to b, else released again; then start anew."
unfoldable pub rolled_back : State → ℕ → ℕ → State
rolled_back σ hearer k = let kept = logged_to σ hearer k in removed kept hearer k

-- H after its refusals; "If none, done. Otherwise that place's index is k"; "13 a hearing that must undo, in incarnation 15". W6: "For a
-- rollback it is the crash just heard."
unfoldable pub hear : State → ℕ → ℕ → ℕ → After
hear σ hearer owner i =
    let heard = noted σ hearer owner i in
    let k = lowest_condemned heard hearer in
    let undone = σ (LiveCount hearer) - k in
    let late = refuse INCARNATIONS_USED_UP σ in
    let rolling = after (Rolled hearer (number_of σ hearer k) undone (replayed σ hearer k) owner i) (rolled_back heard hearer k) in
    cond (σ (LiveCount hearer) ≤? k) (after (Heard hearer) heard)
    (cond (last_incarnation ≤? σ (Incarnation hearer)) late rolling)

-- "9 a's own end word for t is 0, or t above 15"; "10 b's end word for a and t isn't 0"
abbrev pub hear_refusals : State → ℕ → ℕ → ℕ → List Case
hear_refusals σ hearer owner i =
    ((no_controller σ hearer || no_controller σ owner) ⇒ CONTROLLER)
    ∷ (((last_incarnation <? i) || (σ (End owner owner i) == 0)) ⇒ NO_SUCH_CRASH)
    ∷ (not (σ (End hearer owner i) == 0) ⇒ ALREADY_HEARD)
    ∷ []

unfoldable pub step_hear : State → ℕ → ℕ → ℕ → After
step_hear σ hearer owner i = refusing (hear_refusals σ hearer owner i) σ (hear σ hearer owner i)

-- W4: "A new step sets a house-wide gap Q .. kept in word 11 of the table"; "A Q above 64 is refused with 5"; "The step answers as K does."
abbrev pub gap_refusals : ℕ → List Case
gap_refusals q = ((last_gap <? q) ⇒ DEGREE) ∷ []

unfoldable pub step_gap : State → ℕ → After
step_gap σ q = refusing (gap_refusals q) σ (after Done (put σ Gap q))
