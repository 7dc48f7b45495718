-- Document 01's "faults that look sensible", where the starred examples don't tell them from the rules, and those of the requests:
-- one small state for each on which the fault would give something else.
use Rattle.std.specs.Prelude.{◌≡◌, refl, true, false, List, [], ◌∷◌, map, ◌++◌, ℕ, ◌+◌, ◌-◌, set, replicate}
use Rattle.std.specs.Int.Count.{ones_in, ones}
use Rattle.base.specs.Ranges.{allb, anyb, first}
use Rattle.base.specs.Lists.{tab}
use Rattle.base.specs.Cases.{all_of, first_of}
use Rattle.base.specs.Splice.{splice}
use Rattle.table.specs.Field.{State, OfHead, Known, End, Size, SentCount, Discarded, Gap, Served, Degree, Incarnation, LiveCount, StableCount, PlaceNumber, Cause, Flag, PairNumber, MessageState, Sender, Receiver, SendingNumber, Payload, MessagePairIncarnation, MessagePairNumber, desk, same}
use Rattle.table.specs.Change.{blank, put, put_part, clear_places, put_states}
use Rattle.table.specs.Numbering.{number_of, place_of, used, last_given, record_of, message_of}
use Rattle.rules.specs.Limits.{house, last_entry, last_gap}
use Rattle.rules.specs.Refusal.{LEDGER, CONTROLLER, DEGREE, SAME_CONTROLLER, SENDERS, LEDGER_USED_UP}
use Rattle.rules.specs.Vector.{place_vector, message_vector, flat, known_stable, filter_pair, filtered, condemned_pair, condemned, condemning, mask_to, mask, conflict_pair, conflict, merge_pair, merged}
use Rattle.rules.specs.Form.{state_held, state_released, state_delivered, state_lost, state_dropped, state_published, state_ok, zeros, pair_ok, vector_ok, highest, row_ok, place_ok, message_ok, head_zeros, head_ok}
use Rattle.rules.specs.Ledger.{count_at, entry_at, ledger_words, count_of, ledger_ok, appended, blank_ledger}
use Rattle.rules.specs.Shared.{place_record, logged, logged_to, checkpointed, forced, capped, causing, caused_in, causes_in, causes, offered_again, new_vector, placed, entered, restarted, held_or_dropped, drop_held, start_anew, removed, latest_flagged, replayed}
use Rattle.rules.specs.Steps.{refusing, refusing_both, open_house, step_open, step_gap, records_full, step_send, own_vector, let_out, gone, ledger_out, may_go, release, step_release, interval_added, interval_begins, no_place, chain_full, prospect, comes_of, deliver, told_row, told, crashed, crash_full, step_crash, noted, lowest_condemned, rolled_back, hear, step_deliver}
use Rattle.rules.specs.Sets.{some_absent, bad_length, named_before, named_twice, some_not_held, many_senders, some_full, bits, union, some_for_desk, set_may_go, desks, out_to, ledger_to, release_all, step_set}
use Rattle.rules.specs.Report.{report}
use Rattle.rules.proofs.Starred.{Row, ◌is◌by◌, rows_hold, no, yes, truth, answer}
use Rattle.rules.specs.declared.Answer.TheVariants.{Done, Sent, Released, Held, Delivered, Dropped, Crashed, Rolled, Refused, SetReleased, SetHeld}
use Rattle.rules.specs.Dispatch.{dispatched, servable, has_message, turn, first_turn, lowest_for, serve}

-- message 1, in record 0, is from controller 0, of degree 0, and has the pair (0,2) of controller 1, which controller 0 knows to be stable
abbrev since_logged : State
since_logged = put (put blank (MessagePairNumber 0 1) 2) (Known 0 1 0) 2

-- controller 0 has three live intervals, of which one is stable
abbrev two_unstable : State
two_unstable = put (put blank (LiveCount 0) 3) (StableCount 0) 1

-- and message 1, in record 0, which it sends from the third, is held
abbrev one_held : State
one_held = put (put two_unstable (MessageState 0) state_held) (SendingNumber 0) 3

-- it began the second of these from message 1, in record 0
abbrev one_taken : State
one_taken = put (put two_unstable SentCount 1) (Cause 0 1) 1

-- and that message rests on the interval itself: it has the pair (0,2) of controller 0
abbrev one_returned : State
one_returned = put one_taken (MessagePairNumber 0 0) 2

-- message 1, in record 0 and with the payload 7, is from controller 0 and for the desk; it rests on nothing that could be revoked
abbrev for_desk_lem : State
for_desk_lem = put (put blank (Receiver 0) desk) (Payload 0) 7

-- or it has a pair of controller 1, which the degree of controller 0 would let pass
abbrev revocable : State
revocable = put (put for_desk_lem (Degree 0) 1) (MessagePairNumber 0 1) 2

-- messages 1 and 2, in records 0 and 1, are from controller 0 and held
abbrev both_held : State
both_held = put (put (put blank SentCount 2) (MessageState 0) state_held) (MessageState 1) state_held

-- one has a pair of controller 1, the other one of controller 2; the degree of controller 0 is 1
abbrev two_named : State
two_named = put (put (put both_held (Degree 0) 1) (MessagePairNumber 0 1) 2) (MessagePairNumber 1 2) 2

-- the first is for the desk and has no pair, the other is for a controller
abbrev one_for_desk : State
one_for_desk = put (put two_named (Receiver 0) desk) (MessagePairNumber 0 1) 0

-- both are for the desk, with the payloads 7 and 8, and rest on nothing that could be revoked
abbrev two_for_desk : State
two_for_desk = put (put (put (put both_held (Receiver 0) desk) (Receiver 1) desk) (Payload 0) 7) (Payload 1) 8

-- a ledger with one entry, and one that says that it is full (the rule looks at no more of it)
abbrev cited_once : List ℕ
cited_once = 1 ∷ 5 ∷ 6 ∷ 0 ∷ 0 ∷ []

abbrev full : List ℕ
full = last_entry ∷ []

-- one of w words with the count n, and 0 in the others
abbrev counting : ℕ → ℕ → List ℕ
counting w n = set (replicate w 0) count_at n

-- both let out as a set, as they are named: the states that they have then
abbrev let_out_lem : State → List ℕ
let_out_lem σ = let τ = (release_all house σ (replicate 5 0) (1 ∷ 2 ∷ [])).left in τ (MessageState 0) ∷ τ (MessageState 1) ∷ []

-- the ledger of an earlier house: the right length, and a count of 1
abbrev used_before : List ℕ
used_before = counting (ledger_words house) 1

-- two with room for one entry more: one is a word short, and the other has 1 in word k
abbrev short : List ℕ
short = counting (ledger_words house - 1) (last_entry - 1)

abbrev with_word : ℕ → List ℕ
with_word k = set (counting (ledger_words house) (last_entry - 1)) k 1

-- a house of three controllers; and one in which message 1, in record 0, is held for receiver r, sent from interval 1 of controller 0
abbrev of_three : State
of_three = open_house 3 0

abbrev held_for : ℕ → State
held_for r = put (put (put (put of_three SentCount 1) (MessageState 0) state_held) (Receiver 0) r) (SendingNumber 0) 1

-- controller 0 began its second interval, which isn't stable, from a published message: only a lent table says so
abbrev published_taken : State
published_taken = put (put one_taken (Receiver 0) desk) (MessageState 0) state_published

-- controller 0 has four live intervals, and the first, second and fourth are checkpoints; the fourth rests on the second interval of
-- controller 1, which kept only its first in a crash
abbrev one_orphan : State
one_orphan = put (put (put (put (put (put blank (LiveCount 0) 4) (Flag 0 0) 1) (Flag 0 1) 1) (Flag 0 3) 1) (PairNumber 0 3 1) 2) (End 1 1 0) 1

-- message 1, in record 0 and for controller 0, has the pairs (1,5) of controller 1 and (0,3) of controller 2, and controller 0 has heard
-- the crashes that condemn both. It has also heard that controller 1 crashed in incarnation 2, and controller 1 is in incarnation 3 by now.
abbrev two_condemn : State
two_condemn = put (put (put (put (put (put (put blank (MessagePairIncarnation 0 1) 1) (MessagePairNumber 0 1) 5) (MessagePairNumber 0 2) 3) (End 0 1 1) 4) (End 0 2 0) 2) (End 0 1 2) 4) (Incarnation 1) 3

-- the same, but the crash that condemns the pair of controller 1 is known to that controller alone
abbrev one_unheard : State
one_unheard = put (put two_condemn (End 0 1 1) 0) (End 1 1 1) 4

-- controller 0 has three live intervals, of which two are stable and the first is a checkpoint; the gap is q
abbrev with_gap : ℕ → State
with_gap q = put (put (put (put blank (LiveCount 0) 3) (StableCount 0) 2) (Flag 0 0) 1) Gap q

-- the head of a house of one controller, with x in word k
abbrev in_head : ℕ → ℕ → State
in_head k x = put (put blank Size 1) (OfHead k) x

-- a house of three in which message 1 is released for controller 0, and messages 2 and 3 for controller 2; controller c was served last
abbrev three_released : State
three_released = put (put (put (put (put blank Size 3) SentCount 3) (MessageState 0) state_released) (MessageState 1) state_released) (MessageState 2) state_released

abbrev served_last : ℕ → State
served_last c = put (put (put three_released (Receiver 1) 2) (Receiver 2) 2) Served c

-- controller 2 has 64 live intervals
abbrev full_receiver : State
full_receiver = put (served_last 1) (LiveCount 2) 64

-- the newest interval of controller 2 rests on (0,5) of controller 1, and message 2 on (1,3)
abbrev one_waits : State
one_waits = put (put (put (put (served_last 1) (LiveCount 2) 1) (PairNumber 2 0 1) 5) (MessagePairNumber 1 1) 3) (MessagePairIncarnation 1 1) 1

-- controller 2 has heard that controller 1 kept only number 2 of incarnation 0, and message 2 rests on (0,3)
abbrev one_condemned : State
one_condemned = put (put (served_last 1) (MessagePairNumber 1 1) 3) (End 2 1 0) 2

-- what the dispatcher answers, and the controller that it then keeps
abbrev dispatch_says : State → List ℕ
dispatch_says σ = let o = dispatched house σ in (report o.answer).number ∷ (report o.answer).values ++ (o.left Served ∷ [])

-- controller 1 knows its own intervals to be stable up to number 2 in incarnation 0, and up to 3 in incarnation 1; controller 0 knows
-- nothing of it
abbrev untold : State
untold = put (put blank (Known 1 1 0) 2) (Known 1 1 1) 3

-- five intervals of controller 0 are discarded, twenty of controller 1, and the gap is 64: no table in form says so yet. Controller 0 is
-- the house's only one; of its three live intervals the first is stable and a checkpoint.
abbrev some_discarded : State
some_discarded = put (put (put (put (put two_unstable Size 1) (Flag 0 0) 1) (Discarded 0) 5) (Discarded 1) 20) Gap 64

-- what stands of its place p: the flag, and then the stable count and the number that it knows to be stable of its incarnation i
abbrev stands : State → ℕ → ℕ → List ℕ
stands σ p i = σ (Flag 0 p) ∷ σ (StableCount 0) ∷ σ (Known 0 0 i) ∷ []

pub told_apart : List Row
unfolding put same put_part clear_places put_states tab allb anyb number_of place_of used record_of message_of place_vector message_vector flat known_stable filter_pair filtered condemned_pair condemned condemning mask_to mask conflict_pair conflict merge_pair merged place_record logged logged_to checkpointed forced capped causing caused_in causes_in causes offered_again new_vector placed entered restarted held_or_dropped drop_held start_anew removed latest_flagged replayed state_ok zeros pair_ok vector_ok highest row_ok place_ok message_ok last_given head_zeros head_ok ledger_ok appended blank_ledger splice all_of first_of refusing refusing_both open_house step_open step_gap records_full step_send own_vector let_out gone ledger_out may_go release step_release interval_added interval_begins no_place prospect comes_of deliver told_row told crashed step_crash noted lowest_condemned rolled_back hear some_absent named_before named_twice some_not_held many_senders some_full bits union some_for_desk set_may_go desks out_to ledger_to release_all step_set report first ones_in ones step_deliver servable has_message turn first_turn lowest_for serve dispatched
told_apart =
    -- "Counting stored pairs at release instead of filtered ones": it would be held.
    (answer (release house since_logged [] 1 0).answer is answer (Released 1 0) by refl)
    -- "Writing an end word for a rollback as if it were a crash": the own end word would be 2.
    ∷ ((rolled_back two_unstable 0 2 (End 0 0 0) ∷ []) is (0 ∷ []) by refl)
    -- "Not logging kept intervals on rollback": they would not be known to be stable.
    ∷ ((rolled_back two_unstable 0 2 (Known 0 0 0) ∷ []) is (2 ∷ []) by refl)
    -- A start anew that leaves held messages held: what was sent from an undone interval could still be released.
    ∷ ((rolled_back one_held 0 2 (MessageState 0) ∷ []) is (state_dropped ∷ []) by refl)
    -- W1: a cause of a lost interval that is lost with it, and not "released again".
    ∷ ((crashed one_taken 0 (MessageState 0) ∷ []) is (state_released ∷ []) by refl)
    -- W1: a cause released again though it is condemned, or judged by the ends before the crash.
    ∷ ((crashed one_returned 0 (MessageState 0) ∷ []) is (state_dropped ∷ []) by refl)
    -- W1: state 4 not in form any more, though "a table that has it stays in form".
    ∷ (truth (state_ok false state_lost) is yes by refl)
    -- W2: a message to the desk let out by the degree, or published while it is held.
    ∷ (answer (release house revocable cited_once 1 0).answer is answer (Held 1 2) by refl)
    ∷ ((release house revocable cited_once 1 0).ledger is cited_once by refl)
    -- W2: a full ledger looked at before the mask; it is looked at where the message would be published.
    ∷ (answer (release house revocable full 1 0).answer is answer (Held 1 2) by refl)
    ∷ (answer (release house for_desk_lem full 1 0).answer is answer (Refused LEDGER_USED_UP) by refl)
    -- W2: "released m 0", "state 6, published", and one pair is appended behind the others.
    ∷ (answer (release house for_desk_lem cited_once 1 0).answer is answer (Released 1 0) by refl)
    ∷ (((release house for_desk_lem cited_once 1 0).left (MessageState 0) ∷ []) is (state_published ∷ []) by refl)
    ∷ ((release house for_desk_lem cited_once 1 0).ledger is (2 ∷ 5 ∷ 6 ∷ 1 ∷ 7 ∷ []) by refl)
    -- W2: a release that doesn't publish writes the ledger.
    ∷ ((release house since_logged cited_once 1 0).ledger is cited_once by refl)
    -- W2: an opening that leaves an old entry.
    ∷ ((count_of (step_open house blank used_before 1 0).ledger ∷ []) is (0 ∷ []) by refl)
    -- W2: state 6 in form elsewhere, or another than "state 1, 5 or 6" at the desk.
    ∷ (truth (state_ok false state_published) is no by refl)
    ∷ (truth (state_ok true state_published) is yes by refl)
    ∷ (truth (state_ok true state_released) is no by refl)
    ∷ (truth (state_ok true state_delivered) is no by refl)
    ∷ (truth (state_ok true state_lost) is no by refl)
    -- W2: a count of 129 taken, or one of 128 refused; a word past the count, the first or the last, that may be anything.
    ∷ (truth (ledger_ok house (counting (ledger_words house) last_entry)) is yes by refl)
    ∷ (truth (ledger_ok house (counting (ledger_words house) (last_entry + 1))) is no by refl)
    ∷ (truth (ledger_ok house (with_word (entry_at (last_entry - 1)))) is no by refl)
    ∷ (truth (ledger_ok house (with_word (ledger_words house - 1))) is no by refl)
    -- W2: a ledger of 256 words taken at release, or at opening.
    ∷ (answer (step_release house (held_for desk) short 1).answer is answer (Refused LEDGER) by refl)
    ∷ (answer (step_open house blank short 1 0).answer is answer (Refused LEDGER) by refl)
    -- W2: an opening that looks at more than the length: at a count of 129.
    ∷ (answer (step_open house blank (counting (ledger_words house) (last_entry + 1)) 1 0).answer is answer Done by refl)
    -- W2: receiver 8 refused in a house of three, or 5 or 9 taken: by S, and in form.
    ∷ (answer (step_send house of_three 0 desk 7).answer is answer (Sent 1) by refl)
    ∷ (answer (step_send house of_three 0 5 7).answer is answer (Refused CONTROLLER) by refl)
    ∷ (answer (step_send house of_three 0 (desk + 1) 7).answer is answer (Refused CONTROLLER) by refl)
    ∷ (truth (message_ok house 3 (held_for desk) 0) is yes by refl)
    ∷ (truth (message_ok house 3 (held_for 5) 0) is no by refl)
    ∷ (truth (message_ok house 3 (held_for (desk + 1)) 0) is no by refl)
    -- W2: a message to the desk changed as a cause.
    ∷ ((crashed published_taken 0 (MessageState 0) ∷ []) is (state_published ∷ []) by refl)
    -- W3: replayed from the checkpoint of the condemned place itself, or from the first place's though a later one is kept.
    ∷ (answer (hear one_orphan 0 1 0).answer is answer (Rolled 0 3 1 1 1 0) by refl)
    -- W3: the first place's checkpoint left out.
    ∷ (answer (hear (put one_orphan (Flag 0 1) 0) 0 1 0).answer is answer (Rolled 0 3 1 2 1 0) by refl)
    -- W3: a condemned place passed over: the second interval rests on lost work, too.
    ∷ (answer (hear (put one_orphan (PairNumber 0 1 1) 2) 0 1 0).answer is answer (Rolled 0 1 3 0 1 0) by refl)
    -- W4: message 1, in record 0, begins number 4, three above the checkpoint. With a gap of 3 it is flagged, and all is logged: "Q or
    -- more" and not more than Q, not flagged without logging, and the new one logged too.
    ∷ (stands (deliver house (with_gap 3) 1 0).left 3 0 is (1 ∷ 4 ∷ 4 ∷ []) by refl)
    -- W4: one number less than the gap is not forced, and 0 is off.
    ∷ (stands (deliver house (with_gap 4) 1 0).left 3 0 is (0 ∷ 2 ∷ 0 ∷ []) by refl)
    ∷ (stands (deliver house (with_gap 0) 1 0).left 3 0 is (0 ∷ 2 ∷ 0 ∷ []) by refl)
    -- W4: a checkpoint counts though it isn't stable: the third interval's.
    ∷ (stands (deliver house (put (with_gap 3) (Flag 0 2) 1) 1 0).left 3 0 is (0 ∷ 2 ∷ 0 ∷ []) by refl)
    -- W4: a start that is not counted: after a crash, and after a rollback, number 3 is two above the checkpoint.
    ∷ (stands (crashed (with_gap 2) 0) 2 1 is (1 ∷ 3 ∷ 3 ∷ []) by refl)
    ∷ (stands (rolled_back (with_gap 2) 0 2) 2 1 is (1 ∷ 3 ∷ 3 ∷ []) by refl)
    ∷ (stands (crashed (with_gap 3) 0) 2 1 is (0 ∷ 3 ∷ 3 ∷ []) by refl)
    -- W4: a gap of 65 taken, or one of 64 refused; an old gap left by a step that sets 0, or by an opening.
    ∷ (answer (step_gap blank (last_gap + 1)).answer is answer (Refused DEGREE) by refl)
    ∷ (answer (step_gap blank last_gap).answer is answer Done by refl)
    ∷ (((step_gap blank last_gap).left Gap ∷ []) is (64 ∷ []) by refl)
    ∷ (((step_gap (with_gap 2) 0).left Gap ∷ []) is (0 ∷ []) by refl)
    ∷ (((step_open house (with_gap 2) used_before 1 0).left Gap ∷ []) is (0 ∷ []) by refl)
    -- W4: a gap of 65 in form, or one of 64 not; a word before it that may be anything.
    ∷ (truth (head_ok house (in_head 11 64)) is yes by refl)
    ∷ (truth (head_ok house (in_head 11 65)) is no by refl)
    ∷ (truth (head_ok house (in_head 10 1)) is no by refl)
    -- W7: 8 in form as the controller last served, or 7 not where there are fewer; a word behind it that may be anything.
    ∷ (truth (head_ok house (in_head 12 7)) is yes by refl)
    ∷ (truth (head_ok house (in_head 12 8)) is no by refl)
    ∷ (truth (head_ok house (in_head 13 1)) is no by refl)
    -- W7: another controller than n - 1 last served after an opening: the one that was, or controller 0.
    ∷ ((open_house 3 0 Served ∷ open_house 1 0 Served ∷ []) is (2 ∷ 0 ∷ []) by refl)
    -- W5: each mask held against K by itself, though the union names two.
    ∷ (answer (release_all house two_named [] (1 ∷ 2 ∷ [])).answer is answer (SetHeld 6) by refl)
    -- W5: the union of stored pairs: it would be held.
    ∷ (answer (release_all house since_logged [] (1 ∷ [])).answer is answer (SetReleased 0) by refl)
    -- W5: a list of 17 taken, or one of none, or one of 16 refused.
    ∷ (truth (bad_length (replicate 17 1)) is yes by refl)
    ∷ (truth (bad_length []) is yes by refl)
    ∷ (truth (bad_length (replicate 16 1)) is no by refl)
    -- W5: a message named twice taken, or messages of two senders.
    ∷ (answer (step_set house both_held (blank_ledger house) (1 ∷ 1 ∷ [])).answer is answer (Refused SAME_CONTROLLER) by refl)
    ∷ (answer (step_set house (put both_held (Sender 1) 1) (blank_ledger house) (1 ∷ 2 ∷ [])).answer is answer (Refused SENDERS) by refl)
    -- W5: half of a set released; messages to the desk released with it, and not published.
    ∷ (let_out_lem both_held is (state_released ∷ state_released ∷ []) by refl)
    ∷ (let_out_lem two_for_desk is (state_published ∷ state_published ∷ []) by refl)
    -- W5: a set with one for the desk let out by the degree, or by that one's own mask; a full ledger looked at before the union.
    ∷ (answer (release_all house one_for_desk [] (1 ∷ 2 ∷ [])).answer is answer (SetHeld 4) by refl)
    ∷ (answer (release_all house one_for_desk full (1 ∷ 2 ∷ [])).answer is answer (SetHeld 4) by refl)
    -- W5: the entries in reverse or in the table's order, and not "in the order given".
    ∷ ((release_all house two_for_desk (replicate 5 0) (2 ∷ 1 ∷ [])).ledger is (2 ∷ 2 ∷ 8 ∷ 1 ∷ 7 ∷ []) by refl)
    -- W5: 18 by the first for the desk alone, or where all have room.
    ∷ (answer (release_all house two_for_desk ((last_entry - 1) ∷ []) (1 ∷ 2 ∷ [])).answer is answer (Refused LEDGER_USED_UP) by refl)
    ∷ (answer (release_all house two_for_desk ((last_entry - 2) ∷ []) (1 ∷ 2 ∷ [])).answer is answer (SetReleased 0) by refl)
    -- 11 and 12: a record or a place more than there are, or one less.
    ∷ (truth (records_full house (put blank SentCount 128)) is yes by refl)
    ∷ (truth (records_full house (put blank SentCount 127)) is no by refl)
    ∷ (truth (chain_full house (put blank (LiveCount 0) 64) 0) is yes by refl)
    ∷ (truth (chain_full house (put blank (LiveCount 0) 63) 0) is no by refl)
    ∷ (truth (crash_full house (put blank (StableCount 0) 64) 0) is yes by refl)
    ∷ (truth (crash_full house (put blank (StableCount 0) 63) 0) is no by refl)
    -- Numbers without the count discarded, or with that of another controller. D: the answer, the new interval and its own pair.
    ∷ (answer (deliver house some_discarded 1 0).answer is answer (Delivered 1 0 9) by refl)
    ∷ (((deliver house some_discarded 1 0).left (PlaceNumber 0 3) ∷ (deliver house some_discarded 1 0).left (PairNumber 0 3 0) ∷ []) is (9 ∷ 9 ∷ []) by refl)
    -- L: the known word. X: the answer, with what is replayed, the end word, and the start with its own pair and its known word.
    ∷ ((logged some_discarded 0 3 (Known 0 0 0) ∷ []) is (8 ∷ []) by refl)
    ∷ (answer (step_crash house some_discarded 0).answer is answer (Crashed 0 0 6 2 0) by refl)
    ∷ ((crashed some_discarded 0 (End 0 0 0) ∷ []) is (6 ∷ []) by refl)
    ∷ ((crashed some_discarded 0 (PlaceNumber 0 1) ∷ crashed some_discarded 0 (PairNumber 0 1 0) ∷ crashed some_discarded 0 (Known 0 0 1) ∷ []) is (7 ∷ 7 ∷ 7 ∷ []) by refl)
    -- H: the answer, with what is replayed; a held message that was sent from the last interval kept stays held.
    ∷ (answer (hear (put one_orphan (Discarded 0) 5) 0 1 0).answer is answer (Rolled 0 8 1 1 1 0) by refl)
    ∷ ((rolled_back (put (put one_held (Discarded 0) 5) (SendingNumber 0) 7) 0 2 (MessageState 0) ∷ []) is (state_held ∷ []) by refl)
    -- The form: a place's number. Back from a number: the place. The word after the counts, the gap, taken for one.
    ∷ (truth (place_ok house 1 (deliver house (put some_discarded SentCount 1) 1 0).left 0 3) is yes by refl)
    ∷ ((place_of some_discarded 0 7 ∷ number_of some_discarded 8 1 ∷ []) is (1 ∷ 1 ∷ []) by refl)
    -- W6: the highest controller blamed, its newest incarnation or its newest crash in place of the pair's; a crash that the receiver
    -- hasn't heard. Of a rollback: the hearer blamed, or the incarnation that the crashed controller is in now.
    ∷ (answer (deliver house two_condemn 1 0).answer is answer (Dropped 1 1 1) by refl)
    ∷ (answer (deliver house one_unheard 1 0).answer is answer (Dropped 1 2 0) by refl)
    ∷ (answer (hear (put one_orphan (Incarnation 1) 2) 0 1 0).answer is answer (Rolled 0 3 1 1 1 0) by refl)
    -- W7: the round from controller 0, or the highest number taken; from the controller served last; less n only once.
    ∷ (dispatch_says (served_last 1) is (4 ∷ 2 ∷ 0 ∷ 1 ∷ 2 ∷ []) by refl)
    ∷ (dispatch_says (served_last 2) is (4 ∷ 1 ∷ 0 ∷ 1 ∷ 0 ∷ []) by refl)
    ∷ (dispatch_says (served_last 7) is (4 ∷ 2 ∷ 0 ∷ 1 ∷ 2 ∷ []) by refl)
    -- W7: a full receiver that starves the others, or a message that waits; the next one for the same controller is taken.
    ∷ (dispatch_says full_receiver is (4 ∷ 1 ∷ 0 ∷ 1 ∷ 0 ∷ []) by refl)
    ∷ (dispatch_says one_waits is (4 ∷ 3 ∷ 0 ∷ 2 ∷ 2 ∷ []) by refl)
    -- W7: one that would be dropped passed over, or its controller not kept.
    ∷ (dispatch_says one_condemned is (5 ∷ 2 ∷ 1 ∷ 0 ∷ 2 ∷ []) by refl)
    -- W7: a call that writes though it says idle.
    ∷ (dispatch_says (put blank Size 3) is (13 ∷ 0 ∷ []) by refl)
    -- A telling of less than is known, or of one incarnation only; a checkpoint that leaves the newest interval unlogged. A held message
    -- that rests on it would never go out.
    ∷ ((told untold 1 0 (Known 0 1 0) ∷ told untold 1 0 (Known 0 1 1) ∷ []) is (2 ∷ 3 ∷ []) by refl)
    ∷ (stands (checkpointed two_unstable 0) 2 0 is (1 ∷ 3 ∷ 3 ∷ []) by refl)
    -- A step that leaves a word out of its range, one row for each kind: an interval's words, a known word, a state, a pair.
    ∷ (truth (place_ok house 1 (deliver house (put (with_gap 4) SentCount 1) 1 0).left 0 3) is yes by refl)
    ∷ (truth (row_ok house 1 (rolled_back two_unstable 0 2) 0 0) is yes by refl)
    ∷ (truth (state_ok false (crashed one_taken 0 (MessageState 0))) is yes by refl)
    ∷ (truth (vector_ok house 1 (place_vector (crashed (with_gap 3) 0) 0 2)) is yes by refl)
    ∷ []

pub told_apart_hold : map (λ (x : Row). x.given) told_apart ≡ map (λ (x : Row). x.said) told_apart
told_apart_hold = rows_hold told_apart
