-- W4: two short runs of a house with a gap, on tables and ledgers of words, with their answers and what the history says of Q.
use Rattle.std.specs.Prelude.{◌≡◌, refl, Bool, true, ◌&&◌, List, [], ◌∷◌, ◌++◌, ℕ, zero, suc, ◌≤◌, max, length, take, set}
use Rattle.std.proofs.Common.{sym, ◌∙◌, subst, arith, leb-true, ltb-true}
use Rattle.std.proofs.Math.Path.{ap}
use Rattle.base.specs.Choice.{◌≤?◌, ◌<?◌, and_left, and_right}
use Rattle.base.specs.Lists.{tab}
use Rattle.table.specs.Field.{OfMessage, OfPlace, Gap, SentCount, LiveCount, StableCount, MessageState, Known, End, message_head}
use Rattle.table.specs.Layout.{controllers, table_words}
use Rattle.table.specs.Change.{put, put_part}
use Rattle.rules.specs.Limits.{house}
use Rattle.rules.specs.Vector.{Vector, pair, no_pair, flat}
use Rattle.rules.specs.Form.{state_held, state_released, state_delivered}
use Rattle.rules.specs.Ledger.{ledger_words, blank_ledger}
use Rattle.rules.specs.Report.{report}
use Rattle.rules.specs.Shared.{place_record, removed, capped}
use Rattle.rules.specs.Steps.{open_house, message_record, rolled_back}
use Rattle.rules.specs.Step.{Call, asks, step_call}
use Rattle.rules.specs.declared.Answer.TheVariants.{Done, Sent, Released, Delivered, Crashed, Rolled}
use Rattle.rules.specs.declared.Command.TheVariants.{Send, Release, Deliver, Log, Crash, Hear, SetGap}
use Rattle.listing.specs.Run as states
use Rattle.listing.specs.Run.{steps, blank_ok, goes}
use Rattle.history.specs.History.{History, same_interval, changed_at, changed_at_interval, newest, member, those, oldest, sent_from, joined, leaving, stabilized, hearing, losing, gap_set, flagging, opening, logging, checkpointing, latest_on, forced_at, capping, beginning, delivering, restarting, crashing as history_crashing, rolling_back, answers, value_at, fed_step, fed}
use Rattle.history.specs.Demand.{Run, step_in, next, runs, just_opened, FromOpening}
use Rattle.history.specs.Ceiling.{largest_gap, NeverOff}
use Rattle.history.specs.Examples.{ListingLine, line, all}
use Rattle.testers.specs.Sample.{asked, answered, calls, all_look}
use Rattle.testers.proofs.Sample.{from_opening, run_answered}
use Rattle.testers.proofs.Along.{first_steps, line_at, Answered, head_answered, tail_answered, answer_at, history_at}

-- After the opening of a house of three, all with the degree 1: a crash that replays one interval ..
abbrev pub crashing : List ListingLine
crashing =
    -- 0: the gap is 2
    line (SetGap 2) Done
    -- 1 to 4: message 1 from controller 0 to 1 begins (1;0,2), one above the checkpoint, which is not forced; it is logged
    ∷ line (Send 0 1 7) (Sent 1) ∷ line (Release 1) (Released 1 0) ∷ line (Deliver 1) (Delivered 1 0 2) ∷ line (Log 1 1) Done
    -- 5 and 6: the gap is 1, and controller 1 crashes: (1;0,2) is replayed, and the start (1;1,3) is forced
    ∷ line (SetGap 1) Done ∷ line (Crash 1) (Crashed 1 0 2 0 1)
    ∷ []

-- .. and a rollback that does
abbrev pub rolling : List ListingLine
rolling =
    -- 0: the gap is 2
    line (SetGap 2) Done
    -- 1 to 6: messages 1 and 2 from controller 0 begin (2;0,2) and (1;0,2), each one above its checkpoint
    ∷ line (Send 0 2 7) (Sent 1) ∷ line (Release 1) (Released 1 0) ∷ line (Deliver 1) (Delivered 1 0 2)
    ∷ line (Send 0 1 7) (Sent 2) ∷ line (Release 2) (Released 2 0) ∷ line (Deliver 2) (Delivered 2 0 2)
    -- 7 to 9: message 3 from (1;0,2) begins (2;0,3), which is forced
    ∷ line (Send 1 2 9) (Sent 3) ∷ line (Release 3) (Released 3 2) ∷ line (Deliver 3) (Delivered 3 0 3)
    -- 10 to 12: (1;0,2) is lost, the gap is 1, and controller 2 undoes (2;0,3), with its checkpoint: (2;0,2) is replayed
    ∷ line (Crash 1) (Crashed 1 0 1 1 0) ∷ line (SetGap 1) Done ∷ line (Hear 2 1 0) (Rolled 2 2 1 1 1 0)
    ∷ []

-- On states: each line has the words that its step writes; the rest is computed.
crashing_run : states.Run (open_house 3 1) (blank_ledger house) (asked crashing) (answered crashing)
unfolding steps blank_ledger
crashing_run =
    let none : Vector = tab controllers (λ (_ : ℕ). no_pair) in
    states.next (λ σ. put σ Gap 2) refl  -- Q is 2
    (states.next (λ σ. put (put_part σ (OfMessage 0 0) 0 (message_record state_held 0 1 0 1 7 none)) SentCount 1) refl  -- S 0 1 7
    (goes (λ σ. put (put_part σ (OfMessage 0 0) message_head (flat none)) (MessageState 0) state_released) blank_ok refl  -- R 1
    (states.next (λ σ. put (put (put_part σ (OfPlace 1 1 0) 0 (place_record 0 2 1 0 (set none 1 (pair 0 2)))) (LiveCount 1) 2) (MessageState 0) state_delivered) refl  -- D 1
    (states.next (λ σ. put (put σ (StableCount 1) 2) (Known 1 1 0) 2) refl  -- L 1 1
    (states.next (λ σ. put σ Gap 1) refl  -- Q is 1
    (states.next (λ σ. removed (put σ (End 1 1 0) 2) 1 2) refl  -- X 1
    states.end))))))

rolling_run : states.Run (open_house 3 1) (blank_ledger house) (asked rolling) (answered rolling)
unfolding steps blank_ledger
rolling_run =
    let none : Vector = tab controllers (λ (_ : ℕ). no_pair) in
    let one : Vector = set none 1 (pair 0 2) in
    states.next (λ σ. put σ Gap 2) refl  -- Q is 2
    (states.next (λ σ. put (put_part σ (OfMessage 0 0) 0 (message_record state_held 0 2 0 1 7 none)) SentCount 1) refl  -- S 0 2 7
    (goes (λ σ. put (put_part σ (OfMessage 0 0) message_head (flat none)) (MessageState 0) state_released) blank_ok refl  -- R 1
    (states.next (λ σ. put (put (put_part σ (OfPlace 2 1 0) 0 (place_record 0 2 1 0 (set none 2 (pair 0 2)))) (LiveCount 2) 2) (MessageState 0) state_delivered) refl  -- D 1
    (states.next (λ σ. put (put_part σ (OfMessage 1 0) 0 (message_record state_held 0 1 0 1 7 none)) SentCount 2) refl  -- S 0 1 7
    (goes (λ σ. put (put_part σ (OfMessage 1 0) message_head (flat none)) (MessageState 1) state_released) blank_ok refl  -- R 2
    (states.next (λ σ. put (put (put_part σ (OfPlace 1 1 0) 0 (place_record 0 2 2 0 one)) (LiveCount 1) 2) (MessageState 1) state_delivered) refl  -- D 2
    (states.next (λ σ. put (put_part σ (OfMessage 2 0) 0 (message_record state_held 1 2 0 2 9 one)) SentCount 3) refl  -- S 1 2 9
    (goes (λ σ. put (put_part σ (OfMessage 2 0) message_head (flat one)) (MessageState 2) state_released) blank_ok refl  -- R 3
    (states.next (λ σ. capped (put (put (put_part σ (OfPlace 2 2 0) 0 (place_record 0 3 3 0 (set one 2 (pair 0 3)))) (LiveCount 2) 3) (MessageState 2) state_delivered) 2) refl  -- D 3
    (states.next (λ σ. removed (put σ (End 1 1 0) 1) 1 1) refl  -- X 1
    (states.next (λ σ. put σ Gap 1) refl  -- Q is 1
    (states.next (λ σ. rolled_back (put (put σ (End 2 1 0) 1) (Known 2 1 0) 1) 2 2) refl  -- H 2 1 0
    states.end))))))))))))

-- WHAT THE HISTORY SAYS OF Q ALONG LINES
-- after each line it is at least 1
unfoldable on : History → List ListingLine → Bool
on h [] = true
on h (x ∷ l) = let then = fed (asks x.asked) x.answered h in (1 ≤? then.gap) && on then l

-- and so it is after each call of a list that gets these answers
never_off : (r : Run) (l : List ListingLine) → Answered r l → on r.history l ≡ true →
    (before after : List Call) (x : Call) → calls (asked l) ≡ before ++ x ∷ after → 1 ≤ (next x (runs r before)).history.gap
unfolding on runs next step_call
never_off r [] a o [] after x e = absurd (let z : ◌≡◌ {A = ℕ} 0 1 = cc in omega arith)
never_off r [] a o (b ∷ before) after x e = absurd (let z : ◌≡◌ {A = ℕ} 0 1 = cc in omega arith)
never_off r (y ∷ l) a o [] after x e =
    let first : x ≡ asks y.asked = cc in
    let h = fed (asks y.asked) y.answered r.history in
    subst (λ z. 1 ≤ (next z r).history.gap) (sym first)
    (subst (λ z. 1 ≤ (fed (asks y.asked) z r.history).gap) (sym (head_answered r y l a)) (leb-true 1 h.gap (and_left (1 ≤? h.gap) (on h l) o)))
never_off r (y ∷ l) a o (b ∷ before) after x e =
    let first : b ≡ asks y.asked = cc in
    let h = fed (asks y.asked) y.answered r.history in
    let rest : calls (asked l) ≡ before ++ x ∷ after = cc in
    let then = subst (λ z. on (fed (asks y.asked) z r.history) l ≡ true) (sym (head_answered r y l a)) (and_right (1 ≤? h.gap) (on h l) o) in
    subst (λ z. 1 ≤ (next x (runs (next z r) before)).history.gap) (sym first)
    (never_off (next (asks y.asked) r) l (tail_answered r y l a) then before after x rest)

-- the largest so far, with that before them
unfoldable largest : History → List ListingLine → ℕ
largest h [] = h.gap
largest h (x ∷ l) = max h.gap (largest (fed (asks x.asked) x.answered h) l)

largest_at : (r : Run) (l : List ListingLine) → Answered r l → (j : ℕ) → largest_gap r (calls (asked (take j l))) ≡ largest r.history (take j l)
unfolding largest_gap largest next step_call
largest_at r [] a zero = refl
largest_at r [] a (suc j) = refl
largest_at r (x ∷ l) a zero = refl
largest_at r (x ∷ l) a (suc j) =
    ap (max r.history.gap) (largest_at (next (asks x.asked) r) l (tail_answered r x l a) j
    ∙ ap (λ y. largest (fed (asks x.asked) y r.history) (take j l)) (head_answered r x l a))

-- A run of the list l, in which Q is never 0 after a step; before its step j the largest so far is 2, and the newest 1.
pub record GapRun (l : List ListingLine) (j : ℕ) : Type 0 where
  run : states.Run (open_house 3 1) (blank_ledger house) (asked l) (answered l)
  looks : all_look (calls (asked l)) ≡ true
  on_is : on (opening 3 1) l ≡ true
  within : (j <? length l) ≡ true
  largest_is : largest (opening 3 1) (take j l) ≡ 2
  newest_is : (all (take j l) (opening 3 1)).gap ≡ 1

-- both lists, computed
pub crashes : GapRun crashing 6
unfolding on largest all all_look fed fed_step answers report value_at same_interval changed_at changed_at_interval newest member those oldest sent_from joined leaving stabilized hearing losing gap_set flagging opening logging checkpointing latest_on forced_at capping beginning delivering restarting history_crashing
crashes = record { run = crashing_run; looks = refl; on_is = refl; within = refl; largest_is = refl; newest_is = refl }

pub rolls : GapRun rolling 12
unfolding on largest all all_look fed fed_step answers report value_at same_interval changed_at changed_at_interval newest member those oldest sent_from joined leaving stabilized hearing losing gap_set flagging opening logging checkpointing latest_on forced_at capping beginning delivering restarting history_crashing rolling_back
rolls = record { run = rolling_run; looks = refl; on_is = refl; within = refl; largest_is = refl; newest_is = refl }

-- On every table and every ledger of the right length.
module _ (t g : List ℕ) (long : length t ≡ table_words) (wide : length g ≡ ledger_words house) {l : List ListingLine} {j : ℕ} (r : GapRun l j) where
  abbrev start : Run
  start = just_opened t g 3 1

  -- it is from an opening, with these answers
  pub gap_from_opening : FromOpening t g 3 1 (calls (asked l))
  gap_from_opening = from_opening t g long wide (calls (asked l)) r.looks

  gap_answers : Answered start l
  gap_answers = run_answered t g long wide l r.run

  pub gap_answer : (step_in (first_steps start l j) (line_at l j).asked).answer ≡ (line_at l j).answered
  gap_answer = answer_at start l gap_answers j (ltb-true j (length l) r.within)

  -- its first step sets Q, which is never 0 again
  pub gap_never_off : NeverOff t g 3 1 (calls (asked l))
  unfolding just_opened
  gap_never_off = never_off start l gap_answers r.on_is

  -- at step j the largest is 2, and the newest 1
  pub gap_largest : largest_gap start (calls (asked (take j l))) ≡ 2
  unfolding just_opened
  gap_largest = largest_at start l gap_answers j ∙ r.largest_is

  pub gap_newest : (first_steps start l j).history.gap ≡ 1
  unfolding just_opened
  gap_newest = ap (λ h. h.gap) (history_at start l gap_answers j) ∙ r.newest_is
