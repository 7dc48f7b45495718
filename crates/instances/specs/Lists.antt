-- Short lists of calls of which the paper's theorems speak, after the opening of a house of three, all with the degree 1, and their answers,
-- computed on states. Each begins as the sample run does (testers/specs/Sample.antt).
use Rattle.std.specs.Prelude.{refl, List, [], ◌∷◌, ◌++◌, ℕ, zero, suc, take, set}
use Rattle.base.specs.Lists.{tab}
use Rattle.table.specs.Field.{State, OfMessage, OfPlace, SentCount, Degree, LiveCount, StableCount, MessageState, Known, End, Flag, desk, message_head}
use Rattle.table.specs.Layout.{controllers, incarnations}
use Rattle.table.specs.Change.{put, put_part}
use Rattle.rules.specs.Limits.{house}
use Rattle.rules.specs.Vector.{Vector, pair, no_pair, flat}
use Rattle.rules.specs.Form.{state_held, state_released, state_delivered, state_dropped}
use Rattle.rules.specs.Ledger.{blank_ledger}
use Rattle.rules.specs.Shared.{place_record, removed}
use Rattle.rules.specs.Steps.{open_house, message_record, step_degree, step_checkpoint, told_row, told, step_tell}
use Rattle.rules.specs.Step.{Call}
use Rattle.rules.specs.declared.Answer.{Answer}
use Rattle.rules.specs.declared.Answer.TheVariants.{Done, Sent, Released, Held, Delivered, Dropped, Waits, Crashed, Heard}
use Rattle.rules.specs.declared.Command.{Command}
use Rattle.rules.specs.declared.Command.TheVariants.{SetDegree, Send, Release, Deliver, Log, Checkpoint, Tell, Crash, Hear}
use Rattle.listing.specs.Run as states
use Rattle.listing.specs.Run.{steps, blank_ok, goes}
use Rattle.history.specs.Examples.{ListingLine, line}
use Rattle.testers.specs.Sample.{asked, answered, calls}
use Rattle.testers.proofs.Sample.{sample_run}
use Rattle.testers.proofs.Along.{state_at, ledger_at}

-- THE LISTS
-- Two messages are held, a reading for the desk and one for a controller, with two controllers named; these are asked, with a crash and a
-- hearing in between.
abbrev pub woven : List ListingLine
woven =
    -- 0 to 2: message 1 from controller 0 to 1, which begins (1;0,2)
    line (Send 0 1 7) (Sent 1) ∷ line (Release 1) (Released 1 0) ∷ line (Deliver 1) (Delivered 1 0 2)
    -- 3 to 5: message 2 from (1;0,2), let out with controller 1 named, begins (2;0,2)
    ∷ line (Send 1 2 9) (Sent 2) ∷ line (Release 2) (Released 2 2) ∷ line (Deliver 2) (Delivered 2 0 2)
    -- 6 and 7: message 3 from (2;0,2) to the desk is held, with controllers 1 and 2 named
    ∷ line (Send 2 desk 5) (Sent 3) ∷ line (Release 3) (Held 3 6)
    -- 8 and 9: and so is message 4 to controller 0
    ∷ line (Send 2 0 6) (Sent 4) ∷ line (Release 4) (Held 4 6)
    -- 10 and 11: controller 2 checkpoints, so that only controller 1 is left
    ∷ line (Checkpoint 2) Done ∷ line (Release 3) (Held 3 2)
    -- 12 to 14: controller 0 crashes, and loses nothing; controller 1 checkpoints, and tells 2
    ∷ line (Crash 0) (Crashed 0 0 1 0 0) ∷ line (Checkpoint 1) Done ∷ line (Tell 1 2) Done
    -- 15: controller 2 hears of the crash
    ∷ line (Hear 2 0 0) (Heard 2)
    -- 16: message 4 goes out
    ∷ line (Release 4) (Released 4 0)
    ∷ []

-- With controller 2 asked alone, message 4 may go out already, under the degree 1.
abbrev pub all_but_one : List ListingLine
all_but_one = take 12 woven ++ line (Release 4) (Released 4 2) ∷ []

-- Message 3 rests on a lost interval, and its sender does not know; all is logged and told, and it is held.
abbrev pub unheard : List ListingLine
unheard =
    -- 0 to 5: as above
    line (Send 0 1 7) (Sent 1) ∷ line (Release 1) (Released 1 0) ∷ line (Deliver 1) (Delivered 1 0 2)
    ∷ line (Send 1 2 9) (Sent 2) ∷ line (Release 2) (Released 2 2) ∷ line (Deliver 2) (Delivered 2 0 2)
    -- 6: message 3 from (2;0,2) to the desk
    ∷ line (Send 2 desk 5) (Sent 3)
    -- 7: controller 1 crashes, and (1;0,2) is lost; controller 2 has not heard of it
    ∷ line (Crash 1) (Crashed 1 0 1 1 0)
    -- 8 to 12: every controller checkpoints, and the others tell controller 2
    ∷ line (Checkpoint 2) Done ∷ line (Checkpoint 1) Done ∷ line (Checkpoint 0) Done ∷ line (Tell 1 2) Done ∷ line (Tell 0 2) Done
    -- 13: message 3 is held
    ∷ line (Release 3) (Held 3 2)
    ∷ []

-- Messages 2 and 3 are released, and one of them comes from a lost interval; message 4 comes from there too, and was never released.
abbrev pub loss : List ListingLine
loss =
    -- 0 to 2: message 1 from controller 0 to 1, which begins (1;0,2)
    line (Send 0 1 7) (Sent 1) ∷ line (Release 1) (Released 1 0) ∷ line (Deliver 1) (Delivered 1 0 2)
    -- 3 and 4: message 2 from (1;0,2) to controller 2 is let out, with controller 1 named
    ∷ line (Send 1 2 9) (Sent 2) ∷ line (Release 2) (Released 2 2)
    -- 5 and 6: message 3 from controller 0's (0,1) to controller 2 is let out
    ∷ line (Send 0 2 5) (Sent 3) ∷ line (Release 3) (Released 3 0)
    -- 7: message 4 from (1;0,2) to the desk
    ∷ line (Send 1 desk 4) (Sent 4)
    -- 8 to 10: controller 1 crashes, and (1;0,2) is lost; it tells controller 2, which hears of the crash
    ∷ line (Crash 1) (Crashed 1 0 1 1 0) ∷ line (Tell 1 2) Done ∷ line (Hear 2 1 0) (Heard 2)
    -- 11 and 12: message 3 is delivered, and message 2 is dropped
    ∷ line (Deliver 3) (Delivered 3 0 2) ∷ line (Deliver 2) (Dropped 2 1 0)
    ∷ []

-- Message 2, from an interval of one incarnation, waits at a controller that rests on one of the next; then it is delivered.
abbrev pub waiting : List ListingLine
waiting =
    -- 0 to 4: as above
    line (Send 0 1 7) (Sent 1) ∷ line (Release 1) (Released 1 0) ∷ line (Deliver 1) (Delivered 1 0 2)
    ∷ line (Send 1 2 9) (Sent 2) ∷ line (Release 2) (Released 2 2)
    -- 5 and 6: controller 1 logs (1;0,2), and crashes; nothing is lost
    ∷ line (Log 1 1) Done ∷ line (Crash 1) (Crashed 1 0 2 0 1)
    -- 7 to 9: message 3 from controller 0 to 1, which begins (1;1,4)
    ∷ line (Send 0 1 8) (Sent 3) ∷ line (Release 3) (Released 3 0) ∷ line (Deliver 3) (Delivered 3 1 4)
    -- 10 to 12: message 4 from (1;1,4), let out with controller 1 named, begins (2;0,2)
    ∷ line (Send 1 2 10) (Sent 4) ∷ line (Release 4) (Released 4 2) ∷ line (Deliver 4) (Delivered 4 0 2)
    -- 13: message 2 rests on (1;0,2), and (2;0,2) on (1;1,4)
    ∷ line (Deliver 2) (Waits 2)
    -- 14 and 15: controller 1 checkpoints, and tells 2
    ∷ line (Checkpoint 1) Done ∷ line (Tell 1 2) Done
    -- 16: controller 2 hears of the crash
    ∷ line (Hear 2 1 0) (Heard 2)
    -- 17: message 2 is delivered
    ∷ line (Deliver 2) (Delivered 2 0 3)
    ∷ []

-- It could be before the hearing.
abbrev pub delivered_sooner : List ListingLine
delivered_sooner = take 16 waiting ++ line (Deliver 2) (Delivered 2 0 3) ∷ []

-- A message is let out under the degree 0.
abbrev pub unrevoked : List ListingLine
unrevoked = line (SetDegree 0 0) Done ∷ line (Send 0 1 7) (Sent 1) ∷ line (Release 1) (Released 1 0) ∷ []

-- the calls of a list
abbrev pub calls_of : List ListingLine → List Call
calls_of l = calls (asked l)

-- ON STATES
-- a run that goes another way from its step j on
unfoldable pub branch : {σ : State} {g : List ℕ} {xs zs : List Command} {ys ws : List Answer} (w : states.Run σ g xs ys) (j : ℕ) →
    states.Run (state_at w j) (ledger_at w j) zs ws → states.Run σ g (take j xs ++ zs) (take j ys ++ ws)
unfolding state_at ledger_at
branch states.end zero v = v
branch states.end (suc j) v = v
branch (states.next change e w) zero v = v
branch (states.next change e w) (suc j) v = states.next change e (branch w j v)

-- a list that gets its answers
abbrev pub Computed : List ListingLine → Type 0
Computed l = states.Run (open_house 3 1) (blank_ledger house) (asked l) (answered l)

-- Each line has the words that its step writes; the rest is computed.
abbrev none : Vector
none = tab controllers (λ (_ : ℕ). no_pair)

abbrev unknown : List ℕ
unknown = tab incarnations (λ (_ : ℕ). 0)

unfoldable pub woven_run : Computed woven
unfolding steps state_at ledger_at sample_run goes step_checkpoint told told_row step_tell
woven_run =
    let two : Vector = set (set none 1 (pair 0 2)) 2 (pair 0 2) in
    branch sample_run 6
    (states.next (λ σ. put (put_part σ (OfMessage 2 0) 0 (message_record state_held 2 desk 0 2 5 two)) SentCount 3) refl  -- S 2 8 5
    (goes (λ σ. σ) blank_ok refl  -- R 3
    (states.next (λ σ. put (put_part σ (OfMessage 3 0) 0 (message_record state_held 2 0 0 2 6 two)) SentCount 4) refl  -- S 2 0 6
    (goes (λ σ. σ) blank_ok refl  -- R 4
    (states.next (λ σ. put (put (put σ (StableCount 2) 2) (Known 2 2 0) 2) (Flag 2 1) 1) refl  -- C 2
    (goes (λ σ. σ) blank_ok refl  -- R 3
    (states.next (λ σ. removed (put σ (End 0 0 0) 1) 0 1) refl  -- X 0
    (states.next (λ σ. put (put (put σ (StableCount 1) 2) (Known 1 1 0) 2) (Flag 1 1) 1) refl  -- C 1
    (states.next (λ σ. put_part σ (Known 2 1 0) 0 (set unknown 0 2)) refl  -- T 1 2
    (states.next (λ σ. put (put σ (End 2 0 0) 1) (Known 2 0 0) 1) refl  -- H 2 0 0
    (goes (λ σ. put (put_part σ (OfMessage 3 0) message_head (flat none)) (MessageState 3) state_released) blank_ok refl  -- R 4
    states.end)))))))))))

pub all_but_one_run : Computed all_but_one
unfolding steps state_at ledger_at sample_run goes branch woven_run step_checkpoint
all_but_one_run =
    branch woven_run 12
    (goes (λ σ. put (put_part σ (OfMessage 3 0) message_head (flat (set none 1 (pair 0 2)))) (MessageState 3) state_released) blank_ok refl  -- R 4
    states.end)

pub unheard_run : Computed unheard
unfolding steps state_at ledger_at sample_run goes step_checkpoint told told_row step_tell
unheard_run =
    let two : Vector = set (set none 1 (pair 0 2)) 2 (pair 0 2) in
    branch sample_run 6
    (states.next (λ σ. put (put_part σ (OfMessage 2 0) 0 (message_record state_held 2 desk 0 2 5 two)) SentCount 3) refl  -- S 2 8 5
    (states.next (λ σ. removed (put σ (End 1 1 0) 1) 1 1) refl  -- X 1
    (states.next (λ σ. put (put (put σ (StableCount 2) 2) (Known 2 2 0) 2) (Flag 2 1) 1) refl  -- C 2
    (states.next (λ σ. put σ (Flag 1 1) 1) refl  -- C 1
    (states.next (λ σ. put σ (Flag 0 0) 1) refl  -- C 0
    (states.next (λ σ. put_part σ (Known 2 1 0) 0 (set (set unknown 0 1) 1 2)) refl  -- T 1 2
    (states.next (λ σ. put_part σ (Known 2 0 0) 0 (set unknown 0 1)) refl  -- T 0 2
    (goes (λ σ. σ) blank_ok refl  -- R 3
    states.end))))))))

pub loss_run : Computed loss
unfolding steps state_at ledger_at sample_run goes told told_row step_tell
loss_run =
    let one : Vector = set none 1 (pair 0 2) in
    branch sample_run 5
    (states.next (λ σ. put (put_part σ (OfMessage 2 0) 0 (message_record state_held 0 2 0 1 5 none)) SentCount 3) refl  -- S 0 2 5
    (goes (λ σ. put (put_part σ (OfMessage 2 0) message_head (flat none)) (MessageState 2) state_released) blank_ok refl  -- R 3
    (states.next (λ σ. put (put_part σ (OfMessage 3 0) 0 (message_record state_held 1 desk 0 2 4 one)) SentCount 4) refl  -- S 1 8 4
    (states.next (λ σ. removed (put σ (End 1 1 0) 1) 1 1) refl  -- X 1
    (states.next (λ σ. put_part σ (Known 2 1 0) 0 (set (set unknown 0 1) 1 2)) refl  -- T 1 2
    (states.next (λ σ. put (put σ (End 2 1 0) 1) (Known 2 1 0) 1) refl  -- H 2 1 0
    (states.next (λ σ. put (put (put_part σ (OfPlace 2 1 0) 0 (place_record 0 2 3 0 (set none 2 (pair 0 2)))) (LiveCount 2) 2) (MessageState 2) state_delivered) refl  -- D 3
    (states.next (λ σ. put σ (MessageState 1) state_dropped) refl  -- D 2
    states.end))))))))

unfoldable pub waiting_run : Computed waiting
unfolding steps state_at ledger_at sample_run goes step_checkpoint told told_row step_tell
waiting_run =
    let four : Vector = set none 1 (pair 1 4) in
    branch sample_run 5
    (states.next (λ σ. put (put σ (StableCount 1) 2) (Known 1 1 0) 2) refl  -- L 1 1
    (states.next (λ σ. removed (put σ (End 1 1 0) 2) 1 2) refl  -- X 1
    (states.next (λ σ. put (put_part σ (OfMessage 2 0) 0 (message_record state_held 0 1 0 1 8 none)) SentCount 3) refl  -- S 0 1 8
    (goes (λ σ. put (put_part σ (OfMessage 2 0) message_head (flat none)) (MessageState 2) state_released) blank_ok refl  -- R 3
    (states.next (λ σ. put (put (put_part σ (OfPlace 1 3 0) 0 (place_record 1 4 3 0 four)) (LiveCount 1) 4) (MessageState 2) state_delivered) refl  -- D 3
    (states.next (λ σ. put (put_part σ (OfMessage 3 0) 0 (message_record state_held 1 2 1 4 10 four)) SentCount 4) refl  -- S 1 2 10
    (goes (λ σ. put (put_part σ (OfMessage 3 0) message_head (flat four)) (MessageState 3) state_released) blank_ok refl  -- R 4
    (states.next (λ σ. put (put (put_part σ (OfPlace 2 1 0) 0 (place_record 0 2 4 0 (set four 2 (pair 0 2)))) (LiveCount 2) 2) (MessageState 3) state_delivered) refl  -- D 4
    (states.next (λ σ. σ) refl  -- D 2
    (states.next (λ σ. put (put (put σ (StableCount 1) 4) (Known 1 1 1) 4) (Flag 1 3) 1) refl  -- C 1
    (states.next (λ σ. put_part σ (Known 2 1 0) 0 (set (set unknown 0 2) 1 4)) refl  -- T 1 2
    (states.next (λ σ. put (put σ (End 2 1 0) 2) (Known 2 1 0) 2) refl  -- H 2 1 0
    (states.next (λ σ. put (put (put_part σ (OfPlace 2 2 0) 0 (place_record 0 3 2 0 (set none 2 (pair 0 3)))) (LiveCount 2) 3) (MessageState 1) state_delivered) refl  -- D 2
    states.end)))))))))))))

pub delivered_sooner_run : Computed delivered_sooner
unfolding steps state_at ledger_at sample_run goes branch waiting_run step_checkpoint told told_row step_tell
delivered_sooner_run =
    branch waiting_run 16
    (states.next (λ σ. put (put (put_part σ (OfPlace 2 2 0) 0 (place_record 0 3 2 0 (set none 2 (pair 0 3)))) (LiveCount 2) 3) (MessageState 1) state_delivered) refl  -- D 2
    states.end)

pub unrevoked_run : Computed unrevoked
unfolding steps goes step_degree
unrevoked_run =
    states.next (λ σ. put σ (Degree 0) 0) refl  -- K 0 0
    (states.next (λ σ. put (put_part σ (OfMessage 0 0) 0 (message_record state_held 0 1 0 1 7 none)) SentCount 1) refl  -- S 0 1 7
    (goes (λ σ. put (put_part σ (OfMessage 0 0) message_head (flat none)) (MessageState 0) state_released) blank_ok refl  -- R 1
    states.end))
