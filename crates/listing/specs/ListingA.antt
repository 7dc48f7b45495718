-- Listing A of document 01: its left column, run on the definitions from a state of zeros, gives its right column, whatever stands in a
-- ledger of the right length.
use Rattle.std.specs.Prelude.{◌≡◌, refl, List, [], ◌∷◌, ℕ, length, drop, set}
use Rattle.std.proofs.Common.{ap, ◌∙◌}
use Rattle.base.specs.Lists.{tab}
use Rattle.table.specs.Field.{Known, End, OfPlace, OfMessage, SentCount, LiveCount, StableCount, MessageState, message_head}
use Rattle.table.specs.Layout.{controllers}
use Rattle.table.specs.Change.{blank, put, put_part}
use Rattle.rules.specs.Limits.{house}
use Rattle.rules.specs.Refusal.{STATE}
use Rattle.rules.specs.Vector.{Vector, pair, no_pair, flat}
use Rattle.rules.specs.Form.{state_held, state_released, state_delivered}
use Rattle.rules.specs.Ledger.{ledger_words, blank_ledger}
use Rattle.rules.specs.Shared.{place_record, removed}
use Rattle.rules.specs.Steps.{open_house, message_record, rolled_back}
use Rattle.rules.specs.declared.Answer.{Answer}
use Rattle.rules.specs.declared.Answer.TheVariants.{Done, Sent, Released, Held, Delivered, Crashed, Rolled, Refused}
use Rattle.rules.specs.declared.Command.{Command}
use Rattle.rules.specs.declared.Command.TheVariants.{Open, Send, Release, Deliver, Log, Crash, Hear}
use Rattle.listing.specs.Run.{steps, answers, opens, blank_ok, opened_form, Run, end, next, run_answers, goes}

abbrev pub listing_a : List Command
listing_a =
    Open 3 1
    ∷ Send 0 1 7
    ∷ Release 1
    ∷ Deliver 1
    ∷ Send 1 2 9
    ∷ Release 2
    ∷ Deliver 2
    ∷ Send 2 0 5
    ∷ Release 3
    ∷ Log 2 1
    ∷ Release 3
    ∷ Crash 1
    ∷ Deliver 3
    ∷ Hear 2 1 0
    ∷ Hear 0 1 0
    ∷ Deliver 3
    ∷ []

abbrev pub right_column : List Answer
right_column =
    Done
    ∷ Sent 1
    ∷ Released 1 0
    ∷ Delivered 1 0 2
    ∷ Sent 2
    ∷ Released 2 2
    ∷ Delivered 2 0 2
    ∷ Sent 3
    ∷ Held 3 6
    ∷ Done
    ∷ Released 3 2
    ∷ Crashed 1 0 1 1 0
    ∷ Delivered 3 0 2
    ∷ Rolled 2 1 1 0 1 0
    ∷ Rolled 0 1 1 0 1 0
    ∷ Refused STATE
    ∷ []

-- The listing after its opening. Each line has the words that its step writes. That the step gives its answer and leaves the state with
-- those words is computed.
run : Run (open_house 3 1) (blank_ledger house) (drop 1 listing_a) (drop 1 right_column)
unfolding steps
run =
    let none : Vector = tab controllers (λ (_ : ℕ). no_pair) in
    let one : Vector = set none 1 (pair 0 2) in
    let two : Vector = set one 2 (pair 0 2) in
    next (λ σ. put (put_part σ (OfMessage 0 0) 0 (message_record state_held 0 1 0 1 7 none)) SentCount 1) refl  -- S 0 1 7
    (goes (λ σ. put (put_part σ (OfMessage 0 0) message_head (flat none)) (MessageState 0) state_released) blank_ok refl  -- R 1
    (next (λ σ. put (put (put_part σ (OfPlace 1 1 0) 0 (place_record 0 2 1 0 one)) (LiveCount 1) 2) (MessageState 0) state_delivered) refl  -- D 1
    (next (λ σ. put (put_part σ (OfMessage 1 0) 0 (message_record state_held 1 2 0 2 9 one)) SentCount 2) refl  -- S 1 2 9
    (goes (λ σ. put (put_part σ (OfMessage 1 0) message_head (flat one)) (MessageState 1) state_released) blank_ok refl  -- R 2
    (next (λ σ. put (put (put_part σ (OfPlace 2 1 0) 0 (place_record 0 2 2 0 two)) (LiveCount 2) 2) (MessageState 1) state_delivered) refl  -- D 2
    (next (λ σ. put (put_part σ (OfMessage 2 0) 0 (message_record state_held 2 0 0 2 5 two)) SentCount 3) refl  -- S 2 0 5
    (goes (λ σ. σ) blank_ok refl  -- R 3
    (next (λ σ. put (put σ (StableCount 2) 2) (Known 2 2 0) 2) refl  -- L 2 1
    (goes (λ σ. put (put_part σ (OfMessage 2 0) message_head (flat one)) (MessageState 2) state_released) blank_ok refl  -- R 3
    (next (λ σ. removed (put σ (End 1 1 0) 1) 1 1) refl  -- X 1
    (next (λ σ. put (put (put_part σ (OfPlace 0 1 0) 0 (place_record 0 2 3 0 (set one 0 (pair 0 2)))) (LiveCount 0) 2) (MessageState 2) state_delivered) refl  -- D 3
    (next (λ σ. rolled_back (put (put σ (End 2 1 0) 1) (Known 2 1 0) 1) 2 1) refl  -- H 2 1 0
    (next (λ σ. rolled_back (put (put σ (End 0 1 0) 1) (Known 0 1 0) 1) 0 1) refl  -- H 0 1 0
    (next (λ σ. σ) refl  -- D 3
    end))))))))))))))

pub listing_A : (g : List ℕ) → length g ≡ ledger_words house → answers blank g listing_a ≡ right_column
unfolding answers
listing_A g long = ap (λ o. o.answer ∷ answers o.left o.ledger (drop 1 listing_a)) (opens blank g 1 long refl) ∙ ap (λ ys. Done ∷ ys) (run_answers run (opened_form 1 refl))
