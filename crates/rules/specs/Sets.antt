-- W5: "The bench sends one message for each part of a reel. It wants 1 to 16 held messages of one sender released as a set." The call on a
-- state and a ledger; l has the message numbers. Its refusals in their order (the test is in Order.antt):
--
--   LENGTH FORM   LEDGER MESSAGE SAME_CONTROLLER STATE SENDERS, and, where it publishes, LEDGER_USED_UP
use Rattle.std.specs.Prelude.{Bool, not, cond, ◌||◌, List, [], ◌∷◌, ℕ, zero, suc, ◌+◌, ◌^◌, length, get_or, ◌==◌}
use Rattle.std.specs.Int.Count.{ones}
use Rattle.base.specs.Choice.{◌≤?◌, ◌<?◌}
use Rattle.base.specs.Ranges.{anyb}
use Rattle.base.specs.Cases.{Case, ◌⇒◌}
use Rattle.table.specs.Field.{State, Degree, MessageState, Sender}
use Rattle.table.specs.Layout.{controllers}
use Rattle.table.specs.Numbering.{used, record_of}
use Rattle.rules.specs.Limits.{Limits}
use Rattle.rules.specs.Refusal.{LEDGER, MESSAGE, SAME_CONTROLLER, STATE, SENDERS, LEDGER_USED_UP}
use Rattle.rules.specs.Vector.{Vector, empty, pair_of}
use Rattle.rules.specs.Form.{state_held, for_desk}
use Rattle.rules.specs.Ledger.{count_of, ledger_ok}
use Rattle.rules.specs.Steps.{AfterBoth, after_both, beside, refuse, refusing_both, own_vector, gone, ledger_out}
use Rattle.rules.specs.declared.Answer.TheVariants.{SetReleased, SetHeld}

-- "1 to 16"
abbrev pub set_most : ℕ
set_most = 16

-- the i-th message of a list, from 0, and its record
abbrev pub nth : List ℕ → ℕ → ℕ
nth l i = get_or l i 0

abbrev pub record_in : State → List ℕ → ℕ → ℕ
record_in σ l i = record_of σ (nth l i)

-- "4 message number 0 or above the messages sent": there is no record of it, of one of them
abbrev pub absent : State → ℕ → Bool
absent σ m = used σ ≤? record_of σ m

unfoldable pub some_absent : State → List ℕ → Bool
some_absent σ l = anyb (length l) (λ (i : ℕ). absent σ (nth l i))

-- "A list of another length, or a message named twice, is refused with 6": the i-th was named before
abbrev pub bad_length : List ℕ → Bool
bad_length l = (length l == 0) || (set_most <? length l)

unfoldable pub named_before : List ℕ → ℕ → Bool
named_before l i = anyb i (λ (j : ℕ). nth l j == nth l i)

unfoldable pub named_twice : List ℕ → Bool
named_twice l = anyb (length l) (named_before l)

-- "7 release of a message not held"
abbrev pub not_held : State → ℕ → Bool
not_held σ m = not (σ (MessageState (record_of σ m)) == state_held)

unfoldable pub some_not_held : State → List ℕ → Bool
some_not_held σ l = anyb (length l) (λ (i : ℕ). not_held σ (nth l i))

-- "15 when the messages have more than one sender": some have another than the first
abbrev pub sender_of : State → ℕ → ℕ
sender_of σ m = σ (Sender (record_of σ m))

unfoldable pub many_senders : State → List ℕ → Bool
many_senders σ l = anyb (length l) (λ (i : ℕ). not (sender_of σ (nth l i) == sender_of σ (nth l 0)))

-- W2's 14 "stands directly after 2, at release"; 15 "stands directly after 7"
abbrev pub set_refusals : Limits → State → List ℕ → List ℕ → List Case
set_refusals L σ g l =
    (not (ledger_ok L g) ⇒ LEDGER)
    ∷ (some_absent σ l ⇒ MESSAGE)
    ∷ ((bad_length l || named_twice l) ⇒ SAME_CONTROLLER)
    ∷ (some_not_held σ l ⇒ STATE)
    ∷ (many_senders σ l ⇒ SENDERS)
    ∷ []

-- "The mask is the union of their masks": it has 2 to the power c where one of the filtered vectors has a non-empty pair of c
abbrev pub full : Vector → ℕ → Bool
full v c = not (empty (pair_of v c))

unfoldable pub some_full : State → List ℕ → ℕ → ℕ → Bool
some_full σ l n c = anyb n (λ (i : ℕ). full (own_vector σ (record_in σ l i)) c)

unfoldable pub bits : ℕ → (ℕ → Bool) → ℕ
bits zero f = 0
bits (suc c) f = cond (f c) (2 ^ c) 0 + bits c f

unfoldable pub union : State → List ℕ → ℕ
union σ l = bits controllers (some_full σ l (length l))

-- "If its ones are at most K": K of the sender; "If one of them is for the desk, the union must be 0"
unfoldable pub some_for_desk : State → List ℕ → Bool
some_for_desk σ l = anyb (length l) (λ (i : ℕ). for_desk σ (record_in σ l i))

unfoldable pub set_may_go : State → List ℕ → ℕ → Bool
set_may_go σ l names = cond (some_for_desk σ l) (names == 0) (ones names ≤? σ (Degree (sender_of σ (nth l 0))))

-- how many of the first n are for the desk
unfoldable pub desks : State → List ℕ → ℕ → ℕ
desks σ l zero = 0
desks σ l (suc i) = desks σ l i + cond (for_desk σ (record_in σ l i)) 1 0

-- "all are released, each with its own filtered vector": the first n have gone out, one after the other, as by R;
unfoldable pub out_to : State → List ℕ → ℕ → State
out_to σ l zero = σ
out_to σ l (suc i) = gone (out_to σ l i) (record_in σ l i)

-- "desk messages enter the ledger in the order given"
unfoldable pub ledger_to : State → List ℕ → List ℕ → ℕ → List ℕ
ledger_to σ g l zero = g
ledger_to σ g l (suc i) = ledger_out σ (ledger_to σ g l i) (nth l i) (record_in σ l i)

-- "If its ones are at most K, all are released ..; otherwise all stay held and no word changes. The answer is released or held, with the
-- union." W2: "18 when publishing would carry the count past 128; it stands last": publishing all that are for the desk.
unfoldable pub release_all : Limits → State → List ℕ → List ℕ → AfterBoth
release_all L σ g l =
    let names = union σ l in
    let holding = after_both (SetHeld names) σ g in
    let full = beside (refuse LEDGER_USED_UP σ) g in
    let going = after_both (SetReleased names) (out_to σ l (length l)) (ledger_to σ g l (length l)) in
    cond (not (set_may_go σ l names)) holding
    (cond (L.entries <? count_of g + desks σ l (length l)) full going)

unfoldable pub step_set : Limits → State → List ℕ → List ℕ → AfterBoth
step_set L σ g l = refusing_both (set_refusals L σ g l) σ g (release_all L σ g l)
