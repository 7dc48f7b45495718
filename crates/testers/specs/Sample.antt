-- A short run on tables and ledgers of words of which demand 3 speaks, with its answers.
use Rattle.std.specs.Prelude.{Bool, true, ◌&&◌, List, [], ◌∷◌, map, ℕ}
use Rattle.table.specs.Field.{desk}
use Rattle.rules.specs.Step.{looks_at_form, Call, asks, release_set, dispatch, step_call}
use Rattle.rules.specs.declared.Answer.{Answer}
use Rattle.rules.specs.declared.Answer.TheVariants.{Sent, Released, Delivered, Crashed, Heard, Rolled}
use Rattle.rules.specs.declared.Command.{Command}
use Rattle.rules.specs.declared.Command.TheVariants.{Send, Release, Deliver, Crash, Hear}
use Rattle.history.specs.Examples.{ListingLine, line}

-- after the opening of a house of three, all with the degree 1
abbrev pub sample : List ListingLine
sample =
    -- 0 to 2: message 1 from controller 0 to 1, which begins (1;0,2)
    line (Send 0 1 7) (Sent 1) ∷ line (Release 1) (Released 1 0) ∷ line (Deliver 1) (Delivered 1 0 2)
    -- 3 to 5: message 2 from (1;0,2), let out with controller 1 named, begins (2;0,2)
    ∷ line (Send 1 2 9) (Sent 2) ∷ line (Release 2) (Released 2 2) ∷ line (Deliver 2) (Delivered 2 0 2)
    -- 6 and 7: message 3 from controller 0's (0,1) to the desk is published
    ∷ line (Send 0 desk 5) (Sent 3) ∷ line (Release 3) (Released 3 0)
    -- 8: controller 1 crashes, and (1;0,2) is lost
    ∷ line (Crash 1) (Crashed 1 0 1 1 0)
    -- 9 and 10: controllers 0 and 2 hear of it; controller 2 undoes (2;0,2)
    ∷ line (Hear 0 1 0) (Heard 0) ∷ line (Hear 2 1 0) (Rolled 2 1 1 0 1 0)
    -- 11: message 1, from whose delivery the lost interval began, was offered again; now it begins (1;1,3)
    ∷ line (Deliver 1) (Delivered 1 1 3)
    ∷ []

abbrev pub asked : List ListingLine → List Command
asked l = map (λ (x : ListingLine). x.asked) l

abbrev pub answered : List ListingLine → List Answer
answered l = map (λ (x : ListingLine). x.answered) l

-- ON TABLES OF WORDS
-- the calls of some steps, and the answers to calls, each on the table and the ledger that the last one left
abbrev pub calls : List Command → List Call
calls xs = map asks xs

unfoldable pub answers_from : List ℕ → List ℕ → List Call → List Answer
answers_from t g [] = []
answers_from t g (x ∷ l) = let o = step_call t g x in o.answer ∷ answers_from o.table o.ledger l

-- no call of a list opens a house: every one looks at the form
unfoldable pub all_look : List Call → Bool
all_look [] = true
all_look (asks x ∷ l) = looks_at_form x && all_look l
all_look (release_set messages ∷ l) = all_look l
all_look (dispatch ∷ l) = all_look l
