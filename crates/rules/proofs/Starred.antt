-- Document 01's starred examples, 1 to 9: a table of what the definitions give and what the paper says, and one claim over it.
use Rattle.std.specs.Prelude.{◌≡◌, refl, Bool, cond, List, [], ◌∷◌, map, ℕ}
use Rattle.std.specs.Int.Count.{ones_in, ones}
use Rattle.base.specs.Ranges.{anyb}
use Rattle.base.specs.Lists.{tab}
use Rattle.table.specs.Field.{State, same, Known, End, Degree, LiveCount, Flag, PairNumber, MessagePairIncarnation, MessagePairNumber}
use Rattle.table.specs.Change.{blank, put, put_part}
use Rattle.table.specs.Numbering.{number_of}
use Rattle.rules.specs.Limits.{house}
use Rattle.rules.specs.Vector.{pair, no_pair, pair_of, place_vector, message_vector, flat, known_stable, filter_pair, filtered, condemned_pair, condemned, mask_to, mask, conflict_pair, conflict, merge_pair, merged}
use Rattle.rules.specs.Shared.{place_record, latest_flagged, replayed, logged, logged_to, checkpointed, forced, capped}
use Rattle.rules.specs.Steps.{own_vector, let_out, gone, ledger_out, may_go, release, interval_added, interval_begins, no_place, prospect, comes_of, deliver}
use Rattle.rules.specs.Report.{report}
use Rattle.rules.specs.declared.Answer.{Answer}
use Rattle.rules.specs.declared.Answer.TheVariants.{Released, Held, Delivered, Waits}

-- a row: what the definitions give, and what the paper says, as numbers; and that it is the same. The last stands in each row, so that
-- where it no longer holds the prover says of which row, and what it has computed.
pub record Row : Type 0 where
  pub given : List ℕ
  pub said : List ℕ
  pub holds : given ≡ said

infix 20 ◌is◌by◌
abbrev pub ◌is◌by◌ : (g s : List ℕ) → g ≡ s → Row
g is s by e = record { given = g; said = s; holds = e }

-- the claim over a table: its rows give what is said
pub rows_hold : (l : List Row) → map (λ (x : Row). x.given) l ≡ map (λ (x : Row). x.said) l
rows_hold [] = refl
rows_hold (x ∷ l) = λ d. x.holds d ∷ rows_hold l d

abbrev pub no : List ℕ
no = 0 ∷ []

abbrev pub yes : List ℕ
yes = 1 ∷ []

abbrev pub truth : Bool → List ℕ
truth b = cond b yes no

abbrev pub answer : Answer → List ℕ
answer a = (report a).number ∷ (report a).values

-- controller 1 holds the end word 4 for controller 0's incarnation 0
abbrev ended : State
ended = put blank (End 1 0 0) 4

-- controller 1 knows controller 0's intervals of incarnation 0 to be stable up to 2
abbrev known : State
known = put blank (Known 1 0 0) 2

-- message 1, in record 0, is from controller 0, whose degree is k; its vector has pairs of controllers 1 and 2
abbrev two_named : ℕ → State
two_named k = put (put (put blank (Degree 0) k) (MessagePairNumber 0 1) 5) (MessagePairNumber 0 2) 3

-- controller 0 has one live interval, which has the pair (0,9) of controller 1; message 1, in record 0 and for it, has the pair (1,3)
abbrev two_incarnations : State
two_incarnations = put (put (put (put blank (LiveCount 0) 1) (PairNumber 0 0 1) 9) (MessagePairIncarnation 0 1) 1) (MessagePairNumber 0 1) 3

-- the same, and controller 0 knows (0,9) to be stable
abbrev one_stable : State
one_stable = put two_incarnations (Known 0 1 0) 9

-- intervals 1 and 4 of controller 0 are flagged
abbrev flagged : State
flagged = put (put blank (Flag 0 0) 1) (Flag 0 3) 1

pub starred : List Row
unfolding put same put_part tab anyb number_of place_vector message_vector flat known_stable filter_pair filtered condemned_pair condemned mask_to mask conflict_pair conflict merge_pair merged place_record latest_flagged replayed logged logged_to checkpointed forced capped own_vector let_out gone ledger_out may_go release interval_added interval_begins no_place prospect comes_of deliver report ones_in ones
starred =
    -- 1. Pair (0,4), end 4 in incarnation 0: not condemned.
    (truth (condemned_pair ended 1 0 (pair 0 4)) is no by refl)
    -- 2. Pair (0,5), same end: condemned.
    ∷ (truth (condemned_pair ended 1 0 (pair 0 5)) is yes by refl)
    -- 3. Pair (1,5), same end: not condemned.
    ∷ (truth (condemned_pair ended 1 0 (pair 1 5)) is no by refl)
    -- 4. Pair (0,2), known 2: empty after filtering; (0,3) stays.
    ∷ (filter_pair known 1 0 (pair 0 2) is no_pair by refl)
    ∷ (filter_pair known 1 0 (pair 0 3) is pair 0 3 by refl)
    -- 5. Mask 6 with K 1 is held; with K 2 released.
    ∷ (answer (release house (two_named 1) [] 1 0).answer is answer (Held 1 6) by refl)
    ∷ (answer (release house (two_named 2) [] 1 0).answer is answer (Released 1 6) by refl)
    -- 6. Mask 0 with K 0 is released.
    ∷ (answer (release house blank [] 1 0).answer is answer (Released 1 0) by refl)
    -- 7. Pairs (0,9) and (1,3) of one owner, neither known stable: waits.
    ∷ (answer (deliver house two_incarnations 1 0).answer is answer (Waits 1) by refl)
    -- 8. The same with (0,9) known stable: merged pair (1,3).
    ∷ (answer (deliver house one_stable 1 0).answer is answer (Delivered 1 0 2) by refl)
    ∷ (pair_of (place_vector (deliver house one_stable 1 0).left 0 1) 1 is pair 1 3 by refl)
    -- 9. k 5, flagged numbers 1 and 4: replayed 1.
    ∷ ((replayed flagged 0 5 ∷ []) is (1 ∷ []) by refl)
    ∷ []

pub starred_hold : map (λ (x : Row). x.given) starred ≡ map (λ (x : Row). x.said) starred
starred_hold = rows_hold starred
