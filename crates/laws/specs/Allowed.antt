-- What a step may count on where none of its refusals applies, in a house of any limits.
use Rattle.std.specs.Prelude.{◌≡◌, refl, true, false, List, ◌≢◌, ℕ, ◌+◌, ◌-◌, ◌≤◌, ◌<◌, ◌==◌}
use Rattle.std.proofs.Common.{arith}
use borrow.Author.Tests.{leb-true, leb-false, ltb-false, eqb-true, eqb-false, not-false}
use Rattle.base.specs.Choice.{or_left, or_right}
use Rattle.base.specs.Cases.{first_of, cleared}
use Rattle.table.specs.Field.{State, End, Size, Incarnation, LiveCount, StableCount, MessageState}
use Rattle.table.specs.Layout.{controllers}
use Rattle.table.specs.Numbering.{number_of, used}
use Rattle.table.proofs.Numbering.{number_from_lem}
use Rattle.rules.specs.Limits.{Limits, last_incarnation, last_gap}
use Rattle.rules.specs.Form.{state_held}
use Rattle.rules.specs.Ledger.{ledger_ok}
use Rattle.rules.specs.Steps.{no_receiver, open_refusals, degree_refusals, records_full, send_refusals, message_refusals, release_refusals, no_place, log_refusals, checkpoint_refusals, tell_refusals, crash_full, crash_refusals, hear_refusals, gap_refusals}
use Rattle.laws.specs.Facts.{Form, Fitting, number_is}

-- O
pub record OpenAllowed (n k : ℕ) : Type 0 where
  pub size_pos : 1 ≤ n
  pub size_le : n ≤ controllers
  pub degree_le : k ≤ n

-- a number that is not 0
pos : (x : ℕ) → (x == 0) ≡ false → 1 ≤ x
pos x e = let ne : x ≢ 0 = eqb-false x 0 e in omega arith

-- no refusal of O applies
pub open_allowed : (L : Limits) (g : List ℕ) (n k : ℕ) → 0 ≡ first_of (open_refusals L g n k) → OpenAllowed n k
open_allowed L g n k e =
    let w = cleared _ refl e in
    record { size_pos = pos n (search (w, or_left)); size_le = ltb-false _ _ (search (w, or_left, or_right)); degree_le = ltb-false _ _ (search (w, or_right)) }

module _ (σ : State) where
  -- K
  pub record DegreeAllowed (c k : ℕ) : Type 0 where
    pub controller_lt : c < σ Size
    pub degree_le : k ≤ σ Size

  -- no refusal of K applies
  pub degree_allowed : (c k : ℕ) → 0 ≡ first_of (degree_refusals σ c k) → DegreeAllowed c k
  degree_allowed c k e = let w = cleared _ refl e in record { controller_lt = leb-false _ _ (search w); degree_le = ltb-false _ _ (search w) }

  -- R and D: record r is in use, and its message in the state that is wanted
  pub record MessageAllowed (r wanted : ℕ) : Type 0 where
    pub record_used : r < used σ
    pub state_is : σ (MessageState r) ≡ wanted

  -- no refusal of R or D by its message applies
  pub message_allowed : (r wanted : ℕ) → 0 ≡ first_of (message_refusals σ r wanted) → MessageAllowed r wanted
  message_allowed r wanted e =
      let w = cleared _ refl e in
      record { record_used = leb-false _ _ (search w); state_is = eqb-true _ _ (not-false _ (search w)) }

  -- L
  pub record LogAllowed (c q : ℕ) : Type 0 where
    pub controller_lt : c < σ Size
    pub number_pos : 1 ≤ q
    pub number_le : q ≤ σ (LiveCount c) - σ (StableCount c)

  -- no refusal of L applies
  pub log_allowed : (c q : ℕ) → 0 ≡ first_of (log_refusals σ c q) → LogAllowed c q
  log_allowed c q e =
      let w = cleared _ refl e in
      record {
        controller_lt = leb-false _ _ (search w);
        number_pos = pos q (search (w, or_left));
        number_le = ltb-false _ _ (search (w, or_right));
      }

  -- no refusal of C applies
  pub checkpoint_allowed : (c : ℕ) → 0 ≡ first_of (checkpoint_refusals σ c) → c < σ Size
  checkpoint_allowed c e = let w = cleared _ refl e in leb-false _ _ (search w)

  -- T
  pub record TellAllowed (owner holder : ℕ) : Type 0 where
    pub owner_lt : owner < σ Size
    pub holder_lt : holder < σ Size
    pub differ : owner ≢ holder

  -- no refusal of T applies
  pub tell_allowed : (owner holder : ℕ) → 0 ≡ first_of (tell_refusals σ owner holder) → TellAllowed owner holder
  tell_allowed owner holder e =
      let w = cleared _ refl e in
      record {
        owner_lt = leb-false _ _ (search (w, or_left));
        holder_lt = leb-false _ _ (search (w, or_right));
        differ = eqb-false owner holder (search w);
      }

  -- H
  pub record HearAllowed (hearer owner i : ℕ) : Type 0 where
    pub hearer_lt : hearer < σ Size
    pub owner_lt : owner < σ Size
    pub incarnation_le : i ≤ last_incarnation
    pub own_end : σ (End owner owner i) ≢ 0
    pub unheard : σ (End hearer owner i) ≡ 0

  -- no refusal of H applies, but for the last
  pub hear_allowed : (hearer owner i : ℕ) → 0 ≡ first_of (hear_refusals σ hearer owner i) → HearAllowed hearer owner i
  hear_allowed hearer owner i e =
      let w = cleared _ refl e in
      record {
        hearer_lt = leb-false _ _ (search (w, or_left));
        owner_lt = leb-false _ _ (search (w, or_right));
        incarnation_le = ltb-false _ _ (search (w, or_left));
        own_end = eqb-false _ _ (search (w, or_right));
        unheard = eqb-true _ _ (not-false _ (search w));
      }

-- S, R, D and X are also refused by a limit of the house
module _ (L : Limits) (σ : State) where
  -- 11 does not apply: a record is left
  pub records_left : records_full L σ ≡ false → used σ < L.messages
  unfolding records_full
  records_left e = leb-false _ _ e

  -- 12 does not apply: an interval after the k-th of c has its place and its number
  pub record Room (c k : ℕ) : Type 0 where
    pub place_lt : k < L.places
    pub number_le : number_of σ c (k + 1) ≤ L.numbers

  pub room_left : Form L σ → Fitting L → (c k : ℕ) → no_place L σ c k ≡ false → Room c k
  unfolding no_place
  room_left f fit c k e = let l = leb-false _ _ e in record { place_lt = l; number_le = omega (arith, number_is f c (k + 1), fit.numbers) }

  -- it applies: the number of the k-th is at least the count of places
  pub no_place_number : (c k : ℕ) → no_place L σ c k ≡ true → L.places ≤ number_of σ c k
  unfolding no_place
  no_place_number c k e = omega (arith, leb-true L.places k e, number_from_lem σ c k)

  -- S
  pub record SendAllowed (s r : ℕ) : Type 0 where
    pub sender_lt : s < σ Size
    pub receiver_ok : no_receiver σ r ≡ false
    pub differ : s ≢ r
    pub room : used σ < L.messages

  -- no refusal of S applies
  pub send_allowed : (s r : ℕ) → 0 ≡ first_of (send_refusals L σ s r) → SendAllowed s r
  send_allowed s r e =
      let w = cleared _ refl e in
      record {
        sender_lt = leb-false _ _ (search (w, or_left));
        receiver_ok = search (w, or_right);
        differ = eqb-false s r (search w);
        room = records_left (search w);
      }

  -- no refusal of R applies: neither by its message nor by the ledger
  pub release_allowed : (g : List ℕ) (r : ℕ) → 0 ≡ first_of (release_refusals L σ g r) → MessageAllowed σ r state_held × (ledger_ok L g ≡ true)
  release_allowed g r e =
      let w = cleared _ refl e in
      (record { record_used = leb-false _ _ (search w); state_is = eqb-true _ _ (not-false _ (search w)) }, not-false _ (search w))

  -- X
  pub record CrashAllowed (c : ℕ) : Type 0 where
    pub controller_lt : c < σ Size
    pub place_left : crash_full L σ c ≡ false
    pub incarnation_lt : σ (Incarnation c) < last_incarnation

  -- no refusal of X applies
  pub crash_allowed : (c : ℕ) → 0 ≡ first_of (crash_refusals L σ c) → CrashAllowed c
  crash_allowed c e =
      let w = cleared _ refl e in
      record {
        controller_lt = leb-false _ _ (search w);
        place_left = search w;
        incarnation_lt = leb-false _ _ (search w);
      }

-- no refusal of the step that sets the gap applies
pub gap_allowed : (q : ℕ) → 0 ≡ first_of (gap_refusals q) → q ≤ last_gap
gap_allowed q e = let w = cleared _ refl e in ltb-false _ _ (search w)
