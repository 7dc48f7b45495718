-- What each function of a delivery counts on and leaves, from what it has read and what its calls have left.
use Rattle.std.specs.Prelude.{◌≡◌, Bool, true, false, List, ℕ, ◌+◌, ◌<◌, ◌-◌, length, set, Result, Err}
use Rattle.std.proofs.Common.{sym, ◌∙◌, subst, arith}
use Rattle.std.proofs.Math.Path.{ap}
use Rattle.base.specs.Cases.{first_of}
use Rattle.table.specs.Field.{State, OfPlace, Incarnation, LiveCount, MessageState, Receiver}
use Rattle.table.specs.Change.{put, put_part}
use Rattle.table.specs.Layout.{controllers, table_words}
use Rattle.table.specs.Words.{state, words}
use Rattle.table.proofs.Words.{then_put}
use Rattle.table.specs.Numbering.{number_of, record_of}
use Rattle.rules.specs.Limits.{house}
use Rattle.rules.specs.Vector.{Vector, pair, incarnation, pair_of, message_vector, filtered, condemned, condemning, conflict, merged, place_vector}
use Rattle.rules.specs.Form.{state_released, state_delivered}
use Rattle.rules.specs.Shared.{place_record, capped}
use Rattle.rules.specs.Steps.{interval_added, interval_begins, no_place, chain_full, ours, theirs, prospect, comes_of, deliver, message_refusals, step_deliver}
use Rattle.rules.specs.Step.{out, written}
use Rattle.rules.specs.Refused.{number, refusal_of}
use Rattle.rules.specs.declared.Answer.{Answer}
use Rattle.rules.specs.declared.Answer.TheVariants.{Delivered, Refused}
use Rattle.rules.specs.declared.refusal.Refusal.{Refusal}
use Rattle.rules.specs.declared.Prospect.{Prospect}
use Rattle.rules.specs.declared.Prospect.TheVariants.{WouldDrop, WouldWait, NoPlaceLeft, WouldBegin}
use Rattle.laws.specs.Allowed.{Room}
use Rattle.laws.specs.Chain.{Counts, counts_words, counts_added, Chain, Taken}
use Rattle.laws.specs.Kept.{then_capped}
use Rattle.laws.specs.Found.{condemning_lt}
use Rattle.laws.specs.Delivering.{prospect_cases}
use Rattle.message.specs.Ready.{message_refused, message_granted}

-- an interval more at c: its place, the live count and the state of its cause were put
pub writes_added : (t u w y : List ℕ) (c m r i live x : ℕ) (v : Vector) → i ≡ state t (Incarnation c) → live ≡ state t (LiveCount c) → x ≡ number_of (state t) c (live + 1) →
    u ≡ words (put_part (state t) (OfPlace c live 0) 0 (place_record i x m 0 (set v c (pair i x)))) → w ≡ words (put (state u) (LiveCount c) (live + 1)) →
    y ≡ words (put (state w) (MessageState r) state_delivered) → y ≡ words (interval_added (state t) c m r v)
unfolding interval_added
writes_added t u w y c m r i live x v ie le xe ue we ye =
    rw (← le, ← xe, ← ie) (then_put _ (MessageState r) state_delivered (then_put _ (LiveCount c) (live + 1) ue we) ye)

-- u has it: it has its counts, and was then checkpointed, if that was due
module _ (t u : List ℕ) (c m r : ℕ) (v : Vector) (k : Counts (state t) c) (room : Room house (state t) c (state t (LiveCount c))) (e : u ≡ words (interval_added (state t) c m r v)) where
  pub added_counts : Counts (state u) c
  added_counts = counts_words _ c e (counts_added (state t) c m r v k room)

  pub writes_begun : (w : List ℕ) (i live x : ℕ) → i ≡ state t (Incarnation c) → live ≡ state t (LiveCount c) → x ≡ number_of (state t) c (live + 1) →
      w ≡ words (capped (state u) c) → out (Delivered m i x) w ≡ written (interval_begins (state t) c m r v)
  unfolding interval_begins
  writes_begun w i live x ie le xe we =
      let number = xe ∙ ap (λ n. number_of (state t) c (n + 1)) le in
      let left = then_capped _ c (counts_added (state t) c m r v k room) e we in
      λ d. out (Delivered m (ie d) (number d)) (left d)

-- WHAT WOULD COME OF A DELIVERY
-- c is the receiver of the message in record r and v its vector; b says whether that is condemned
module _ (t : List ℕ) (r c : ℕ) (v : Vector) (b : Bool) (ce : c ≡ state t (Receiver r)) (ve : v ≡ message_vector (state t) r) (be : b ≡ condemned (state t) c v) where
  -- it is, by this owner
  pub condemns : b ≡ true → (owner : ℕ) → owner ≡ condemning (state t) c v → owner < controllers
  condemns h owner e = subst (λ k. k < controllers) (sym e) (condemning_lt (state t) c v (sym be ∙ h))

  pub would_drop : b ≡ true → (owner : ℕ) → owner ≡ condemning (state t) c v → WouldDrop owner (incarnation (pair_of v owner)) ≡ prospect house (state t) r
  unfolding prospect
  would_drop h owner e = rw (← ce, ← ve, ← be, h) (ap (λ k. WouldDrop k (incarnation (pair_of v k))) e)

-- it is not, y is its vector filtered for c, and c has this many live intervals
pub record Spared (t : List ℕ) (r c : ℕ) (y : Vector) (live : ℕ) : Type 0 where
  pub receiver_is : c ≡ state t (Receiver r)
  pub spared : condemned (state t) c (message_vector (state t) r) ≡ false
  pub theirs_is : y ≡ theirs (state t) c r
  pub live_is : live ≡ state t (LiveCount c)

pub spares : (t : List ℕ) (r c : ℕ) (v y : Vector) (b : Bool) (live : ℕ) → c ≡ state t (Receiver r) → v ≡ message_vector (state t) r → b ≡ condemned (state t) c v → b ≡ false →
    y ≡ filtered (state t) c v → live ≡ state t (LiveCount c) → Spared t r c y live
spares t r c v y b live ce ve be h ye le =
    record { receiver_is = ce; spared = ap (condemned (state t) c) (sym ve) ∙ sym be ∙ h; theirs_is = ye ∙ ap (filtered (state t) c) ve; live_is = le }

-- d says whether the newest vector of c, filtered for c, conflicts with it
module _ {t : List ℕ} {r c : ℕ} {y : Vector} {live : ℕ} (w : Spared t r c y live) (d : Bool) (de : d ≡ conflict c (filtered (state t) c (place_vector (state t) c (live - 1))) y) where
  conflict_is : d ≡ conflict c (ours (state t) c) (theirs (state t) c r)
  conflict_is = de ∙ (λ i. conflict c (filtered (state t) c (place_vector (state t) c (w.live_is i - 1))) (w.theirs_is i))

  -- it does
  pub would_wait : d ≡ true → WouldWait ≡ prospect house (state t) r
  unfolding prospect
  would_wait q = rw (← w.receiver_is, w.spared, ← conflict_is, q)

  -- it does not
  module _ (q : d ≡ false) (full : Bool) (fe : full ≡ no_place house (state t) c live) where
    -- no place is left
    pub no_place_left : full ≡ true → NoPlaceLeft ≡ prospect house (state t) r
    unfolding prospect
    no_place_left z = rw (← w.receiver_is, w.spared, ← conflict_is, q, ← w.live_is, ← fe, z)

    -- or one is
    pub would_begin : full ≡ false → WouldBegin ≡ prospect house (state t) r
    unfolding prospect
    would_begin z = rw (← w.receiver_is, w.spared, ← conflict_is, q, ← w.live_is, ← fe, z)

-- WHAT COMES OF IT
-- the receiver of a message that D may take has its chain
pub receiver_chain : (σ : State) (r c : ℕ) → Taken σ r → c ≡ σ (Receiver r) → Chain σ c
receiver_chain σ r c k ce = subst (Chain σ) (sym ce) k.receiver

-- an interval begins only where a place is left
pub has_room : (σ : State) (r c : ℕ) → Taken σ r → c ≡ σ (Receiver r) → prospect house σ r ≡ WouldBegin → Room house σ c (σ (LiveCount c))
has_room σ r c k ce e =
    rw ce (k.room (prospect_cases house σ r (λ q. q ≡ WouldBegin → chain_full house σ (σ (Receiver r)) ≡ false) (λ _ z. absurd (let w : ◌≡◌ {A = ℕ} 0 1 = cc in omega arith))
    (λ _ z. absurd (let w : ◌≡◌ {A = ℕ} 0 1 = cc in omega arith)) (λ _ z. absurd (let w : ◌≡◌ {A = ℕ} 0 1 = cc in omega arith)) (λ _ _ room _. room) e))

-- then it begins with the two vectors merged
pub next_begins : (t : List ℕ) (m r c : ℕ) → c ≡ state t (Receiver r) → (v : Vector) → v ≡ message_vector (state t) r → (x y : Vector) → x ≡ ours (state t) c → y ≡ filtered (state t) c v →
    (w : Vector) → w ≡ merged x y → (a : Answer) (u : List ℕ) → out a u ≡ written (interval_begins (state t) c m r w) → out a u ≡ written (comes_of (state t) m r WouldBegin)
unfolding comes_of
next_begins t m r c ce v ve x y xe ye w we a u h = rw (← ce, ← ve, ← xe, ← ye, ← we) h

-- of p comes what comes of q, the case that p is
pub comes : (σ : State) (m r : ℕ) (p q : Prospect) → p ≡ q → (a : Answer) (u : List ℕ) → out a u ≡ written (comes_of σ m r q) → out a u ≡ written (comes_of σ m r p)
comes σ m r p q e a u h = h ∙ ap (λ q. written (comes_of σ m r q)) (sym e)

-- D, of which p would come, and came
pub delivered : (σ : State) (m r : ℕ) (p : Prospect) → p ≡ prospect house σ r → (a : Answer) (u : List ℕ) → out a u ≡ written (comes_of σ m r p) → out a u ≡ written (deliver house σ m r)
unfolding deliver
delivered σ m r p e a u h = h ∙ ap (λ q. written (comes_of σ m r q)) e

-- D m, whose record was found: refused, or done
module _ (t : List ℕ) (m r : ℕ) (q : r ≡ record_of (state t) m) where
  pub deliver_refused : (found : Result Unit Refusal) (refusal : Refusal) → length t ≡ table_words →
      refusal_of found ≡ first_of (message_refusals (state t) r state_released) → found ≡ Err refusal →
      out (Refused (number refusal)) t ≡ written (step_deliver house (state t) m)
  unfolding step_deliver
  deliver_refused found refusal l e w = message_refused t m r state_released q (deliver house (state t) m) found refusal l e w

  pub deliver_done : (a : Answer) (u : List ℕ) → 0 ≡ first_of (message_refusals (state t) r state_released) → out a u ≡ written (deliver house (state t) m r) →
      out a u ≡ written (step_deliver house (state t) m)
  unfolding step_deliver
  deliver_done a u e h = message_granted t m r state_released q (deliver house (state t) m) a u e h
