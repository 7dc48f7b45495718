-- What a delivery leaves: the words of messages but the state of its own, what controllers know of others, and end words. So a call that serves somebody
-- leaves one released message fewer, and hinders none of the others.
use Rattle.std.specs.Prelude.{◌≡◌, refl, Bool, true, false, not, ◌&&◌, [], ◌≢◌, ℕ, ◌<◌, ◌==◌}
use Rattle.std.proofs.Common.{sym, ap, ◌∙◌, true≢false, arith, eq-eqb}
use Rattle.std.proofs.Math.Bool.{and-false}
use Rattle.std.proofs.lemmas.Bool.{eqb-false}
use Rattle.base.specs.Choice.{◌≤?◌, ◌<?◌, cond_ind}
use Rattle.base.specs.Ranges.{anyb_none, anyb_same}
use Rattle.base.specs.Lists.{get_d_tab}
use Rattle.base.specs.Cases.{first_of}
use Rattle.table.specs.Field.{Field, State, OfHead, OfController, Known, End, OfPlace, OfMessage, LiveCount, StableCount, Flag, MessageState, Receiver, region, word}
use Rattle.table.specs.Change.{put, put_same, put_other}
use Rattle.table.specs.Layout.{controllers, incarnations}
use Rattle.table.specs.Numbering.{record_of}
use Rattle.rules.specs.Limits.{Limits}
use Rattle.rules.specs.Vector.{Vector, incarnation, number, empty, pair_of, message_vector, known_stable, filter_pair, filtered, condemned_pair, condemned, conflict_pair, conflict}
use Rattle.rules.specs.Form.{state_released, state_delivered, state_dropped}
use Rattle.rules.specs.Shared.{logged, logged_to, checkpointed, forced, capped}
use Rattle.rules.specs.Steps.{After, refusing, message_refusals, interval_added, interval_begins, prospect, comes_of, deliver, step_deliver}
use Rattle.rules.specs.Dispatch.{goes}
use Rattle.rules.specs.declared.Prospect.{Prospect}
use Rattle.rules.specs.declared.Prospect.TheVariants.{WouldDrop, WouldWait, NoPlaceLeft, WouldBegin}
use Rattle.laws.specs.Facts.{Near}
use Rattle.laws.specs.Records.{part_other}
use Rattle.laws.specs.Delivering.{prospect_cases, deliver_cases}
use Rattle.laws.specs.Dispatching.{Servable, let_through}

-- A DELIVERY
-- a test that passes only fields that a change doesn't write
put_leaves : (test : Field → Bool) (σ : State) (f g : Field) (x : ℕ) → test f ≡ false → test g ≡ true → put σ f x g ≡ σ g
put_leaves test σ f g x written is = put_other σ f g x (λ e. true≢false (sym is ∙ ap test e ∙ written))

-- W4's checkpoint writes only words of controller c, of its places, and what it knows of itself
capped_leaves : (test : Field → Bool) (σ : State) (c : ℕ) (g : Field) → ((k : ℕ) → test (OfController c k) ≡ false) → ((p k : ℕ) → test (OfPlace c p k) ≡ false) →
    ((i : ℕ) → test (Known c c i) ≡ false) → test g ≡ true → capped σ c g ≡ σ g
unfolding capped checkpointed logged_to logged
capped_leaves test σ c g controller place own is =
    cond_ind (λ (τ : State). τ g ≡ σ g) (forced σ c)
    (λ _. put_leaves test _ (Flag c _) g 1 (place _ _) is
    ∙ cond_ind (λ (τ : State). τ g ≡ σ g) (σ (StableCount c) <? σ (LiveCount c))
    (λ _. put_leaves test _ (Known c c _) g _ (own _) is ∙ put_leaves test σ (StableCount c) g _ (controller _) is) (λ _. refl))
    (λ _. refl)

-- the words that a delivery of the message in record q leaves
abbrev pub leaves : ℕ → Field → Bool
leaves q (OfHead k) = true
leaves q (OfController c k) = false
leaves q (Known holder owner i) = not (holder == owner)
leaves q (End holder owner i) = true
leaves q (OfPlace c p k) = false
leaves q (OfMessage r k) = not ((k == word (MessageState r)) && (r == q))

own_state : (q : ℕ) → leaves q (MessageState q) ≡ false
own_state q = ap not (eq-eqb q q refl)

pub deliver_leaves : (L : Limits) (σ : State) (m : ℕ) (g : Field) → leaves (record_of σ m) g ≡ true → (step_deliver L σ m).left g ≡ σ g
unfolding step_deliver refusing interval_begins interval_added
deliver_leaves L σ m g is =
    let q = record_of σ m in
    let test = leaves q in
    cond_ind (λ (o : After). o.left g ≡ σ g) (first_of (message_refusals σ q state_released) == 0)
    (λ _. deliver_cases L σ q m (λ o. o.left g ≡ σ g) (λ _. put_leaves test σ (MessageState q) g _ (own_state q) is) (λ _. refl) (λ _. refl)
    (λ _ _ _. capped_leaves test _ _ g (λ k. refl) (λ p k. refl) (λ i. ap not (eq-eqb (σ (Receiver q)) (σ (Receiver q)) refl)) is
    ∙ put_leaves test _ (MessageState q) g _ (own_state q) is
    ∙ put_leaves test _ (LiveCount _) g _ refl is
    ∙ part_other σ (OfPlace _ _ 0) g 0 _ (λ i _ e. true≢false (sym is ∙ ap test e))))
    (λ _. refl)

-- a message that is delivered or dropped is no longer released
pub deliver_settles : (L : Limits) (σ : State) (m : ℕ) {c : ℕ} → Servable L σ c (record_of σ m) → (step_deliver L σ m).left (MessageState (record_of σ m)) ≢ state_released
unfolding deliver comes_of interval_begins interval_added
deliver_settles L σ m s e =
    go (prospect L σ q) s.will (sym (ap (λ o. o.left (MessageState q)) (let_through L σ m s.here s.is_released_lem)) ∙ e)
  where
    q : ℕ
    q = record_of σ m

    -- a word of a message
    test : Field → Bool
    test g = region g == region (MessageState q)

    go : (p : Prospect) → goes p ≡ true → (comes_of σ m q p).left (MessageState q) ≡ state_released → ⊥
    go (WouldDrop owner i) w z = let is = sym (put_same σ (MessageState q) state_dropped) ∙ z in omega (arith, is)
    go WouldWait w z = true≢false (sym w)
    go NoPlaceLeft w z = true≢false (sym w)
    go WouldBegin w z =
        let is = sym (put_same _ (MessageState q) state_delivered) ∙ sym (capped_leaves test _ _ (MessageState q) (λ k. refl) (λ p k. refl) (λ i. refl) refl) ∙ z in
        omega (arith, is)

-- WAITING
-- The message in record k can't wait: it is condemned to its receiver, or its vector names nothing of other controllers that its receiver doesn't know
-- to be stable.
pub data Unhindered (σ : State) (k : ℕ) : Type 0 where
  drops : condemned σ (σ (Receiver k)) (message_vector σ k) ≡ true → Unhindered σ k
  known : ((owner : ℕ) → owner < controllers → owner ≢ σ (Receiver k) → known_stable σ (σ (Receiver k)) owner (pair_of (message_vector σ k) owner) ≡ true) → Unhindered σ k

-- a vector of which c knows all that it has of others is in conflict with none
conflict_none : (σ : State) (c : ℕ) (v w : Vector) → ((owner : ℕ) → owner < controllers → owner ≢ c → known_stable σ c owner (pair_of w owner) ≡ true) →
    conflict c v (filtered σ c w) ≡ false
unfolding conflict conflict_pair filtered filter_pair
conflict_none σ c v w all = anyb_none _ controllers (λ owner l. go owner l (owner == c) refl)
  where
    go : (owner : ℕ) → owner < controllers → (b : Bool) → (owner == c) ≡ b → conflict_pair c owner (pair_of v owner) (pair_of (filtered σ c w) owner) ≡ false
    go owner l true e = rw e
    go owner l false e =
        let q : pair_of (filtered σ c w) owner ≡ filter_pair σ c owner (pair_of w owner) = get_d_tab controllers _ owner [] l in
        rw (e, q, all owner l (eqb-false owner c e)) (and-false (not (empty (pair_of v owner))))

-- a message that can't wait, and that the dispatcher passes over, has a receiver with no place left
pub full_if_passed : (L : Limits) (σ : State) (k : ℕ) → Unhindered σ k → goes (prospect L σ k) ≡ false → prospect L σ k ≡ NoPlaceLeft
unfolding prospect
full_if_passed L σ k (drops is) e = let will : goes (prospect L σ k) ≡ true = rw is in absurd (true≢false (sym will ∙ e))
full_if_passed L σ k (known all) e =
    prospect_cases L σ k (λ p. goes p ≡ false → p ≡ NoPlaceLeft) (λ _ e. absurd (true≢false e)) (λ clash _. absurd (true≢false (sym clash ∙ conflict_none σ _ _ _ all)))
    (λ _ _. refl) (λ _ _ _ e. absurd (true≢false e)) e

-- what it rests on: its vector and its receiver, what that knows of others, and its end words
pub unhindered_kept : (σ τ : State) (k : ℕ) → τ (Receiver k) ≡ σ (Receiver k) → message_vector τ k ≡ message_vector σ k →
    ((owner i : ℕ) → owner < controllers → owner ≢ σ (Receiver k) → i < incarnations → τ (Known (σ (Receiver k)) owner i) ≡ σ (Known (σ (Receiver k)) owner i)) →
    ((owner i : ℕ) → owner < controllers → i < incarnations → τ (End (σ (Receiver k)) owner i) ≡ σ (End (σ (Receiver k)) owner i)) →
    Near (message_vector σ k) → Unhindered σ k → Unhindered τ k
unfolding condemned condemned_pair known_stable
unhindered_kept σ τ k to same knows ends near (drops is) =
    drops (rw (to, same)
    (anyb_same controllers _ _ (λ owner l. let p = pair_of (message_vector σ k) owner in
    ap (λ x. not (empty p) && (not (x == 0) && (x <? number p))) (ends owner (incarnation p) l (near owner l))) ∙ is))
unhindered_kept σ τ k to same knows ends near (known all) =
    known (rw (to, same) (λ owner l ne. let p = pair_of (message_vector σ k) owner in
    ap (λ x. number p ≤? x) (knows owner (incarnation p) l ne (near owner l)) ∙ all owner l ne))
