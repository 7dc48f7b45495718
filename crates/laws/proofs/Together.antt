-- A set that goes is a list of R steps, one for each message in the order given, each of which answers released with a mask that is within the
-- union. So what every R that lets a message out keeps, a set keeps (`set_ind`).
use Rattle.std.specs.Prelude.{◌≡◌, refl, Bool, false, not, ◌&&◌, List, [], ◌∷◌, ◌≢◌, length}
use Rattle.std.proofs.Math.Path.{sym, ap, subst}
use Rattle.std.proofs.Common.{◌∙◌, arith, ◌==◌}
use Rattle.std.proofs.Math.Bool.{true, cond, true≢false}
use Prim.Native.Nat.{ℕ, zero, suc, ◌+◌, ◌/◌, ◌%◌, ◌^◌, ◌≤◌, ◌<◌}
use Rattle.std.specs.Int.Count.{ones, ones_in}
use Rattle.std.proofs.lemmas.Nat.{shr_le}
use borrow.Author.Tests.{le-leb, lt-leb, leb-true, eqb-true, eq-eqb, not-true, not-false, ltb-false}
use Rattle.base.specs.Choice.{◌≤?◌, ◌<?◌, fails, cond_ind, le?}
use Rattle.base.specs.Ranges.{anyb, anyb_at, anyb_some, count, count_same, count_le}
use Rattle.base.specs.Cases.{first_of, none, skip}
use Rattle.table.specs.Field.{State, Degree, MessageState, Sender, Receiver, Payload, desk, word}
use Rattle.table.specs.Layout.{controllers}
use Rattle.table.specs.Numbering.{used, record_of}
use Rattle.rules.specs.Limits.{Limits}
use Rattle.rules.specs.Refusal.{LEDGER, MESSAGE, STATE, LEDGER_USED_UP}
use Rattle.rules.specs.Form.{state_held, for_desk}
use Rattle.rules.specs.Ledger.{count_of, ledger_ok, appended}
use Rattle.rules.specs.Vector.{mask}
use Rattle.rules.specs.Steps.{AfterBoth, after_both, beside, refuse, refusing_both, release_refusals, own_vector, gone, ledger_out, may_go, release, step_release}
use Rattle.rules.specs.Sets.{nth, record_in, sender_of, set_refusals, full, some_full, union, desks, some_for_desk, set_may_go, out_to, ledger_to, release_all, step_set}
use Rattle.rules.specs.declared.Answer.TheVariants.{Released, Refused, SetReleased, SetHeld}
use Rattle.laws.specs.Bits.{bits_same, bits_none, bits_named, bits_past, mask_bits, ones_bits}
use Rattle.laws.specs.Sets.{SetAllowed, set_allowed, outs_region, outs_message, outs_numbers, own_stays, entries, desks_le}
use Rattle.laws.specs.Together.{Goes}

-- THE UNION
-- the mask of the i-th message by itself
abbrev pub own_mask : State → List ℕ → ℕ → ℕ
own_mask σ l i = mask (own_vector σ (record_in σ l i))

-- "named are the controllers c whose 2 to the power c is in the mask"
abbrev names : ℕ → ℕ → Bool
names k c = (k / 2 ^ c) % 2 == 1

-- 0 names nobody
nobody : {k : ℕ} → k ≡ 0 → (c : ℕ) → names k c ≡ false
nobody {k} z c = let q : k / 2 ^ c ≡ 0 = omega (arith, shr_le k c) in ap (λ x. x % 2 == 1) q

module _ (σ : State) (l : List ℕ) where
  -- it names those of whom some filtered vector has a pair
  pub union_names : (c : ℕ) → c < controllers → names (union σ l) c ≡ some_full σ l (length l) c
  unfolding union
  union_names c h = bits_named controllers (some_full σ l (length l)) c h

  -- each message of the set has its pairs among those
  own_full : (i c : ℕ) → i < length l → full (own_vector σ (record_in σ l i)) c ≡ true → some_full σ l (length l) c ≡ true
  unfolding some_full
  own_full i c h e = anyb_at (λ (i : ℕ). full (own_vector σ (record_in σ l i)) c) (length l) i h e

  -- so whom its own mask names the union names,
  pub own_named : (i c : ℕ) → i < length l → names (own_mask σ l i) c ≡ true → names (union σ l) c ≡ true
  unfolding mask
  own_named i c h e =
      let v = own_vector σ (record_in σ l i) in
      le? (c + 1) controllers
      (λ p. union_names c (omega arith) ∙ own_full i c h (sym (ap (λ k. names k c) (mask_bits controllers v) ∙ bits_named controllers (full v) c (omega arith)) ∙ e))
      (λ p. absurd (true≢false (sym e ∙ ap (λ k. names k c) (mask_bits controllers v) ∙ bits_past controllers (full v) c (omega arith))))

  -- and whom the union names one of their masks names;
  pub named_own : (c : ℕ) → names (union σ l) c ≡ true → (i : ℕ) × (i < length l) × (names (own_mask σ l i) c ≡ true)
  unfolding union mask some_full
  named_own c e =
      le? (c + 1) controllers
      (λ p. let s = anyb_some (λ (i : ℕ). full (own_vector σ (record_in σ l i)) c) (length l) (sym (union_names c (omega arith)) ∙ e) in
      let v = own_vector σ (record_in σ l s.index) in
      (s.index, s.below, ap (λ k. names k c) (mask_bits controllers v) ∙ bits_named controllers (full v) c (omega arith) ∙ s.passes))
      (λ p. absurd (true≢false (sym e ∙ bits_past controllers (some_full σ l (length l)) c (omega arith))))

  -- it has no more ones,
  pub own_ones : (i : ℕ) → i < length l → ones (own_mask σ l i) ≤ ones (union σ l)
  unfolding union mask
  own_ones i h =
      let v = own_vector σ (record_in σ l i) in
      omega (arith, ap ones (mask_bits controllers v), ones_bits controllers (full v), ones_bits controllers (some_full σ l (length l)), count_le controllers (full v) (some_full σ l (length l)) (λ c e. own_full i c h e))

  -- and is 0 where the union is;
  pub own_none : (i : ℕ) → i < length l → union σ l ≡ 0 → own_mask σ l i ≡ 0
  unfolding mask
  own_none i h z =
      let v = own_vector σ (record_in σ l i) in
      mask_bits controllers v ∙ bits_none controllers (full v) (λ c p. fails (full v c) (λ e. true≢false (sym (union_names c p ∙ own_full i c h e) ∙ nobody z c)))

  -- the union is 0 where all of them are
  pub union_none : ((i : ℕ) → i < length l → own_mask σ l i ≡ 0) → union σ l ≡ 0
  unfolding union
  union_none none =
      bits_none controllers (some_full σ l (length l)) (λ c p. fails _ (λ e. let (i, h, named) = named_own c (union_names c p ∙ e) in true≢false (sym named ∙ nobody (none i h) c)))

  -- its ones are as many as it names
  pub union_counts : ones (union σ l) ≡ count controllers (names (union σ l))
  unfolding union
  union_counts = ones_bits controllers (some_full σ l (length l)) ∙ sym (count_same controllers _ _ (λ c h. bits_named controllers (some_full σ l (length l)) c h))

-- a set of one message has that message's mask
pub union_one : (σ : State) (m : ℕ) → union σ (m ∷ []) ≡ mask (own_vector σ (record_of σ m))
unfolding union mask some_full anyb
union_one σ m = bits_same controllers _ _ (λ c h. refl) ∙ sym (mask_bits controllers (own_vector σ (record_of σ m)))

-- R THAT LETS ITS MESSAGE OUT
-- it is there, held, may go, and has room in the ledger where it is for the desk
pub release_passes : (L : Limits) (σ : State) (g : List ℕ) (m r : ℕ) → r ≡ record_of σ m → ledger_ok L g ≡ true → r < used σ → σ (MessageState r) ≡ state_held →
    may_go σ r (mask (own_vector σ r)) ≡ true → (for_desk σ r ≡ true → count_of g < L.entries) →
    step_release L σ g m ≡ after_both (Released m (mask (own_vector σ r))) (gone σ r) (ledger_out σ g m r)
unfolding step_release refusing_both release
release_passes L σ g m r e sound here held may room =
    let let_by : 0 ≡ first_of (release_refusals L σ g r) =
    skip _ LEDGER 0 _ (ap not sound) (skip _ MESSAGE 0 _ (lt-leb (used σ) r here) (skip _ STATE 0 _ (ap not (eq-eqb (σ (MessageState r)) state_held held)) none)) in
    rw (← e, eq-eqb (first_of (release_refusals L σ g r)) 0 (sym let_by), may) (by (for_desk σ r) room)
  where
    by : (b : Bool) → (b ≡ true → count_of g < L.entries) →
        cond (b && (L.entries ≤? count_of g)) (beside (refuse LEDGER_USED_UP σ) g) (after_both (Released m (mask (own_vector σ r))) (gone σ r) (ledger_out σ g m r))
        ≡ after_both (Released m (mask (own_vector σ r))) (gone σ r) (ledger_out σ g m r)
    by true room = rw (lt-leb L.entries (count_of g) (room refl)) refl
    by false room = refl

-- one for the desk is among them
desk_among : (σ : State) (l : List ℕ) (n : ℕ) → n < length l → for_desk σ (record_in σ l n) ≡ true → some_for_desk σ l ≡ true
unfolding some_for_desk
desk_among σ l n h d = anyb_at (λ (i : ℕ). for_desk σ (record_in σ l i)) (length l) n h d

ones_none : ones 0 ≡ 0
unfolding ones ones_in
ones_none = refl

module _ {L : Limits} {σ : State} {g l : List ℕ} (w : Goes L σ g l) where
  -- with one for the desk nobody is named
  pub desk_nobody : (n : ℕ) → n < length l → for_desk σ (record_in σ l n) ≡ true → union σ l ≡ 0
  unfolding set_may_go
  desk_nobody n h d = eqb-true (union σ l) 0 (rw (desk_among σ l n h d) at w.may)

  -- "The limit of K controllers now speaks of the set as it did of one message": the union names no more than the degree of any sender allows
  pub union_few : (n : ℕ) → n < length l → ones (union σ l) ≤ σ (Degree (σ (Sender (record_in σ l n))))
  unfolding set_may_go
  union_few n h = by (some_for_desk σ l) w.may
    where
      same : σ (Degree (σ (Sender (record_in σ l n)))) ≡ σ (Degree (sender_of σ (nth l 0)))
      same = ap (λ s. σ (Degree s)) (w.allowed.one_sender n h)

      by : (b : Bool) → cond b (union σ l == 0) (ones (union σ l) ≤? σ (Degree (sender_of σ (nth l 0)))) ≡ true → ones (union σ l) ≤ σ (Degree (σ (Sender (record_in σ l n))))
      by true q = omega (arith, ap ones (eqb-true (union σ l) 0 q), ones_none)
      by false q = omega (arith, same, leb-true (ones (union σ l)) _ q)

  -- so each message may go with its own mask
  pub own_may : (n : ℕ) → n < length l → may_go σ (record_in σ l n) (own_mask σ l n) ≡ true
  unfolding may_go
  own_may n h =
      cond_ind (λ b. b ≡ true) (for_desk σ (record_in σ l n)) (λ d. eq-eqb (own_mask σ l n) 0 (own_none σ l n h (desk_nobody n h d)))
      (λ d. le-leb (ones (own_mask σ l n)) (σ (Degree (σ (Sender (record_in σ l n))))) (omega (arith, own_ones σ l n h, union_few n h)))

  -- R on the n-th message, after those before it, answers released with that message's own mask, and leaves what the set leaves
  pub each_released : (n : ℕ) → n < length l →
      step_release L (out_to σ l n) (ledger_to σ g l n) (nth l n) ≡ after_both (Released (nth l n) (own_mask σ l n)) (out_to σ l (suc n)) (ledger_to σ g l (suc n))
  unfolding out_to ledger_to ledger_out may_go desks
  each_released n h =
      let τ = out_to σ l n in
      let k = ledger_to σ g l n in
      let m = nth l n in
      let r = record_in σ l n in
      let ne : (j : ℕ) → j < n → r ≢ record_in σ l j = λ j p. w.allowed.apart n j p h in
      let rec : record_of τ m ≡ r = (outs_numbers σ l n).record_same m in
      let own : own_vector τ r ≡ own_vector σ r = own_stays σ l n r ne in
      let to : τ (Receiver r) ≡ σ (Receiver r) = outs_message σ l n r (word (Receiver r)) ne in
      let load : τ (Payload r) ≡ σ (Payload r) = outs_message σ l n r (word (Payload r)) ne in
      let from : τ (Sender r) ≡ σ (Sender r) = outs_message σ l n r (word (Sender r)) ne in
      let degree : τ (Degree (τ (Sender r))) ≡ σ (Degree (σ (Sender r))) =
      ap (λ s. τ (Degree s)) from ∙ outs_region σ l n (Degree (σ (Sender r))) (λ e. absurd (omega (arith, e))) in
      let is_held : τ (MessageState r) ≡ state_held = outs_message σ l n r (word (MessageState r)) ne ∙ w.allowed.held n h in
      let up_to : desks σ l (suc n) ≤ desks σ l (length l) = desks_le σ l (suc n) (length l) h in
      let so_far = entries L σ g l n w.allowed.sound (omega (arith, w.room, up_to)) in
      let count = so_far.count_is in
      let may : may_go τ r (mask (own_vector τ r)) ≡ true =
      (λ d. cond (to d == desk) (mask (own d) == 0) (ones (mask (own d)) ≤? degree d)) ∙ own_may n h in
      let room : for_desk τ r ≡ true → count_of k < L.entries = λ e. let one = rw (ap (λ x. x == desk) (sym to) ∙ e) at up_to in omega (arith, w.room, one, count) in
      release_passes L τ k m r (sym rec) so_far.sound (omega (arith, w.allowed.here n h, (outs_numbers σ l n).used_same)) is_held may room
      ∙ (λ d. after_both (Released m (mask (own d))) (gone τ r) (cond (to d == desk) (appended k (m ∷ load d ∷ [])) k))

  -- what every R that lets a message out keeps, holds on the way of the set
  pub on_the_way : (P : State → List ℕ → Type 0) → P σ g →
      ((τ : State) (h : List ℕ) (m names : ℕ) → P τ h → (step_release L τ h m).answer ≡ Released m names → P (step_release L τ h m).left (step_release L τ h m).ledger) →
      (n : ℕ) → n ≤ length l → P (out_to σ l n) (ledger_to σ g l n)
  unfolding out_to ledger_to
  on_the_way P p keeps zero h = p
  on_the_way P p keeps (suc n) h =
      let e = each_released n h in
      let q = keeps (out_to σ l n) (ledger_to σ g l n) (nth l n) (own_mask σ l n) (on_the_way P p keeps n (omega arith)) (ap (λ o. o.answer) e) in
      subst (λ (o : AfterBoth). P o.left o.ledger) e q

-- A SET THAT IS HELD
pub record Stays (L : Limits) (σ : State) (g l : List ℕ) : Type 0 where
  pub allowed : SetAllowed L σ g l
  pub may_not : set_may_go σ l (union σ l) ≡ false

-- somebody is named
pub stays_named : {L : Limits} {σ : State} {g l : List ℕ} → Stays L σ g l → union σ l ≢ 0
unfolding set_may_go
stays_named {L} {σ} {g} {l} w z = by (some_for_desk σ l) w.may_not
  where
    by : (b : Bool) → cond b (union σ l == 0) (ones (union σ l) ≤? σ (Degree (sender_of σ (nth l 0)))) ≡ false → ⊥
    by true q = true≢false (sym (eq-eqb (union σ l) 0 z) ∙ q)
    by false q = true≢false (sym (le-leb (ones (union σ l)) _ (omega (arith, ap ones z, ones_none))) ∙ q)

-- What becomes of a set: it is refused or held, and leaves both buffers, or it goes.
pub data SetOutcome (L : Limits) (σ : State) (g l : List ℕ) : AfterBoth → Type 0 where
  refused : (number : ℕ) → SetOutcome L σ g l (after_both (Refused number) σ g)
  held : Stays L σ g l → SetOutcome L σ g l (after_both (SetHeld (union σ l)) σ g)
  goes : Goes L σ g l → SetOutcome L σ g l (after_both (SetReleased (union σ l)) (out_to σ l (length l)) (ledger_to σ g l (length l)))

pub set_outcome : (L : Limits) (σ : State) (g l : List ℕ) → SetOutcome L σ g l (step_set L σ g l)
unfolding step_set refusing_both release_all
set_outcome L σ g l =
    let P : AfterBoth → Type 0 = SetOutcome L σ g l in
    cond_ind P (first_of (set_refusals L σ g l) == 0)
    (λ e. let allowed = set_allowed L σ g l (sym (eqb-true _ _ e)) in
    cond_ind P (not (set_may_go σ l (union σ l))) (λ may. held (record { allowed = allowed; may_not = not-true _ may }))
    (λ may. cond_ind P (L.entries <? count_of g + desks σ l (length l)) (λ _. refused _)
    (λ room. goes (record { allowed = allowed; may = not-false _ may; room = ltb-false _ _ room }))))
    (λ _. refused _)

-- A fact of both buffers that every R keeps which lets a message out is kept by a set, whatever becomes of it.
pub set_ind : (L : Limits) (P : State → List ℕ → Type 0) (σ : State) (g l : List ℕ) → P σ g →
    ((τ : State) (h : List ℕ) (m names : ℕ) → P τ h → (step_release L τ h m).answer ≡ Released m names → P (step_release L τ h m).left (step_release L τ h m).ledger) →
    P (step_set L σ g l).left (step_set L σ g l).ledger
set_ind L P σ g l p keeps = go (set_outcome L σ g l)
  where
    go : {o : AfterBoth} → SetOutcome L σ g l o → P o.left o.ledger
    go (refused number) = p
    go (held w) = p
    go (goes w) = on_the_way w P p keeps (length l) (omega arith)
