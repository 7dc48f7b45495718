-- The pass over the records: whom a call would serve, as far as it has looked, and whom it serves.
use Rattle.std.specs.Prelude.{◌≡◌, refl, Bool, true, false, ℕ, ◌+◌, ◌≤◌, ◌<◌, Option, Some, None}
use Rattle.std.proofs.Common.{sym, ap, ap₂, ◌∙◌, subst, arith, ne_eqb, le-ltb}
use Rattle.base.specs.Choice.{le?}
use Rattle.base.specs.Ranges.{anyb_none}
use Rattle.base.specs.Cases.{failed}
use Rattle.table.specs.Field.{State, Size, MessageState, Receiver}
use Rattle.table.specs.Layout.{messages}
use Rattle.table.specs.Numbering.{used, message_of}
use Rattle.rules.specs.Limits.{house}
use Rattle.rules.specs.Form.{state_released}
use Rattle.rules.specs.Steps.{after, prospect, deliver}
use Rattle.rules.specs.Dispatch.{goes, servable, has_message, turn, dispatched}
use Rattle.rules.specs.declared.Answer.TheVariants.{Idle}
use Rattle.rules.specs.declared.Prospect.{Prospect}
use Rattle.laws.specs.Facts.{Form}
use Rattle.laws.specs.Allowed.{MessageAllowed}
use Rattle.laws.specs.Chain.{Taken, taken_there}
use Rattle.laws.specs.Round.{Turn}
use Rattle.laws.specs.Dispatching.{Servable, turned, record_through, takes, none_taken}
use Rattle.dispatch.specs.declared.Candidate.{Candidate}
use Rattle.dispatch.specs.Round.{Round, turn_meets, turn_other}

-- WHICH RECORDS HAVE NONE FOR c
module _ (σ : State) (c r : ℕ) where
  past_used : used σ ≤ r → servable house σ c r ≡ false
  unfolding servable
  past_used l = failed _ (le-ltb r (used σ) l) (λ w. search w)

  not_released : {x : ℕ} → x ≡ σ (MessageState r) → (x ≡ state_released → ⊥) → servable house σ c r ≡ false
  unfolding servable
  not_released e ne = failed _ (ne_eqb (σ (MessageState r)) state_released (λ z. ne (e ∙ z))) (λ w. search w)

  not_for : (σ (Receiver r) ≡ c → ⊥) → servable house σ c r ≡ false
  unfolding servable
  not_for ne = failed _ (ne_eqb (σ (Receiver r)) c ne) (λ w. search w)

  not_going : goes (prospect house σ r) ≡ false → servable house σ c r ≡ false
  unfolding servable
  not_going e = failed _ e (λ w. search w)

-- THE NEXT RELEASED MESSAGE
-- the records from `low` up to r have none for anybody
pub record Passed (σ : State) (low r : ℕ) : Type 0 where
  pub none : (c j : ℕ) → low ≤ j → j < r → servable house σ c j ≡ false

pub passed_more : {σ : State} {low r x : ℕ} → Passed σ low r → x ≡ σ (MessageState r) → (x ≡ state_released → ⊥) → Passed σ low (r + 1)
passed_more {σ} {low} {r} w e ne =
    record {
      none = λ c j l h. le? (j + 1) r (λ u. w.none c j l (omega arith)) (λ u. let q : r ≡ j = omega arith in subst (λ j. servable house σ c j ≡ false) q (not_released σ c r e ne));
    }

-- and r has a released message; or there is none from `low` on
pub record Here (σ : State) (low r : ℕ) : Type 0 where
  pub passed : Passed σ low r
  pub low_le : low ≤ r
  pub here : MessageAllowed σ r state_released

abbrev pub Next : State → ℕ → Option ℕ → Type 0
Next σ low (Some r) = Here σ low r
Next σ low None = Passed σ low (used σ)

-- THE CANDIDATE
-- the controller whose turn is i has its lowest message in record r, and p would come of it
pub record Found (σ : State) (i r : ℕ) (p : Prospect) : Type 0 where
  pub here : Servable house σ (turn σ i) r
  pub lower : (j : ℕ) → j < r → servable house σ (turn σ i) j ≡ false
  pub comes_is : p ≡ prospect house σ r

-- the turns before that of a candidate, or all n
abbrev pub turns_before : ℕ → Option Candidate → ℕ
turns_before n None = n
turns_before n (Some b) = b.turn

-- a candidate has its turn in the round, and is found
abbrev pub FoundIn : State → ℕ → Option Candidate → Type 0
FoundIn σ n None = Unit {0}
FoundIn σ n (Some b) = (b.turn < n) × Found σ b.turn b.r b.comes

-- in the records below r nobody has one in a turn before that of the candidate, and that one, if it is anybody, is
-- found
pub record Best (σ : State) (n r : ℕ) (best : Option Candidate) : Type 0 where
  pub none_before : (k j : ℕ) → k < turns_before n best → j < r → servable house σ (turn σ k) j ≡ false
  pub found : FoundIn σ n best

-- those that were passed
pub best_passed : {σ : State} {n r q : ℕ} {best : Option Candidate} → Best σ n r best → Passed σ r q → Best σ n q best
best_passed {σ} {n} {r} w u =
    record { none_before = λ k j l h. le? r j (λ m. u.none (turn σ k) j m h) (λ m. w.none_before k j l (omega arith)); found = w.found }

-- one more, record r
module _ {σ : State} {n r : ℕ} {best : Option Candidate} (w : Best σ n r best) where
  -- it has none for a turn before i
  abbrev NoneIn : ℕ → Type 0
  NoneIn i = (k : ℕ) → k < i → servable house σ (turn σ k) r ≡ false

  none_more : (i : ℕ) → i ≤ turns_before n best → NoneIn i → (k j : ℕ) → k < i → j < r + 1 → servable house σ (turn σ k) j ≡ false
  none_more i l none k j h m =
      le? (j + 1) r (λ u. w.none_before k j (omega arith) (omega arith))
      (λ u. let e : r ≡ j = omega arith in subst (λ j. servable house σ (turn σ k) j ≡ false) e (none k h))

  best_same : NoneIn (turns_before n best) → Best σ n (r + 1) best
  best_same none = record { none_before = none_more (turns_before n best) (omega arith) none; found = w.found }

  -- its receiver is c, who has turn i
  module _ {from c i : ℕ} (round : Round σ from n) (ce : c ≡ σ (Receiver r)) (h : Turn from n c i) where
    none_earlier : NoneIn i
    none_earlier k l = not_for σ (turn σ k) r (λ z. turn_other round h k (omega (arith, h.below)) (λ e. omega arith) (ce ∙ z))

    -- which comes no earlier than that of the candidate
    pub best_later : turns_before n best ≤ i → Best σ n (r + 1) best
    best_later l = best_same (λ k m. none_earlier k (omega arith))

    -- p would come of it: it would not go, or it is the new candidate
    module _ (p : Prospect) (pe : p ≡ prospect house σ r) (g : Bool) (ge : g ≡ goes p) where
      pub best_waits : g ≡ false → Best σ n (r + 1) best
      best_waits e = best_same (λ k l. not_going σ (turn σ k) r (ap goes (sym pe) ∙ sym ge ∙ e))

      pub best_new : MessageAllowed σ r state_released → i < turns_before n best → g ≡ true → Best σ n (r + 1) (Some (record { turn = i; r = r; comes = p }))
      best_new a l e =
          record {
            none_before = none_more i (omega arith) none_earlier;
            found = (
              omega (arith, h.below),
              record {
                here = record { here = a.record_used; is_released_lem = a.state_is; for = sym ce ∙ sym (turn_meets round h); will = ap goes (sym pe) ∙ sym ge ∙ e };
                lower = λ j m. w.none_before i j l m;
                comes_is = pe;
              },
            );
          }

-- THE CHOICE
-- the call serves the receiver of the message in record r, of which p comes
pub record Serves (σ : State) (r : ℕ) (p : Prospect) : Type 0 where
  pub taken : Taken σ r
  pub comes_is : p ≡ prospect house σ r
  pub call_is : dispatched house σ ≡ turned (deliver house σ (message_of σ r) r) (σ (Receiver r))

-- the call serves nobody, or by the message of the candidate
abbrev pub Chosen : State → Option Candidate → Type 0
Chosen σ None = dispatched house σ ≡ after Idle σ
Chosen σ (Some b) = Serves σ b.r b.comes

module _ {σ : State} {n : ℕ} (r : ℕ) (f : Form house σ) (ne : n ≡ σ Size) where
  -- the records that were not looked at have none for a turn before that of the candidate either
  abbrev NoneLeft : Option Candidate → Type 0
  NoneLeft best = (k j : ℕ) → k < turns_before n best → r ≤ j → servable house σ (turn σ k) j ≡ false

  none_has : (best : Option Candidate) → Best σ n r best → NoneLeft best → (k : ℕ) → k < turns_before n best → has_message house σ (turn σ k) ≡ false
  unfolding has_message
  none_has best w left k l = anyb_none (servable house σ (turn σ k)) messages (λ j _. le? (j + 1) r (λ u. w.none_before k j l (omega arith)) (λ u. left k j l (omega arith)))

  choice : (best : Option Candidate) → Best σ n r best → NoneLeft best → Chosen σ best
  choice None w left = none_taken house σ (λ i m. none_has None w left i (omega arith))
  choice (Some b) w left =
      let x = w.found.1 in
      let s = x.here in
      let low : b.r < messages = omega (arith, s.here, f.used_le) in
      record {
        taken = taken_there f (record { record_used = s.here; state_is = s.is_released_lem });
        comes_is = x.comes_is;
        call_is = takes house σ (turn σ b.turn) b.r low (record { place = b.turn; short = omega (arith, w.found.0); whose = refl; first_has = none_has (Some b) w left; it = s; lowest = x.lower })
            ∙ ap₂ turned (record_through house σ b.r s.here s.is_released_lem) (sym s.for);
      }

  -- all records in use were looked at; or the candidate has the first turn
  pub chosen_all : {best : Option Candidate} → Best σ n r best → used σ ≤ r → Chosen σ best
  chosen_all {best} w l = choice best w (λ k j _ h. past_used σ (turn σ k) j (omega arith))

  pub chosen_first : {best : Option Candidate} → Best σ n r best → turns_before n best ≡ 0 → Chosen σ best
  chosen_first {best} w z = choice best w (λ k j l _. absurd (omega arith))
