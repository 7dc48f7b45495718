-- The words that no step but O and S writes: those of the head that numbers depend on, and what a message's record has between its state and its vector.
use Rattle.std.specs.Prelude.{◌≡◌, refl, Bool, true, false, ◌&&◌, List, ℕ}
use Rattle.std.proofs.Common.{sym, ap, ◌∙◌, true≢false, le-ltb}
use Rattle.base.specs.Choice.{◌<?◌, and_right}
use Rattle.table.specs.Field.{Field, State, OfHead, OfController, OfPlace, OfMessage, Known, End, MessageState, word, message_head}
use Rattle.table.specs.Numbering.{numbering, Numbered}
use Rattle.table.proofs.Numbering.{numbers_kept}
use Rattle.rules.specs.Limits.{Limits}
use Rattle.rules.specs.Step.{step_on}
use Rattle.rules.specs.declared.Command.{Command}
use Rattle.rules.specs.declared.Command.TheVariants.{Open, SetDegree, Send, Release, Deliver, Log, Checkpoint, Tell, Crash, Hear, SetGap}
use Rattle.laws.specs.StepWords.{Writable, every_step}

-- one of these words
abbrev pub fixed : Field → Bool
fixed (OfHead k) = numbering (OfHead k)
fixed (OfController c k) = false
fixed (Known holder owner i) = false
fixed (End holder owner i) = false
fixed (OfPlace c p k) = false
fixed (OfMessage r k) = (word (MessageState r) <? k) && (k <? message_head)

-- numbering looks at no other
numbering_fixed : (f : Field) → numbering f ≡ true → fixed f ≡ true
numbering_fixed (OfHead k) e = e
numbering_fixed (OfController c k) e = e
numbering_fixed (Known holder owner i) e = e
numbering_fixed (End holder owner i) e = e
numbering_fixed (OfPlace c p k) e = e
numbering_fixed (OfMessage r k) e = absurd (true≢false (sym e))

-- x is what σ has in g, if g is one of these words
abbrev pub Fixed : State → Field → ℕ → Type 0
Fixed σ g x = fixed g ≡ true → x ≡ σ g

-- a change that leaves them leaves all numbers
pub numbers_fixed : (σ τ : State) → ((f : Field) → Fixed σ f (τ f)) → Numbered τ σ
numbers_fixed σ τ h = numbers_kept τ σ (λ f e. h f (numbering_fixed f e))

-- what the other steps write is none of them
pub fixed_writable : (σ : State) → Writable (Fixed σ)
fixed_writable σ =
    record {
      gap = λ x e. absurd (true≢false (sym e));
      controller = λ c k x e. absurd (true≢false (sym e));
      known = λ holder owner i x e. absurd (true≢false (sym e));
      end = λ holder owner i x e. absurd (true≢false (sym e));
      place = λ c p k x e. absurd (true≢false (sym e));
      vector = λ r k x l e. absurd (true≢false (sym (and_right (word (MessageState r) <? k) _ e) ∙ le-ltb k message_head l));
      released = λ r e. absurd (true≢false (sym e));
      delivered = λ r e. absurd (true≢false (sym e));
      dropped = λ r e. absurd (true≢false (sym e));
      published = λ r e. absurd (true≢false (sym e));
    }

-- neither O nor S
abbrev pub plain : Command → Bool
plain (Open n k) = false
plain (SetDegree c k) = true
plain (Send s r p) = false
plain (Release m) = true
plain (Deliver m) = true
plain (Log c n) = true
plain (Checkpoint c) = true
plain (Tell a b) = true
plain (Crash c) = true
plain (Hear b a i) = true
plain (SetGap n) = true

-- these steps leave them
pub fixed_step : (L : Limits) (σ : State) (g : List ℕ) (x : Command) → plain x ≡ true → (f : Field) → Fixed σ f ((step_on L σ g x).left f)
fixed_step L σ g x p =
    every_step (Fixed σ) (fixed_writable σ) σ (λ f _. refl) L g x (λ n k z. absurd (true≢false (sym p ∙ ap plain z)))
    (λ _ _ _ z. absurd (true≢false (sym p ∙ ap plain z)))
