-- No step gives the state 4, lost: every rule puts another state into a message's record, or leaves the one that it finds.
use Rattle.std.specs.Prelude.{◌≡◌, true, false, ◌&&◌, List, ℕ, zero, suc, ◌≤◌, get_or, ◌==◌}
use Rattle.std.proofs.Math.Path.{refl}
use Rattle.std.proofs.Common.{sym, ap, ◌∙◌, true≢false, arith, eq-eqb, ne_eqb}
use Rattle.table.specs.Field.{Field, State, OfMessage, MessageState}
use Rattle.table.specs.Change.{is_state, is_state_lem}
use Rattle.table.specs.Numbering.{used, posted}
use Rattle.table.proofs.Numbering.{posted_ind}
use Rattle.rules.specs.Limits.{Limits}
use Rattle.rules.specs.Form.{state_lost}
use Rattle.rules.specs.Steps.{open_house, message_record, sent}
use Rattle.rules.specs.Step.{step_on}
use Rattle.rules.specs.declared.Command.{Command}
use Rattle.laws.specs.StepWords.{Writable, Every, every_step}

module _ (σ : State) where
  -- with x in the word g: if g is the state of a message and says lost, then so it did in σ
  abbrev Before : Field → ℕ → Type 0
  Before g x = is_state g ≡ true → x ≡ state_lost → σ g ≡ state_lost

  -- a word that is no state, or another state
  other : (f : Field) (v : ℕ) → (is_state f && (v == state_lost)) ≡ false → Before f v
  other f v e s l = absurd (true≢false (sym (rw s (eq-eqb v state_lost l)) ∙ e))

  -- a message's record has its state in the first word only
  later_word : (r i x : ℕ) → 1 ≤ i → Before (OfMessage r i) x
  later_word r i x l = other (OfMessage r i) x (rw (ne_eqb i 0 (omega arith)))

  -- every step, in a house of any limits: each message that is lost then was lost before
  pub none_lost : (L : Limits) (g : List ℕ) (x : Command) (f : Field) → Before f ((step_on L σ g x).left f)
  unfolding open_house sent message_record
  none_lost L g x = every_step Before writable σ (λ f s l. l) L g x (λ n k _. none_open n k) (λ s r p _. none_sent s r p)
    where
      -- no rule puts it
      writable : Writable Before
      writable =
          record {
            gap = λ x. other _ x refl;
            controller = λ c k x. other _ x refl;
            known = λ holder owner i x. other _ x refl;
            end = λ holder owner i x. other _ x refl;
            place = λ c p k x. other _ x refl;
            vector = λ r k x l. later_word r k x (omega arith);
            released = λ r. other (MessageState r) _ refl;
            delivered = λ r. other (MessageState r) _ refl;
            dropped = λ r. other (MessageState r) _ refl;
            published = λ r. other (MessageState r) _ refl;
          }

      -- O leaves every state 0, and S puts held
      none_open : (n k : ℕ) → Every Before writable (open_house n k)
      none_open n k g s l = absurd (true≢false (sym (eq-eqb _ _ (ap (open_house n k) (sym (is_state_lem g s)) ∙ l))))

      none_posted : (w : List ℕ) → (get_or w 0 0 == state_lost) ≡ false → Every Before writable (posted σ w)
      none_posted w e =
          posted_ind σ w Before (λ k _. word k) (λ k y _. other _ y refl) (λ g _ s l. l)
        where
          word : (k : ℕ) → Before (OfMessage (used σ) k) (get_or w k 0)
          word zero = other (MessageState (used σ)) (get_or w 0 0) e
          word (suc k) = later_word (used σ) (suc k) (get_or w (suc k) 0) (omega arith)

      none_sent : (sender receiver payload : ℕ) → Every Before writable (sent σ sender receiver payload)
      none_sent sender receiver payload = none_posted _ refl
