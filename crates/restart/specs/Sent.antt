-- A start leaves which records of messages are in use, and that no message stands in the others.
use Rattle.std.specs.Prelude.{◌≡◌, refl, Bool, true, false, ◌&&◌, ◌||◌, List, ℕ, ◌==◌}
use Rattle.std.proofs.Common.{sym, ap, ◌∙◌, true≢false, arith}
use Rattle.base.specs.Choice.{◌<?◌, cond_ind}
use Rattle.table.specs.Field.{Field, State, Known, OfPlace, Incarnation, LiveCount, StableCount, Flag, SendingNumber, region, word}
use Rattle.table.specs.Change.{put, put_ind, put_part, part_ind, clear_places, clear_ind}
use Rattle.table.specs.Words.{state, words}
use Rattle.table.proofs.Words.{agree_words}
use Rattle.table.specs.Numbering.{used, numbering}
use Rattle.table.proofs.Numbering.{numbers_kept, used_agree}
use Rattle.rules.specs.Shared.{logged, logged_to, checkpointed, forced, capped, placed, entered, restarted}
use Rattle.laws.specs.Chain.{Starts}
use Rattle.removal.specs.Dropping.{Sent}

-- the words that this looks at: those of numbering, and sending numbers
abbrev of_sent : Field → Bool
of_sent f = numbering f || ((region f == region (SendingNumber 0)) && (word f == word (SendingNumber 0)))

-- τ has them as σ has
abbrev Kept : State → State → Type 0
Kept σ τ = (f : Field) → of_sent f ≡ true → τ f ≡ σ f

module _ {σ τ : State} (h : Kept σ τ) where
  kept_put : (f : Field) (x : ℕ) → of_sent f ≡ false → Kept σ (put τ f x)
  kept_put f x n = put_ind (λ g y. of_sent g ≡ true → y ≡ σ g) τ f x (λ e. absurd (true≢false (sym e ∙ n))) (λ g _. h g)

  kept_part : (c p : ℕ) (w : List ℕ) → Kept σ (put_part τ (OfPlace c p 0) 0 w)
  kept_part c p w = part_ind (λ g y. of_sent g ≡ true → y ≡ σ g) τ (OfPlace c p 0) 0 w (λ i _ e. absurd (true≢false (sym e))) (λ g _. h g)

  kept_clear : (c p q : ℕ) → Kept σ (clear_places τ c p q)
  kept_clear c p q = clear_ind (λ g y. of_sent g ≡ true → y ≡ σ g) τ c p q (λ x k _ _ e. absurd (true≢false (sym e))) (λ g _. h g)

kept_restarted : (σ : State) (c k : ℕ) → Kept σ (restarted σ c k)
unfolding restarted placed entered
kept_restarted σ c k =
    kept_put
    (kept_put (kept_put (kept_put (kept_part (kept_clear (λ f e. refl) c k _) c k _) (Incarnation c) _ refl) (LiveCount c) _ refl) (StableCount c) _ refl)
    (Known c c _) _ refl

-- the newest interval is checkpointed, if that is due
kept_capped : {σ τ : State} (c : ℕ) → Kept σ τ → Kept σ (capped τ c)
unfolding capped checkpointed logged_to logged
kept_capped {σ} {τ} c h =
    cond_ind (Kept σ) (forced τ c)
    (λ _. kept_put (cond_ind (Kept σ) (τ (StableCount c) <? τ (LiveCount c)) (λ _. kept_put (kept_put h (StableCount c) _ refl) (Known c c _) _ refl) (λ _. h)) (Flag c _) _ refl) (λ _. h)

-- on a table with the words of a start
pub begun_sent : (σ : State) (c k : ℕ) {t : List ℕ} → Starts σ c k → t ≡ words (capped (restarted σ c k) c) → Sent (state t)
begun_sent σ c k {t} s q =
    let τ = capped (restarted σ c k) c in
    let h = kept_capped c (kept_restarted σ c k) in
    let e = agree_words τ q in
    let n : used (state t) ≡ used σ = used_agree (state t) τ e ∙ (numbers_kept τ σ (λ f y. h f (ap (λ b. b || ((region f == region (SendingNumber 0)) && (word f == word (SendingNumber 0)))) y))).used_same in
    record {
      used_le = omega (arith, s.chain.used_le);
      unsent = λ r l u. e (SendingNumber r) (l, omega arith) ∙ h (SendingNumber r) refl ∙ s.chain.unsent r l (omega arith);
    }
