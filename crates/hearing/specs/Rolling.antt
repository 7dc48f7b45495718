-- What rolling back counts on, and what it leaves.
use Rattle.std.specs.Prelude.{◌≡◌, List, ℕ, ◌-◌}
use Rattle.std.proofs.Math.Path.{ap}
use Rattle.std.proofs.Common.{◌∙◌}
use Rattle.table.specs.Field.{State, LiveCount}
use Rattle.table.specs.Words.{state, words}
use Rattle.table.specs.Numbering.{number_of}
use Rattle.rules.specs.Shared.{logged_to, removed, replayed}
use Rattle.rules.specs.Steps.{After, after, rolled_back}
use Rattle.rules.specs.Step.{out, written}
use Rattle.rules.specs.declared.Answer.TheVariants.{Rolled}
use Rattle.laws.specs.Chain.{Starts, starts_words, starts_logged_to}
use Rattle.laws.specs.Kept.{then_removed}

-- t₁ has the j oldest intervals logged.
module _ (t t₁ : List ℕ) (hearer j k : ℕ) (s : Starts (state t) hearer k) (e₁ : t₁ ≡ words (logged_to (state t) hearer j)) where
  kept_starts : Starts (logged_to (state t) hearer j) hearer k
  kept_starts = starts_logged_to (state t) hearer k j s

  pub undone_starts : Starts (state t₁) hearer k
  undone_starts = starts_words _ hearer k e₁ kept_starts

  pub undone_words : (t₂ : List ℕ) → j ≡ k → t₂ ≡ words (removed (state t₁) hearer k) → t₂ ≡ words (rolled_back (state t) hearer k)
  unfolding rolled_back
  undone_words t₂ all e₂ = then_removed _ hearer k kept_starts e₁ e₂ ∙ ap (λ j. words (removed (logged_to (state t) hearer j) hearer k)) all

-- what is answered and left where the intervals of the hearer from place k on are undone, for the crash of the owner's
-- incarnation i
abbrev pub undoing : State → ℕ → ℕ → ℕ → ℕ → After
undoing σ hearer owner i k = after (Rolled hearer (number_of σ hearer k) (σ (LiveCount hearer) - k) (replayed σ hearer k) owner i) (rolled_back σ hearer k)

pub undo_done : (t u : List ℕ) (hearer owner i live k x again : ℕ) → live ≡ state t (LiveCount hearer) → x ≡ number_of (state t) hearer k → again ≡ replayed (state t) hearer k →
    u ≡ words (rolled_back (state t) hearer k) → out (Rolled hearer x (live - k) again owner i) u ≡ written (undoing (state t) hearer owner i k)
undo_done t u hearer owner i live k x again el ex ea e d = out (Rolled hearer (ex d) (el d - k) (ea d) owner i) (e d)
