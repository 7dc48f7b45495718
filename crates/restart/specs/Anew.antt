-- What starting anew and removing intervals write, one call after the other.
use Rattle.std.specs.Prelude.{◌≡◌, refl, List, ℕ, ◌+◌, ◌-◌, ◌≤◌, set}
use Rattle.std.proofs.Common.{ap, ◌∙◌}
use Rattle.table.specs.Field.{State, Known, OfPlace, Incarnation, LiveCount, StableCount}
use Rattle.table.specs.Change.{put, put_part, clear_places}
use Rattle.table.specs.Words.{state, words}
use Rattle.table.proofs.Words.{agree_words, called, then_put, then_part}
use Rattle.table.specs.Numbering.{number_of, last_live}
use Rattle.rules.specs.Limits.{last_number}
use Rattle.rules.specs.Vector.{Vector, pair, place_vector, filtered}
use Rattle.rules.specs.Shared.{place_record, new_vector, placed, entered, restarted, capped, drop_held, start_anew, causes, removed}
use Rattle.laws.specs.Agree.{agree_drop_held, agree_entered}
use Rattle.laws.specs.Chain.{Counts, counts_words, counts_capped, counts_restarted, Starts, starts_words, starts_causes}
use Rattle.laws.specs.Kept.{then_capped, then_start}
use Rattle.removal.specs.Dropping.{Sent}
use Rattle.restart.specs.Sent.{begun_sent}

-- the new vector is made of the kept one
pub new_vector_is : (σ : State) (c k own x : ℕ) (v w : Vector) → v ≡ place_vector σ c (k - 1) → w ≡ filtered σ c v → own ≡ σ (Incarnation c) → x ≡ number_of σ c (k + 1) →
    set w c (pair (own + 1) x) ≡ new_vector σ c k
unfolding new_vector
new_vector_is σ c k own x v w ev ew eo ex = rw (ew, ev, eo, ex)

-- places from k on were freed, and place k written
pub places : (t t₁ t₂ : List ℕ) (c k live : ℕ) (w : List ℕ) → live ≡ state t (LiveCount c) → t₁ ≡ words (clear_places (state t) c k live) →
    t₂ ≡ words (put_part (state t₁) (OfPlace c k 0) 0 w) → t₂ ≡ words (put_part (clear_places (state t) c k (state t (LiveCount c))) (OfPlace c k 0) 0 w)
places t t₁ t₂ c k live w e e₁ e₂ = then_part _ (OfPlace c k 0) 0 _ (e₁ ∙ ap (λ n. words (clear_places (state t) c k n)) e) e₂

-- four words were put
pub enters : (t t₁ t₂ t₃ t₄ : List ℕ) (c k i x : ℕ) → t₁ ≡ words (put (state t) (Incarnation c) i) → t₂ ≡ words (put (state t₁) (LiveCount c) k) →
    t₃ ≡ words (put (state t₂) (StableCount c) k) → t₄ ≡ words (put (state t₃) (Known c c i) x) → t₄ ≡ words (entered (state t) c k i x)
unfolding entered
enters t t₁ t₂ t₃ t₄ c k i x e₁ e₂ e₃ e₄ = then_put _ (Known c c i) x (then_put _ (StableCount c) k (then_put _ (LiveCount c) k e₁ e₂) e₃) e₄

-- the place is written, and the incarnation entered
pub begins : (t t₁ t₂ : List ℕ) (c k own x : ℕ) (v : Vector) → own ≡ state t (Incarnation c) → x ≡ number_of (state t) c (k + 1) → v ≡ new_vector (state t) c k →
    t₁ ≡ words (put_part (clear_places (state t) c k (state t (LiveCount c))) (OfPlace c k 0) 0 (place_record (own + 1) x 0 0 v)) → t₂ ≡ words (entered (state t₁) c (k + 1) (own + 1) x) → t₂ ≡ words (restarted (state t) c k)
unfolding restarted placed
begins t t₁ t₂ c k own x v eo ex ev e₁ e₂ =
    called (λ σ. entered σ c (k + 1) (own + 1) x) _ e₁ e₂ (agree_entered _ _ (agree_words _ e₁) c (k + 1) refl refl)
    ∙ (λ d. words (entered (placed (state t) c k (eo d + 1) (ex d) (ev d)) c (k + 1) (eo d + 1) (ex d)))

-- the new incarnation has begun: the start has its counts, was checkpointed, if that was due, and held messages were
-- dropped in the records in use
module _ (t t₁ : List ℕ) (c k : ℕ) (s : Starts (state t) c k) (e₁ : t₁ ≡ words (restarted (state t) c k)) where
  pub begun_counts : Counts (state t₁) c
  begun_counts = counts_words _ c e₁ (counts_restarted (state t) c k s)

  pub begun_drops : (t₂ : List ℕ) → t₂ ≡ words (capped (state t₁) c) → Sent (state t₂)
  begun_drops t₂ e₂ = begun_sent (state t) c k s (then_capped _ c (counts_restarted (state t) c k s) e₁ e₂)

  pub begun_numbers : (t₂ : List ℕ) → t₂ ≡ words (capped (state t₁) c) → last_live (state t₂) c ≤ last_number
  begun_numbers t₂ e₂ = (counts_words _ c e₂ (counts_capped (state t₁) c begun_counts)).numbers_le

  pub starts : (t₂ t₃ : List ℕ) → t₂ ≡ words (capped (state t₁) c) → t₃ ≡ words (drop_held (state t₂) c k) → t₃ ≡ words (start_anew (state t) c k)
  unfolding start_anew
  starts t₂ t₃ e₂ e₃ =
      let e = then_capped _ c (counts_restarted (state t) c k s) e₁ e₂ in
      called (λ σ. drop_held σ c k) _ e e₃ (agree_drop_held _ _ (agree_words _ e) c k s.chain.named)

-- the causes have their states, and the start is made on them
module _ (t t₁ : List ℕ) (c k : ℕ) (s : Starts (state t) c k) (e₁ : t₁ ≡ words (causes (state t) c k)) where
  pub settled_starts : Starts (state t₁) c k
  settled_starts = starts_words _ c k e₁ (starts_causes (state t) c k k s)

  pub removes : (t₂ : List ℕ) → t₂ ≡ words (start_anew (state t₁) c k) → t₂ ≡ words (removed (state t) c k)
  unfolding removed
  removes t₂ e₂ = then_start _ c k (starts_causes (state t) c k k s) e₁ e₂
