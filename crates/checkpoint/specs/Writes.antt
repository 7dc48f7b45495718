-- What each function leaves or finds, from what it has read and what its calls have left.
use Rattle.std.specs.Prelude.{◌≡◌, Bool, true, false, List, ℕ, ◌-◌, ◌≤◌, ◌<◌, length}
use Rattle.std.proofs.Math.Path.{sym}
use Rattle.std.proofs.Common.{ap₂, ◌∙◌, arith, eq-eqb, ne_eqb, lt-ltb, le-ltb}
use Rattle.base.specs.Choice.{◌≤?◌}
use Rattle.table.specs.Field.{State, Known, Gap, Incarnation, LiveCount, StableCount, Flag}
use Rattle.table.specs.Change.{put}
use Rattle.table.specs.Layout.{table_words}
use Rattle.table.specs.Words.{state, words}
use Rattle.table.proofs.Words.{words_state, then_put}
use Rattle.table.specs.Numbering.{number_of}
use Rattle.rules.specs.Shared.{logged, logged_to, checkpointed, latest_flagged, replayed, forced, capped}

-- logging: the stable count, and then the known word of the incarnation i, with the number x
pub writes_logged : (t u w : List ℕ) (c k i x : ℕ) → i ≡ state t (Incarnation c) → x ≡ number_of (state t) c k →
    u ≡ words (put (state t) (StableCount c) k) → w ≡ words (put (state u) (Known c c i) x) → w ≡ words (logged (state t) c k)
unfolding logged
writes_logged t u w c k i x p q e h =
    then_put _ (Known c c i) x e h ∙ ap₂ (λ i x. words (put (put (state t) (StableCount c) k) (Known c c i) x)) p q

-- "if any": some are not yet stable, or none
pub logs_some : (t u : List ℕ) (c k n : ℕ) → n ≡ state t (StableCount c) → n < k → u ≡ words (logged (state t) c k) → u ≡ words (logged_to (state t) c k)
unfolding logged_to
logs_some t u c k n q h e = rw (lt-ltb (state t (StableCount c)) k (omega arith)) e

pub logs_none : (t : List ℕ) (c k n : ℕ) → length t ≡ table_words → n ≡ state t (StableCount c) → k ≤ n → t ≡ words (logged_to (state t) c k)
unfolding logged_to
logs_none t c k n l q h = rw (le-ltb (state t (StableCount c)) k (omega arith)) (words_state t l)

-- C: after the logging, the flag of the newest place
pub writes_flag : (t u w : List ℕ) (c live : ℕ) → live ≡ state t (LiveCount c) → u ≡ words (logged_to (state t) c live) → w ≡ words (put (state u) (Flag c (live - 1)) 1) →
    w ≡ words (checkpointed (state t) c)
unfolding checkpointed
writes_flag t u w c live q e h = rw q at (then_put (logged_to (state t) c live) (Flag c (live - 1)) 1 e h)

-- the replay figure from its two numbers
pub replay_is : (σ : State) (c k x y : ℕ) → x ≡ number_of σ c k → y ≡ latest_flagged σ c k → x - y ≡ replayed σ c k
unfolding replayed
replay_is σ c k x y e q = ap₂ (λ x y. x - y) e q

-- whether a checkpoint is forced, by the gap q: "0 means off", or by the replay figure y of all that is live
module _ (σ : State) (c q : ℕ) (e : q ≡ σ Gap) where
  pub gap_off : q ≡ 0 → false ≡ forced σ c
  unfolding forced
  gap_off z = sym (rw (eq-eqb (σ Gap) 0 (sym e ∙ z)))

  pub gap_on : (live y : ℕ) → (q ≡ 0 → ⊥) → live ≡ σ (LiveCount c) → y ≡ replayed σ c live → (q ≤? y) ≡ forced σ c
  unfolding forced
  gap_on live y ne l r = sym (rw (ne_eqb (σ Gap) 0 (λ z. ne (e ∙ z)), ← e, ← l, ← r))

-- it is, or not
pub caps : (t u : List ℕ) (c : ℕ) (b : Bool) → b ≡ forced (state t) c → b ≡ true → u ≡ words (checkpointed (state t) c) → u ≡ words (capped (state t) c)
unfolding capped
caps t u c b e z h = rw (sym e ∙ z) h

pub caps_not : (t : List ℕ) (c : ℕ) (b : Bool) → length t ≡ table_words → b ≡ forced (state t) c → b ≡ false → t ≡ words (capped (state t) c)
unfolding capped
caps_not t c b l e z = rw (sym e ∙ z) (words_state t l)
