-- Known words: one is set, or a row is raised to what its owner tells.
use Rattle.std.specs.Prelude.{ℕ, ◌≤◌, max}
use Rattle.history.specs.History.{interval, History, changed_at}
use Rattle.model.specs.Model.{changed_at₂}
use Rattle.model.specs.Tests.{Is}
use Rattle.model.proofs.Tests.{changed_at_ind, changed_at₂_ind, max_ind}
use Rattle.model.proofs.Invariant.{Knows}

-- a known word may be v: v is begun in a's incarnation i, and what is begun up to it is stable
pub record MayKnow (h : History) (a i v : ℕ) : Type 0 where
  pub begun : 1 ≤ v → Is (h.begun (interval a i v))
  pub stable : (x : ℕ) → Is (h.begun (interval a i x)) → x ≤ v → Is (h.stable (interval a i x))

-- what is known may be known
pub may_know : {h : History} {known : ℕ → ℕ → ℕ} → Knows h known → (a i : ℕ) → MayKnow h a i (known a i)
may_know o a i = record { begun = o.known_begun a i; stable = o.known_stable_lem a i }

-- so may the larger of two
pub may_know_max : {h : History} {a i v w : ℕ} → MayKnow h a i v → MayKnow h a i w → MayKnow h a i (max v w)
may_know_max {h} {a} {i} {v} {w} p q = max_ind (MayKnow h a i) v w (λ l. q) (λ l. p)

-- a known word is set to what may be known
pub knows_set : {h : History} {known : ℕ → ℕ → ℕ} (a i v : ℕ) → Knows h known → MayKnow h a i v → Knows h (changed_at₂ known a i v)
knows_set {h} {known} a i v o m =
    record {
      known_begun = changed_at₂_ind (λ b s w. 1 ≤ w → Is (h.begun (interval b s w))) known a i v m.begun (λ b s ne. o.known_begun b s);
      known_stable_lem = λ b s x.
          changed_at₂_ind (λ b s w. Is (h.begun (interval b s x)) → x ≤ w → Is (h.stable (interval b s x))) known a i v (m.stable x)
          (λ b s ne. o.known_stable_lem b s x) b s;
    }

-- T: what a tells is known to a, so it may be known
pub knows_told : {h : History} {known : ℕ → ℕ → ℕ} (a : ℕ) (told : ℕ → ℕ) → Knows h known → ((i : ℕ) → MayKnow h a i (told i)) →
    Knows h (changed_at known a (λ (i : ℕ). max (known a i) (told i)))
knows_told {h} {known} a told o m =
    let both : (i : ℕ) → MayKnow h a i (max (known a i) (told i)) = λ i. may_know_max (may_know o a i) (m i) in
    record {
      known_begun =
          changed_at_ind (λ b g. (i : ℕ) → 1 ≤ g i → Is (h.begun (interval b i (g i)))) known a (λ (i : ℕ). max (known a i) (told i))
          (λ i. (both i).begun) (λ b ne. o.known_begun b);
      known_stable_lem =
          changed_at_ind (λ b g. (i x : ℕ) → Is (h.begun (interval b i x)) → x ≤ g i → Is (h.stable (interval b i x))) known a
          (λ (i : ℕ). max (known a i) (told i)) (λ i. (both i).stable) (λ b ne. o.known_stable_lem b);
    }
