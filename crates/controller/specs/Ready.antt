-- What the passed refusals of a step say to the function that does it.
use Rattle.std.specs.Prelude.{◌≡◌, List, ℕ, ◌+◌, ◌≤◌, ◌<◌}
use Rattle.std.proofs.Common.{arith}
use Rattle.base.specs.Cases.{first_of}
use Rattle.table.specs.Field.{Size, LiveCount, StableCount}
use Rattle.table.specs.Layout.{controllers}
use Rattle.table.specs.Words.{state}
use Rattle.rules.specs.Limits.{house}
use Rattle.rules.specs.Steps.{degree_refusals, log_refusals, tell_refusals}
use Rattle.laws.specs.Facts.{form, controller_form}
use Rattle.laws.specs.Allowed.{degree_allowed, log_allowed, tell_allowed}
use Rattle.laws.specs.Answering.{Lent}
use Rattle.laws.specs.Chain.{Counts, chain_counts, chain_of_lem}

-- a controller below the size n that was read has its counts, and its stable count is at most its live count
module _ (t : List ℕ) (l : Lent t) (n c : ℕ) (e : n ≡ state t Size) (h : c < n) where
  pub sized_counts : Counts (state t) c
  sized_counts = chain_counts (chain_of_lem t c l (omega arith))

  pub sized_named : c < controllers
  sized_named = sized_counts.named

  pub sized_stable : (live stable : ℕ) → live ≡ state t (LiveCount c) → stable ≡ state t (StableCount c) → stable ≤ live
  sized_stable live stable p q = omega (arith, (controller_form (form house (state t) l.good) c (omega arith)).stable_le)

module _ (t : List ℕ) (l : Lent t) where
  -- K: the controller has its words
  pub degree_named : (c k : ℕ) → 0 ≡ first_of (degree_refusals (state t) c k) → c < controllers
  degree_named c k e = (chain_of_lem t c l (degree_allowed (state t) c k e).controller_lt).named

  -- L: the controller has its counts, and q of its intervals are not stable
  pub log_counts : (c q : ℕ) → 0 ≡ first_of (log_refusals (state t) c q) → Counts (state t) c
  log_counts c q e = chain_counts (chain_of_lem t c l (log_allowed (state t) c q e).controller_lt)

  pub log_some : (c q : ℕ) → 0 ≡ first_of (log_refusals (state t) c q) → state t (StableCount c) + q ≤ state t (LiveCount c)
  log_some c q e =
      let a = log_allowed (state t) c q e in
      omega (arith, a.number_le, (controller_form (form house (state t) l.good) c a.controller_lt).stable_le)

  -- T: both controllers have their words
  pub tell_owner : (owner holder : ℕ) → 0 ≡ first_of (tell_refusals (state t) owner holder) → owner < controllers
  tell_owner owner holder e = (chain_of_lem t owner l (tell_allowed (state t) owner holder e).owner_lt).named

  pub tell_holder : (owner holder : ℕ) → 0 ≡ first_of (tell_refusals (state t) owner holder) → holder < controllers
  tell_holder owner holder e = (chain_of_lem t holder l (tell_allowed (state t) owner holder e).holder_lt).named
