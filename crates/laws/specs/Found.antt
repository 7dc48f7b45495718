-- What the tests over ranges say when they have failed or passed: condemned vectors, conflicts, the lowest condemned place; and
-- what the latest checkpoint is.
use Rattle.std.specs.Prelude.{◌≡◌, refl, Bool, true, false, not, ◌≢◌, ℕ, zero, suc, ◌+◌, ◌-◌, ◌≤◌, ◌<◌, ◌==◌}
use Rattle.std.proofs.Common.{ap, ◌∙◌, subst, zero-le, add-one, arith, below_more, ltb-true, ltb-false, eqb-true, ne_eqb}
use Rattle.std.proofs.Math.Decide.{ℕ_discrete}
use Rattle.std.proofs.lemmas.Bool.{eqb-false, not-true, not-false}
use Rattle.base.specs.Choice.{and_left, and_right, cond_ind}
use Rattle.base.specs.Ranges.{anyb_clear, first_le, first_before, first_hit, first_some}
use Rattle.table.specs.Field.{State, End, LiveCount, Flag}
use Rattle.table.specs.Layout.{controllers}
use Rattle.table.specs.Numbering.{number_of}
use Rattle.table.proofs.Numbering.{number_from_lem}
use Rattle.rules.specs.Vector.{Pair, Vector, incarnation, number, empty, pair_of, place_vector, condemned_pair, condemned, condemning, conflict_pair, conflict}
use Rattle.rules.specs.Shared.{latest_flagged}
use Rattle.rules.specs.Steps.{lowest_condemned}

-- "the lowest place above 0 whose vector holds a condemned entry", k, or the live count
pub record Lowest (σ : State) (hearer k : ℕ) : Type 0 where
  pub pos : 1 ≤ k
  pub le : k ≤ σ (LiveCount hearer)
  pub before : (p : ℕ) → 1 ≤ p → p < k → condemned σ hearer (place_vector σ hearer p) ≡ false
  pub hit : k < σ (LiveCount hearer) → condemned σ hearer (place_vector σ hearer k) ≡ true

-- that is what the search finds
pub lowest : (σ : State) (hearer : ℕ) → 1 ≤ σ (LiveCount hearer) → Lowest σ hearer (lowest_condemned σ hearer)
unfolding lowest_condemned
lowest σ hearer l =
    let n = σ (LiveCount hearer) - 1 in
    let f : ℕ → Bool = λ i. condemned σ hearer (place_vector σ hearer (1 + i)) in
    let h = first_le n f in
    record {
      pos = omega arith;
      le = omega arith;
      before = λ p p1 pk. ap (λ i. condemned σ hearer (place_vector σ hearer i)) (let e : p ≡ 1 + (p - 1) = omega arith in e) ∙ first_before n f (p - 1) (omega arith);
      hit = λ kl. first_hit n f (omega arith);
    }

-- "the highest flagged number on the chain that is at most k", x: the number of a flagged place among the first k, and no flagged
-- one of these has a higher number. (Place p has the number of the (p + 1)-th interval.)
pub record Highest (σ : State) (c k x : ℕ) : Type 0 where
  pub place : ℕ
  pub below : place < k
  pub flag_is : σ (Flag c place) ≡ 1
  pub number_is : x ≡ number_of σ c (place + 1)
  pub none_higher : (p : ℕ) → p < k → σ (Flag c p) ≡ 1 → number_of σ c (p + 1) ≤ x

-- there is only one
pub highest_only : (σ : State) (c k x y : ℕ) → Highest σ c k x → Highest σ c k y → x ≡ y
highest_only σ c k x y h g =
    omega (arith, h.number_is, g.number_is, g.none_higher h.place (omega (arith, h.below)) h.flag_is, h.none_higher g.place (omega (arith, g.below)) g.flag_is)

-- a place more, which is not flagged
highest_more : (σ : State) (c k x : ℕ) → σ (Flag c k) ≢ 1 → Highest σ c k x → Highest σ c (k + 1) x
highest_more σ c k x ne h =
    record {
      place = h.place;
      below = omega (arith, h.below);
      flag_is = h.flag_is;
      number_is = h.number_is;
      none_higher = below_more _ k h.none_higher (λ f. absurd (ne f));
    }

-- where place 0 is flagged, the rule finds it
pub highest : (σ : State) (c k : ℕ) → σ (Flag c 0) ≡ 1 → 1 ≤ k → Highest σ c k (latest_flagged σ c k)
unfolding latest_flagged
highest σ c zero f l = absurd (omega arith)
highest σ c (suc p) f l =
    cond_ind (Highest σ c (suc p)) (σ (Flag c p) == 1)
    (λ e. record {
      place = p;
      below = omega arith;
      flag_is = eqb-true _ _ e;
      number_is = refl;
      none_higher = λ q u _. omega (arith, number_from_lem σ c (q + 1), number_from_lem σ c (p + 1));
    })
    (λ e. let ne = eqb-false (σ (Flag c p)) 1 e in
    let pos : 1 ≤ p = elim (ℕ_discrete p 0) [ yes z ↦ absurd (ne (ap (λ p. σ (Flag c p)) z ∙ f)) | no z ↦ omega arith ] in
    subst (λ k. Highest σ c k (latest_flagged σ c p)) (add-one p) (highest_more σ c p _ ne (highest σ c p f pos)))

-- the latest checkpoint among the first k places has a number of theirs
pub flagged_le : (σ : State) (c k : ℕ) → latest_flagged σ c k ≤ number_of σ c k
unfolding latest_flagged
flagged_le σ c zero = zero-le
flagged_le σ c (suc p) =
    cond_ind (λ x. x ≤ number_of σ c (suc p)) (σ (Flag c p) == 1) (λ e. omega (arith, number_from_lem σ c (p + 1), number_from_lem σ c (suc p)))
    (λ e. omega (arith, flagged_le σ c p, number_from_lem σ c p, number_from_lem σ c (suc p)))

-- a pair that is not condemned is at most the end word, if there is one
pub clear_pair : (σ : State) (holder owner : ℕ) (p : Pair) → condemned_pair σ holder owner p ≡ false → σ (End holder owner (incarnation p)) ≢ 0 → number p ≤ σ (End holder owner (incarnation p))
unfolding condemned_pair
clear_pair σ holder owner p e ne = go (empty p) refl
  where
    go : (z : Bool) → empty p ≡ z → number p ≤ σ (End holder owner (incarnation p))
    go true q = omega (arith, eqb-true (number p) 0 q)
    go false q = ltb-false _ _ (rw (q, ne_eqb (σ (End holder owner (incarnation p))) 0 ne) at e)

-- "Condemned, to b: a non-empty pair (t,x) of a where b's end word for a and t isn't 0 and x exceeds it."
pub record Condemned (σ : State) (holder owner : ℕ) (p : Pair) : Type 0 where
  pub full : number p ≢ 0
  pub ended : σ (End holder owner (incarnation p)) ≢ 0
  pub above : σ (End holder owner (incarnation p)) < number p

-- that is what the test says
pub condemned_pair_lem : (σ : State) (holder owner : ℕ) (p : Pair) → condemned_pair σ holder owner p ≡ true → Condemned σ holder owner p
unfolding condemned_pair
condemned_pair_lem σ holder owner p e =
    let x = σ (End holder owner (incarnation p)) in
    let q = and_right (not (empty p)) _ e in
    record {
      full = eqb-false (number p) 0 (not-true _ (and_left (not (empty p)) _ e));
      ended = eqb-false x 0 (not-true _ (and_left (not (x == 0)) _ q));
      above = ltb-true _ _ (and_right (not (x == 0)) _ q);
    }

module _ (σ : State) (holder : ℕ) (v : Vector) where
  -- a vector that is not condemned has no such pair
  pub condemned_none : condemned σ holder v ≡ false → (owner : ℕ) → owner < controllers → condemned_pair σ holder owner (pair_of v owner) ≡ false
  unfolding condemned
  condemned_none e owner l = anyb_clear (λ (owner : ℕ). condemned_pair σ holder owner (pair_of v owner)) controllers owner e l

  -- one that is has its first: a controller,
  pub condemning_lt : condemned σ holder v ≡ true → condemning σ holder v < controllers
  unfolding condemned condemning
  condemning_lt e = first_some controllers _ e

  -- whose pair is condemned,
  pub condemning_hit : condemned σ holder v ≡ true → condemned_pair σ holder (condemning σ holder v) (pair_of v (condemning σ holder v)) ≡ true
  unfolding condemned condemning
  condemning_hit e = first_hit controllers (λ (owner : ℕ). condemned_pair σ holder owner (pair_of v owner)) (first_some controllers _ e)

  -- and no pair before it
  pub condemning_before : (owner : ℕ) → owner < condemning σ holder v → condemned_pair σ holder owner (pair_of v owner) ≡ false
  unfolding condemning
  condemning_before owner l = first_before controllers (λ (owner : ℕ). condemned_pair σ holder owner (pair_of v owner)) owner l

-- D: no "owner other than c has non-empty pairs of different incarnations in the two"
pub conflict_none : (c : ℕ) (v w : Vector) → conflict c v w ≡ false → (owner : ℕ) → owner < controllers → owner ≢ c → number (pair_of v owner) ≢ 0 → number (pair_of w owner) ≢ 0 →
    incarnation (pair_of v owner) ≡ incarnation (pair_of w owner)
unfolding conflict conflict_pair
conflict_none c v w e owner l ne p q =
    eqb-true _ _ (not-false _ (rw (ne_eqb owner c ne, ne_eqb (number (pair_of v owner)) 0 p, ne_eqb (number (pair_of w owner)) 0 q) at
    (anyb_clear (λ (owner : ℕ). conflict_pair c owner (pair_of v owner) (pair_of w owner)) controllers owner e l)))
