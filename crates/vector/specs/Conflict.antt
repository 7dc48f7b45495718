-- A conflict with the vector of a place, as a loop over the owners finds it.
use Rattle.std.specs.Prelude.{◌≡◌, Bool, true, false, ℕ, ◌<◌}
use Rattle.std.proofs.Math.Path.{sym, ap}
use Rattle.std.proofs.Common.{◌∙◌, eq-eqb}
use Rattle.std.proofs.Math.Bool.{and-false}
use mathlib.Core.List.{[]}
use Rattle.base.specs.Ranges.{anyb_at, anyb_none}
use Rattle.base.specs.Lists.{get_d_tab}
use Rattle.table.specs.Field.{State}
use Rattle.table.specs.Layout.{controllers}
use Rattle.rules.specs.Vector.{Pair, Vector, number, pair_of, place_vector, filter_pair, filtered, conflict_pair, conflict}

-- an empty pair conflicts with none
pub conflict_empty : (c owner : ℕ) (p q : Pair) → number q ≡ 0 → false ≡ conflict_pair c owner p q
unfolding conflict_pair
conflict_empty c owner p q e = sym (rw (eq-eqb (number q) 0 e, and-false, and-false))

-- x is the pair at the place, and y that pair filtered
pub pair_conflict : (σ : State) (c p owner : ℕ) (q x y : Pair) (b : Bool) → x ≡ pair_of (place_vector σ c p) owner → y ≡ filter_pair σ c owner x → b ≡ conflict_pair c owner y q →
    b ≡ conflict_pair c owner (filter_pair σ c owner (pair_of (place_vector σ c p) owner)) q
pair_conflict σ c p owner q x y b xe ye be = be ∙ ap (λ y. conflict_pair c owner y q) (ye ∙ ap (filter_pair σ c owner) xe)

module _ (σ : State) (c p : ℕ) (w : Vector) where
  -- the filtered pair of an owner against that of w
  abbrev pub at : ℕ → Bool
  at owner = conflict_pair c owner (filter_pair σ c owner (pair_of (place_vector σ c p) owner)) (pair_of w owner)

  same_pair : (owner : ℕ) → owner < controllers → conflict_pair c owner (pair_of (filtered σ c (place_vector σ c p)) owner) (pair_of w owner) ≡ at owner
  unfolding filtered
  same_pair owner l = ap (λ q. conflict_pair c owner q (pair_of w owner)) (get_d_tab controllers _ owner [] l)

  -- one does
  pub conflict_one : (owner : ℕ) (x : Bool) → owner < controllers → x ≡ at owner → x ≡ true → true ≡ conflict c (filtered σ c (place_vector σ c p)) w
  unfolding conflict
  conflict_one owner x l e h = sym (anyb_at _ controllers owner l (same_pair owner l ∙ sym e ∙ h))

  -- none does
  pub conflict_none : ((owner : ℕ) → owner < controllers → at owner ≡ false) → false ≡ conflict c (filtered σ c (place_vector σ c p)) w
  unfolding conflict
  conflict_none none = sym (anyb_none _ controllers (λ owner l. same_pair owner l ∙ none owner l))
