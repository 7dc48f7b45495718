-- The walks along a chain: up to the lowest condemned place, with the number of the latest checkpoint as a running
-- figure (H), and down to the latest checkpoint (X).
use Rattle.std.specs.Prelude.{◌≡◌, refl, Bool, true, false, List, ℕ, ◌+◌, ◌-◌, ◌≤◌, ◌<◌, length}
use Rattle.std.proofs.Math.Path.{sym}
use Rattle.std.proofs.Common.{ap, ◌∙◌, subst, add-one, arith, eq-eqb, ne_eqb}
use borrow.Author.Count.{below_more}
use Rattle.base.specs.Ranges.{first_at, first_none, anyb_at, anyb_none}
use Rattle.table.specs.Field.{State, LiveCount, Flag}
use Rattle.table.specs.Layout.{controllers, places, table_words}
use Rattle.table.specs.Words.{state}
use Rattle.table.specs.Numbering.{number_of}
use Rattle.rules.specs.Vector.{Pair, Vector, pair_of, place_vector, condemned_pair, condemned}
use Rattle.rules.specs.Shared.{latest_flagged}
use Rattle.rules.specs.Steps.{lowest_condemned}
use Rattle.laws.specs.Found.{Highest, highest, highest_only}
use Rattle.laws.specs.Chain.{Chain}

-- The walk of H along the hearer's `live` intervals has come to place p, with `flagged` as its running figure. W3: "At
-- each place the walk comes to, it is proved that no earlier place above 0 holds a condemned entry, and that the figure
-- is the highest flagged number below this place."
pub record Come (t : List ℕ) (hearer live flagged p : ℕ) : Type 0 where
  -- "no earlier place above 0 holds a condemned entry"
  pub clean : (q : ℕ) → q < p → 1 ≤ q → condemned (state t) hearer (place_vector (state t) hearer q) ≡ false
  -- "the figure is the highest flagged number below this place"
  pub figure : Highest (state t) hearer p flagged
  -- p is on the chain, or the first place past it
  pub pos : 1 ≤ p
  pub le : p ≤ live
  pub live_is : live ≡ state t (LiveCount hearer)
  pub chain : Chain (state t) hearer
  pub long : length t ≡ table_words

-- That is the number from which the rule counts what is replayed.
pub come_latest : (t : List ℕ) (hearer live flagged p : ℕ) → Come t hearer live flagged p → flagged ≡ latest_flagged (state t) hearer p
come_latest t hearer live flagged p w = highest_only (state t) hearer p flagged _ w.figure (highest (state t) hearer p w.chain.first_flag w.pos)

-- And back: where the rule's number was read, it is the highest.
come_highest : (t : List ℕ) (hearer flagged p : ℕ) → Chain (state t) hearer → 1 ≤ p → flagged ≡ latest_flagged (state t) hearer p → Highest (state t) hearer p flagged
come_highest t hearer flagged p w l e = subst (Highest (state t) hearer p) (sym e) (highest (state t) hearer p w.first_flag l)

-- at place 1, with the figure of place 0
pub come_first : (t : List ℕ) (hearer live flagged : ℕ) → length t ≡ table_words → Chain (state t) hearer → live ≡ state t (LiveCount hearer) →
    flagged ≡ latest_flagged (state t) hearer 1 → Come t hearer live flagged 1
come_first t hearer live flagged l w e f =
    record {
      clean = λ q u h. absurd (omega arith);
      figure = come_highest t hearer flagged 1 w (omega arith) f;
      pos = omega arith;
      le = omega (arith, w.live_pos);
      live_is = e;
      chain = w;
      long = l;
    }

-- past the chain, which is what the rule gives where no place is condemned
pub come_end : (t : List ℕ) (hearer live flagged p : ℕ) → Come t hearer live flagged p → live ≤ p → p ≡ lowest_condemned (state t) hearer
unfolding lowest_condemned
come_end t hearer live flagged p w l =
    let e =
    first_none (state t (LiveCount hearer) - 1) (λ (i : ℕ). condemned (state t) hearer (place_vector (state t) hearer (1 + i)))
    (λ k q. w.clean (1 + k) (omega (arith, w.live_is, w.pos)) (omega arith)) in
    omega (arith, w.live_is, w.pos, w.le)

-- At place p, which is on the chain, none of the entries of the owners before this one is condemned.
pub record Judged (t : List ℕ) (hearer live flagged p owner : ℕ) : Type 0 where
  pub come : Come t hearer live flagged p
  pub on_chain_lem : p < live
  pub bound : owner ≤ controllers
  pub none : (k : ℕ) → k < owner → condemned_pair (state t) hearer k (pair_of (place_vector (state t) hearer p) k) ≡ false

module _ (t : List ℕ) (hearer live flagged p : ℕ) where
  abbrev entries : Vector
  entries = place_vector (state t) hearer p

  -- p is a place of the table
  pub place_lt : (owner : ℕ) → Judged t hearer live flagged p owner → p < places
  place_lt owner w = omega (arith, w.on_chain_lem, w.come.live_is, w.come.chain.live_le)

  -- the entry of an owner is condemned: p is the place
  pub judged_hit : (owner : ℕ) (entry : Pair) (b : Bool) → Judged t hearer live flagged p owner → owner < controllers → entry ≡ pair_of entries owner →
      b ≡ condemned_pair (state t) hearer owner entry → b ≡ true → p ≡ lowest_condemned (state t) hearer
  unfolding lowest_condemned condemned
  judged_hit owner entry b w l e eb f =
      let here : 1 + (p - 1) ≡ p = omega (arith, w.come.pos) in
      let hit = anyb_at _ controllers owner l (ap (condemned_pair (state t) hearer owner) (sym e) ∙ sym eb ∙ f) in
      let found =
      first_at (state t (LiveCount hearer) - 1) (p - 1) (λ (i : ℕ). condemned (state t) hearer (place_vector (state t) hearer (1 + i)))
      (omega (arith, w.on_chain_lem, w.come.live_is, w.come.pos)) (λ k r. w.come.clean (1 + k) (omega arith) (omega arith))
      (subst (λ (y : ℕ). condemned (state t) hearer (place_vector (state t) hearer y) ≡ true) (sym here) hit) in
      omega (arith, w.come.pos)

  -- no entry is: on to the next place, with the figure raised by this one
  pub judged_clear : (owner raised : ℕ) → Judged t hearer live flagged p owner → controllers ≤ owner → raised ≡ latest_flagged (state t) hearer (p + 1) →
      Come t hearer live raised (p + 1)
  unfolding condemned
  judged_clear owner raised w l e =
      record {
        clean = below_more _ _ w.come.clean (λ _. anyb_none _ controllers (λ k h. w.none k (omega arith)));
        figure = come_highest t hearer raised (p + 1) w.come.chain (omega arith) e;
        pos = omega arith;
        le = omega (arith, w.on_chain_lem);
        live_is = w.come.live_is;
        chain = w.come.chain;
        long = w.come.long;
      }

-- The latest checkpoint of no place, of places whose last one, q, is flagged, and of places whose last one isn't.
pub flagged_none : (σ : State) (c : ℕ) → 0 ≡ latest_flagged σ c 0
unfolding latest_flagged
flagged_none σ c = refl

pub flagged_here : (σ : State) (c p q : ℕ) → p ≡ q + 1 → σ (Flag c q) ≡ 1 → number_of σ c p ≡ latest_flagged σ c p
unfolding latest_flagged
flagged_here σ c p q e f = ap (number_of σ c) e ∙ sym (ap (latest_flagged σ c) (e ∙ add-one q) ∙ rw (eq-eqb (σ (Flag c q)) 1 f))

pub flagged_below : (σ : State) (c p q : ℕ) → p ≡ q + 1 → (σ (Flag c q) ≡ 1 → ⊥) → latest_flagged σ c q ≡ latest_flagged σ c p
unfolding latest_flagged
flagged_below σ c p q e f = sym (ap (latest_flagged σ c) (e ∙ add-one q) ∙ rw (ne_eqb (σ (Flag c q)) 1 f))
