-- The tests of deliveries, releases and hearings, in terms of the model.
use Rattle.std.specs.Prelude.{◌≡◌, true, false, ℕ, ◌+◌, ◌≤◌, ◌<◌, length}
use Rattle.std.proofs.Common.{sym, ap, ◌∙◌, subst, arith}
use Rattle.base.specs.Choice.{le?}
use Rattle.table.specs.Field.{State, End, Size, LiveCount, Sender, same}
use Rattle.table.specs.Change.{put}
use Rattle.table.specs.Layout.{controllers}
use Rattle.table.specs.Numbering.{number_of, last_live, place_of, used, record_of, Numbered}
use Rattle.table.proofs.Numbering.{number_from_lem, place_lt, place_next, place_ge}
use Rattle.rules.specs.Limits.{Limits}
use Rattle.rules.specs.Vector.{Vector, incarnation, pair_of, place_vector, message_vector, filtered, condemned_pair, condemned, condemning, conflict}
use Rattle.rules.specs.Steps.{noted, lowest_condemned}
use Rattle.history.specs.History.{Interval}
use Rattle.model.specs.Model.{Pair, Controller, released_vec, filtered as filtered_for}
use Rattle.model.specs.Vectors.{CondemnedBy, Condemned, LowestOwner}
use Rattle.model.proofs.Vectors.{full_pos}
use Rattle.model.specs.Beginning.{Compatible}
use Rattle.model.proofs.Recovery.{NoneCondemned, LowestCondemned}
use Rattle.laws.specs.Facts.{VectorForm, Form, controller_form, place_form, message_form, number_is}
use Rattle.laws.specs.Found.{Lowest, lowest, clear_pair, condemned_pair_lem, condemned_none, condemning_lt, condemning_hit, condemning_before, conflict_none}
use Rattle.image.specs.Image.{vec_of, image, controller_is}
use Rattle.image.specs.Vectors.{past, length_place, length_message, filter_vec}
use Rattle.image.specs.Reads.{live_is, ends_is, vec_is, from_is, message_vec_is}

module _ (σ : State) (holder : ℕ) (hl : holder < controllers) (v : Vector) {L : Limits} {n : ℕ} (form : VectorForm L n v) (long : length v ≡ controllers) where
  -- the end word that the holder has for an owner's pair
  end_of : (owner : ℕ) → owner < controllers → ((image σ).controller holder).ends owner (vec_of v owner).incarnation ≡ σ (End holder owner (incarnation (pair_of v owner)))
  end_of owner l = ends_is σ holder hl owner (incarnation (pair_of v owner)) l (form.near owner l)

  -- a pair that is not condemned
  spared_pair : (owner : ℕ) → (owner < controllers → condemned_pair σ holder owner (pair_of v owner) ≡ false) →
      CondemnedBy n ((image σ).controller holder) (vec_of v) owner → ⊥
  spared_pair owner e z =
      let p = z.ended in
      let u = z.above in
      le? (owner + 1) controllers
      (λ l. let q = end_of owner (omega arith) in
      let h = clear_pair σ holder owner (pair_of v owner) (e (omega arith)) (λ y. omega arith) in omega arith)
      (λ l. let y : (vec_of v owner).number ≡ 0 = ap (λ (p : Pair). p.number) (past v owner (omega arith)) in omega arith)

  -- a vector that is not condemned
  pub spared : condemned σ holder v ≡ false → Condemned n ((image σ).controller holder) (vec_of v) → ⊥
  spared e z = spared_pair z.owner (condemned_none σ holder v e z.owner) z.by

  -- a condemned vector, with the lowest owner whose pair is
  pub condemned_for : condemned σ holder v ≡ true → LowestOwner n ((image σ).controller holder) (vec_of v) (condemning σ holder v)
  condemned_for e =
      let owner = condemning σ holder v in
      let l = condemning_lt σ holder v e in
      let s = condemned_pair_lem σ holder owner (pair_of v owner) (condemning_hit σ holder v e) in
      let q = end_of owner l in
      let ended = s.ended in
      record {
        by = record {
          below = le? n owner (λ beyond. absurd (s.full (form.beyond_number owner l beyond))) (λ below. below);
          ended = omega arith;
          above = omega (arith, s.above);
        };
        none_lower = λ a lower. spared_pair a (λ _. condemning_before σ holder v a lower);
      }

  pub condemned_model : condemned σ holder v ≡ true → Condemned n ((image σ).controller holder) (vec_of v)
  condemned_model e = record { owner = condemning σ holder v; by = (condemned_for e).by }

  -- "Filtering a vector for b"
  pub filtered_is : vec_of (filtered σ holder v) ≡ filtered_for ((image σ).controller holder) (vec_of v)
  filtered_is = filter_vec σ holder v long form.near ∙ ap (λ (k : Controller). filtered_for k (vec_of v)) (sym (controller_is σ holder hl))

-- D: a delivery that does not wait
pub compatible : (n c : ℕ) (v w : Vector) → n ≤ controllers → conflict c v w ≡ false → Compatible n c (vec_of v) (vec_of w)
compatible n c v w nl e owner l ne p q =
    let x = full_pos (vec_of v owner) p in
    let y = full_pos (vec_of w owner) q in
    conflict_none c v w e owner (omega arith) ne (λ z. omega arith) (λ z. omega arith)

-- R: the vector whose mask is given is the model's
pub released_is : {L : Limits} (σ : State) → Form L σ → (m : ℕ) → record_of σ m < used σ →
    let r = record_of σ m in
    vec_of (filtered σ (σ (Sender r)) (message_vector σ r)) ≡ released_vec (image σ) m
unfolding released_vec
released_is σ f m l =
    let r = record_of σ m in
    let g = message_form f r l in
    let s = ap (λ (x : Interval). x.owner) (from_is σ m l) in
    filtered_is σ (σ (Sender r)) (omega arith) (message_vector σ r) g.vector (length_message σ r)
    ∙ (λ d. filtered_for ((image σ).controller (sym s d)) (sym (message_vec_is σ m l) d))

-- a chain whose vectors can be looked at
pub record Sound (L : Limits) (σ : State) (c : ℕ) : Type 0 where
  pub named : c < controllers
  pub live_pos : 1 ≤ σ (LiveCount c)
  pub vector : (p : ℕ) → p < σ (LiveCount c) → VectorForm L (σ Size) (place_vector σ c p)

-- in form, every controller of the house has one
pub sound : {L : Limits} (σ : State) → Form L σ → (c : ℕ) → c < σ Size → Sound L σ c
sound σ f c h = record { named = omega (arith, f.size_le); live_pos = (controller_form f c h).live_pos; vector = λ p l. (place_form f c p h l).vector }

-- and a crash noted leaves it
pub sound_noted : {L : Limits} (σ : State) (hearer owner i c : ℕ) → Sound L σ c → Sound L (noted σ hearer owner i) c
unfolding noted put same place_vector
sound_noted σ hearer owner i c s = record { named = s.named; live_pos = s.live_pos; vector = s.vector }

module _ {L : Limits} (σ : State) (c : ℕ) (s : Sound L σ c) (x : ℕ) (x1 : 1 ≤ x) (xl : x ≤ last_live σ c) where
  -- the place of number x, which is live
  abbrev p : ℕ
  p = place_of σ c x

  form : VectorForm L (σ Size) (place_vector σ c p)
  form = s.vector p (place_lt σ c (σ (LiveCount c)) x s.live_pos xl)

  -- its vector
  place_is : vec_of (place_vector σ c p) ≡ ((image σ).controller c).vec x
  place_is = sym (vec_is σ c s.named x x1 xl)

  -- number x is not condemned
  spared_number : condemned σ c (place_vector σ c p) ≡ false → Condemned (σ Size) ((image σ).controller c) (((image σ).controller c).vec x) → ⊥
  spared_number e =
      subst (λ w. Condemned (σ Size) ((image σ).controller c) w → ⊥) place_is (spared σ c s.named (place_vector σ c p) form (length_place σ c p) e)

  -- number x is condemned
  condemned_number : condemned σ c (place_vector σ c p) ≡ true → Condemned (σ Size) ((image σ).controller c) (((image σ).controller c).vec x)
  condemned_number e =
      subst (Condemned (σ Size) ((image σ).controller c)) place_is (condemned_model σ c s.named (place_vector σ c p) form (length_place σ c p) e)

  -- the vector of number x, filtered for its controller
  pub filtered_number : vec_of (filtered σ c (place_vector σ c p)) ≡ filtered_for ((image σ).controller c) (((image σ).controller c).vec x)
  filtered_number = filtered_is σ c s.named (place_vector σ c p) form (length_place σ c p) ∙ ap (filtered_for ((image σ).controller c)) place_is

-- A house whose numbers are counts: nothing was discarded. The search for a condemned place begins above place 0, so that number 2
-- must not stand there.
pub record Fresh (σ : State) : Type 0 where
  pub count : (c k : ℕ) → c < controllers → number_of σ c k ≡ k

-- a state in form is one: words 3 to 10 are 0
pub fresh : {L : Limits} {σ : State} → Form L σ → Fresh σ
fresh f = record { count = λ c k _. number_is f c k }

-- and so is what a change leaves that numbers alike
pub fresh_kept : (σ τ : State) → Numbered τ σ → Fresh σ → Fresh τ
fresh_kept σ τ n z = record { count = λ c k cl. n.number c k ∙ z.count c k cl }

-- H: what the search for the lowest condemned place finds
module _ {L : Limits} (σ : State) (hearer : ℕ) (s : Sound L σ hearer) (z : Fresh σ) where
  -- its parts, with the live count of the table
  found : Lowest σ hearer (lowest_condemned σ hearer)
  found = lowest σ hearer s.live_pos

  -- how many intervals are kept, and the highest number of them
  abbrev k : ℕ
  k = lowest_condemned σ hearer

  abbrev kept : ℕ
  kept = number_of σ hearer k

  -- the numbers up to it are not condemned
  none_before : (x : ℕ) → 2 ≤ x → x ≤ kept → Condemned (σ Size) ((image σ).controller hearer) (((image σ).controller hearer).vec x) → ⊥
  none_before x p q =
      let le = found.le in
      let second = z.count hearer 2 s.named in
      spared_number σ hearer s x (omega arith) (omega (arith, number_from_lem σ hearer k, number_from_lem σ hearer (σ (LiveCount hearer))))
      (found.before (place_of σ hearer x) (place_ge σ hearer 1 x (omega arith)) (place_lt σ hearer k x found.pos q))

  -- there is none
  pub none_condemned : σ (LiveCount hearer) ≤ k → NoneCondemned (σ Size) ((image σ).controller hearer)
  none_condemned l =
      let live = live_is σ hearer s.named in
      record { none = λ x p q. none_before x p (omega (arith, number_from_lem σ hearer k, number_from_lem σ hearer (σ (LiveCount hearer)))) }

  -- there is one
  pub lowest_condemned_lem : k < σ (LiveCount hearer) → LowestCondemned (σ Size) ((image σ).controller hearer) kept
  lowest_condemned_lem l =
      let live = live_is σ hearer s.named in
      let from = number_from_lem σ hearer k in
      let top = number_from_lem σ hearer (σ (LiveCount hearer)) in
      let pos = found.pos in
      record {
        pos = omega arith;
        below = omega arith;
        condemned =
            condemned_number σ hearer s (kept + 1) (omega arith) (omega arith) (ap (λ p. condemned σ hearer (place_vector σ hearer p)) (place_next σ hearer k) ∙ found.hit l);
        lowest = none_before;
      }
