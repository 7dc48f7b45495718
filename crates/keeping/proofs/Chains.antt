-- A chain that gets a new interval keeps the form: the interval that a delivery begins, and the one of a start anew.
use Rattle.std.specs.Prelude.{◌≡◌, Bool, true, false, List, length, set}
use Rattle.std.proofs.Math.Path.{refl, subst}
use Rattle.std.proofs.Common.{sym, ap, ◌∙◌, true≢false, arith, eqb-true, eq-eqb, ne_eqb, ◌==◌}
use Prim.Native.Nat.{ℕ, ◌+◌, ◌-◌, ◌≤◌, ◌<◌}
use Rattle.base.specs.Choice.{le?}
use Rattle.table.specs.Field.{Field, State, OfHead, OfController, Known, End, OfPlace, OfMessage, Size, Incarnation, LiveCount, StableCount, Receiver, desk, same}
use Rattle.table.specs.Change.{put, put_same, put_other, put_part, clear_places, clear_ind, differs}
use Rattle.table.specs.Layout.{controllers, place_words}
use Rattle.table.specs.Numbering.{number_of, used, last_given, Numbered, numbering}
use Rattle.table.proofs.Numbering.{numbers_kept, number_from_lem}
use Rattle.rules.specs.Limits.{Limits, last_incarnation}
use Rattle.rules.specs.Vector.{Vector, pair, place_vector, filtered}
use Rattle.rules.specs.Form.{state_delivered, state_ok, vector_ok, controller_ok, place_ok, in_form}
use Rattle.rules.specs.Shared.{place_record, new_vector, placed, entered, restarted}
use Rattle.rules.specs.Steps.{interval_added}
use Rattle.laws.specs.Facts.{Form, form, ControllerForm, below_8, controller_form, place_form, no_place_lem}
use Rattle.laws.specs.Allowed.{Room}
use Rattle.laws.specs.Records.{part_at, part_other, clear_kept, length_place_record, length_filtered}
use Rattle.keeping.specs.Untouched.{ok_at, Tested, home, form_changed}
use Rattle.keeping.specs.InRange.{pair_ok_lem, filtered_ok, set_ok, controller_ok_lem, free_ok, place_again, place_new}
use Rattle.keeping.proofs.Changes.{kept_word}
use Rattle.keeping.proofs.Messages.{kept_state}

-- the words of controller c and of its places
abbrev pub of_chain : ℕ → Field → Bool
of_chain c (OfHead k) = false
of_chain c (OfController a k) = a == c
of_chain c (Known holder owner i) = false
of_chain c (End holder owner i) = false
of_chain c (OfPlace a p k) = a == c
of_chain c (OfMessage r k) = false

-- The chain of c ends with the interval in place k: the places below it stay, those above it are 0, and no word of anything else changes.
pub record Renewed (L : Limits) (σ τ : State) (c k : ℕ) : Type 0 where
  pub others : (g : Field) → of_chain c g ≡ false → τ g ≡ σ g
  pub kept : (p w : ℕ) → p < k → τ (OfPlace c p w) ≡ σ (OfPlace c p w)
  pub freed : (p w : ℕ) → k < p → p < L.places → w < place_words → τ (OfPlace c p w) ≡ 0
  pub below : k ≤ σ (LiveCount c)
  pub live : τ (LiveCount c) ≡ k + 1
  pub controller : controller_ok L (σ Size) τ c ≡ true
  pub place : place_ok L (σ Size) τ c k ≡ true

-- numbers are in the head
chain_numbers : (σ τ : State) (c : ℕ) → ((g : Field) → of_chain c g ≡ false → τ g ≡ σ g) → (g : Field) → numbering g ≡ true → τ g ≡ σ g
chain_numbers σ τ c h (OfHead k) e = h (OfHead k) refl
chain_numbers σ τ c h (OfController a k) e = absurd (true≢false (sym e))
chain_numbers σ τ c h (Known holder owner i) e = absurd (true≢false (sym e))
chain_numbers σ τ c h (End holder owner i) e = absurd (true≢false (sym e))
chain_numbers σ τ c h (OfPlace a p k) e = absurd (true≢false (sym e))
chain_numbers σ τ c h (OfMessage r k) e = absurd (true≢false (sym e))

pub kept_chain : (L : Limits) (σ τ : State) (c k : ℕ) → c < σ Size → Renewed L σ τ c k → in_form L σ ≡ true → in_form L τ ≡ true
unfolding ok_at
kept_chain L σ τ c k h w e =
    form_changed L σ τ (of_chain c)
    (record {
      size = size;
      numbers = m;
      others = others;
      live = λ a p q. w.others (LiveCount a) q;
      passes = passes;
    }) e
  where
    f : Form L σ
    f = form L σ e

    m : Numbered τ σ
    m = numbers_kept τ σ (chain_numbers σ τ c w.others)

    size : τ Size ≡ σ Size
    size = w.others Size refl

    others : (g : Field) → of_chain c (home g) ≡ false → τ g ≡ σ g
    others (OfHead j) q = w.others (OfHead j) q
    others (OfController a j) q = w.others (OfController a j) q
    others (Known holder owner j) q = w.others (Known holder owner j) q
    others (End holder owner j) q = w.others (End holder owner j) q
    others (OfPlace a p j) q = w.others (OfPlace a p j) q
    others (OfMessage r j) q = w.others (OfMessage r j) q

    -- each place of c
    places : (p : ℕ) → p < L.places → place_ok L (σ Size) τ c p ≡ true
    places p pl =
        le? (p + 1) k
        (λ l. place_again L σ τ c p (place_form f c p h (omega (arith, w.below))) (omega (arith, w.live)) (m.number c (p + 1)) (omega (arith, m.last)) (λ j. w.kept p j (omega arith)))
        (λ l. le? (k + 1) p (λ u. free_ok L (σ Size) τ c p (omega (arith, w.live)) (λ j jl. w.freed p j (omega arith) pl jl))
        (λ u. let z : k ≡ p = omega arith in subst (λ p. place_ok L (σ Size) τ c p ≡ true) z w.place))

    passes : (g : Field) → Tested L g → of_chain c (home g) ≡ true → ok_at L (τ Size) τ g ≡ true
    passes (OfHead j) t q = absurd (true≢false (sym q))
    passes (OfController a j) t q = (λ d. controller_ok L (size d) τ (eqb-true a c q d)) ∙ w.controller
    passes (Known holder owner j) t q = absurd (true≢false (sym q))
    passes (End holder owner j) t q = absurd (true≢false (sym q))
    passes (OfPlace a p j) t q = (λ d. place_ok L (size d) τ (eqb-true a c q d) p) ∙ places p t.1
    passes (OfMessage r j) t q = absurd (true≢false (sym q))

-- a delivery's chain, and that of a start, both before a word of anything else is written
abbrev added : State → ℕ → ℕ → Vector → State
added σ c m v =
    let live = σ (LiveCount c) in
    let i = σ (Incarnation c) in
    let x = number_of σ c (live + 1) in
    put (put_part σ (OfPlace c live 0) 0 (place_record i x m 0 (set v c (pair i x)))) (LiveCount c) (live + 1)

abbrev anew : State → ℕ → ℕ → State
anew σ c k =
    let i = σ (Incarnation c) + 1 in
    put (put (put (placed σ c k i (number_of σ c (k + 1)) (new_vector σ c k)) (Incarnation c) i) (LiveCount c) (k + 1)) (StableCount c) (k + 1)

module _ (L : Limits) (σ : State) (e : in_form L σ ≡ true) where
  abbrev facts : Form L σ
  facts = form L σ e

  -- D: "a new interval begins with cause m and flag 0", in the first free place
  renewed_added : (c m : ℕ) (v : Vector) → c < σ Size → Room L σ c (σ (LiveCount c)) → m ≤ last_given σ → length v ≡ controllers → vector_ok L (σ Size) v ≡ true →
      Renewed L σ (added σ c m v) c (σ (LiveCount c))
  unfolding put same put_part
  renewed_added c m v h room given long ok =
      record {
        others = others;
        kept = λ p w l. part_other σ (OfPlace c live 0) (OfPlace c p w) 0 words (λ j _ q. let z : p ≡ live = cc in omega arith);
        freed = λ p w l pl wl. part_other σ (OfPlace c live 0) (OfPlace c p w) 0 words (λ j _ q. let z : p ≡ live = cc in omega arith)
            ∙ no_place_lem facts c p w (below_8 facts c h) pl (omega arith) wl;
        below = omega arith;
        live = count;
        controller =
            controller_ok_lem L (σ Size) τ c h k.degree_le k.incarnation_le (omega (arith, count)) (omega (arith, count, room.place_lt)) k.stable_pos (omega (arith, count, k.stable_le));
        place =
            place_new L (σ Size) τ c live i x m 0 (set v c (pair i x))
            (λ j l. part_at σ (OfPlace c live 0) 0 words j j (subst (λ n. j < n) (sym (length_place_record i x m 0 (set v c (pair i x)))) l) (omega arith))
            (omega (arith, count)) k.incarnation_le (sym (numbers.number c (live + 1))) (omega (arith, numbers.last)) (omega arith) (λ z. absurd (omega (arith, k.live_pos)))
            (set_ok L (σ Size) v c (pair i x) ok (omega (arith, below_8 facts c h))
            (pair_ok_lem L (σ Size) c i x h k.incarnation_le (omega (arith, number_from_lem σ c (live + 1))) room.number_le));
      }
    where
      live : ℕ
      live = σ (LiveCount c)

      i : ℕ
      i = σ (Incarnation c)

      x : ℕ
      x = number_of σ c (live + 1)

      words : List ℕ
      words = place_record i x m 0 (set v c (pair i x))

      ρ : State
      ρ = put_part σ (OfPlace c live 0) 0 words

      τ : State
      τ = put ρ (LiveCount c) (live + 1)

      k : ControllerForm L σ c
      k = controller_form facts c h

      count : τ (LiveCount c) ≡ live + 1
      count = put_same ρ (LiveCount c) (live + 1)

      own : (c == c) ≡ true
      own = eq-eqb c c refl

      others : (g : Field) → of_chain c g ≡ false → τ g ≡ σ g
      others g q =
          put_other ρ (LiveCount c) g (live + 1) (differs (of_chain c) (LiveCount c) g own q) ∙ part_other σ (OfPlace c live 0) g 0 words (λ j _. differs (of_chain c) (OfPlace c live (0 + j)) g own q)

      numbers : Numbered τ σ
      numbers = numbers_kept τ σ (chain_numbers σ τ c others)

  -- its message is then delivered
  pub kept_added : (c m r : ℕ) (v : Vector) → c < σ Size → Room L σ c (σ (LiveCount c)) → m ≤ last_given σ → r < used σ → σ (Receiver r) ≡ c → length v ≡ controllers →
      vector_ok L (σ Size) v ≡ true → in_form L (interval_added σ c m r v) ≡ true
  unfolding interval_added put same put_part state_ok
  kept_added c m r v h room given l to long ok =
      let w = renewed_added c m v h room given long ok in
      let τ = added σ c m v in
      kept_state L τ r state_delivered (subst (λ n. r < n) (sym (numbers_kept τ σ (chain_numbers σ τ c w.others)).used_same) l)
      (ap (λ b. state_ok b state_delivered) (ne_eqb (σ (Receiver r)) desk (λ z. omega (arith, facts.size_le)))) (kept_chain L σ τ c (σ (LiveCount c)) h w e)

  -- "Starting anew at c after kept number k"
  renewed_anew : (c k : ℕ) → c < σ Size → 1 ≤ k → k ≤ σ (LiveCount c) → Room L σ c k → σ (Incarnation c) < last_incarnation → Renewed L σ (anew σ c k) c k
  unfolding placed put same put_part new_vector clear_places
  renewed_anew c k h k1 kl room il =
      record {
        others = others;
        kept = λ p w l. outside p w (omega arith) ∙ clear_kept σ c k (σ (LiveCount c)) p w l;
        freed = λ p w l pl wl. outside p w (omega arith) ∙ cleared p w l pl wl;
        below = kl;
        live = count;
        controller =
            controller_ok_lem L (σ Size) τ c h q.degree_le (omega (arith, put_same ρ (Incarnation c) i)) (omega (arith, count)) (omega (arith, count, room.place_lt)) (omega (arith, stable))
            (omega (arith, count, stable));
        place =
            place_new L (σ Size) τ c k i x 0 0 (new_vector σ c k)
            (λ j l. part_at freed (OfPlace c k 0) 0 words j j (subst (λ n. j < n) (sym (length_place_record i x 0 0 (new_vector σ c k))) l) (omega arith))
            (omega (arith, count)) (omega arith) (sym (numbers.number c (k + 1))) (omega arith) (omega arith) (λ z. absurd (omega arith))
            (set_ok L (σ Size) (filtered σ c (place_vector σ c (k - 1))) c (pair i x) (filtered_ok L (σ Size) σ c _ (place_form facts c (k - 1) h (omega arith)).vector_ok_lem)
            (omega (arith, below_8 facts c h, length_filtered σ c (place_vector σ c (k - 1))))
            (pair_ok_lem L (σ Size) c i x h (omega arith) (omega (arith, number_from_lem σ c (k + 1))) room.number_le));
      }
    where
      i : ℕ
      i = σ (Incarnation c) + 1

      x : ℕ
      x = number_of σ c (k + 1)

      words : List ℕ
      words = place_record i x 0 0 (new_vector σ c k)

      freed : State
      freed = clear_places σ c k (σ (LiveCount c))

      ρ : State
      ρ = put_part freed (OfPlace c k 0) 0 words

      τ : State
      τ = anew σ c k

      q : ControllerForm L σ c
      q = controller_form facts c h

      count : τ (LiveCount c) ≡ k + 1
      count = put_same (put ρ (Incarnation c) i) (LiveCount c) (k + 1)

      stable : τ (StableCount c) ≡ k + 1
      stable = put_same (put (put ρ (Incarnation c) i) (LiveCount c) (k + 1)) (StableCount c) (k + 1)

      own : (c == c) ≡ true
      own = eq-eqb c c refl

      others : (g : Field) → of_chain c g ≡ false → τ g ≡ σ g
      others g n =
          put_other (put (put ρ (Incarnation c) i) (LiveCount c) (k + 1)) (StableCount c) g (k + 1) (differs (of_chain c) (StableCount c) g own n)
          ∙ put_other (put ρ (Incarnation c) i) (LiveCount c) g (k + 1) (differs (of_chain c) (LiveCount c) g own n) ∙ put_other ρ (Incarnation c) g i (differs (of_chain c) (Incarnation c) g own n)
          ∙ part_other freed (OfPlace c k 0) g 0 words (λ j _. differs (of_chain c) (OfPlace c k (0 + j)) g own n)
          ∙ clear_ind (λ g y. of_chain c g ≡ false → y ≡ σ g) σ c k (σ (LiveCount c)) (λ y w _ _ n. absurd (true≢false (sym own ∙ n))) (λ g _ _. refl) g n

      numbers : Numbered τ σ
      numbers = numbers_kept τ σ (chain_numbers σ τ c others)

      -- the other places
      outside : (p w : ℕ) → (p ≡ k → ⊥) → τ (OfPlace c p w) ≡ freed (OfPlace c p w)
      outside p w ne = part_other freed (OfPlace c k 0) (OfPlace c p w) 0 words (λ j _ z. ne (cc))

      cleared : (p w : ℕ) → k < p → p < L.places → w < place_words → freed (OfPlace c p w) ≡ 0
      cleared p w l pl wl =
          clear_ind (λ g y. g ≡ OfPlace c p w → y ≡ 0) σ c k (σ (LiveCount c)) (λ y j _ _ _. refl)
          (λ g n z. le? (p + 1) (σ (LiveCount c)) (λ u. absurd (n p w (omega arith) (omega arith) z)) (λ u. ap σ z ∙ no_place_lem facts c p w (below_8 facts c h) pl (omega arith) wl))
          (OfPlace c p w) refl

  pub kept_restarted : (c k : ℕ) → c < σ Size → 1 ≤ k → k ≤ σ (LiveCount c) → Room L σ c k → σ (Incarnation c) < last_incarnation → in_form L (restarted σ c k) ≡ true
  unfolding restarted entered
  kept_restarted c k h k1 kl room il =
      let w = renewed_anew c k h k1 kl room il in
      let there = subst (λ n. c < n) (sym (w.others Size refl)) h in
      kept_word L (anew σ c k) c c there there (Known c c _) _ refl refl room.number_le (kept_chain L σ (anew σ c k) c k h w e)
