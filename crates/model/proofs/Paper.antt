-- Lemmas and theorems of the paper on K-optimistic logging, as consequences of the invariant. A state interval s happened before u
-- where u rests on s, every interval on itself; an orphan rests on a lost one. An interval is told by its controller, incarnation and
-- number, and its vector has no entry for what was known to be stable.
use Rattle.std.specs.Prelude.{◌≡◌, refl, false, ◌↔◌, ℕ, ◌≤◌, ◌<◌}
use Rattle.std.proofs.Common.{sym, ◌∙◌, ap, subst, ⊎_elim, arith}
use Rattle.base.specs.Choice.{le?}
use Rattle.history.specs.History.{Interval, interval, History, member}
use Rattle.history.specs.Demand.{RestsOnLost}
use Rattle.history.specs.Progress.{Orphan}
use Rattle.model.specs.Model.{interval_of, Vec, Model, full}
use Rattle.model.specs.Tests.{Is}
use Rattle.model.proofs.Tests.{contrary, passes}
use Rattle.model.proofs.Chain.{OnChain}
use Rattle.model.proofs.Invariant.{Covers, Tracks, Inv, spoilt_up}
use Rattle.model.specs.Vectors.{Condemned}
use Rattle.model.proofs.Vectors.{pos_full, condemned_spoilt, spoilt_condemned}
use Rattle.model.proofs.Consequences.{spoilt_orphan, orphan_up, on_chain_lem, live_begun, live_clean, live_or_lost}

-- "useful states (neither lost nor orphan)": y was begun and rests on no lost interval (it rests on itself)
pub record Useful (h : History) (y : Interval) : Type 0 where
  pub begun : Is (h.begun y)
  pub sure : Orphan h y → ⊥

-- the vector of a live interval
abbrev pub vector_of : Model → Interval → Vec
vector_of μ y = (μ.controller y.owner).vec y.number

module _ {n : ℕ} {μ : Model} {h : History} (v : Inv n μ h) where
  -- two live intervals of controller c
  module _ (c : ℕ) (below : c < n) (s u : Interval) (live_s : Is (member s (h.chain c))) (live_u : Is (member u (h.chain c))) where
    -- s by its number
    of_s : OnChain c (μ.controller c).begun_in (μ.controller c).live s
    of_s = on_chain_lem v c below s live_s

    -- u by its number
    of_u : OnChain c (μ.controller c).begun_in (μ.controller c).live u
    of_u = on_chain_lem v c below u live_u

    -- "Observation A.1. Different states of the same process have different entries." Live ones even have different numbers.
    pub observation_A_1 : s.number ≡ u.number → s ≡ u
    observation_A_1 e = of_s.is ∙ ap (λ x. interval c ((μ.controller c).begun_in x) x) e ∙ sym of_u.is

    -- the one with the higher number rests on the other
    rests_lower : s.number ≤ u.number → Is (h.rests u s)
    rests_lower l = rw (of_s.is, of_u.is) ((v.controller_ok_lem c below).body.rests_below s.number u.number of_s.pos l of_u.top)

    -- what a stable one rests on is stable
    stable_lower : Is (h.stable u) → Is (h.rests u s) → Is (h.stable s)
    stable_lower z r =
        let body = (v.controller_ok_lem c below).body in
        let lower = body.rests_order s.number u.number of_s.pos of_s.top of_u.pos of_u.top (rw (of_s.is, of_u.is) at r) in
        let upto = body.stable_only u.number of_u.pos of_u.top (rw of_u.is at z) in
        rw of_s.is (body.stable_upto s.number of_s.pos (omega arith))

  -- "Lemma A.2. knows_stable(s, e, j) ⇒ stable(get_state(j, e))." The known word of b for incarnation i of a reaches number x.
  pub lemma_A_2 : (b a i x : ℕ) → b < n → Is (h.begun (interval a i x)) → x ≤ (μ.controller b).known a i → Is (h.stable (interval a i x))
  lemma_A_2 b a i x below = (v.controller_ok_lem b below).knows.known_stable_lem a i x

  -- "Theorem 2. With transitive dependency tracking, announcing only failures (instead of all rollbacks) is sufficient for orphan
  -- detection." What rests on an interval z that was lost or undone rests on one that was lost.
  pub theorem_2 : (u z : Interval) → Is (h.begun u) → Is (h.rests u z) → member z (h.chain z.owner) ≡ false → Orphan h u
  theorem_2 u z b r gone =
      let order = v.history in
      let begun = order.rests_begun u z b r in
      ⊎_elim (λ m. contrary m gone)
      (λ l. orphan_up order b r (spoilt_orphan l))
      (live_or_lost v z.owner (order.owner_below z begun) z refl begun)

  -- a vector that tracks an interval tells b just whether it rests on one lost in a crash that b has heard
  tells : (b : ℕ) → b < n → (w : Vec) (y : Interval) → Is (h.begun y) → Tracks h w y → Condemned n (μ.controller b) w ↔ RestsOnLost h h b y
  tells b hearer w y z o = (
    condemned_spoilt {controller = μ.controller} v.history v.controller_ok_lem v.agree hearer w y z o,
    spoilt_condemned {controller = μ.controller} v.history v.controller_ok_lem v.agree hearer w y z o,
  )

  -- a live interval u
  module _ (u : Interval) (below : u.owner < n) (live : Is (member u (h.chain u.owner))) where
    -- it is begun
    begun : Is (h.begun u)
    begun = live_begun v u.owner below u live

    -- and its vector tracks it
    tracked : Tracks h (vector_of μ u) u
    tracked =
        let o = on_chain_lem v u.owner below u live in
        subst (Tracks h (vector_of μ u)) (sym o.is) ((v.controller_ok_lem u.owner below).body.tracked u.number o.pos o.top)

    -- "Lemma A.1. (s → w ∧ s.p = w.p ∧ stable(w)) ⇒ stable(s)." Here of a live w.
    pub lemma_A_1 : (s : Interval) → Is (h.stable u) → Is (h.rests u s) → s.owner ≡ u.owner → Is (h.stable s)
    lemma_A_1 s z r e =
        ⊎_elim (λ m. stable_lower u.owner below s u m live z r)
        (λ l. absurd (live_clean v u.owner below u live (spoilt_up v.history begun r l)))
        (live_or_lost v u.owner below s e (v.history.rests_begun u s begun r))

    -- "Invariant A.1. ∀s, u: (s → u ∧ ¬stable(s)) ⇒ ((u.c[s.p].inc = s.c[s.p].inc) ∧ (u.c[s.p].seq ≥ s.c[s.p].seq))." Here of a live u.
    pub invariant_A_1 : (s : Interval) → Is (h.rests u s) → h.stable s ≡ false → Covers (vector_of μ u s.owner) s
    invariant_A_1 s r f = ⊎_elim (λ z. contrary z f) (λ c. c) (tracked.cover s r)

    -- Invariant A.3 "ensures that our dependency tracking mechanism does not introduce any false dependencies": a live u rests on each
    -- interval that its vector names. (Of useful ones below these Lemma 1 speaks.)
    pub invariant_A_3 : (a : ℕ) → Is (full (vector_of μ u a)) → Is (h.rests u (interval_of a (vector_of μ u a)))
    invariant_A_3 = tracked.sound

    -- what controller b can tell of u by its end words
    module _ (b : ℕ) (hearer : b < n) where
      -- "Lemma A.4. knows_orphan(s, u) ⇒ orphan(u)." Its crash is one that b has heard.
      pub lemma_A_4 : Condemned n (μ.controller b) (vector_of μ u) → RestsOnLost h h b u
      lemma_A_4 = (tells b hearer (vector_of μ u) u begun tracked).0

      -- "Lemma A.5. orphan(u) ⇒ ∀i: ∃w ∈ P_i: knows_orphan(w, u)." Every b that has heard the crash knows it.
      pub lemma_A_5 : RestsOnLost h h b u → Condemned n (μ.controller b) (vector_of μ u)
      lemma_A_5 = (tells b hearer (vector_of μ u) u begun tracked).1

      -- "Theorem 3. Commit dependency tracking and failure announcements are sufficient for orphan detection." Here of a live u.
      pub theorem_3 : Condemned n (μ.controller b) (vector_of μ u) ↔ RestsOnLost h h b u
      theorem_3 = (lemma_A_4, lemma_A_5)

  -- Theorem 3 of the sending interval of a message, live or not, by the message's vector
  pub theorem_3_message : (m b : ℕ) → 1 ≤ m → m ≤ μ.sent → b < n →
      Condemned n (μ.controller b) (μ.message m).vec ↔ RestsOnLost h h b (h.sending m)
  theorem_3_message m b pos sent hearer =
      let g = v.message_ok_lem m pos sent in
      rw g.sending_is (tells b hearer (μ.message m).vec (μ.message m).from g.from_begun g.tracked)

  -- a useful interval is live
  pub useful_live : (y : Interval) → Useful h y → Is (member y (h.chain y.owner))
  useful_live y U =
      ⊎_elim (λ m. m) (λ l. absurd (U.sure (spoilt_orphan l)))
      (live_or_lost v y.owner (v.history.owner_below y U.begun) y refl U.begun)

  -- and its vector tracks it
  pub tracked_by : (y : Interval) → Useful h y → Tracks h (vector_of μ y) y
  tracked_by y U = tracked y (v.history.owner_below y U.begun) (useful_live y U)

  -- what a useful interval rests on is useful
  useful_down : (y j : Interval) → Useful h y → Is (h.rests y j) → Useful h j
  useful_down y j U r =
      let order = v.history in
      record {
        begun = order.rests_begun y j U.begun r;
        sure = λ o. U.sure (orphan_up order U.begun r o);
      }

  -- two useful intervals
  module _ (s u : Interval) (S : Useful h s) (U : Useful h u) where
    -- "Lemma 1. Let s and u be distinct useful states (neither lost nor orphan). Then, s ↛ u ⇒ u.c[s.p] < s.c[s.p]." Useful intervals
    -- of one controller stand in one chain, which their numbers order; and an interval rests on itself, so these are distinct.
    pub lemma_1 : h.rests u s ≡ false → (vector_of μ u s.owner).number < s.number
    lemma_1 f =
        let p = vector_of μ u s.owner in
        let pos = v.history.number_pos s S.begun in
        le? s.number p.number
        (λ l. let w = interval_of s.owner p in
        let r = (tracked_by u U).sound s.owner (pos_full p (omega arith)) in
        let below = v.history.owner_below s S.begun in
        let q = rests_lower s.owner below s w (useful_live s S) (useful_live w (useful_down u w U r)) l in
        contrary (v.history.rests_trans u w s U.begun r q) f)
        (λ l. l)

    -- "Theorem 1. Let s and u be useful states in a distributed computation. Then, s → u iff s.c < u.c." Here by the one entry for the
    -- controller of s, and where s is not stable: a vector may have no entry for what is.
    pub theorem_1 : h.stable s ≡ false → Is (h.rests u s) ↔ (s.number ≤ (vector_of μ u s.owner).number)
    theorem_1 unstable = (
      λ r. (invariant_A_1 u (v.history.owner_below u U.begun) (useful_live u U) s r unstable).upto,
      λ l. passes _ (λ f. omega (arith, lemma_1 f)),
    )
