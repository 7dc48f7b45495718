-- A controller crashes: the marks that this makes, before the chain is cut. Its live intervals above the stable count are lost.
use Rattle.std.specs.Prelude.{◌≡◌, Bool, ◌&&◌, ◌⊎◌, ◌≢◌, ℕ, ◌≤◌, ◌<◌}
use Rattle.std.proofs.Math.Path.{refl, ap, subst}
use Rattle.std.proofs.Common.{sym, ◌∙◌, arith, ◌==◌}
use Rattle.std.proofs.Math.Bool.{not}
use Rattle.std.proofs.Math.Logic.{inl, inr, ⊎_elim}
use borrow.Author.Tests.{eqb-true, eq-eqb, not-true}
use Rattle.base.specs.Choice.{and_left, and_right, le?}
use Rattle.history.specs.History.{Interval, interval, History, member, hearing, losing}
use Rattle.model.specs.Model.{Controller, changed_at₂, end_controller}
use Rattle.model.specs.Tests.{Is}
use Rattle.model.proofs.Tests.{or_cases, or_first, or_second, and_both, contrary, fails, not_passes, eq?, changed_at₂_ind, changed_at₂_same, changed_at₂_other, interval_path}
use Rattle.model.proofs.Chain.{OnChain, member_chain, chain_member}
use Rattle.model.proofs.Invariant.{Spoilt, InOrder, ControllerOk, Settled, Ext, Frame, knows_on, body_on, spoilt_on, spoilt_by, shape_on, some_live}
use Rattle.model.proofs.Hearing.{hearing_cases, hearing_new, hearing_old}

pub record Crashes (n : ℕ) (h : History) (c : ℕ) (k : Controller) : Type 0 where
  pub order : InOrder n h
  pub ok : ControllerOk h c k
  pub settled : Settled h c k

-- interval y, lost in the crash of incarnation i, was live and above the stable count
pub record NewlyLost (c : ℕ) (k : Controller) (y : Interval) (i : ℕ) : Type 0 where
  pub live : OnChain c k.begun_in k.live y
  pub high : k.stable < y.number
  pub of_now : y.incarnation ≡ k.incarnation
  pub crash_now : i ≡ k.incarnation

module _ {n : ℕ} {h : History} {c : ℕ} {k : Controller} (X : Crashes n h c k) where
  open X use {order, ok, settled}

  -- the incarnation that ends
  abbrev now : ℕ
  now = k.incarnation

  -- the history with the marks of the crash
  abbrev h' : History
  h' = hearing (losing h c) c c (h.incarnation c)

  -- interval y is lost in this crash, and i is its incarnation
  abbrev loses_now : Interval → ℕ → Bool
  loses_now y i = (i == h.incarnation c) && (member y (h.chain c) && not (h.stable y))

  -- what is lost: what was, and the live ones above the stable count
  lost_cases : (y : Interval) (i : ℕ) → Is (h'.lost y i) → Is (h.lost y i) ⊎ NewlyLost c k y i
  unfolding hearing losing
  lost_cases y i l = ⊎_elim (λ z. inl z) newly (or_cases (h.lost y i) (loses_now y i) l)
    where
      newly : Is (loses_now y i) → Is (h.lost y i) ⊎ NewlyLost c k y i
      newly z =
          let rest = and_right (i == h.incarnation c) (member y (h.chain c) && not (h.stable y)) z in
          let o = member_chain c k.begun_in k.live y (rw ok.shape.chain_is at (and_left (member y (h.chain c)) (not (h.stable y)) rest)) in
          let unstable = not-true (h.stable y) (and_right (member y (h.chain c)) (not (h.stable y)) rest) in
          let high : k.stable < y.number =
          le? y.number k.stable (λ l. contrary {b = h.stable y} (rw o.is (ok.body.stable_upto y.number o.pos l)) unstable) (λ l. l) in
          inr (record {
            live = o;
            high = high;
            of_now = ap (λ q. q.incarnation) o.is ∙ ok.shape.current_from y.number (omega arith) o.top;
            crash_now = eqb-true i (h.incarnation c) (and_left _ (member y (h.chain c) && not (h.stable y)) z) ∙ ok.shape.incarnation_is;
          })

  -- what was lost is lost
  lost_old : (y : Interval) (i : ℕ) → Is (h.lost y i) → Is (h'.lost y i)
  unfolding hearing losing
  lost_old y i = or_first (h.lost y i) (loses_now y i)

  -- a live one above the stable count is lost
  lost_live : (x : ℕ) → 1 ≤ x → x ≤ k.live → k.stable < x → Is (h'.lost (interval c (k.begun_in x) x) now)
  unfolding hearing losing
  lost_live x p q l =
      let y = interval c (k.begun_in x) x in
      let m : Is (member y (h.chain c)) = rw ok.shape.chain_is (chain_member c k.begun_in k.live x p q) in
      let unstable = not_passes (h.stable y) (fails (h.stable y) (λ z. let g = ok.body.stable_only x p q z in omega arith)) in
      or_second (h.lost y now) (loses_now y now)
      (and_both (now == h.incarnation c) (member y (h.chain c) && not (h.stable y)) (eq-eqb now (h.incarnation c) (sym ok.shape.incarnation_is))
      (and_both (member y (h.chain c)) (not (h.stable y)) m unstable))

  -- what is heard: what was, and this crash by c
  heard_cases : (b a i : ℕ) → Is (h'.heard b a i) → Is (h.heard b a i) ⊎ ((b ≡ c) × (a ≡ c) × (i ≡ now))
  unfolding losing
  heard_cases b a i z =
      ⊎_elim (λ g. inl g) (λ g. inr (g.0, g.1, g.2 ∙ ok.shape.incarnation_is)) (hearing_cases (losing h c) c c (h.incarnation c) b a i z)

  -- c has heard this crash
  heard_now : Is (h'.heard c c now)
  heard_now = subst (λ i. Is (h'.heard c c i)) ok.shape.incarnation_is (hearing_new (losing h c) c c (h.incarnation c))

  -- c had not heard of it before
  unheard_now : Is (h.heard c c now) → ⊥
  unheard_now z = let l = ok.ended.heard_end c now z in omega (arith, settled.not_ended)

  -- the history is later
  pub crashed_ext : Ext h h'
  unfolding hearing losing
  crashed_ext =
      record {
        begun_stays = λ y b. b;
        rests_same = λ y j b. refl;
        stable_stays = λ y s. s;
        lost_stays = lost_old;
        heard_stays = λ b a i e. hearing_old (losing h c) c c (h.incarnation c) b a i e;
        lost_before = λ y i e l. ⊎_elim (λ z. z) (λ z. absurd (again y i e z)) (lost_cases y i l);
        new_above = λ y b. inl b;
      }
    where
      again : (y : Interval) (i : ℕ) → Is (h.heard y.owner y.owner i) → NewlyLost c k y i → ⊥
      again y i e z =
          let e' : Is (h.heard y.owner y.owner now) = subst (λ q. Is (h.heard y.owner y.owner q)) z.crash_now e in
          unheard_now (subst (λ q. Is (h.heard q q now)) (ap (λ q. q.owner) z.live.is) e')

  -- it is in order: what is newly lost is begun and not stable
  pub crashed_order : InOrder n h'
  unfolding hearing losing
  crashed_order =
      record {
        owner_below = order.owner_below;
        number_pos = order.number_pos;
        rests_self = order.rests_self;
        rests_begun = order.rests_begun;
        rests_trans = order.rests_trans;
        stable_begun = order.stable_begun;
        lost_begun = λ y i l.
            ⊎_elim (order.lost_begun y i) (λ z. let o = z.live in rw o.is (ok.body.live_begun y.number o.pos o.top)) (lost_cases y i l);
        stable_not_lost = λ y i s l. ⊎_elim (order.stable_not_lost y i s) (above y i s) (lost_cases y i l);
      }
    where
      above : (y : Interval) (i : ℕ) → Is (h.stable y) → NewlyLost c k y i → ⊥
      above y i s z = let o = z.live in let l = ok.body.stable_only y.number o.pos o.top (rw o.is at s) in omega (arith, z.high)

  -- it says no more of other controllers
  pub crashed_frame : (b : ℕ) → b ≢ c → Frame h h' b
  unfolding hearing losing
  crashed_frame b ne =
      record {
        incarnation_same = refl;
        degree_same = refl;
        chain_same = refl;
        begun_same = λ i x b. b;
        stable_same = λ i x b s. s;
        lost_same = λ i x u l. ⊎_elim (λ z. z) (λ z. absurd (ne (ap (λ q. q.owner) z.live.is))) (lost_cases _ u l);
        heard_same = λ a i z. ⊎_elim (λ g. g) (λ g. absurd (ne g.0)) (heard_cases b a i z);
        flagged_same = λ i x. refl;
      }

  -- the newest stable interval is of the incarnation that ends, and all that is begun in it up to there is stable
  stable_begun : Is (h.begun (interval c now k.stable))
  stable_begun =
      rw (← (ok.shape.current_from k.stable (omega arith) ok.shape.stable_le))
      (ok.body.live_begun k.stable ok.shape.stable_pos ok.shape.stable_le)

  -- what is begun in it up to the stable count is stable
  stable_upto : (x : ℕ) → Is (h.begun (interval c now x)) → x ≤ k.stable → Is (h.stable (interval c now x))
  stable_upto x b l = let (u, v) = ok.body.current_live x b in rw (← v) (ok.body.stable_upto x (order.number_pos _ b) l)

  -- and what is begun in it above is lost
  lost_now : (x : ℕ) → Is (h.begun (interval c now x)) → k.stable < x → Is (h'.lost (interval c now x) now)
  lost_now x b l = let (p, q) = ok.body.current_live x b in subst (λ z. Is (h'.lost (interval c z x) now)) q (lost_live x (omega arith) p l)

  -- the end words after the crash
  abbrev ends' : ℕ → ℕ → ℕ
  ends' = changed_at₂ k.ends c now k.stable

  -- the new end word
  end_now : ends' c now ≡ k.stable
  end_now = changed_at₂_same k.ends c now k.stable

  -- the others
  end_old : (i : ℕ) → i ≢ now → ends' c i ≡ k.ends c i
  end_old i ne = changed_at₂_other k.ends c now k.stable c i (λ p q. ne q)

  -- an incarnation with an end word is not the one that ends
  not_now : (i : ℕ) → 1 ≤ k.ends c i → i ≢ now
  not_now i l e = let l' : 1 ≤ k.ends c now = rw e at l in omega (arith, settled.not_ended)

  -- the controller with the end word of its own crash
  pub crashed_controller : ControllerOk h' c (end_controller c k)
  unfolding hearing losing end_controller
  crashed_controller =
      let s = ok.shape in
      let d = ok.ended in
      record {
        shape = shape_on crashed_ext refl refl refl s;
        body = body_on crashed_ext (some_live s) (λ i x z. z) (λ i x z g. g) ok.body;
        knows = knows_on crashed_ext ok.knows;
        ended =
            record {
              heard_end = λ a i z. ⊎_elim (heard_before a i) (λ g. rw (g.1, g.2, end_now) s.stable_pos) (heard_cases c a i z);
              end_heard =
                  changed_at₂_ind (λ a i w. 1 ≤ w → Is (h'.heard c a i)) k.ends c now k.stable (λ l. heard_now)
                  (λ a i ne l. crashed_ext.heard_stays c a i (d.end_heard a i l));
              lost_above = λ i x u l. ⊎_elim (lost_before i x u) (lost_newly i x u) (lost_cases _ u l);
              above_lost = λ i x b l u.
                  eq? i now (λ e. subst (λ z. Is (h'.lost (interval c z x) z)) (sym e) (lost_now x (rw e at b) (rw (e, end_now) at u)))
                  (λ ne. lost_old _ _ (d.above_lost i x b (rw (end_old i ne) at l) (rw (end_old i ne) at u)));
              end_le = λ i l. eq? i now (λ e. omega arith) (λ ne. d.end_le i (rw (end_old i ne) at l));
              end_begun = λ i l. eq? i now (λ e. rw (e, end_now) stable_begun) (λ ne. rw (end_old i ne) (d.end_begun i (rw (end_old i ne) at l)));
              end_stable = λ i x b l u.
                  eq? i now (λ e. rw e (stable_upto x (rw e at b) (rw (e, end_now) at u)))
                  (λ ne. d.end_stable i x b (rw (end_old i ne) at l) (rw (end_old i ne) at u));
              live_or_spoilt = λ i x z. ⊎_elim (λ u. inl u) (λ r. inr (spoilt_on crashed_ext z r)) (d.live_or_spoilt i x z);
            };
      }
    where
      heard_before : (a i : ℕ) → Is (h.heard c a i) → 1 ≤ ends' a i
      heard_before =
          changed_at₂_ind (λ a i w. Is (h.heard c a i) → 1 ≤ w) k.ends c now k.stable (λ z. ok.shape.stable_pos)
          (λ a i ne z. ok.ended.heard_end a i z)

      lost_before : (i x u : ℕ) → Is (h.lost (interval c i x) u) → (u ≡ i) × Is (h.begun (interval c i x)) × (1 ≤ ends' c i) × (ends' c i < x)
      lost_before i x u l = let (p, b, g, z) = ok.ended.lost_above i x u l in let e = end_old i (not_now i g) in (p, b, rw e g, rw e z)

      lost_newly : (i x u : ℕ) → NewlyLost c k (interval c i x) u → (u ≡ i) × Is (h.begun (interval c i x)) × (1 ≤ ends' c i) × (ends' c i < x)
      lost_newly i x u z =
          let o = z.live in (
            z.crash_now ∙ sym z.of_now,
            rw o.is (ok.body.live_begun x o.pos o.top),
            rw (z.of_now, end_now) ok.shape.stable_pos,
            rw (z.of_now, end_now) z.high,
          )

  -- the live ones up to the stable count rest on nothing lost: what is newly lost lies above them; those above are lost themselves
  pub crashed_clean : (x : ℕ) → 1 ≤ x → x ≤ k.stable → Spoilt h' c (interval c (k.begun_in x) x) → ⊥
  unfolding hearing losing
  crashed_clean x p q l = go (lost_cases _ _ l.lost) (heard_cases _ _ _ l.heard)
    where
      live : x ≤ k.live
      live = omega (arith, ok.shape.stable_le)

      go : Is (h.lost l.on l.crash) ⊎ NewlyLost c k l.on l.crash →
          Is (h.heard c l.on.owner l.crash) ⊎ ((c ≡ c) × (l.on.owner ≡ c) × (l.crash ≡ now)) → ⊥
      go (inl z) (inl w) = settled.live_clean x p live (spoilt_by l l.rests z w)
      go (inl z) (inr w) =
          let z' : Is (h.lost (interval c l.on.incarnation l.on.number) l.crash) =
          subst (λ y. Is (h.lost y l.crash)) (interval_path w.1 refl refl) z in
          let (a, b, d, f) = ok.ended.lost_above _ _ _ z' in
          not_now _ d (sym a ∙ w.2)
      go (inr z) w =
          let o = z.live in
          let r = subst (λ y. Is (h.rests (interval c (k.begun_in x) x) y)) o.is l.rests in
          let g = ok.body.rests_order l.on.number x o.pos o.top p live r in
          omega (arith, z.high)

  -- what is above the stable count is spoilt: it is lost itself
  pub crashed_gone : (x : ℕ) → k.stable < x → x ≤ k.live → Spoilt h' c (interval c (k.begun_in x) x)
  crashed_gone x p q =
      record {
        on = interval c (k.begun_in x) x;
        crash = now;
        rests = crashed_order.rests_self _ (crashed_ext.begun_stays _ (ok.body.live_begun x (omega arith) q));
        lost = lost_live x (omega arith) q p;
        heard = heard_now;
      }

  -- nobody else has heard of the crash, so no other controller's intervals are spoilt by it
  pub crashed_back : (b : ℕ) → b ≢ c → (Is (h.heard b c now) → ⊥) → (y : Interval) → Spoilt h' b y → Spoilt h b y
  unfolding hearing losing
  crashed_back b ne unheard y l = go (lost_cases _ _ l.lost) (heard_cases _ _ _ l.heard)
    where
      go : Is (h.lost l.on l.crash) ⊎ NewlyLost c k l.on l.crash →
          Is (h.heard b l.on.owner l.crash) ⊎ ((b ≡ c) × (l.on.owner ≡ c) × (l.crash ≡ now)) → Spoilt h b y
      go z (inr w) = absurd (ne w.0)
      go (inl z) (inl w) = spoilt_by l l.rests z w
      go (inr z) (inl w) = absurd (unheard (subst (λ q. Is (h.heard b q now)) (ap (λ q. q.owner) z.live.is) (rw z.crash_now at w)))
