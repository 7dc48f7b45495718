-- Logging: the live intervals of a controller up to number j become stable.
use Rattle.std.specs.Prelude.{◌≡◌, List, ◌⊎◌, ◌≢◌, ℕ, ◌≤◌, ◌<◌}
use Rattle.std.proofs.Math.Path.{refl}
use Rattle.std.proofs.Common.{ap, subst, arith, ltb-true, ltb-false}
use Rattle.std.proofs.Math.Logic.{inl, ⊎_elim}
use Rattle.base.specs.Choice.{◌<?◌, cond_ind, le?}
use Rattle.history.specs.History.{Interval, interval, History, member, stabilized}
use Rattle.model.specs.Model.{Controller, log_controller, logged_controller}
use Rattle.model.specs.Tests.{Is}
use Rattle.model.proofs.Tests.{or_cases, or_first, or_second}
use Rattle.model.proofs.Chain.{OnChain}
use Rattle.model.proofs.Invariant.{Spoilt, InOrder, ControllerOk, Settled, Ext, Frame, tracks_on, knows_on, body_on, ends_on, spoilt_by, shape_on, some_live}
use Rattle.model.proofs.Knowing.{knows_set}

-- the list l has those of c's live intervals up to number j that are not stable, and none above; none of them is spoilt
pub record Logs (n : ℕ) (h : History) (c : ℕ) (k : Controller) (j : ℕ) (l : List Interval) : Type 0 where
  pub order : InOrder n h
  pub ok : ControllerOk h c k
  pub fits : j ≤ k.live
  pub on : (y : Interval) → Is (member y l) → OnChain c k.begun_in j y
  pub has : (x : ℕ) → k.stable < x → x ≤ j → Is (member (interval c (k.begun_in x) x) l)
  pub clean : (x : ℕ) → 1 ≤ x → x ≤ j → Spoilt h c (interval c (k.begun_in x) x) → ⊥

-- what logging leaves of controller k: it is k' then
pub record Logged (h h' : History) (c : ℕ) (k : Controller) (j : ℕ) (k' : Controller) : Type 0 where
  pub ok : ControllerOk h' c k'
  pub upto : j ≤ k'.stable
  pub incarnation_is : k'.incarnation ≡ k.incarnation
  pub live_is : k'.live ≡ k.live
  pub begun_in_is : k'.begun_in ≡ k.begun_in
  pub ends_is : k'.ends ≡ k.ends
  pub flagged_is : k'.flagged ≡ k.flagged

module _ {n : ℕ} {h : History} {c : ℕ} {k : Controller} {j : ℕ} {l : List Interval} (L : Logs n h c k j l) where
  open L use {order, ok, fits, on, has, clean}

  -- the history in which the listed ones are stable
  abbrev h' : History
  h' = stabilized h l

  -- what is stable was, or is listed
  stable_cases : (y : Interval) → Is (h'.stable y) → Is (h.stable y) ⊎ Is (member y l)
  unfolding stabilized
  stable_cases y = or_cases (h.stable y) (member y l)

  -- what is listed is stable
  stable_listed : (y : Interval) → Is (member y l) → Is (h'.stable y)
  unfolding stabilized
  stable_listed y = or_second (h.stable y) (member y l)

  -- what is listed is begun
  listed_begun : (y : Interval) → Is (member y l) → Is (h.begun y)
  listed_begun y e = let o = on y e in rw o.is (ok.body.live_begun y.number o.pos (omega (arith, fits, o.top)))

  -- one of them that was lost would be spoilt by itself
  listed_not_lost : (y : Interval) (i : ℕ) → Is (member y l) → Is (h.lost y i) → ⊥
  listed_not_lost y i e z =
      let o = on y e in
      let z' : Is (h.lost (interval c (k.begun_in y.number) y.number) i) = subst (λ q. Is (h.lost q i)) o.is z in
      let (u, b, g, _) = ok.ended.lost_above _ _ i z' in
      clean y.number o.pos o.top
      (record {
        on = interval c (k.begun_in y.number) y.number;
        crash = i;
        rests = order.rests_self _ b;
        lost = z';
        heard = ok.ended.end_heard c i (rw u g);
      })

  -- the history is later
  pub logged_ext : Ext h h'
  unfolding stabilized
  logged_ext =
      record {
        begun_stays = λ y b. b;
        rests_same = λ y j b. refl;
        stable_stays = λ y s. or_first (h.stable y) (member y l) s;
        lost_stays = λ y i e. e;
        heard_stays = λ b a i e. e;
        lost_before = λ y i e z. z;
        new_above = λ y b. inl b;
      }

  -- it is in order: what is listed is begun and not lost
  pub logged_order : InOrder n h'
  unfolding stabilized
  logged_order =
      record {
        owner_below = order.owner_below;
        number_pos = order.number_pos;
        rests_self = order.rests_self;
        rests_begun = order.rests_begun;
        rests_trans = order.rests_trans;
        stable_begun = λ y s. ⊎_elim (order.stable_begun y) (listed_begun y) (stable_cases y s);
        lost_begun = order.lost_begun;
        stable_not_lost = λ y i s z. ⊎_elim (λ e. order.stable_not_lost y i e z) (λ e. listed_not_lost y i e z) (stable_cases y s);
      }

  -- it says no more of other controllers
  pub logged_frame : (b : ℕ) → b ≢ c → Frame h h' b
  unfolding stabilized
  logged_frame b ne =
      record {
        incarnation_same = refl;
        degree_same = refl;
        chain_same = refl;
        begun_same = λ i x b. b;
        stable_same = λ i x z s. ⊎_elim (λ e. e) (λ e. absurd (ne (ap (λ q. q.owner) (on _ e).is))) (stable_cases (interval b i x) s);
        lost_same = λ i x u e. e;
        heard_same = λ a i e. e;
        flagged_same = λ i x. refl;
      }

  -- nothing is spoilt that was not
  pub logged_back : (b : ℕ) (y : Interval) → Spoilt h' b y → Spoilt h b y
  unfolding stabilized
  logged_back b y z = spoilt_by z z.rests z.lost z.heard

  -- all of them were stable
  same_controller : j ≤ k.stable → ControllerOk h' c k
  unfolding stabilized
  same_controller js =
      let s = ok.shape in
      record {
        shape = shape_on logged_ext refl refl refl s;
        body =
            body_on logged_ext (some_live s) (λ i x z. z)
            (λ i x b z. ⊎_elim (λ e. e) (λ e. let o = on _ e in rw o.is (ok.body.stable_upto x o.pos (omega (arith, o.top))))
            (stable_cases (interval c i x) z))
            ok.body;
        knows = knows_on logged_ext ok.knows;
        ended = ends_on logged_ext (λ i x z. z) (λ i x u z. z) (λ a i z. z) ok.ended;
      }

  -- the stable count becomes j
  log_controller_lem : k.stable ≤ j → ControllerOk h' c (log_controller c k j)
  unfolding stabilized log_controller
  log_controller_lem sj =
      let s = ok.shape in
      let b = ok.body in
      record {
        shape =
            record {
              incarnation_is = s.incarnation_is;
              degree_is = s.degree_is;
              chain_is = s.chain_is;
              stable_pos = omega (arith, s.stable_pos);
              stable_le = fits;
              current_from = λ x p q. s.current_from x (omega arith) q;
            };
        body =
            record {
              live_begun = b.live_begun;
              stable_upto = all;
              stable_only = λ x p e z. ⊎_elim (λ q. omega (arith, b.stable_only x p e q)) (λ q. (on _ q).top) (stable_cases _ z);
              begun_le = b.begun_le;
              current_live = b.current_live;
              rests_below = b.rests_below;
              rests_order = b.rests_order;
              first_alone = b.first_alone;
              tracked = λ x p e. tracks_on logged_ext _ _ (b.live_begun x p e) (b.tracked x p e);
            };
        knows =
            knows_set c k.incarnation j (knows_on logged_ext ok.knows)
            (record {
              begun = λ p. rw (← (s.current_from j sj fits)) (b.live_begun j p fits);
              stable = λ x z q. let (u, v) = b.current_live x z in rw (← v) (all x (order.number_pos _ z) q);
            });
        ended = ends_on logged_ext (λ i x z. z) (λ i x u z. z) (λ a i z. z) ok.ended;
      }
    where
      all : (x : ℕ) → 1 ≤ x → x ≤ j → Is (h'.stable (interval c (k.begun_in x) x))
      all x p q = le? x k.stable (λ m. logged_ext.stable_stays _ (ok.body.stable_upto x p m)) (λ m. stable_listed _ (has x m q))

  -- logging up to a number that is not below the stable count
  pub log_logged : k.stable ≤ j → Logged h h' c k j (log_controller c k j)
  unfolding log_controller
  log_logged sj = record { ok = log_controller_lem sj; upto = omega arith; incarnation_is = refl; live_is = refl; begun_in_is = refl; ends_is = refl; flagged_is = refl }

  -- logging "if any" are not yet stable
  pub logged_controller_logged : Logged h h' c k j (logged_controller c k j)
  logged_controller_logged =
      cond_ind (Logged h h' c k j) (k.stable <? j) (λ e. log_logged (omega (arith, ltb-true k.stable j e)))
      (λ e. let js = ltb-false k.stable j e in
      record { ok = same_controller js; upto = js; incarnation_is = refl; live_is = refl; begun_in_is = refl; ends_is = refl; flagged_is = refl })

  -- a settled controller stays so
  pub logged_settled : {k' : Controller} → Logged h h' c k j k' → Settled h c k → Settled h' c k'
  logged_settled o s =
      record {
        not_ended = rw (o.ends_is, o.incarnation_is) s.not_ended;
        live_clean = rw (o.begun_in_is, o.live_is) (λ x p q z. s.live_clean x p q (logged_back c _ z));
      }
