-- What follows from the invariant by itself, for demand 3: what left a chain at a hearing, what is live, what a release names,
-- and that nothing is condemned without a crash that was heard.
use Rattle.std.specs.Prelude.{◌≡◌, refl, false, ◌⊎◌, ◌↔◌, ℕ, ◌≤◌, ◌<◌}
use Rattle.std.proofs.Common.{sym, ◌∙◌, ap, subst, inl, inr, ⊎_elim, arith}
use Rattle.base.specs.Choice.{le?}
use Rattle.history.specs.History.{Interval, interval, History, member}
use Rattle.history.specs.Demand.{RestsOnLost}
use Rattle.history.specs.Progress.{Orphan}
use Rattle.model.specs.Model.{Vec, Model, full, released_vec}
use Rattle.model.specs.Tests.{Is}
use Rattle.model.proofs.Tests.{contrary, fails}
use Rattle.model.proofs.Chain.{OnChain, member_chain, chain_member}
use Rattle.model.proofs.Invariant.{Spoilt, Covers, Tracks, InOrder, MessageOk, Inv, Ext, live_or_spoilt, rests_back, rests_on_lem}
use Rattle.model.specs.Vectors.{Condemned}
use Rattle.model.proofs.Vectors.{full_pos, pos_full, filtered_ind, filtered_tracks}
use Rattle.model.proofs.Keeping.{Keeps}

-- an interval that rests on one lost in a crash that somebody has heard is an orphan
pub spoilt_orphan : {h : History} {b : ℕ} {y : Interval} → RestsOnLost h h b y → Orphan h y
spoilt_orphan r = record { on = r.on; crash = r.crash; rests = r.rests; lost = r.lost }

-- and so is what rests on an orphan
pub orphan_up : {n : ℕ} {h : History} {y j : Interval} → InOrder n h → Is (h.begun y) → Is (h.rests y j) → Orphan h j → Orphan h y
orphan_up {y = y} {j = j} o b r l = record { on = l.on; crash = l.crash; rests = o.rests_trans y j l.on b r l.rests; lost = l.lost }

-- what is live
module _ {n : ℕ} {μ : Model} {h : History} (v : Inv n μ h) (b : ℕ) (below : b < n) where
  -- a member of the chain is a live number of the model
  pub on_chain_lem : (y : Interval) → Is (member y (h.chain b)) → OnChain b (μ.controller b).begun_in (μ.controller b).live y
  on_chain_lem y e = member_chain _ _ _ y (rw (v.controller_ok_lem b below).shape.chain_is at e)

  -- and a live number of the model is one
  pub chain_live : (y : Interval) → OnChain b (μ.controller b).begun_in (μ.controller b).live y → Is (member y (h.chain b))
  chain_live y o =
      subst (λ q. Is (member q (h.chain b))) (sym o.is)
      (rw (v.controller_ok_lem b below).shape.chain_is (chain_member b (μ.controller b).begun_in (μ.controller b).live y.number o.pos o.top))

  -- a live interval is begun
  pub live_begun : (y : Interval) → Is (member y (h.chain b)) → Is (h.begun y)
  live_begun y e = let o = on_chain_lem y e in rw o.is ((v.controller_ok_lem b below).body.live_begun y.number o.pos o.top)

  -- and of its controller
  pub live_owner : (y : Interval) → Is (member y (h.chain b)) → y.owner ≡ b
  live_owner y e = ap (λ z. z.owner) (on_chain_lem y e).is

  -- "No live interval rests on one lost in a crash its controller has heard."
  pub live_clean : (y : Interval) → Is (member y (h.chain b)) → RestsOnLost h h b y → ⊥
  live_clean y e r = let o = on_chain_lem y e in (v.settled b below).live_clean y.number o.pos o.top (subst (λ z. Spoilt h b z) o.is r)

  -- an interval of b that is begun is live, or rests on one lost in a crash that b has heard
  pub live_or_lost : (y : Interval) → y.owner ≡ b → Is (h.begun y) → Is (member y (h.chain b)) ⊎ RestsOnLost h h b y
  live_or_lost y e z = ⊎_elim (λ o. inl (chain_live y o)) (λ r. inr r) (live_or_spoilt v.history (v.controller_ok_lem b below) y e z)

-- "Every accepted hearing undid exactly those live intervals of its controller that rest on one lost in a crash which that
-- controller has heard by then": h is the history before the hearing, h' the one after it, and `whole` that at the end of the list.
module _ {n : ℕ} {μ μ' : Model} {h h' whole : History} (v : Inv n μ h) (s : Keeps n μ h μ' h') (later : Ext h' whole) (b : ℕ) (below : b < n) where
  pub hearing_exact : (y : Interval) → Is (member y (h.chain b)) → (member y (h'.chain b) ≡ false) ↔ RestsOnLost whole h' b y
  hearing_exact y e = (
    λ f. undone f (live_or_lost s.inv b below y (live_owner v b below y e) begun),
    λ r. fails _ (λ z. live_clean s.inv b below y z (before r)),
  )
    where
      begun : Is (h'.begun y)
      begun = s.ext.begun_stays y (live_begun v b below y e)

      undone : member y (h'.chain b) ≡ false → Is (member y (h'.chain b)) ⊎ RestsOnLost h' h' b y → RestsOnLost whole h' b y
      undone f (inl z) = contrary z f
      undone f (inr r) =
          record {
            on = r.on;
            crash = r.crash;
            rests = rests_on_lem later y r.on begun r.rests;
            lost = later.lost_stays _ _ r.lost;
            heard = r.heard;
          }

      -- nothing more is lost later in a crash that was heard
      before : RestsOnLost whole h' b y → RestsOnLost h' h' b y
      before r =
          let after = s.inv in
          let rests = rests_back later y r.on begun r.rests in
          let owner = after.history.owner_below _ (after.history.rests_begun y r.on begun rests) in
          let l = (after.controller_ok_lem b below).ended.heard_end r.on.owner r.crash r.heard in
          let a = after.agree b r.on.owner r.crash l in
          let own = (after.controller_ok_lem r.on.owner owner).ended.end_heard r.on.owner r.crash (omega arith) in
          record { on = r.on; crash = r.crash; rests = rests; lost = later.lost_before r.on r.crash own r.lost; heard = r.heard }

-- an owner a that a release of message m names: it owns an interval that the sending interval rests on, and that the sender
-- does not know to be stable
pub record NamedFor (μ : Model) (h : History) (m a : ℕ) : Type 0 where
  pub on : Interval
  pub owner_is : on.owner ≡ a
  pub rests : Is (h.rests (h.sending m) on)
  pub unknown : (μ.controller (h.sending m).owner).known a on.incarnation < on.number

-- what a release of message m names
module _ {n : ℕ} {μ : Model} {h : History} (v : Inv n μ h) (m : ℕ) (pos : 1 ≤ m) (sent : m ≤ μ.sent) where
  -- the message in the model
  message : MessageOk h m (μ.message m)
  message = v.message_ok_lem m pos sent

  -- its sender is a controller of the house
  sender_below : (μ.message m).from.owner < n
  sender_below = v.history.owner_below _ message.from_begun

  -- the released vector tracks the sending interval
  released_tracked : Tracks h (released_vec μ m) (μ.message m).from
  unfolding released_vec
  released_tracked = filtered_tracks _ _ _ v.history (v.controller_ok_lem _ sender_below).knows message.from_begun message.tracked

  -- the sending interval is begun
  pub sending_begun : Is (h.begun (h.sending m))
  sending_begun = subst (λ z. Is (h.begun z)) (sym message.sending_is) message.from_begun

  -- the sender's degree
  pub release_degree : h.degree (h.sending m).owner ≡ (μ.controller (μ.message m).from.owner).degree
  release_degree = ap (λ z. h.degree z.owner) message.sending_is ∙ (v.controller_ok_lem _ sender_below).shape.degree_is

  -- Every interval that the sending interval rests on and that is not stable at the release is owned by a named one: its pair
  -- is full. Resting is read from a later history, such as that at the end of the list.
  pub release_covers : {whole : History} → Ext h whole → whole.sending m ≡ h.sending m → (y : Interval) →
      Is (whole.rests (whole.sending m) y) → h.stable y ≡ false → (y.owner < n) × Is (full (released_vec μ m y.owner))
  release_covers {whole} later same y r unstable =
      (v.history.owner_below y begun, ⊎_elim (λ z. contrary z unstable) covered (released_tracked.cover y rests))
    where
      rests : Is (h.rests (μ.message m).from y)
      rests =
          subst (λ z. Is (h.rests z y)) message.sending_is
          (rests_back later (h.sending m) y sending_begun (subst (λ z. Is (whole.rests z y)) same r))

      begun : Is (h.begun y)
      begun = v.history.rests_begun _ y message.from_begun rests

      covered : Covers (released_vec μ m y.owner) y → Is (full (released_vec μ m y.owner))
      covered c = pos_full _ (omega (arith, v.history.number_pos y begun, c.upto))

  -- a full pair is not known stable to the sender
  released_unknown : (a : ℕ) → Is (full (released_vec μ m a)) →
      (μ.controller (μ.message m).from.owner).known a (released_vec μ m a).incarnation < (released_vec μ m a).number
  unfolding released_vec
  released_unknown a =
      let k = μ.controller (μ.message m).from.owner in
      filtered_ind (λ q. Is (full q) → k.known a q.incarnation < q.number) k (μ.message m).vec a
      (λ l f. absurd (let z = full_pos _ f in omega arith)) (λ l f. l)

  -- and a full pair has its reason
  pub release_named : (a : ℕ) → Is (full (released_vec μ m a)) → NamedFor μ h m a
  release_named a f =
      let p = released_vec μ m a in
      record {
        on = interval a p.incarnation p.number;
        owner_is = refl;
        rests = subst (λ z. Is (h.rests z (interval a p.incarnation p.number))) (sym message.sending_is) (released_tracked.sound a f);
        unknown = subst (λ z. (μ.controller z.owner).known a p.incarnation < p.number) (sym message.sending_is) (released_unknown a f);
      }

-- a controller and its vectors
module _ {n : ℕ} {μ : Model} {h : History} (v : Inv n μ h) (c : ℕ) (below : c < n) where
  -- the end word of a crash that c has not heard is 0: a controller that has not crashed cannot be heard of
  pub unheard_end : (a i : ℕ) → h.heard c a i ≡ false → (μ.controller c).ends a i ≡ 0
  unheard_end a i f = le? 1 ((μ.controller c).ends a i) (λ l. contrary ((v.controller_ok_lem c below).ended.end_heard a i l) f) (λ l. omega arith)

  -- Where c has heard no crash, no vector is condemned to it and all its intervals are live: nothing is dropped or undone
  -- without a crash.
  module _ (none : (a i : ℕ) → h.heard c a i ≡ false) where
    -- no vector is condemned
    pub unheard_not_condemned : (w : Vec) → Condemned n (μ.controller c) w → ⊥
    unheard_not_condemned w z = let e = unheard_end z.owner (w z.owner).incarnation (none _ _) in omega (arith, z.by.ended)

    -- every begun interval is live
    pub unheard_live : (y : Interval) → y.owner ≡ c → Is (h.begun y) → Is (member y (h.chain c))
    unheard_live y e b = ⊎_elim (λ z. z) (λ r. contrary r.heard (none _ _)) (live_or_lost v c below y e b)
