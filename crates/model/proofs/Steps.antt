-- Setting a degree or Q, sending, releasing, delivering and telling keep the invariant.
use Rattle.std.specs.Prelude.{◌≡◌}
use Rattle.std.proofs.Math.Path.{refl, ap, subst}
use Rattle.std.proofs.Common.{sym, ◌∙◌, arith}
use Prim.Native.Nat.{ℕ, ◌+◌, ◌≤◌, ◌<◌}
use Rattle.std.specs.Int.Count.{ones}
use Rattle.table.specs.Field.{desk}
use Rattle.history.specs.History.{interval, History, joined, leaving, degree_set, sent_from, gap_set, delivering}
use Rattle.history.specs.Demand.{named}
use Rattle.model.specs.Model.{Vec, Controller, Message, Model, full, filtered, put_controller, put_message, degree_controller, cap_model, gap_model, tell_controller, begin_controller, send_message, released_vec, release_message}
use Rattle.model.specs.Tests.{Is}
use Rattle.model.proofs.Tests.{changed_at_ind, changed_at_same, changed_at_other}
use Rattle.model.proofs.Invariant.{Shape, ControllerOk, MessageOk, Inv, Ext, SameFacts, ext_refl, ext_same, frame_refl, frame_same, spoilt_same, tracks_on, knows_on, body_on, ends_on, message_on, controller_on, settled_on, some_live, newest_is}
use Rattle.model.specs.Vectors.{Condemned}
use Rattle.model.proofs.Vectors.{filtered_tracks, spoilt_condemned}
use Rattle.model.proofs.Knowing.{may_know, knows_told}
use Rattle.model.proofs.Growing.{grown_ext, grown_order, grown_frame, grown_back, grown_settled, grown_flags}
use Rattle.model.specs.Beginning.{Compatible}
use Rattle.model.proofs.Beginning.{Begins, begins_grows, begun_controller, delivering_is}
use Rattle.model.proofs.Keeping.{Keeps, keeps_trans, put_keeps, agree_same}
use Rattle.model.proofs.Capping.{keeps_capped}

-- message m can be delivered: it was sent to a controller, it is not condemned to it, and no other owner has full pairs of
-- different incarnations in the two vectors, both filtered for the receiver
pub record Delivers (n : ℕ) (μ : Model) (m : ℕ) : Type 0 where
  pub pos : 1 ≤ m
  pub sent : m ≤ μ.sent
  pub to_below : (μ.message m).to < n
  pub not_condemned : Condemned n (μ.controller (μ.message m).to) (μ.message m).vec → ⊥
  pub no_conflict :
      let k = μ.controller (μ.message m).to in Compatible n (μ.message m).to (filtered k (k.vec k.live)) (filtered k (μ.message m).vec)

-- message m can be let out with a mask: it was sent, the mask has no more ones than its sender's degree, it names just the
-- owners of full pairs, and nobody where the message is for the desk
pub record LetsOut (μ : Model) (m mask : ℕ) : Type 0 where
  pub pos : 1 ≤ m
  pub sent : m ≤ μ.sent
  pub within : ones mask ≤ (μ.controller (μ.message m).from.owner).degree
  pub names : (a : ℕ) → named mask a ≡ full (released_vec μ m a)
  pub desk_none : (μ.message m).to ≡ desk → mask ≡ 0

-- What a call counts on that lets message m out and shows this mask, be it a release, which names just those whose pairs are left, or a set, which
-- names all of these.
pub record LetUnder (μ : Model) (m mask : ℕ) : Type 0 where
  pub pos : 1 ≤ m
  pub sent : m ≤ μ.sent
  pub within : ones mask ≤ (μ.controller (μ.message m).from.owner).degree
  pub covers : (a : ℕ) → Is (full (released_vec μ m a)) → Is (named mask a)
  pub desk_none : (μ.message m).to ≡ desk → mask ≡ 0

pub let_under : {μ : Model} {m mask : ℕ} → LetsOut μ m mask → LetUnder μ m mask
let_under o = record { pos = o.pos; sent = o.sent; within = o.within; covers = λ a e. o.names a ∙ e; desk_none = o.desk_none }

module _ {n : ℕ} {μ : Model} {h : History} (v : Inv n μ h) where
  -- K: only the degree of c changes
  pub keeps_degree : (c d : ℕ) → c < n → Keeps n μ h (put_controller μ c (degree_controller (μ.controller c) d)) (degree_set h c d)
  unfolding degree_controller degree_set
  keeps_degree c d below =
      let o = v.settled c below in
      put_keeps v (record {
        order = v.history;
        ext = ext;
        frame = λ b ne. frame_same b same refl (changed_at_other _ _ _ _ ne) refl (λ i x. refl);
        back = λ b ne l y bi r. spoilt_same same r;
        ok =
            record {
              shape =
                  record {
                    incarnation_is = s.incarnation_is;
                    degree_is = changed_at_same _ _ _;
                    chain_is = s.chain_is;
                    stable_pos = s.stable_pos;
                    stable_le = s.stable_le;
                    current_from = s.current_from;
                  };
              body = body_on ext (some_live s) (λ i x z. z) (λ i x z y. y) ok.body;
              knows = knows_on ext ok.knows;
              ended = ends_on ext (λ i x z. z) (λ i x u z. z) (λ a i z. z) ok.ended;
            };
        settled = record { not_ended = o.not_ended; live_clean = λ x p q r. o.live_clean x p q (spoilt_same same r) };
        agree = agree_same μ.controller c _ v.agree refl;
        sending_is = refl;
        receiver_is = refl;
        flags = v.flags c below;
        gap_is = refl;
      })
    where
      ok : ControllerOk h c (μ.controller c)
      ok = v.controller_ok_lem c below

      s : Shape h c (μ.controller c).incarnation (μ.controller c).degree (μ.controller c).live (μ.controller c).stable (μ.controller c).begun_in
      s = ok.shape

      same : SameFacts h (degree_set h c d)
      same = record { begun_is = refl; rests_is = refl; stable_is = refl; lost_is = refl; heard_is = refl }

      ext : Ext h (degree_set h c d)
      ext = ext_same same

  -- S: the newest vector, filtered, tracks the newest interval, from which the message is sent
  pub keeps_send : (s r : ℕ) → s < n → Keeps n μ h (send_message μ (μ.sent + 1) s r) (sent_from h (μ.sent + 1) s r)
  unfolding send_message sent_from
  keeps_send s r sender =
      record {
        inv =
            record {
              history = v.history;
              controller_ok_lem = λ c l. controller_on ext (frame_same c same refl refl refl (λ i x. refl)) (v.controller_ok_lem c l);
              settled = λ c l. settled_on ext (v.controller_ok_lem c l) (λ y b z. spoilt_same same z) (v.settled c l);
              message_ok_lem =
                  changed_at_ind (λ m g. 1 ≤ m → m ≤ μ.sent + 1 → MessageOk h' m g) μ.message (μ.sent + 1) g (λ p l. new)
                  (λ m ne p l. message_on ext (changed_at_other _ _ _ _ ne) (changed_at_other _ _ _ _ ne) (v.message_ok_lem m p (omega arith)));
              agree = v.agree;
              flags = v.flags;
              gap_is = v.gap_is;
            };
        ext = ext;
        sent_grows = omega arith;
        sending_same = λ m l. changed_at_other _ _ _ _ (λ e. omega arith);
        receiver_same = λ m l. changed_at_other _ _ _ _ (λ e. omega arith);
        from_same = λ m l. ap (λ g. g.from) (changed_at_other μ.message _ _ _ (λ e. omega arith));
        to_same = λ m l. ap (λ g. g.to) (changed_at_other μ.message _ _ _ (λ e. omega arith));
      }
    where
      k : Controller
      k = μ.controller s

      h' : History
      h' = sent_from h (μ.sent + 1) s r

      g : Message
      g = record { to = r; from = interval s (k.begun_in k.live) k.live; vec = filtered k (k.vec k.live) }

      same : SameFacts h h'
      same = record { begun_is = refl; rests_is = refl; stable_is = refl; lost_is = refl; heard_is = refl }

      ext : Ext h h'
      ext = ext_same same

      ok : ControllerOk h s k
      ok = v.controller_ok_lem s sender

      live_pos : 1 ≤ k.live
      live_pos = some_live ok.shape

      begun : Is (h.begun g.from)
      begun = ok.body.live_begun k.live live_pos (omega arith)

      new : MessageOk h' (μ.sent + 1) g
      new =
          record {
            sending_is = changed_at_same _ _ _ ∙ newest_is ok.shape;
            receiver_is = changed_at_same _ _ _;
            from_begun = begun;
            tracked =
                tracks_on ext _ _ begun
                (filtered_tracks k _ _ v.history ok.knows begun (ok.body.tracked k.live live_pos (omega arith)));
          }

  -- R: the message's vector, filtered for its sender, still tracks the sending interval
  pub keeps_release : (m : ℕ) → 1 ≤ m → m ≤ μ.sent → Keeps n μ h (release_message μ m) h
  unfolding release_message put_message released_vec
  keeps_release m pos sent =
      record {
        inv =
            record {
              history = v.history;
              controller_ok_lem = v.controller_ok_lem;
              settled = v.settled;
              message_ok_lem = changed_at_ind (λ j g. 1 ≤ j → j ≤ μ.sent → MessageOk h j g) μ.message m _ (λ p l. released) (λ j ne. v.message_ok_lem j);
              agree = v.agree;
              flags = v.flags;
              gap_is = v.gap_is;
            };
        ext = ext_refl h;
        sent_grows = omega arith;
        sending_same = λ j l. refl;
        receiver_same = λ j l. refl;
        from_same = λ j l. changed_at_ind (λ j g. g.from ≡ (μ.message j).from) μ.message m _ refl (λ j ne. refl) j;
        to_same = λ j l. changed_at_ind (λ j g. g.to ≡ (μ.message j).to) μ.message m _ refl (λ j ne. refl) j;
      }
    where
      o : MessageOk h m (μ.message m)
      o = v.message_ok_lem m pos sent

      released : MessageOk h m (record { to = (μ.message m).to; from = (μ.message m).from; vec = released_vec μ m })
      released =
          record {
            sending_is = o.sending_is;
            receiver_is = o.receiver_is;
            from_begun = o.from_begun;
            tracked =
                filtered_tracks _ _ _ v.history (v.controller_ok_lem _ (v.history.owner_below _ o.from_begun)).knows o.from_begun o.tracked;
          }

  -- D: since the message is not condemned, its sending interval is not spoilt for the receiver, whose chain grows; what begins may be
  -- checkpointed then
  pub keeps_deliver : (m : ℕ) → Delivers n μ m → let c = (μ.message m).to in
      Keeps n μ h (cap_model (put_controller μ c (begin_controller c (μ.controller c) (μ.message m).vec)) c) (delivering h m)
  unfolding joined leaving begin_controller
  keeps_deliver m D =
      let begun =
      put_keeps v (record {
        order = grown_order (begins_grows begins);
        ext = grown_ext (begins_grows begins);
        frame = grown_frame (begins_grows begins);
        back = λ b ne l. grown_back (begins_grows begins) b;
        ok = begun_controller begins;
        settled = grown_settled (begins_grows begins);
        agree = agree_same μ.controller c _ v.agree refl;
        sending_is = refl;
        receiver_is = refl;
        flags = grown_flags (begins_grows begins) (v.flags c D.to_below);
        gap_is = refl;
      }) in
      subst (Keeps n μ h (cap_model (put_controller μ c (begin_controller c k w)) c)) (sym (delivering_is begins m o.receiver_is o.sending_is))
      (keeps_trans begun (keeps_capped begun.inv c D.to_below))
    where
      c : ℕ
      c = (μ.message m).to

      k : Controller
      k = μ.controller c

      w : Vec
      w = (μ.message m).vec

      o : MessageOk h m (μ.message m)
      o = v.message_ok_lem m D.pos D.sent

      begins : Begins n h c k w (μ.message m).from
      begins =
          record {
            order = v.history;
            ok = v.controller_ok_lem c D.to_below;
            settled = v.settled c D.to_below;
            below = D.to_below;
            from_begun = o.from_begun;
            from_tracked = o.tracked;
            from_clean = λ r.
                D.not_condemned
                (spoilt_condemned {controller = μ.controller} v.history v.controller_ok_lem v.agree D.to_below w _ o.from_begun o.tracked r);
            one = D.no_conflict;
          }

  -- T: what a knows of itself b may know
  pub keeps_tell : (a b : ℕ) → a < n → b < n → Keeps n μ h (put_controller μ b (tell_controller a (μ.controller b) ((μ.controller a).known a))) h
  unfolding tell_controller
  keeps_tell a b owner holder =
      let ok = v.controller_ok_lem b holder in
      put_keeps v (record {
        order = v.history;
        ext = ext_refl h;
        frame = λ c ne. frame_refl h c;
        back = λ c ne l y bi r. r;
        ok =
            record {
              shape = ok.shape;
              body = ok.body;
              knows = knows_told a ((μ.controller a).known a) ok.knows (may_know (v.controller_ok_lem a owner).knows a);
              ended = ok.ended;
            };
        settled = let s = v.settled b holder in record { not_ended = s.not_ended; live_clean = s.live_clean };
        agree = agree_same μ.controller b _ v.agree refl;
        sending_is = refl;
        receiver_is = refl;
        flags = v.flags b holder;
        gap_is = refl;
      })

  -- W4: only Q changes
  pub keeps_gap : (q : ℕ) → Keeps n μ h (gap_model μ q) (gap_set h q)
  unfolding gap_model gap_set
  keeps_gap q =
      record {
        inv =
            record {
              history = v.history;
              controller_ok_lem = λ c l. controller_on ext (frame_same c same refl refl refl (λ i x. refl)) (v.controller_ok_lem c l);
              settled = λ c l. settled_on ext (v.controller_ok_lem c l) (λ y b z. spoilt_same same z) (v.settled c l);
              message_ok_lem = λ m p l. message_on ext refl refl (v.message_ok_lem m p l);
              agree = v.agree;
              flags = v.flags;
              gap_is = refl;
            };
        ext = ext;
        sent_grows = omega arith;
        sending_same = λ m l. refl;
        receiver_same = λ m l. refl;
        from_same = λ m l. refl;
        to_same = λ m l. refl;
      }
    where
      same : SameFacts h (gap_set h q)
      same = record { begun_is = refl; rests_is = refl; stable_is = refl; lost_is = refl; heard_is = refl }

      ext : Ext h (gap_set h q)
      ext = ext_same same
