-- Logging and checkpointing keep the invariant, and so does W4's checkpoint of an interval that has just begun: the history and the model
-- force it alike.
use Rattle.std.specs.Prelude.{◌≡◌, Bool, false, not, cond, List, ℕ, zero, suc, ◌+◌, ◌≤◌, ◌<◌}
use Rattle.std.proofs.Math.Path.{refl}
use Rattle.std.proofs.Common.{◌∙◌, ap, subst, arith}
use Rattle.std.proofs.Math.Bool.{true}
use Rattle.history.specs.History.{Interval, interval, History, newest, those, oldest, stabilized, flagging, logging, checkpointing, latest_on, forced_at, capping}
use Rattle.model.specs.Model.{Controller, Model, put_controller, log_controller, flag_controller, checkpoint_controller, latest, forced_model, cap_model}
use Rattle.model.specs.Tests.{Is}
use Rattle.model.proofs.Tests.{fails, not_passes, changed_at_ind, changed_at_interval_same, changed_at_interval_other}
use Rattle.model.proofs.Chain.{chain_of, member_chain, chain_member, oldest_on, on_oldest}
use Rattle.model.proofs.Invariant.{ControllerOk, Inv, Ext, SameFacts, ext_same, frame_same, spoilt_same, knows_on, body_on, ends_on, shape_on, some_live, newest_is}
use Rattle.model.proofs.Logging.{Logs, Logged, logged_ext, logged_order, logged_frame, logged_back, log_logged, logged_controller_logged, logged_settled}
use Rattle.model.proofs.Keeping.{Keeps, keeps_refl, keeps_trans, put_keeps, put_controller_twice, agree_same}

-- the latest flagged number of a chain is that of its numbers
latest_chain : (h : History) (c : ℕ) (begun_in : ℕ → ℕ) (flagged : ℕ → Bool) (n : ℕ) →
    ((x : ℕ) → 1 ≤ x → x ≤ n → h.flagged (interval c (begun_in x) x) ≡ flagged x) → latest_on h (chain_of c begun_in n) ≡ latest flagged n
unfolding latest_on chain_of latest
latest_chain h c begun_in flagged zero e = refl
latest_chain h c begun_in flagged (suc n) e =
    rw (e (suc n) (omega arith) (omega arith), latest_chain h c begun_in flagged n (λ x p q. e x p (omega arith)))

module _ {n : ℕ} {μ : Model} {h : History} (v : Inv n μ h) where
  -- L, C: a controller whose live intervals up to j are logged
  keeps_logged : (c j : ℕ) (l : List Interval) (k' : Controller) → c < n → Logs n h c (μ.controller c) j l → Logged h (stabilized h l) c (μ.controller c) j k' →
      Keeps n μ h (put_controller μ c k') (stabilized h l)
  unfolding stabilized
  keeps_logged c j l k' below logs o =
      put_keeps v (record {
        order = logged_order logs;
        ext = logged_ext logs;
        frame = logged_frame logs;
        back = λ b ne z y bi. logged_back logs b y;
        ok = o.ok;
        settled = logged_settled logs o (v.settled c below);
        agree = agree_same μ.controller c k' v.agree o.ends_is;
        sending_is = refl;
        receiver_is = refl;
        flags = rw (o.live_is, o.begun_in_is, o.flagged_is) (v.flags c below);
        gap_is = refl;
      })

  -- L: the q oldest that are not stable are those with the q numbers above the stable count
  pub keeps_log : (c q : ℕ) → c < n → 1 ≤ q → (μ.controller c).stable + q ≤ (μ.controller c).live →
      Keeps n μ h (put_controller μ c (log_controller c (μ.controller c) ((μ.controller c).stable + q))) (logging h c q)
  unfolding logging
  keeps_log c q below pos fits = keeps_logged c (k.stable + q) _ _ below logs (log_logged logs (omega arith))
    where
      k : Controller
      k = μ.controller c

      ok : ControllerOk h c k
      ok = v.controller_ok_lem c below

      low : (x : ℕ) → 1 ≤ x → x ≤ k.stable → not (h.stable (interval c (k.begun_in x) x)) ≡ false
      low x p l = rw (ok.body.stable_upto x p l)

      high : (x : ℕ) → k.stable < x → x ≤ k.live → Is (not (h.stable (interval c (k.begun_in x) x)))
      high x p l = not_passes _ (fails _ (λ z. let y = ok.body.stable_only x (omega arith) l z in omega arith))

      logs : Logs n h c k (k.stable + q) (oldest q (those (λ (y : Interval). not (h.stable y)) (h.chain c)))
      logs =
          record {
            order = v.history;
            ok = ok;
            fits = fits;
            on = λ y e.
                oldest_on (λ (y : Interval). not (h.stable y)) c k.begun_in k.stable k.live q fits low high y (rw ok.shape.chain_is at e);
            has = λ x a b.
                rw ok.shape.chain_is
                (on_oldest (λ (y : Interval). not (h.stable y)) c k.begun_in k.stable k.live q fits low high x a b);
            clean = λ x p l. (v.settled c below).live_clean x p (omega arith);
          }

  -- C: the whole chain is logged
  checkpoint_logs : (c : ℕ) → c < n → Logs n h c (μ.controller c) (μ.controller c).live (h.chain c)
  checkpoint_logs c below =
      let k = μ.controller c in
      let ok = v.controller_ok_lem c below in
      record {
        order = v.history;
        ok = ok;
        fits = omega arith;
        on = λ y e. member_chain c k.begun_in k.live y (rw ok.shape.chain_is at e);
        has = λ x p q. rw ok.shape.chain_is (chain_member c k.begun_in k.live x (omega arith) q);
        clean = (v.settled c below).live_clean;
      }

  -- the newest interval of c is flagged; all else that is said of it stays
  keeps_flagged : (c : ℕ) → c < n → Keeps n μ h (put_controller μ c (flag_controller (μ.controller c))) (flagging h (newest (h.chain c)))
  unfolding flag_controller flagging
  keeps_flagged c below =
      let o = v.settled c below in
      put_keeps v (record {
        order = v.history;
        ext = ext;
        frame = λ b ne. frame_same b same refl refl refl (λ i x. changed_at_interval_other _ _ _ _ (λ e. ne (ap (λ y. y.owner) (e ∙ newest_is ok.shape))));
        back = λ b ne l y bi r. spoilt_same same r;
        ok =
            record {
              shape = shape_on ext refl refl refl ok.shape;
              body = body_on ext (some_live ok.shape) (λ i x z. z) (λ i x z y. y) ok.body;
              knows = knows_on ext ok.knows;
              ended = ends_on ext (λ i x z. z) (λ i x u z. z) (λ a i z. z) ok.ended;
            };
        settled = record { not_ended = o.not_ended; live_clean = λ x p q r. o.live_clean x p q (spoilt_same same r) };
        agree = agree_same μ.controller c _ v.agree refl;
        sending_is = refl;
        receiver_is = refl;
        flags =
            changed_at_ind (λ x b. 1 ≤ x → x ≤ k.live → h'.flagged (interval c (k.begun_in x) x) ≡ b) k.flagged k.live true
            (λ p q. rw (newest_is ok.shape) (changed_at_interval_same _ _ _))
            (λ x ne p q. changed_at_interval_other _ _ _ _ (λ e. ne (ap (λ y. y.number) (e ∙ newest_is ok.shape))) ∙ v.flags c below x p q);
        gap_is = refl;
      })
    where
      k : Controller
      k = μ.controller c

      h' : History
      h' = flagging h (newest (h.chain c))

      ok : ControllerOk h c k
      ok = v.controller_ok_lem c below

      same : SameFacts h h'
      same = record { begun_is = refl; rests_is = refl; stable_is = refl; lost_is = refl; heard_is = refl }

      ext : Ext h h'
      ext = ext_same same

-- C: what is not stable is logged, if any, then the newest interval is flagged
pub keeps_checkpoint : {n : ℕ} {μ : Model} {h : History} → Inv n μ h → (c : ℕ) → c < n →
    Keeps n μ h (put_controller μ c (checkpoint_controller c (μ.controller c))) (checkpointing h c)
unfolding checkpointing stabilized
keeps_checkpoint {n} {μ} {h} v c below =
    let logs = checkpoint_logs v c below in
    let logged = keeps_logged v c (μ.controller c).live _ _ below logs (logged_controller_logged logs) in
    subst (λ ν. Keeps n μ h ν (checkpointing h c)) (put_controller_twice μ c _ flag_controller) (keeps_trans logged (keeps_flagged logged.inv c below))

-- W4: the history forces a checkpoint where the model does: the chain has the same numbers, and the same of them are flagged
forced_is : {n : ℕ} {μ : Model} {h : History} → Inv n μ h → (c : ℕ) → c < n → forced_at h c ≡ forced_model μ c
unfolding forced_at forced_model
forced_is {μ = μ} {h = h} v c below =
    let k = μ.controller c in
    let s = (v.controller_ok_lem c below).shape in
    rw (newest_is s, s.chain_is, latest_chain h c k.begun_in k.flagged k.live (v.flags c below), v.gap_is)

-- so what has just begun is checkpointed in both, or in neither
pub keeps_capped : {n : ℕ} {μ : Model} {h : History} → Inv n μ h → (c : ℕ) → c < n → Keeps n μ h (cap_model μ c) (capping h c)
unfolding cap_model capping
keeps_capped {n} {μ} {h} v c below = rw (forced_is v c below) (either (forced_model μ c))
  where
    either : (b : Bool) → Keeps n μ h (cond b (put_controller μ c (checkpoint_controller c (μ.controller c))) μ) (cond b (checkpointing h c) h)
    either true = keeps_checkpoint v c below
    either false = keeps_refl v
