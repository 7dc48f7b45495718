-- A crash and a hearing keep the invariant. A crash is its marks and a new start; a hearing is its marks, and where something must
-- be undone the kept intervals are logged and the controller starts anew.
use Rattle.std.specs.Prelude.{◌≡◌, Bool, true, ◌≢◌, ℕ, ◌+◌, ◌≤◌, ◌<◌}
use Rattle.std.proofs.Math.Path.{refl, ap, subst}
use Rattle.std.proofs.Common.{sym, ◌∙◌, arith, le-leb}
use Rattle.std.proofs.lemmas.Bool.{lt-leb}
use Rattle.base.specs.Choice.{◌≤?◌}
use Rattle.history.specs.History.{Interval, interval, History, changed_at, newest, those, joined, leaving, stabilized, hearing, losing, crashing, rolling_back}
use Rattle.model.specs.Model.{Controller, Model, changed_at₂, put_controller, cap_model, note_controller, end_controller, logged_controller, anew_controller}
use Rattle.model.specs.Tests.{Is}
use Rattle.model.proofs.Tests.{fails, eq?, changed_at_ind, changed_at_same, changed_at₂_other}
use Rattle.model.proofs.Chain.{chain_of, member_chain, chain_member, those_chain}
use Rattle.model.proofs.Invariant.{Spoilt, ControllerOk, Flags, EndsAgree, Inv, Ext, ext_trans, frame_trans, controller_on, spoilt_on, spoilt_up, newest_is}
use Rattle.model.specs.Vectors.{Condemned}
use Rattle.model.proofs.Vectors.{condemned_spoilt, spoilt_condemned}
use Rattle.model.proofs.Growing.{grown_ext, grown_order, grown_frame, grown_back, grown_settled, grown_flags}
use Rattle.model.proofs.Renewing.{Renews, renews_grows, renewed_controller, restarting_is}
use Rattle.model.proofs.Logging.{Logs, Logged, logged_ext, logged_order, logged_frame, logged_back, logged_controller_logged}
use Rattle.model.proofs.Hearing.{Hears, heard_ext, heard_order, heard_frame, heard_back, heard_controller}
use Rattle.model.proofs.Crashing.{Crashes, crashed_ext, crashed_order, crashed_frame, crashed_controller, crashed_clean, crashed_gone, crashed_back}
use Rattle.model.proofs.Keeping.{Keeps, keeps_trans, put_keeps, agree_heard, agree_crashed}
use Rattle.model.proofs.Capping.{keeps_capped}

-- X: the marks of the crash, and a new start after the stable intervals
module _ {n : ℕ} {μ : Model} {h : History} (v : Inv n μ h) (c : ℕ) (below : c < n) where
  -- the controller that crashes
  abbrev failed : Controller
  failed = μ.controller c

  -- it is in order
  failed_ok : ControllerOk h c failed
  failed_ok = v.controller_ok_lem c below

  -- what its marks are
  crash : Crashes n h c failed
  crash = record { order = v.history; ok = failed_ok; settled = v.settled c below }

  -- the history with them
  abbrev marked : History
  marked = hearing (losing h c) c c (h.incarnation c)

  -- the stable ones are kept, and it starts anew
  restart : Renews n marked c (end_controller c failed) failed.stable h.stable
  unfolding hearing losing end_controller
  restart =
      record {
        order = crashed_order crash;
        ok = crashed_controller crash;
        below = below;
        pos = failed_ok.shape.stable_pos;
        stable = omega arith;
        cut =
            ap (those h.stable) failed_ok.shape.chain_is
            ∙ those_chain h.stable c failed.begun_in failed.stable failed.live failed_ok.shape.stable_le failed_ok.body.stable_upto
            (λ x p q. fails _ (λ z. let g = failed_ok.body.stable_only x (omega arith) q z in omega arith));
        clean = crashed_clean crash;
        gone = crashed_gone crash;
      }

  -- nobody has heard of a crash that is only now
  unheard_yet : (b : ℕ) → b < n → Is (h.heard b c failed.incarnation) → ⊥
  unheard_yet b l z =
      let u = (v.controller_ok_lem b l).ended.heard_end c failed.incarnation z in
      let w = v.agree b c failed.incarnation u in
      omega (arith, (v.settled c below).not_ended)

  -- nobody else has heard of the crash, so nothing else is spoilt; the new interval may be checkpointed
  pub keeps_crash : Keeps n μ h (cap_model (put_controller μ c (anew_controller c (end_controller c (μ.controller c)) (μ.controller c).stable)) c) (crashing h c)
  unfolding crashing hearing losing leaving joined end_controller anew_controller
  keeps_crash =
      let begun =
      put_keeps v (record {
        order = grown_order (renews_grows restart);
        ext = ext_trans (crashed_ext crash) (grown_ext (renews_grows restart));
        frame = λ b ne. frame_trans (crashed_ext crash) (crashed_frame crash b ne) (grown_frame (renews_grows restart) b ne);
        back = λ b ne l y bi r.
            crashed_back crash b ne (unheard_yet b l) y (grown_back (renews_grows restart) b y ((crashed_ext crash).begun_stays y bi) r);
        ok = renewed_controller restart;
        settled = grown_settled (renews_grows restart);
        agree = agree_crashed μ.controller c _ v.agree failed.incarnation failed.stable refl (v.settled c below).not_ended;
        sending_is = refl;
        receiver_is = refl;
        flags = grown_flags (renews_grows restart) (v.flags c below);
        gap_is = refl;
      }) in
      subst (Keeps n μ h (cap_model (put_controller μ c (anew_controller c (end_controller c failed) failed.stable)) c)) (sym (restarting_is restart))
      (keeps_trans begun (keeps_capped begun.inv c below))

-- H: the hearer can hear of the crash that ended incarnation i of the crashed controller
pub record HearsOf (n : ℕ) (μ : Model) (hearer crashed i : ℕ) : Type 0 where
  pub hearer_below : hearer < n
  pub crashed_below : crashed < n
  pub ended : 1 ≤ (μ.controller crashed).ends crashed i
  pub unheard : (μ.controller hearer).ends crashed i ≡ 0

-- the hearer is not the controller that crashed, which has heard its own crash
pub hears_other : {n : ℕ} {μ : Model} {b a i : ℕ} → HearsOf n μ b a i → b ≢ a
hears_other {μ = μ} {b} {a} {i} O e = let w : (μ.controller b).ends a i ≡ (μ.controller a).ends a i = rw e in omega (arith, O.ended, O.unheard)

-- the hearer with the end word of that crash noted
abbrev pub noted_controller : Model → ℕ → ℕ → ℕ → Controller
noted_controller μ hearer crashed i = note_controller (μ.controller hearer) crashed i ((μ.controller crashed).ends crashed i)

-- no live interval above number 1 has a condemned vector
pub record NoneCondemned (n : ℕ) (k : Controller) : Type 0 where
  pub none : (x : ℕ) → 2 ≤ x → x ≤ k.live → Condemned n k (k.vec x) → ⊥

-- number j + 1 is the lowest above 1 that has one
pub record LowestCondemned (n : ℕ) (k : Controller) (j : ℕ) : Type 0 where
  pub pos : 1 ≤ j
  pub below : j < k.live
  pub condemned : Condemned n k (k.vec (j + 1))
  pub lowest : (x : ℕ) → 2 ≤ x → x ≤ j → Condemned n k (k.vec x) → ⊥

module _ {n : ℕ} {μ : Model} {h : History} (v : Inv n μ h) {b a i : ℕ} (O : HearsOf n μ b a i) where
  open O use {hearer_below, crashed_below, ended}

  -- the controller with the end word noted
  abbrev noted : Controller
  noted = noted_controller μ b a i

  -- the history in which b has heard the crash
  abbrev heard : History
  heard = hearing h b a i

  -- what is marked
  marks : Hears n h b (μ.controller b) a i ((μ.controller a).ends a i)
  marks =
      record {
        order = v.history;
        ok = v.controller_ok_lem b hearer_below;
        other = hears_other O;
        pos = ended;
        kept =
            let d = (v.controller_ok_lem a crashed_below).ended in
            record { begun = λ l. d.end_begun i ended; stable = λ x z l. d.end_stable i x z ended l };
      }

  -- the noted controller is in order
  ok_noted : ControllerOk heard b noted
  ok_noted = heard_controller marks

  -- all controllers with it
  abbrev controllers : ℕ → Controller
  controllers = changed_at μ.controller b noted

  -- they are in order
  controllers_ok : (c : ℕ) → c < n → ControllerOk heard c (controllers c)
  controllers_ok =
      changed_at_ind (λ c k. c < n → ControllerOk heard c k) μ.controller b noted (λ l. ok_noted)
      (λ c ne l. controller_on (heard_ext marks) (heard_frame marks c ne) (v.controller_ok_lem c l))

  -- and their end words agree
  controllers_agree : EndsAgree controllers
  unfolding note_controller
  controllers_agree = agree_heard μ.controller b noted v.agree a i refl (hears_other O)

  -- the live interval with number x
  abbrev live : ℕ → Interval
  live x = interval b (noted.begun_in x) x

  -- a live interval's vector is condemned exactly where the interval is spoilt by now
  spoilt_live : (x : ℕ) → 1 ≤ x → x ≤ noted.live → Spoilt heard b (live x) → Condemned n noted (noted.vec x)
  spoilt_live x p q l =
      subst (λ k. Condemned n k (noted.vec x)) (changed_at_same μ.controller b noted)
      (spoilt_condemned {controller = controllers} (heard_order marks) controllers_ok controllers_agree hearer_below (noted.vec x) (live x)
      (ok_noted.body.live_begun x p q) (ok_noted.body.tracked x p q) l)

  -- and the other way round
  condemned_live : (x : ℕ) → 1 ≤ x → x ≤ noted.live → Condemned n noted (noted.vec x) → Spoilt heard b (live x)
  condemned_live x p q z =
      condemned_spoilt {controller = controllers} (heard_order marks) controllers_ok controllers_agree hearer_below (noted.vec x) (live x)
      (ok_noted.body.live_begun x p q) (ok_noted.body.tracked x p q)
      (subst (λ k. Condemned n k (noted.vec x)) (sym (changed_at_same μ.controller b noted)) z)

  -- number 1 rests on itself alone and is stable, so it is never spoilt
  first_clean : Spoilt heard b (live 1) → ⊥
  first_clean l =
      let e = ok_noted.body.first_alone l.on l.rests in
      (heard_order marks).stable_not_lost l.on l.crash
      (subst (λ z. Is (heard.stable z)) (sym e) (ok_noted.body.stable_upto 1 (omega arith) ok_noted.shape.stable_pos)) l.lost

  -- where no number from 2 to j is condemned, none from 1 to j is spoilt
  kept_clean : (j : ℕ) → j ≤ noted.live → ((x : ℕ) → 2 ≤ x → x ≤ j → Condemned n noted (noted.vec x) → ⊥) →
      (x : ℕ) → 1 ≤ x → x ≤ j → Spoilt heard b (live x) → ⊥
  kept_clean j fits none x p q l =
      eq? x 1 (λ e. first_clean (subst (λ z. Spoilt heard b (live z)) e l)) (λ ne. none x (omega arith) q (spoilt_live x p (omega arith) l))

  -- the hearer's own incarnation has not ended
  not_ended : noted.ends b noted.incarnation ≡ 0
  unfolding note_controller
  not_ended = changed_at₂_other (μ.controller b).ends a i _ b _ (λ p q. hears_other O p) ∙ (v.settled b hearer_below).not_ended

  -- heard: nothing must be undone
  pub keeps_heard : NoneCondemned n (noted_controller μ b a i) → Keeps n μ h (put_controller μ b (noted_controller μ b a i)) (hearing h b a i)
  unfolding hearing note_controller
  keeps_heard N =
      put_keeps v (record {
        order = heard_order marks;
        ext = heard_ext marks;
        frame = heard_frame marks;
        back = λ c ne l y bi r. heard_back marks c ne y r;
        ok = ok_noted;
        settled = record { not_ended = not_ended; live_clean = kept_clean noted.live (omega arith) N.none };
        agree = controllers_agree;
        sending_is = refl;
        receiver_is = refl;
        flags = v.flags b hearer_below;
        gap_is = refl;
      })

  -- rolled: the numbers above j are undone
  module _ {j : ℕ} (W : LowestCondemned n (noted_controller μ b a i) j) where
    -- the intervals with numbers up to j are kept
    abbrev kept : Interval → Bool
    kept y = y.number ≤? j

    -- they are the chain up to j
    cut : those kept (heard.chain b) ≡ chain_of b noted.begun_in j
    cut =
        ap (those kept) ok_noted.shape.chain_is
        ∙ those_chain kept b noted.begun_in j noted.live (omega (arith, W.below)) (λ x p q. le-leb x j q) (λ x p q. lt-leb x j p)

    -- none of them is spoilt
    clean : (x : ℕ) → 1 ≤ x → x ≤ j → Spoilt heard b (live x) → ⊥
    clean = kept_clean j (omega (arith, W.below)) W.lowest

    -- what is above rests on number j + 1, which is spoilt
    gone : (x : ℕ) → j < x → x ≤ noted.live → Spoilt heard b (live x)
    gone x p q =
        spoilt_up (heard_order marks) (ok_noted.body.live_begun x (omega arith) q) (ok_noted.body.rests_below (j + 1) x (omega arith) (omega arith) q)
        (condemned_live (j + 1) (omega arith) (omega arith) W.condemned)

    -- so is the newest of all
    pub newest_spoilt : Spoilt (hearing h b a i) b (newest (h.chain b))
    unfolding hearing
    newest_spoilt = subst (Spoilt heard b) (sym (newest_is ok_noted.shape)) (gone noted.live W.below (omega arith))

    -- they are logged
    logs : Logs n heard b noted j (those kept (heard.chain b))
    logs =
        record {
          order = heard_order marks;
          ok = ok_noted;
          fits = omega (arith, W.below);
          on = λ y z. member_chain b noted.begun_in j y (rw cut at z);
          has = λ x p q. rw cut (chain_member b noted.begun_in j x (omega arith) q);
          clean = clean;
        }

    -- the history in which they are stable
    abbrev logged : History
    logged = stabilized heard (those kept (heard.chain b))

    -- the controller in which they are
    abbrev keeping : Controller
    keeping = logged_controller b noted j

    -- and what it still has of the noted one
    logs_kept : Logged heard logged b noted j keeping
    logs_kept = logged_controller_logged logs

    -- the others are gone, and b starts anew
    restart_after : Renews n logged b keeping j kept
    unfolding stabilized
    restart_after =
        record {
          order = logged_order logs;
          ok = logs_kept.ok;
          below = hearer_below;
          pos = W.pos;
          stable = logs_kept.upto;
          cut = rw logs_kept.begun_in_is cut;
          clean = rw logs_kept.begun_in_is (λ x p q l. clean x p q (logged_back logs b _ l));
          gone =
              rw (logs_kept.begun_in_is, logs_kept.live_is)
              (λ x p q. spoilt_on (logged_ext logs) (ok_noted.body.live_begun x (omega arith) q) (gone x p q));
        }

    -- the end words that are left
    ends_is : (anew_controller b keeping j).ends ≡ changed_at₂ (μ.controller b).ends a i ((μ.controller a).ends a i)
    unfolding anew_controller note_controller
    ends_is = logs_kept.ends_is

    -- no flag has changed so far
    kept_flags : Flags logged b keeping
    unfolding stabilized hearing note_controller
    kept_flags = rw (logs_kept.live_is, logs_kept.begun_in_is, logs_kept.flagged_is) (v.flags b hearer_below)

    -- the history is later, over the three parts of the step
    ext : Ext h (joined (leaving logged b kept) b (interval b (keeping.incarnation + 1) (j + 1))
        (logged.rests (interval b (keeping.begun_in j) j)) true)
    unfolding anew_controller
    ext = ext_trans (heard_ext marks) (ext_trans (logged_ext logs) (grown_ext (renews_grows restart_after)))

    -- what is kept is logged and clean, and what is spoilt is gone; the new interval may be checkpointed
    pub keeps_rolled : Keeps n μ h (cap_model (put_controller μ b (anew_controller b (logged_controller b (noted_controller μ b a i) j) j)) b) (rolling_back (hearing h b a i) b j)
    unfolding rolling_back joined leaving stabilized hearing anew_controller
    keeps_rolled =
        let begun =
        put_keeps v (record {
          order = grown_order (renews_grows restart_after);
          ext = ext;
          frame = λ c ne.
              frame_trans (heard_ext marks) (heard_frame marks c ne)
              (frame_trans (logged_ext logs) (logged_frame logs c ne) (grown_frame (renews_grows restart_after) c ne));
          back = λ c ne l y bi r.
              let begun = (logged_ext logs).begun_stays y ((heard_ext marks).begun_stays y bi) in
              heard_back marks c ne y (logged_back logs c y (grown_back (renews_grows restart_after) c y begun r));
          ok = renewed_controller restart_after;
          settled = grown_settled (renews_grows restart_after);
          agree = agree_heard μ.controller b _ v.agree a i ends_is (hears_other O);
          sending_is = refl;
          receiver_is = refl;
          flags = grown_flags (renews_grows restart_after) kept_flags;
          gap_is = refl;
        }) in
        subst (Keeps n μ h (cap_model (put_controller μ b (anew_controller b keeping j)) b)) (sym (restarting_is restart_after))
        (keeps_trans begun (keeps_capped begun.inv b hearer_below))
