-- What a controller knows at least, on models: its own live intervals that are stable, and the end of each crash that it has heard. Every
-- change keeps it.
use Rattle.std.specs.Prelude.{◌≡◌, refl, ◌≢◌}
use Rattle.std.proofs.Common.{sym, ◌∙◌, arith}
use Rattle.std.proofs.Math.Path.{subst}
use Prim.Native.Nat.{ℕ, ◌+◌, ◌≤◌, ◌<◌, max}
use borrow.Author.Tests.{ltb-true, lt-ltb}
use Rattle.base.specs.Choice.{◌<?◌, cond_ind, le?}
use Rattle.history.specs.History.{Interval, interval, History}
use Rattle.history.specs.Progress.{Orphan}
use Rattle.model.specs.Model.{Vec, Controller, Model, changed_at₂, put_controller, degree_controller, log_controller, logged_controller, flag_controller, checkpoint_controller, forced_model, cap_model, tell_controller, end_controller, note_controller, begin_controller, anew_controller, open_controller, open_model}
use Rattle.model.specs.Tests.{Is}
use Rattle.model.proofs.Tests.{eq?, changed_at_ind, changed_at_other, changed_at₂_ind, changed_at₂_same, changed_at₂_other}
use Rattle.model.proofs.Invariant.{Inv}
use Rattle.model.proofs.Renewing.{renewed_old, renewed_new}
use Rattle.model.proofs.Keeping.{put_controller_twice}
use Rattle.model.proofs.Securing.{logged_stable}
use Rattle.model.proofs.Recovery.{HearsOf, hears_other, noted_controller}

-- What controller c knows at least: its own live intervals that are stable, and the end of each crash that it has heard.
pub record Informed (c : ℕ) (k : Controller) : Type 0 where
  pub own : (x : ℕ) → 1 ≤ x → x ≤ k.stable → x ≤ k.known c (k.begun_in x)
  pub ended : (a i : ℕ) → k.ends a i ≤ k.known a i

-- each controller of the house knows that
abbrev pub AllInformed : ℕ → Model → Type 0
AllInformed n μ = (c : ℕ) → c < n → Informed c (μ.controller c)

-- Where controller c stands: from the newest stable interval on all are of the current incarnation, and neither that one nor a later one
-- has ended.
record Current (c : ℕ) (k : Controller) : Type 0 where
  from : (x : ℕ) → k.stable ≤ x → x ≤ k.live → k.begun_in x ≡ k.incarnation
  unended : (i : ℕ) → k.incarnation ≤ i → k.ends c i ≡ 0

-- no incarnation after the current one has ended
abbrev Unended : ℕ → Controller → Type 0
Unended c k = (i : ℕ) → k.incarnation < i → k.ends c i ≡ 0

-- a house just opened: each controller knows its first interval, and there are no end words
pub informed_opened : (n k : ℕ) → AllInformed n (open_model n k)
unfolding open_model open_controller
informed_opened n k c below =
    rw (lt-ltb c n below) (record { own = λ x p q. rw (changed_at₂_same (λ a i. 0) c 0 1) q; ended = λ a i. omega arith })

-- a known word is set to e: what was known up to x is known still, where e leaves it so
set_keeps : (known : ℕ → ℕ → ℕ) (a i e x : ℕ) → (x ≤ known a i → x ≤ e) → (b s : ℕ) → x ≤ known b s → x ≤ changed_at₂ known a i e b s
set_keeps known a i e x f = changed_at₂_ind (λ b s w. x ≤ known b s → x ≤ w) known a i e f (λ b s ne l. l)

-- what a change of controller c keeps of it
module _ {c : ℕ} {k : Controller} where
  -- K: no word of it changes
  degree_informed : (d : ℕ) → Informed c k → Informed c (degree_controller k d)
  unfolding degree_controller
  degree_informed d o = record { own = o.own; ended = o.ended }

  -- logging: what is newly stable is of the current incarnation, whose known word is the new count
  log_informed : (j : ℕ) → j ≤ k.live → Current c k → Informed c k → Informed c (log_controller c k j)
  unfolding log_controller
  log_informed j fits now o =
      record {
        own = λ x p q.
            eq? (k.begun_in x) k.incarnation (λ e. rw (e, changed_at₂_same k.known c k.incarnation j) q)
            (λ ne. rw (changed_at₂_other k.known c k.incarnation j c (k.begun_in x) (λ d e. ne e))
            (o.own x p (le? k.stable x (λ l. absurd (ne (now.from x l (omega arith)))) (λ l. omega arith))));
        ended =
            changed_at₂_ind (λ a i w. k.ends a i ≤ w) k.known c k.incarnation j (rw (now.unended k.incarnation (omega arith)) (omega arith))
            (λ a i ne. o.ended a i);
      }

  -- the same "if any" are not yet stable
  logged_informed : (j : ℕ) → j ≤ k.live → Current c k → Informed c k → Informed c (logged_controller c k j)
  logged_informed j fits now o = cond_ind (Informed c) (k.stable <? j) (λ e. log_informed j fits now o) (λ e. o)

  -- a checkpoint logs, and the flag tells nothing
  checkpoint_informed : Current c k → Informed c k → Informed c (checkpoint_controller c k)
  unfolding flag_controller
  checkpoint_informed now o = let l = logged_informed k.live (omega arith) now o in record { own = l.own; ended = l.ended }

  -- T: known words only grow
  tell_informed : (a : ℕ) (w : ℕ → ℕ) → Informed c k → Informed c (tell_controller a k w)
  unfolding tell_controller
  tell_informed a w o =
      record { own = λ x p q. raised x c (k.begun_in x) (o.own x p q); ended = λ b i. raised (k.ends b i) b i (o.ended b i) }
    where
      raised : (x b i : ℕ) → x ≤ k.known b i → x ≤ (tell_controller a k w).known b i
      raised x b i = changed_at_ind (λ b f. x ≤ k.known b i → x ≤ f i) k.known a (λ i. max (k.known a i) (w i)) (λ l. omega arith) (λ b ne l. l) b

  -- X, first part: the newest stable interval is of the incarnation that ends, and c knows it
  end_informed : 1 ≤ k.stable → k.stable ≤ k.live → Current c k → Informed c k → Informed c (end_controller c k)
  unfolding end_controller
  end_informed pos fits now o =
      record {
        own = o.own;
        ended =
            changed_at₂_ind (λ a i w. w ≤ k.known a i) k.ends c k.incarnation k.stable
            (rw (now.from k.stable (omega arith) fits) at (o.own k.stable pos (omega arith))) (λ a i ne. o.ended a i);
      }

  -- H, first part: the known word is raised to the end word that is noted
  note_informed : (a i e : ℕ) → Informed c k → Informed c (note_controller k a i e)
  unfolding note_controller
  note_informed a i e o =
      record {
        own = λ x p q. set_keeps k.known a i (max (k.known a i) e) x (λ l. omega arith) c (k.begun_in x) (o.own x p q);
        ended =
            changed_at₂_ind (λ b s w. changed_at₂ k.ends a i e b s ≤ w) k.known a i (max (k.known a i) e)
            (rw (changed_at₂_same k.ends a i e) (omega arith)) (λ b s ne. rw (changed_at₂_other k.ends a i e b s ne) (o.ended b s));
      }

  -- which is that of another's crash, so that c stands where it stood
  note_current : (a i e : ℕ) → c ≢ a → Current c k → Current c (note_controller k a i e)
  unfolding note_controller
  note_current a i e ne now =
      record { from = now.from; unended = λ s l. changed_at₂_other k.ends a i e c s (λ p q. ne p) ∙ now.unended s l }

  -- D: what begins is not stable
  begin_informed : (w : Vec) → k.stable ≤ k.live → Informed c k → Informed c (begin_controller c k w)
  unfolding begin_controller
  begin_informed w fits o =
      record { own = λ x p q. rw (changed_at_other k.begun_in (k.live + 1) x k.incarnation (λ e. omega arith)) (o.own x p q); ended = o.ended }

  -- and it is of the current incarnation
  begin_current : (w : Vec) → Current c k → Current c (begin_controller c k w)
  unfolding begin_controller
  begin_current w now =
      record {
        from =
            changed_at_ind (λ x i. k.stable ≤ x → x ≤ k.live + 1 → i ≡ k.incarnation) k.begun_in (k.live + 1) k.incarnation (λ p q. refl)
            (λ x ne p q. now.from x p (omega arith));
        unended = now.unended;
      }

  -- X, H: what is kept was stable, and the new interval is known
  anew_informed : (j : ℕ) → j ≤ k.stable → Unended c k → Informed c k → Informed c (anew_controller c k j)
  unfolding anew_controller
  anew_informed j kept none o =
      record {
        own = λ x p q.
            eq? x (j + 1)
            (λ e. rw (e, renewed_new j (k.incarnation + 1) 0 k.begun_in, changed_at₂_same k.known c (k.incarnation + 1) (j + 1)) (omega arith))
            (λ ne. rw (renewed_old j (k.incarnation + 1) 0 k.begun_in x (omega arith))
            (set_keeps k.known c (k.incarnation + 1) (j + 1) x (λ l. omega arith) c (k.begun_in x) (o.own x p (omega arith))));
        ended =
            changed_at₂_ind (λ a i w. k.ends a i ≤ w) k.known c (k.incarnation + 1) (j + 1)
            (rw (none (k.incarnation + 1) (omega arith)) (omega arith)) (λ a i ne. o.ended a i);
      }

  -- logging leaves it where it stands
  logged_current : (j : ℕ) → Current c k → Current c (logged_controller c k j)
  unfolding log_controller
  logged_current j now =
      cond_ind (Current c) (k.stable <? j)
      (λ e. record { from = λ x p q. now.from x (omega (arith, ltb-true k.stable j e)) q; unended = now.unended }) (λ e. now)

-- a controller that starts anew has its new interval alone in the incarnation that begins
anew_current : (c : ℕ) (k : Controller) (j : ℕ) → Unended c k → Current c (anew_controller c k j)
unfolding anew_controller
anew_current c k j none =
    record {
      from = λ x p q. let e : x ≡ j + 1 = omega arith in rw (e, renewed_new j (k.incarnation + 1) 0 k.begun_in);
      unended = λ i l. none i (omega arith);
    }

-- a crash ends the current incarnation alone
crash_unended : (c : ℕ) (k : Controller) → Current c k → Unended c (end_controller c k)
unfolding end_controller
crash_unended c k now i l = changed_at₂_other k.ends c k.incarnation k.stable c i (λ p q. omega arith) ∙ now.unended i (omega arith)

-- no later incarnation has ended
later_unended : (c : ℕ) (k : Controller) → Current c k → Unended c k
later_unended c k now i l = now.unended i (omega arith)

module _ {n : ℕ} {μ : Model} {h : History} (v : Inv n μ h) (all : AllInformed n μ) (c : ℕ) (below : c < n) where
  -- the controller that changes
  abbrev k : Controller
  k = μ.controller c

  -- where it stands
  now : Current c k
  now =
      record {
        from = (v.controller_ok_lem c below).shape.current_from;
        unended = λ i l.
            le? 1 (k.ends c i)
            (λ p. let e : i ≡ k.incarnation = omega (arith, (v.controller_ok_lem c below).ended.end_le i p) in rw e (v.settled c below).not_ended)
            (λ p. omega arith);
      }

  -- an informed controller is put; the others are as they were
  put : (k' : Controller) → Informed c k' → AllInformed n (put_controller μ c k')
  unfolding put_controller
  put k' o = changed_at_ind (λ b q. b < n → Informed b q) μ.controller c k' (λ l. o) (λ b ne. all b)

  -- the same where its newest interval may be checkpointed then
  put_capped : (k' : Controller) → Current c k' → Informed c k' → AllInformed n (cap_model (put_controller μ c k') c)
  unfolding cap_model
  put_capped k' s o =
      cond_ind (AllInformed n) (forced_model (put_controller μ c k') c)
      (λ e. subst (AllInformed n) (sym (put_controller_twice μ c k' (checkpoint_controller c))) (put _ (checkpoint_informed s o)))
      (λ e. put k' o)

  -- K: a degree is set
  pub informed_degree : (d : ℕ) → AllInformed n (put_controller μ c (degree_controller (μ.controller c) d))
  informed_degree d = put _ (degree_informed d (all c below))

  -- L: the live intervals up to j are logged
  pub informed_logged : (j : ℕ) → j ≤ (μ.controller c).live → AllInformed n (put_controller μ c (log_controller c (μ.controller c) j))
  informed_logged j fits = put _ (log_informed j fits now (all c below))

  -- C: all of them are
  pub informed_checkpointed : AllInformed n (put_controller μ c (checkpoint_controller c (μ.controller c)))
  informed_checkpointed = put _ (checkpoint_informed now (all c below))

  -- T: a tells c
  pub informed_told : (a : ℕ) (w : ℕ → ℕ) → AllInformed n (put_controller μ c (tell_controller a (μ.controller c) w))
  informed_told a w = put _ (tell_informed a w (all c below))

  -- D: an interval of c begins
  pub informed_begun : (w : Vec) → AllInformed n (cap_model (put_controller μ c (begin_controller c (μ.controller c) w)) c)
  informed_begun w = put_capped _ (begin_current w now) (begin_informed w (v.controller_ok_lem c below).shape.stable_le (all c below))

  -- X: c crashes
  pub informed_crashed :
      AllInformed n (cap_model (put_controller μ c (anew_controller c (end_controller c (μ.controller c)) (μ.controller c).stable)) c)
  unfolding end_controller
  informed_crashed =
      let s = (v.controller_ok_lem c below).shape in
      let none = crash_unended c k now in
      put_capped _ (anew_current c _ k.stable none)
      (anew_informed k.stable (omega arith) none (end_informed s.stable_pos s.stable_le now (all c below)))

  -- H, where nothing must be undone: c hears of a's crash
  pub informed_heard : (a i : ℕ) → AllInformed n (put_controller μ c (noted_controller μ c a i))
  informed_heard a i = put _ (note_informed a i ((μ.controller a).ends a i) (all c below))

  -- H, where the numbers above j are undone
  pub informed_rolled : {a i : ℕ} → HearsOf n μ c a i → (j : ℕ) → j ≤ (μ.controller c).live →
      AllInformed n (cap_model (put_controller μ c (anew_controller c (logged_controller c (noted_controller μ c a i) j) j)) c)
  unfolding note_controller
  informed_rolled {a} {i} O j fits =
      let noted = note_current a i ((μ.controller a).ends a i) (hears_other O) now in
      let none = later_unended c _ (logged_current j noted) in
      put_capped _ (anew_current c _ j none)
      (anew_informed j (omega (arith, logged_stable c (noted_controller μ c a i) j)) none (logged_informed j fits noted (note_informed a i ((μ.controller a).ends a i) (all c below))))

-- y rests on no lost interval
abbrev pub Sure : History → Interval → Type 0
Sure h y = Orphan h y → ⊥

module _ {n : ℕ} {μ : Model} {h : History} (v : Inv n μ h) (all : AllInformed n μ) (b : ℕ) where
  -- The paper's Corollary 1: where b has heard of the crash that ended a's incarnation i, what was begun in it up to its end is stable, and
  -- known to b.
  pub ended_known : b < n → (a i x : ℕ) → a < n → Is (h.heard b a i) → Is (h.begun (interval a i x)) → x ≤ (μ.controller b).ends a i →
      (x ≤ (μ.controller b).known a i) × Is (h.stable (interval a i x))
  ended_known below a i x owner heard begun l =
      let pos = (v.controller_ok_lem b below).ended.heard_end a i heard in
      let same = v.agree b a i pos in
      (omega (arith, (all b below).ended a i), (v.controller_ok_lem a owner).ended.end_stable i x begun (omega arith) (omega arith))
