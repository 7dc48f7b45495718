-- What is known only grows along a list, and the vector of a message only loses pairs: so a pair that filtering for b empties is emptied ever
-- after.
use Rattle.std.specs.Prelude.{◌≡◌, refl, List, [], ◌∷◌, ◌++◌, ◌≢◌, ◌⊎◌, ℕ, ◌+◌, ◌≤◌, ◌<◌}
use Rattle.std.proofs.Common.{sym, ◌∙◌, ap, subst, inl, inr, ⊎_elim, arith, ltb-true}
use Rattle.base.specs.Choice.{◌<?◌, cond_ind, le?}
use Rattle.rules.specs.Step.{Call, asks, step_call}
use Rattle.rules.specs.declared.Answer.{Answer}
use Rattle.rules.specs.declared.Command.{Command}
use Rattle.history.specs.History.{interval, History}
use Rattle.history.specs.Demand.{Run, next, runs, FromOpening, up_to, NoOpening}
use Rattle.model.specs.Model.{pair, Vec, Controller, Message, Model, put_controller, put_message, degree_controller, log_controller, logged_controller, flag_controller, checkpoint_controller, forced_model, cap_model, gap_model, tell_controller, end_controller, note_controller, begin_controller, anew_controller, send_message, released_vec, release_message}
use Rattle.model.specs.Tests.{Is}
use Rattle.model.proofs.Tests.{changed_at_ind, changed_at_other, changed_at₂_ind, changed_at₂_same, changed_at₂_other}
use Rattle.model.proofs.Invariant.{ControllerOk, Inv}
use Rattle.model.proofs.Vectors.{filtered_ind}
use Rattle.model.proofs.Keeping.{put_controller_twice}
use Rattle.model.proofs.Recovery.{hears_other, noted_controller}
use Rattle.calls.specs.Sets.{runs_append}
use Rattle.calls.specs.Made.{NoDoneOpening, NotDone, PartOf, call_ind, part_not_done, Unturned}
use Rattle.model.proofs.Runs.{no_opening_after, not_done, first_part}
use Rattle.image.specs.Outcome as O
use Rattle.image.specs.Outcome.{Outcome}
use Rattle.demand.specs.Demanded.{table_inv, table_outcome}
use Rattle.paper.specs.Ready.{Ready, model_in, ready_next, ready, ready_kept, ready_turned}
use Rattle.image.proofs.Tables.{model_served}

-- KNOWN WORDS
-- no known word is lowered
abbrev pub Grows : Controller → Controller → Type 0
Grows k k' = (a i : ℕ) → k.known a i ≤ k'.known a i

-- of any controller
abbrev pub GrowsIn : Model → Model → Type 0
GrowsIn μ μ' = (b : ℕ) → Grows (μ.controller b) (μ'.controller b)

grows_self : (k : Controller) → Grows k k
grows_self k a i = omega arith

grows_trans : (k k' k'' : Controller) → Grows k k' → Grows k' k'' → Grows k k''
grows_trans k k' k'' p q a i = omega (arith, p a i, q a i)

-- what controller c knows of itself: of its current incarnation no more than is stable, and nothing of a later one
record Own (c : ℕ) (k : Controller) : Type 0 where
  now : k.known c k.incarnation ≤ k.stable
  later : (i : ℕ) → k.incarnation < i → k.known c i ≡ 0

-- by the invariant
own_is : {h : History} {c : ℕ} {k : Controller} → ControllerOk h c k → Own c k
own_is {h} {c} {k} ok =
    record {
      now = le? 1 (k.known c k.incarnation)
          (λ p. let x = k.known c k.incarnation in
          let begun = ok.knows.known_begun c k.incarnation p in
          let stable = ok.knows.known_stable_lem c k.incarnation x begun (omega arith) in
          let (top, is) = ok.body.current_live x begun in
          ok.body.stable_only x p top (subst (λ i. Is (h.stable (interval c i x))) (sym is) stable))
          (λ p. omega arith);
      later = λ i l.
          le? 1 (k.known c i) (λ p. absurd (omega (arith, ok.body.begun_le i (k.known c i) (ok.knows.known_begun c i p)))) (λ p. omega arith);
    }

module _ (c : ℕ) (k : Controller) (o : Own c k) where
  -- logging raises the word of the current incarnation
  grows_log : (j : ℕ) → k.stable ≤ j → Grows k (log_controller c k j)
  unfolding log_controller
  grows_log j l = changed_at₂_ind (λ a i w. k.known a i ≤ w) k.known c k.incarnation j (omega (arith, o.now)) (λ a i ne. omega arith)

  grows_logged : (j : ℕ) → Grows k (logged_controller c k j)
  grows_logged j = cond_ind (Grows k) (k.stable <? j) (λ e. grows_log j (omega (arith, ltb-true k.stable j e))) (λ e. grows_self k)

  grows_checkpoint : Grows k (checkpoint_controller c k)
  unfolding flag_controller
  grows_checkpoint = grows_logged k.live

  -- a new start gives the word of the new incarnation
  grows_anew : (j : ℕ) → Grows k (anew_controller c k j)
  unfolding anew_controller
  grows_anew j =
      changed_at₂_ind (λ a i w. k.known a i ≤ w) k.known c (k.incarnation + 1) (j + 1) (omega (arith, o.later (k.incarnation + 1) (omega arith)))
      (λ a i ne. omega arith)

  -- what c knows of itself after that
  own_logged : (j : ℕ) → Own c (logged_controller c k j)
  unfolding log_controller
  own_logged j =
      cond_ind (Own c) (k.stable <? j)
      (λ e. record {
        now = rw (changed_at₂_same k.known c k.incarnation j) (omega arith);
        later = λ i l. changed_at₂_other k.known c k.incarnation j c i (λ p q. omega arith) ∙ o.later i l;
      })
      (λ e. o)

  own_anew : (j : ℕ) → Own c (anew_controller c k j)
  unfolding anew_controller
  own_anew j =
      record {
        now = rw (changed_at₂_same k.known c (k.incarnation + 1) (j + 1)) (omega arith);
        later = λ i l. changed_at₂_other k.known c (k.incarnation + 1) (j + 1) c i (λ p q. omega arith) ∙ o.later i (omega arith);
      }

  own_begun : (w : Vec) → Own c (begin_controller c k w)
  unfolding begin_controller
  own_begun w = record { now = o.now; later = o.later }

  own_ended : Own c (end_controller c k)
  unfolding end_controller
  own_ended = record { now = o.now; later = o.later }

  own_noted : (a i e : ℕ) → c ≢ a → Own c (note_controller k a i e)
  unfolding note_controller
  own_noted a i e ne =
      record {
        now = rw (changed_at₂_other k.known a i _ c k.incarnation (λ p q. ne p)) o.now;
        later = λ s l. changed_at₂_other k.known a i _ c s (λ p q. ne p) ∙ o.later s l;
      }

-- a noted end raises the word
grows_noted : (k : Controller) (a i e : ℕ) → Grows k (note_controller k a i e)
unfolding note_controller
grows_noted k a i e = changed_at₂_ind (λ b s w. k.known b s ≤ w) k.known a i _ (omega arith) (λ b s ne. omega arith)

-- so does a telling
grows_told : (a : ℕ) (k : Controller) (w : ℕ → ℕ) → Grows k (tell_controller a k w)
unfolding tell_controller
grows_told a k w = changed_at_ind (λ b row. (i : ℕ) → k.known b i ≤ row i) k.known a _ (λ i. omega arith) (λ b ne i. omega arith)

-- MODELS
-- from one model to a later one: known words only grow, and messages stay, but that pairs of their vectors may be emptied
pub record Grown (μ μ' : Model) : Type 0 where
  pub known_le : GrowsIn μ μ'
  pub sent_le : μ.sent ≤ μ'.sent
  pub pair_kept : (m : ℕ) → m ≤ μ.sent → (a : ℕ) → ((μ'.message m).vec a ≡ (μ.message m).vec a) ⊎ ((μ'.message m).vec a ≡ pair 0 0)

pub grown_self : (μ : Model) → Grown μ μ
grown_self μ = record { known_le = λ b. grows_self (μ.controller b); sent_le = omega arith; pair_kept = λ m l a. inl refl }

pub grown_trans : {μ μ' μ'' : Model} → Grown μ μ' → Grown μ' μ'' → Grown μ μ''
grown_trans p q =
    let l = p.sent_le in
    record {
      known_le = λ b a i. omega (arith, p.known_le b a i, q.known_le b a i);
      sent_le = omega (arith, q.sent_le);
      pair_kept = λ m s a. ⊎_elim (λ e. ⊎_elim (λ d. inl (e ∙ d)) (λ d. inr (e ∙ d)) (p.pair_kept m s a)) (λ e. inr e) (q.pair_kept m (omega arith) a);
    }

-- one controller is put
grown_put : (μ : Model) (c : ℕ) (k : Controller) → Grows (μ.controller c) k → Grown μ (put_controller μ c k)
unfolding put_controller
grown_put μ c k l =
    record { known_le = changed_at_ind (λ b q. Grows (μ.controller b) q) μ.controller c k l (λ b ne. grows_self (μ.controller b)); sent_le = omega arith; pair_kept = λ m s a. inl refl }

-- and checkpointed where that is forced
grown_capped : (μ : Model) (c : ℕ) (k : Controller) → Grows (μ.controller c) k → Own c k → Grown μ (cap_model (put_controller μ c k) c)
unfolding cap_model
grown_capped μ c k l o =
    cond_ind (Grown μ) (forced_model (put_controller μ c k) c)
    (λ e. subst (Grown μ) (sym (put_controller_twice μ c k (checkpoint_controller c))) (grown_put μ c _ (grows_trans (μ.controller c) k (checkpoint_controller c k) l (grows_checkpoint c k o))))
    (λ e. grown_put μ c k l)

-- every step but a done opening
grown : {n : ℕ} {μ : Model} {x : Command} {a : Answer} {j : ℕ} {μ' : Model} {h : History} → Outcome n μ x a j μ' → NoDoneOpening x a → Inv n μ h → Grown μ μ'
unfolding degree_controller begin_controller end_controller gap_model send_message put_message released_vec release_message
grown {μ = μ} (O.refused x number) o v = grown_self μ
grown (O.opened j k p q r) o v = absurd (o j k refl refl)
grown {μ = μ} (O.degree_set_lem c k p q) o v = grown_put μ c _ (grows_self (μ.controller c))
grown {μ = μ} (O.sent s r payload sender receiver ne) o v =
    record {
      known_le = λ b. grows_self (μ.controller b);
      sent_le = omega arith;
      pair_kept = λ m l a. inl (ap (λ (q : Message). q.vec a) (changed_at_other μ.message (μ.sent + 1) m _ (λ e. omega arith)));
    }
grown {μ = μ} (O.released i mask h w) o v =
    record {
      known_le = λ b. grows_self (μ.controller b);
      sent_le = omega arith;
      pair_kept = λ m l a.
          changed_at_ind (λ m (q : Message). (q.vec a ≡ (μ.message m).vec a) ⊎ (q.vec a ≡ pair 0 0)) μ.message i _
          (filtered_ind (λ q. (q ≡ (μ.message i).vec a) ⊎ (q ≡ pair 0 0)) (μ.controller (μ.message i).from.owner) (μ.message i).vec a (λ _. inr refl) (λ _. inl refl))
          (λ m ne. inl refl) m;
    }
grown {μ = μ} (O.held i mask) o v = grown_self μ
grown {μ = μ} (O.dropped i owner p h w y) o v = grown_self μ
grown {μ = μ} (O.waits i) o v = grown_self μ
grown {n} {μ} (O.delivered i c e w) o v =
    let own = own_is (v.controller_ok_lem c (subst (λ b. b < n) (sym e) w.to_below)) in
    grown_capped μ c _ (grows_self (μ.controller c)) (own_begun c (μ.controller c) own (μ.message i).vec)
grown {μ = μ} (O.logged c q below pos fits) o v = grown_put μ c _ (grows_log c (μ.controller c) (own_is (v.controller_ok_lem c below)) _ (omega arith))
grown {μ = μ} (O.checkpointed c below) o v = grown_put μ c _ (grows_checkpoint c (μ.controller c) (own_is (v.controller_ok_lem c below)))
grown {μ = μ} (O.told a b p q ne) o v = grown_put μ b _ (grows_told a (μ.controller b) _)
grown {μ = μ} (O.crashed c lost below) o v =
    let own = own_ended c (μ.controller c) (own_is (v.controller_ok_lem c below)) in
    grown_capped μ c _ (grows_anew c _ own (μ.controller c).stable) (own_anew c _ own (μ.controller c).stable)
grown {μ = μ} (O.heard b a i w y) o v = grown_put μ b _ (grows_noted (μ.controller b) a i _)
grown {μ = μ} (O.rolled b a i j undone w y) o v =
    let k = μ.controller b in
    let noted = own_noted b k (own_is (v.controller_ok_lem b w.hearer_below)) a i ((μ.controller a).ends a i) (hears_other w) in
    let own = own_logged b (noted_controller μ b a i) noted j in
    let q = logged_controller b (noted_controller μ b a i) j in
    let k' = anew_controller b q j in
    grown_capped μ b k'
    (grows_trans k (noted_controller μ b a i) k' (grows_noted k a i _) (grows_trans (noted_controller μ b a i) q k' (grows_logged b (noted_controller μ b a i) noted j) (grows_anew b q own j)))
    (own_anew b q own j)
grown {μ = μ} (O.gap_set_lem q h) o v = record { known_le = λ b. grows_self (μ.controller b); sent_le = omega arith; pair_kept = λ m l a. inl refl }

-- RUNS
-- ready, and grown from an earlier model: each step of a call keeps that
abbrev pub ReadyFrom : ℕ → Model → Run → Type 0
ReadyFrom n μ q = Ready n q × Grown μ (model_in q)

pub grown_kept : {n : ℕ} {μ : Model} {r : Run} {x : Call} → NotDone r x → (q : Run) (y : Command) → PartOf r x q y → ReadyFrom n μ q → ReadyFrom n μ (next (asks y) q)
unfolding next step_call
grown_kept unopened q y part w =
    (ready_kept unopened q y part w.0, grown_trans w.1 (grown (table_outcome w.0.holds y) (part_not_done part unopened) (table_inv w.0.holds)))

pub grown_turned : {n : ℕ} {μ : Model} → Unturned (ReadyFrom n μ)
grown_turned {n} {μ} q c lent low w = (ready_turned q c lent low w.0, subst (Grown μ) (sym (model_served q.table c lent low)) w.1)

-- so one call does
pub grown_next : {n : ℕ} {r : Run} → Ready n r → (x : Call) → NotDone r x → Grown (model_in r) (model_in (next x r))
grown_next {n} {r} s x unopened = (call_ind (ReadyFrom n (model_in r)) r grown_turned x (s, grown_self (model_in r)) (grown_kept unopened)).1

-- a list of calls
grown_runs : (l : List Call) {n : ℕ} {r : Run} → Ready n r → NoOpening r l → Grown (model_in r) (model_in (runs r l))
unfolding runs
grown_runs [] {r = r} s unopened = grown_self (model_in r)
grown_runs (x ∷ l) {r = r} s unopened =
    let one = not_done r x l unopened in
    grown_trans (grown_next s x one) (grown_runs l (ready_next x s one) (λ before after size degree e. unopened (x ∷ before) after size degree (ap (λ z. x ∷ z) e)))

module _ (t g : List ℕ) (n k : ℕ) (l : List Call) (O : FromOpening t g n k l) (before rest : List Call) (e : l ≡ before ++ rest) where
  -- the first part of a list is a list from the opening
  pub first : FromOpening t g n k before
  first = first_part before rest (subst (FromOpening t g n k) e O)

  -- so all is known of the run after it
  pub ready_at : Ready n (up_to t g n k before)
  ready_at = ready t g n k before first

  -- no opening is done from there on
  unopened : NoOpening (up_to t g n k before) rest
  unopened = no_opening_after _ before rest (subst (NoOpening _) e O.no_opening)

  -- the end of the list is where its rest leads from there
  end_is : runs (up_to t g n k before) rest ≡ up_to t g n k l
  end_is = sym (runs_append _ before rest) ∙ sym (ap (up_to t g n k) e)

  -- and from there to the end all only grows
  pub grown_from : Grown (model_in (up_to t g n k before)) (model_in (up_to t g n k l))
  grown_from = subst (λ q. Grown (model_in (up_to t g n k before)) (model_in q)) end_is (grown_runs rest ready_at unopened)

-- so it does from the run after a call of the list
pub grown_after : (t g : List ℕ) (n k : ℕ) (l : List Call) → FromOpening t g n k l → (before : List Call) (x : Call) (after : List Call) → l ≡ before ++ x ∷ after →
    Grown (model_in (next x (up_to t g n k before))) (model_in (up_to t g n k l))
unfolding runs
grown_after t g n k l O before x after e =
    let r = up_to t g n k before in
    let none = unopened t g n k l O before (x ∷ after) e in
    subst (λ q. Grown (model_in (next x r)) (model_in q)) (end_is t g n k l O before (x ∷ after) e)
    (grown_runs after (ready_next x (ready_at t g n k l O before (x ∷ after) e) (not_done r x after none))
    (λ b a size degree d. none (x ∷ b) a size degree (ap (λ z. x ∷ z) d)))
