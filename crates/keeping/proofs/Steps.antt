-- A house in form stays in form: every step on a state in form leaves one in form, and an opening that is done leaves one whatever stood
-- there, for all limits that fit.
use Rattle.std.specs.Prelude.{◌≡◌, true, false, not, ◌&&◌, ◌||◌, List}
use Rattle.std.proofs.Math.Path.{refl, subst}
use Rattle.std.proofs.Common.{sym, ap, ◌∙◌, ◌==◌}
use Rattle.std.proofs.Math.Bool.{or-true, and-false}
use Prim.Native.Nat.{ℕ, ◌+◌, ◌≤◌, ◌<◌, max}
use native.Mathlib.Omega.{arith}
use borrow.Author.Tests.{eqb-true, leb-false, not-false, lt-ltb, le-leb}
use Rattle.base.specs.Choice.{◌≤?◌, ◌<?◌, cond_ind, le?}
use Rattle.base.specs.Lists.{length_tab, get_d_tab}
use Rattle.base.specs.Cases.{Case, first_of}
use Rattle.table.specs.Field.{State, Known, End, Size, Incarnation, LiveCount, StableCount, Receiver, desk, word, same}
use Rattle.table.specs.Change.{put, put_part, clear_places, put_states}
use Rattle.table.specs.Layout.{incarnations}
use Rattle.table.specs.Numbering.{record_of}
use Rattle.table.proofs.Numbering.{present_given, number_from_lem, numbers_put}
use Rattle.rules.specs.Limits.{Limits, last_incarnation}
use Rattle.rules.specs.Form.{state_held, state_released, state_dropped, state_published, for_desk, state_ok, in_form}
use Rattle.rules.specs.Shared.{newest_place, logged_to, causes_in, causes, placed, entered, restarted, start_anew, removed}
use Rattle.rules.specs.Steps.{After, AfterBoth, refusing, refusing_both, open_refusals, step_open, step_degree, sent, step_send, own_vector, step_release, interval_added, interval_begins, step_deliver, step_log, step_checkpoint, told_row, told, step_tell, crashed, step_crash, noted, lowest_condemned, rolled_back, hear, step_hear, step_gap}
use Rattle.rules.specs.Step.{perform, looks_at_form, step_on}
use Rattle.rules.specs.declared.Answer.TheVariants.{Done}
use Rattle.rules.specs.declared.Command.{Command}
use Rattle.rules.specs.declared.Command.TheVariants.{Open, SetDegree, Send, Release, Deliver, Log, Checkpoint, Tell, Crash, Hear, SetGap}
use Rattle.laws.specs.Facts.{Fitting, Form, form, below_8, controller_form, place_form, message_form, released_lt, known_le, end_le, numbers_le, live_number}
use Rattle.laws.specs.Allowed.{open_allowed, degree_allowed, send_allowed, message_allowed, release_allowed, log_allowed, checkpoint_allowed, tell_allowed, crash_allowed, hear_allowed, gap_allowed, Room, room_left}
use Rattle.laws.specs.Numbers.{numbers_logged_to, numbers_causes, numbers_noted, room_live, room_same}
use Rattle.laws.specs.Chain.{logged_word}
use Rattle.laws.specs.Releasing.{release_cases}
use Rattle.laws.specs.Delivering.{deliver_cases}
use Rattle.laws.specs.Records.{length_merged}
use Rattle.laws.specs.Answering.{not_done}
use Rattle.keeping.specs.InRange.{held_ok, dropped_ok, filtered_ok, merged_ok}
use Rattle.keeping.proofs.Changes.{logged_size, kept_gap, kept_degree, kept_word, kept_row}
use Rattle.keeping.proofs.Logging.{kept_logged, kept_logged_to, kept_checkpointed, kept_capped}
use Rattle.keeping.proofs.Messages.{kept_state, kept_causes, kept_drop_held, kept_let_out, kept_posted}
use Rattle.keeping.proofs.Chains.{kept_added, kept_restarted}
use Rattle.keeping.proofs.Opening.{form_open}

-- a receiver that is not refused is a controller of the house or the desk
named_or_desk : (n r : ℕ) → ((n ≤? r) && not (r == desk)) ≡ false → ((r <? n) || (r == desk)) ≡ true
named_or_desk n r q =
    le? (r + 1) n (λ l. rw (lt-ltb r n (omega arith)))
    (λ l. let d = not-false (r == desk) (rw (le-leb n r (omega arith)) at q) in ap (λ b. (r <? n) || b) d ∙ or-true (r <? n))

module _ (L : Limits) where
  -- a state that a step leaves is in form
  abbrev In : State → Type 0
  In τ = in_form L τ ≡ true

  -- a step after its refusals
  kept_refusing : (cases : List Case) (σ : State) (o : After) → In σ → (0 ≡ first_of cases → In o.left) → In (refusing cases σ o).left
  unfolding refusing
  kept_refusing cases σ o e h = cond_ind (λ (o : After). In o.left) (first_of cases == 0) (λ q. h (sym (eqb-true (first_of cases) 0 q))) (λ _. e)

  kept_refusing_both : (cases : List Case) (σ : State) (g : List ℕ) (o : AfterBoth) → In σ → (0 ≡ first_of cases → In o.left) → In (refusing_both cases σ g o).left
  unfolding refusing_both
  kept_refusing_both cases σ g o e h = cond_ind (λ (o : AfterBoth). In o.left) (first_of cases == 0) (λ q. h (sym (eqb-true (first_of cases) 0 q))) (λ _. e)

  module _ (fit : Fitting L) where
    -- intervals removed from place k on: causes, a start, held messages
    kept_removed : (σ : State) (c k : ℕ) → c < σ Size → 1 ≤ k → k ≤ σ (LiveCount c) → Room L σ c k → σ (Incarnation c) < last_incarnation → In σ → In (removed σ c k)
    unfolding removed start_anew causes causes_in put_states restarted entered placed put same put_part clear_places
    kept_removed σ c k h k1 kl room il e =
        kept_drop_held L _ c k (kept_capped L fit (restarted (causes σ c k) c k) c h (kept_restarted L (causes σ c k) (kept_causes L σ c k e) c k h k1 kl (room_same ((numbers_causes σ c k).number c (k + 1)) room) il))

    module _ (σ : State) (e : In σ) where
      abbrev facts : Form L σ
      facts = form L σ e

      -- K
      kept_step_degree : (c k : ℕ) → In (step_degree σ c k).left
      unfolding step_degree
      kept_step_degree c k = kept_refusing _ σ _ e (λ q. let a = degree_allowed σ c k q in kept_degree L σ c a.controller_lt k a.degree_le e)

      -- S
      kept_step_send : (sender receiver payload : ℕ) → In (step_send L σ sender receiver payload).left
      unfolding step_send sent
      kept_step_send sender receiver payload =
          kept_refusing _ σ _ e (λ q. let a = send_allowed L σ sender receiver q in
          let k = controller_form facts sender a.sender_lt in
          let p = place_form facts sender (newest_place σ sender) a.sender_lt (omega (arith, k.live_pos)) in
          kept_posted L σ state_held sender receiver _ _ payload _ a.room (held_ok (receiver == desk)) a.sender_lt (named_or_desk (σ Size) receiver a.receiver_ok) p.incarnation_le
          (omega (arith, p.number_is, number_from_lem σ sender (newest_place σ sender + 1)))
          (subst (λ x. x ≤ L.numbers) (sym p.number_is) (live_number facts fit sender a.sender_lt (newest_place σ sender + 1) (omega (arith, k.live_pos))))
          (filtered_ok L (σ Size) σ sender _ p.vector_ok_lem) e)

      -- R
      kept_step_release : (g : List ℕ) (m : ℕ) → In (step_release L σ g m).left
      unfolding step_release state_ok own_vector
      kept_step_release g m =
          kept_refusing_both _ σ g _ e (λ q. let r = record_of σ m in
          let a = (release_allowed L σ g r q).0 in
          let ok = filtered_ok L (σ Size) σ _ _ (message_form facts r a.record_used).vector_ok_lem in
          release_cases L σ g m r (λ o. In o.left) (λ _. e)
          (λ _ d. kept_let_out L σ r _ state_released a.record_used ok (ap (λ b. state_ok b state_released) d) e) (λ _ _. e)
          (λ _ d _. kept_let_out L σ r _ state_published a.record_used ok (ap (λ b. state_ok b state_published) d) e))

      -- D
      kept_step_deliver : (m : ℕ) → In (step_deliver L σ m).left
      unfolding step_deliver interval_begins interval_added put same put_part
      kept_step_deliver m =
          kept_refusing _ σ _ e (λ q. let r = record_of σ m in
          let a = message_allowed σ r state_released q in
          let c = σ (Receiver r) in
          let h = released_lt facts r a.record_used a.state_is in
          let k = controller_form facts c h in
          let ours_ok = filtered_ok L (σ Size) σ c _ (place_form facts c (newest_place σ c) h (omega (arith, k.live_pos))).vector_ok_lem in
          let theirs_ok = filtered_ok L (σ Size) σ c _ (message_form facts r a.record_used).vector_ok_lem in
          deliver_cases L σ r m (λ o. In o.left) (λ _. kept_state L σ r state_dropped a.record_used (dropped_ok (for_desk σ r)) e) (λ _. e) (λ _. e)
          (λ _ _ u. kept_capped L fit _ c h
          (kept_added L σ e c m r _ h (room_left L σ facts fit c (σ (LiveCount c)) u) (present_given σ m a.record_used) a.record_used refl (length_merged _ _)
          (merged_ok L (σ Size) _ _ ours_ok theirs_ok))))

      -- L
      kept_step_log : (c q : ℕ) → In (step_log σ c q).left
      unfolding step_log
      kept_step_log c q =
          kept_refusing _ σ _ e (λ z. let a = log_allowed σ c q z in
          let k = controller_form facts c a.controller_lt in
          kept_logged L fit σ c a.controller_lt _ (omega (arith, k.stable_pos)) (omega (arith, a.number_le, k.stable_le)) e)

      -- C
      kept_step_checkpoint : (c : ℕ) → In (step_checkpoint σ c).left
      unfolding step_checkpoint
      kept_step_checkpoint c = kept_refusing _ σ _ e (λ q. kept_checkpointed L fit σ c (checkpoint_allowed σ c q) e)

      -- T
      kept_step_tell : (owner holder : ℕ) → In (step_tell σ owner holder).left
      unfolding step_tell told told_row
      kept_step_tell owner holder =
          kept_refusing _ σ _ e (λ q. let a = tell_allowed σ owner holder q in
          kept_row L σ holder owner _ a.holder_lt a.owner_lt
          (λ i l. let il = subst (λ n. i < n) (length_tab incarnations (λ (i : ℕ). max (σ (Known holder owner i)) (σ (Known owner owner i)))) l in
          subst (λ x. x ≤ L.numbers) (sym (get_d_tab incarnations (λ (i : ℕ). max (σ (Known holder owner i)) (σ (Known owner owner i))) i 0 il))
          (omega (
            arith,
            known_le facts holder owner i (below_8 facts holder a.holder_lt) (below_8 facts owner a.owner_lt) il,
            known_le facts owner owner i (below_8 facts owner a.owner_lt) (below_8 facts owner a.owner_lt) il,
          ))) e)

      -- X
      kept_step_crash : (c : ℕ) → In (step_crash L σ c).left
      unfolding step_crash crashed put same
      kept_step_crash c =
          kept_refusing _ σ _ e (λ q. let a = crash_allowed L σ c q in
          let h = a.controller_lt in
          let k = controller_form facts c h in
          let j = σ (StableCount c) in
          kept_removed _ c j h k.stable_pos k.stable_le (room_same ((numbers_put σ (End c c _) _ refl).number c (j + 1)) (room_left L σ facts fit c j a.place_left)) a.incarnation_lt
          (kept_word L σ c c h h (End c c _) _ refl refl (live_number facts fit c h j k.stable_le) e))

      -- H
      kept_step_hear : (hearer owner i : ℕ) → In (step_hear σ hearer owner i).left
      unfolding step_hear hear noted put same lowest_condemned rolled_back
      kept_step_hear hearer owner i =
          kept_refusing _ σ _ e (λ q. let a = hear_allowed σ hearer owner i q in
          let h = a.hearer_lt in
          let o = a.owner_lt in
          let l = below_8 facts owner o in
          let end = end_le facts owner owner i l l (omega (arith, a.incarnation_le)) in
          let known = known_le facts hearer owner i (below_8 facts hearer h) l (omega (arith, a.incarnation_le)) in
          let heard = noted σ hearer owner i in
          let good : In heard = kept_word L (put σ (End hearer owner i) (σ (End owner owner i))) hearer owner h o (Known hearer owner i) _ refl refl (omega arith) (kept_word L σ hearer owner h o (End hearer owner i) _ refl refl end e) in
          let k = lowest_condemned heard hearer in
          cond_ind (λ (o : After). In o.left) (σ (LiveCount hearer) ≤? k) (λ _. good)
          (λ u. cond_ind (λ (o : After). In o.left) (last_incarnation ≤? σ (Incarnation hearer)) (λ _. e)
          (λ w. let below = leb-false (σ (LiveCount hearer)) k u in
          let live = logged_word heard hearer k (word (LiveCount hearer)) refl in
          let own = logged_word heard hearer k (word (Incarnation hearer)) refl in
          let same_number = (numbers_logged_to heard hearer k).number hearer (k + 1) ∙ (numbers_noted σ hearer owner i).number hearer (k + 1) in
          kept_removed (logged_to heard hearer k) hearer k (subst (λ n. hearer < n) (sym (logged_size heard hearer k)) h) (omega arith) (omega arith)
          (room_same same_number (room_live below (controller_form facts hearer h).live_le (numbers_le facts fit hearer h))) (omega (arith, leb-false last_incarnation (σ (Incarnation hearer)) w))
          (kept_logged_to L fit heard hearer h k (omega arith) good))))

      -- the gap
      kept_step_gap : (q : ℕ) → In (step_gap σ q).left
      unfolding step_gap
      kept_step_gap q = kept_refusing _ σ _ e (λ z. kept_gap L σ q (gap_allowed q z) e)

      -- O
      kept_step_open : (g : List ℕ) (n k : ℕ) → In (step_open L σ g n k).left
      unfolding step_open
      kept_step_open g n k = kept_refusing_both _ σ g _ e (λ q. form_open L fit n k (open_allowed L g n k q))

      -- every step after the host's refusals
      kept_perform : (g : List ℕ) (x : Command) → In (perform L σ g x).left
      unfolding perform
      kept_perform g (Open n k) = kept_step_open g n k
      kept_perform g (SetDegree c k) = kept_step_degree c k
      kept_perform g (Send sender receiver payload) = kept_step_send sender receiver payload
      kept_perform g (Release m) = kept_step_release g m
      kept_perform g (Deliver m) = kept_step_deliver m
      kept_perform g (Log c q) = kept_step_log c q
      kept_perform g (Checkpoint c) = kept_step_checkpoint c
      kept_perform g (Tell owner holder) = kept_step_tell owner holder
      kept_perform g (Crash c) = kept_step_crash c
      kept_perform g (Hear hearer owner i) = kept_step_hear hearer owner i
      kept_perform g (SetGap q) = kept_step_gap q

-- a step on a state in form is not refused for that
pub performed : (L : Limits) (σ : State) (g : List ℕ) → in_form L σ ≡ true → (x : Command) → step_on L σ g x ≡ perform L σ g x
unfolding step_on
performed L σ g good x = rw (good, and-false)

-- THE THEOREM
-- a step on a state in form leaves one in form
pub form_kept : (L : Limits) → Fitting L → (σ : State) (g : List ℕ) (x : Command) → in_form L σ ≡ true → in_form L (step_on L σ g x).left ≡ true
unfolding step_on
form_kept L fit σ g x e = cond_ind (λ (o : AfterBoth). in_form L o.left ≡ true) (looks_at_form x && not (in_form L σ)) (λ _. e) (λ _. kept_perform L fit σ e g x)

-- an opening that is done leaves one in form, whatever stood there
pub form_opened : (L : Limits) → Fitting L → (σ : State) (g : List ℕ) (n k : ℕ) → (step_on L σ g (Open n k)).answer ≡ Done → in_form L (step_on L σ g (Open n k)).left ≡ true
unfolding step_on perform step_open refusing_both
form_opened L fit σ g n k =
    cond_ind (λ (o : AfterBoth). o.answer ≡ Done → in_form L o.left ≡ true) (first_of (open_refusals L g n k) == 0)
    (λ q _. form_open L fit n k (open_allowed L g n k (sym (eqb-true (first_of (open_refusals L g n k)) 0 q)))) (λ _. not_done (first_of (open_refusals L g n k)))
