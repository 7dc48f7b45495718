-- Instances of the paper's theorems (paper/proofs/Theorems.antt), each under its name, on lists with a crash (the sample run, `unheard`, `loss`,
-- `waiting`): who has heard it, what is undone, what is dropped and what arrives. They hold from every table of 15,152 words and every ledger of
-- 257. Lists.antt has the lists, Told.antt what their lines tell, GoingOut.antt the other theorems.
use Rattle.std.specs.Prelude.{◌≡◌, false, ◌&&◌, ◌≢◌, ℕ, ◌+◌, ◌≤◌, ◌<◌, take, drop, ◌==◌}
use Rattle.std.proofs.Math.Path.{refl}
use Rattle.std.proofs.Common.{sym, ◌∙◌, ap, ap₂, subst, true≢false, ⊎_elim, arith}
use Rattle.std.proofs.Math.Bool.{true}
use mathlib.Core.List.{List, [], ◌∷◌, ◌++◌}
use Rattle.std.proofs.Math.ListN.{length}
use Rattle.base.specs.Choice.{◌≤?◌, cond_ind}
use Rattle.table.specs.Field.{desk}
use Rattle.table.specs.Layout.{controllers, table_words}
use Rattle.table.specs.Words.{state}
use Rattle.rules.specs.Limits.{house, last_entry}
use Rattle.rules.specs.Refusal.{STATE, LEDGER_USED_UP}
use Rattle.rules.specs.Ledger.{ledger_words}
use Rattle.rules.specs.Report.{report}
use Rattle.rules.specs.Step.{Call, asks}
use Rattle.rules.specs.declared.Answer.TheVariants.{Done, Released, Held, Delivered, Dropped, Waits, Crashed, Heard, Rolled, Refused}
use Rattle.rules.specs.declared.Command.TheVariants.{Release, Deliver, Checkpoint, Crash, Hear}
use Rattle.history.specs.History.{Interval, interval, History, newest, member}
use Rattle.history.specs.Demand.{step_in, Accepted, answers_rolled, RestsOnLost, named, up_to, end}
use Rattle.history.specs.Progress.{Orphan, Drops, drops, SentIn, SendingLive, LetOutIn, NotLetOut, HasHeard, Deliverable}
use Rattle.history.specs.Asked.{checkpoints, crashes, Asked, AllAsked, Cleared, out_without, was_asked, AllCleared, GoesOut, NotHeld, Begins, Arrives, Eventually, Fate, was_let_out, is_discarded, still_held}
use Rattle.history.specs.Examples.{line}
use Rattle.model.specs.Model.{Model}
use Rattle.model.proofs.Tests.{contrary}
use Rattle.model.specs.Vectors.{Condemned}
use Rattle.model.proofs.Paper.{vector_of}
use Rattle.base.specs.Ranges.{count}
use Rattle.image.specs.Reads.{present_sent}
use Rattle.image.proofs.Tables.{model_of}
use Rattle.testers.specs.Refused.{answers_differ}
use Rattle.testers.specs.Sample.{sample, all_look}
use Rattle.testers.proofs.Sample.{from_opening, sample_from_opening, sample_answers}
use Rattle.demand.specs.Demanded.{table_inv}
use Rattle.paper.specs.Ready.{ready, sent_there}
use Rattle.paper.proofs.Theorems as T
use Rattle.instances.specs.Lists.{unheard, loss, waiting, delivered_sooner, calls_of, unheard_run, loss_run, waiting_run, delivered_sooner_run}
use Rattle.instances.specs.Shown.{three, Shown, shown, shown_to, told, no_orphan, not_let_out, has_heard, answer_in, deliverable_by, crash_by, sent_by, goes_by, out_by, own_asked_by, asked_by_lem}
use Rattle.instances.specs.Told.{sample_to, unheard_to, loss_to, waiting_to, sample_told, unheard_told, loss_told, waiting_told}

module _ (t g : List ℕ) (long : length t ≡ table_words) (wide : length g ≡ ledger_words house) where
  -- A CRASH IS HEARD BY ALL, AND ONE CONTROLLER UNDOES AN INTERVAL
  sampled : Shown t g sample
  sampled = record { from = sample_from_opening t g long wide; answers = sample_answers t g long wide }

  abbrev s : List Call
  s = calls_of sample

  -- what its lines tell
  sample_says : (P : History → Type 0) → P (sample_to 12) → P (end t g 3 1 s)
  sample_says = told t g sample sampled

  sample_heard : (b : ℕ) → b < 3 → HasHeard t g 3 1 s b
  sample_heard =
      three (HasHeard t g 3 1 s) (has_heard t g sample sampled 0 sample_told.heard_0) (has_heard t g sample sampled 1 sample_told.heard_1)
      (has_heard t g sample sampled 2 sample_told.heard_2)

  -- Controller 2 undid its (0,2): what rests on that is an orphan, itself too.
  pub theorem_2 : Orphan (end t g 3 1 s) (interval 2 0 2)
  theorem_2 =
      T.theorem_2 t g 3 1 s sampled.from (interval 2 0 2) (interval 2 0 2) (sample_says (λ h. h.begun (interval 2 0 2) ≡ true) sample_told.undone_begun)
      (sample_says (λ h. h.rests (interval 2 0 2) (interval 2 0 2) ≡ true) sample_told.undone_rests)
      (sample_says (λ h. member (interval 2 0 2) (h.chain 2) ≡ false) sample_told.undone)

  -- Orphans only: it was one when it was undone, whoever has heard.
  pub theorem_A_1_only : Orphan (end t g 3 1 s) (interval 2 0 2)
  theorem_A_1_only =
      T.theorem_A_1_only t g 3 1 s sampled.from 2 (omega arith) (interval 2 0 2) refl (sample_says (λ h. h.begun (interval 2 0 2) ≡ true) sample_told.undone_begun)
      (sample_says (λ h. member (interval 2 0 2) (h.chain 2) ≡ false) sample_told.undone)

  -- All orphans: its (0,1), which is live, is none.
  pub theorem_A_1 : Orphan (end t g 3 1 s) (interval 2 0 1) → ⊥
  theorem_A_1 o =
      contrary (sample_says (λ h. member (interval 2 0 1) (h.chain 2) ≡ true) sample_told.first_live)
      ((T.theorem_A_1 t g 3 1 s sampled.from 2 (omega arith) (sample_heard 2 (omega arith)) (interval 2 0 1) refl
      (sample_says (λ h. h.begun (interval 2 0 1) ≡ true) sample_told.first_begun)).1 o)

  -- What is left is consistent: (1;1,3) is live, and so is (0;0,1), on which it rests.
  pub theorem_A_1_consistent : member (interval 0 0 1) ((end t g 3 1 s).chain 0) ≡ true
  theorem_A_1_consistent =
      T.theorem_A_1_consistent t g 3 1 s sampled.from sample_heard (interval 1 1 3) (interval 0 0 1) (omega arith)
      (sample_says (λ h. member (interval 1 1 3) (h.chain 1) ≡ true) sample_told.newest_live)
      (sample_says (λ h. h.rests (interval 1 1 3) (interval 0 0 1) ≡ true) sample_told.newest_rests)

  -- Message 2 was let out with one controller named, under the degree 1, and this one owns what was lost of what it rests on.
  pub theorem_A_3 : (count controllers (named 2) ≤ 1) × (named 2 1 ≡ true)
  theorem_A_3 =
      let sample_4 = shown_to t g sample sampled 4 in
      let said = T.theorem_A_3 t g 3 1 s sampled.from (calls_of (take 4 sample)) (calls_of (drop 5 sample)) (asks (Release 2)) 2 2 refl (goes_by t g sample sampled 4 2 2 refl) in (
        omega (arith, said.0, told t g (take 4 sample) sample_4 (λ h. h.degree (h.sending 2).owner ≡ 1) sample_told.degree),
        said.1 (interval 1 0 2) 0 (sample_says (λ h. h.rests (h.sending 2) (interval 1 0 2) ≡ true) sample_told.sending_rests)
            (sample_says (λ h. h.lost (interval 1 0 2) 0 ≡ true) sample_told.lost),
      )

  -- Controller 2 heard the crash and rolled back: it won't again.
  pub one_rollback_a_failure : Accepted (step_in (up_to t g 3 1 s) (Hear 2 1 0)).answer → ⊥
  unfolding all_look
  one_rollback_a_failure =
      let again = sample ++ line (Hear 2 1 0) (Heard 2) ∷ [] in
      T.one_rollback_a_failure t g 3 1 (calls_of again) (from_opening t g long wide (calls_of again) refl) (calls_of (take 10 sample)) (calls_of (drop 11 sample)) [] 2 1 0 refl
      (subst Accepted (sym (answer_in t g sample sampled (take 10 sample) (line (Hear 2 1 0) (Rolled 2 1 1 0 1 0)) (drop 11 sample) refl)) (answers_rolled 2 1 1 0 1 0))

  -- A MESSAGE RESTS ON LOST WORK, AND ITS SENDER HAS NOT HEARD
  unheard_shown : Shown t g unheard
  unfolding all_look
  unheard_shown = shown t g long wide unheard refl unheard_run

  unheard_13 : Shown t g (take 13 unheard)
  unheard_13 = shown_to t g unheard unheard_shown 13

  abbrev u : List Call
  u = calls_of (take 13 unheard)

  abbrev uh : History
  uh = end t g 3 1 u

  abbrev uμ : Model
  uμ = model_of (up_to t g 3 1 u).table

  unheard_says : (P : History → Type 0) → P (unheard_to 13) → P uh
  unheard_says = told t g (take 13 unheard) unheard_13

  -- Controller 2 has the live interval (2;0,2), which rests on one that controller 1 lost.
  orphan_live : member (interval 2 0 2) (uh.chain 2) ≡ true
  orphan_live = unheard_says (λ h. member (interval 2 0 2) (h.chain 2) ≡ true) unheard_told.live

  rests_on_lost : RestsOnLost uh uh 1 (interval 2 0 2)
  rests_on_lost =
      record {
        on = interval 1 0 2;
        crash = 0;
        rests = unheard_says (λ h. h.rests (interval 2 0 2) (interval 1 0 2) ≡ true) unheard_told.rests;
        lost = unheard_says (λ h. h.lost (interval 1 0 2) 0 ≡ true) unheard_told.lost;
        heard = unheard_says (λ h. h.heard 1 1 0 ≡ true) unheard_told.heard;
      }

  -- Its vector is condemned to controller 1, which has heard of the crash,
  pub lemma_A_5 : Condemned 3 (uμ.controller 1) (vector_of uμ (interval 2 0 2))
  lemma_A_5 = T.lemma_A_5 t g 3 1 u unheard_13.from (interval 2 0 2) (omega arith) orphan_live 1 (omega arith) rests_on_lost

  -- and not to controller 2, which hasn't heard of any.
  nothing_heard : RestsOnLost uh uh 2 (interval 2 0 2) → ⊥
  nothing_heard o = contrary o.heard (unheard_says (λ h. h.heard 2 o.on.owner o.crash ≡ false) (unheard_told.not_heard o.on.owner o.crash))

  pub lemma_A_4 : Condemned 3 (uμ.controller 2) (vector_of uμ (interval 2 0 2)) → ⊥
  lemma_A_4 z = nothing_heard (T.lemma_A_4 t g 3 1 u unheard_13.from (interval 2 0 2) (omega arith) orphan_live 2 (omega arith) z)

  -- Theorem 3 says both.
  pub theorem_3 : Condemned 3 (uμ.controller 1) (vector_of uμ (interval 2 0 2)) × (Condemned 3 (uμ.controller 2) (vector_of uμ (interval 2 0 2)) → ⊥)
  theorem_3 = (
    (T.theorem_3 t g 3 1 u unheard_13.from (interval 2 0 2) (omega arith) orphan_live 1 (omega arith)).1 rests_on_lost,
    λ z. nothing_heard ((T.theorem_3 t g 3 1 u unheard_13.from (interval 2 0 2) (omega arith) orphan_live 2 (omega arith)).0 z),
  )

  -- It can hear of it.
  pub theorem_A_2_hearing : Accepted (step_in (up_to t g 3 1 u) (Hear 2 1 0)).answer
  theorem_A_2_hearing =
      ⊎_elim (λ a. a) (λ last. absurd (omega (arith, last.1, unheard_says (λ h. h.incarnation 2 ≡ 0) unheard_told.incarnation)))
      (T.theorem_A_2_hearing t g 3 1 u unheard_13.from 2 (omega arith) 1 0 (crash_by t g (take 13 unheard) unheard_13 7 1 0 1 1 0 refl)
      (unheard_says (λ h. h.heard 2 1 0 ≡ false) (unheard_told.not_heard 1 0)))

  -- That its sender has heard every crash is needed for a message to go out: message 3 was sent, was not let out, its sending interval is live,
  -- and all controllers were asked; yet it is held.
  unheard_sender : uh.sending 3 ≡ interval 2 0 2
  unheard_sender = unheard_says (λ h. h.sending 3 ≡ interval 2 0 2) unheard_told.from

  unheard_cleared : AllCleared t g 3 1 u 3 2
  unheard_cleared =
      three (λ c. Cleared t g 3 1 u 3 2 c)
      (was_asked (asked_by_lem t g (take 13 unheard) unheard_13 3 2 0 10 (line (Checkpoint 0) Done) refl checkpoints
      (sent_by t g (take 10 unheard) (shown_to t g unheard unheard_shown 10) 6 3 2 desk 5 refl) 1 refl))
      (was_asked (asked_by_lem t g (take 13 unheard) unheard_13 3 2 1 9 (line (Checkpoint 1) Done) refl checkpoints
      (sent_by t g (take 9 unheard) (shown_to t g unheard unheard_shown 9) 6 3 2 desk 5 refl) 1 refl))
      (was_asked (own_asked_by t g (take 13 unheard) unheard_13 3 2 8 (line (Checkpoint 2) Done) refl checkpoints
      (sent_by t g (take 8 unheard) (shown_to t g unheard unheard_shown 8) 6 3 2 desk 5 refl)))

  stays_inside : GoesOut t g 3 1 u 3 → ⊥
  unfolding report
  stays_inside said =
      let full = last_entry ≤? length (up_to t g 3 1 u).citations.published in
      cond_ind (λ a. Held 3 2 ≢ a) ((uh.receiver 3 == desk) && full) (λ _. answers_differ (Held 3 2) (Refused LEDGER_USED_UP) refl)
      (λ _. answers_differ (Held 3 2) (Released 3 0) refl) (sym (answer_in t g unheard unheard_shown (take 13 unheard) (line (Release 3) (Held 3 2)) [] refl) ∙ said)

  pub hearing_is_needed : ((m : ℕ) → SentIn t g 3 1 u m → NotLetOut t g 3 1 u m → SendingLive t g 3 1 u m → AllCleared t g 3 1 u m (uh.sending m).owner → GoesOut t g 3 1 u m) → ⊥
  hearing_is_needed all =
      stays_inside (all 3 (sent_by t g (take 13 unheard) unheard_13 6 3 2 desk 5 refl) (not_let_out t g (take 13 unheard) unheard_13 3 unheard_told.inside)
      (subst (λ (y : Interval). member y (uh.chain y.owner) ≡ true) (sym unheard_sender) orphan_live)
      (subst (λ (y : Interval). AllCleared t g 3 1 u 3 y.owner) (sym unheard_sender) unheard_cleared))

  -- ONE OF TWO RELEASED MESSAGES COMES FROM A LOST INTERVAL
  loss_shown : Shown t g loss
  unfolding all_look
  loss_shown = shown t g long wide loss refl loss_run

  loss_12 : Shown t g (take 12 loss)
  loss_12 = shown_to t g loss loss_shown 12

  abbrev q : List Call
  q = calls_of (take 12 loss)

  abbrev qh : History
  qh = end t g 3 1 q

  abbrev qμ : Model
  qμ = model_of (up_to t g 3 1 q).table

  loss_says : (P : History → Type 0) → P (loss_to 12) → P qh
  loss_says = told t g (take 12 loss) loss_12

  -- Message 2 was sent from an interval that was lost in a crash which controller 2, its receiver, has heard; that of message 3 is no orphan.
  lost_sent : SentIn t g 3 1 q 2
  lost_sent = sent_by t g (take 12 loss) loss_12 3 2 1 2 9 refl

  lost_receiver : qh.receiver 2 ≡ 2
  lost_receiver = loss_says (λ h. h.receiver 2 ≡ 2) loss_told.to

  lost_rests : RestsOnLost qh qh 2 (qh.sending 2)
  lost_rests =
      record {
        on = interval 1 0 2;
        crash = 0;
        rests = loss_says (λ h. h.rests (h.sending 2) (interval 1 0 2) ≡ true) loss_told.rests;
        lost = loss_says (λ h. h.lost (interval 1 0 2) 0 ≡ true) loss_told.lost;
        heard = loss_says (λ h. h.heard 2 1 0 ≡ true) loss_told.heard;
      }

  other_rests : RestsOnLost qh qh 2 (qh.sending 3) → ⊥
  other_rests o = loss_says (λ h. Orphan h (h.sending 3) → ⊥) loss_told.other_sure (record { on = o.on; crash = o.crash; rests = o.rests; lost = o.lost })

  -- The vector of the one is condemned to controller 2, that of the other isn't.
  pub theorem_3_message : Condemned 3 (qμ.controller 2) (qμ.message 2).vec × (Condemned 3 (qμ.controller 2) (qμ.message 3).vec → ⊥)
  theorem_3_message =
      let there : (m : ℕ) → SentIn t g 3 1 q m → m ≤ qμ.sent = λ m sent. present_sent (state (up_to t g 3 1 q).table) m (sent_there t g 3 1 q loss_12.from m sent) in (
        (T.theorem_3_message t g 3 1 q loss_12.from 2 2 (omega arith) (there 2 lost_sent) (omega arith)).1 lost_rests,
        λ z. other_rests ((T.theorem_3_message t g 3 1 q loss_12.from 3 2 (omega arith) (there 3 (sent_by t g (take 12 loss) loss_12 5 3 0 2 5 refl)) (omega arith)).0 z),
      )

  -- Controller 2 has heard that incarnation 0 of controller 1 has ended: (1;0,1), which was kept, is stable, and it knows that.
  pub corollary_1 : (1 ≤ (qμ.controller 2).known 1 0) × (qh.stable (interval 1 0 1) ≡ true)
  corollary_1 =
      let heard = loss_says (λ h. h.heard 2 1 0 ≡ true) loss_told.heard in
      T.corollary_1 t g 3 1 q loss_12.from 2 1 0 1 (omega arith) (omega arith) heard (loss_says (λ h. h.begun (interval 1 0 1) ≡ true) loss_told.first_begun)
      (((table_inv (ready t g 3 1 q loss_12.from).holds).controller_ok_lem 2 (omega arith)).ended.heard_end 1 0 heard)

  -- What it knows to be stable is.
  pub lemma_A_2 : qh.stable (interval 1 0 1) ≡ true
  lemma_A_2 = T.lemma_A_2 t g 3 1 q loss_12.from 2 1 0 1 (omega arith) (loss_says (λ h. h.begun (interval 1 0 1) ≡ true) loss_told.first_begun) corollary_1.0

  -- Message 2 can be delivered, and its delivery drops it, with that cause.
  lost_deliverable : Deliverable t g 3 1 q 2
  unfolding report
  lost_deliverable = deliverable_by t g loss loss_shown 12 2 (Dropped 2 1 0) refl refl

  lost_drops : Drops 2 (step_in (up_to t g 3 1 q) (Deliver 2)).answer
  lost_drops = subst (Drops 2) (sym (answer_in t g loss loss_shown (take 12 loss) (line (Deliver 2) (Dropped 2 1 0)) [] refl)) (drops 1 0)

  pub theorem_A_1_messages : Drops 2 (step_in (up_to t g 3 1 q) (Deliver 2)).answer × RestsOnLost qh qh 2 (qh.sending 2)
  theorem_A_1_messages =
      let said = T.theorem_A_1_messages t g 3 1 q loss_12.from 2 lost_deliverable in (
        said.1 (subst (λ b. RestsOnLost qh qh b (qh.sending 2)) (sym lost_receiver) lost_rests),
        subst (λ b. RestsOnLost qh qh b (qh.sending 2)) lost_receiver (said.0 lost_drops),
      )

  -- The same by the mask with which it was let out: controller 1, which it names, crashed after that and told controller 2.
  lost_asked : AllAsked t g 3 1 q 2 2 2
  lost_asked =
      three (λ c. named 2 c ≡ true → Asked t g 3 1 q 2 2 c) (λ e. absurd (true≢false (sym e)))
      (λ _. asked_by_lem t g (take 12 loss) loss_12 2 2 1 8 (line (Crash 1) (Crashed 1 0 1 1 0)) refl (crashes 1 0 1 1 0)
      (sent_by t g (take 8 loss) (shown_to t g loss loss_shown 8) 3 2 1 2 9 refl) 0 refl) (λ e. absurd (true≢false (sym e)))

  lost_arrives : Arrives t g 3 1 q 2
  lost_arrives =
      T.theorem_A_2_delivery t g 3 1 q loss_12.from 2 lost_deliverable 2 (out_by t g (take 12 loss) loss_12 4 2 2 refl)
      (subst (AllAsked t g 3 1 q 2 2) (sym lost_receiver) lost_asked)
      (subst (HasHeard t g 3 1 q) (sym lost_receiver) (has_heard t g (take 12 loss) loss_12 2 loss_told.all_heard))

  pub theorem_A_2_delivery_dropped : Drops 2 (step_in (up_to t g 3 1 q) (Deliver 2)).answer × Orphan qh (qh.sending 2)
  theorem_A_2_delivery_dropped = (
    lost_arrives.dropped.1 (record { on = lost_rests.on; crash = lost_rests.crash; rests = lost_rests.rests; lost = lost_rests.lost }),
    lost_arrives.dropped.0 lost_drops,
  )

  -- From wherever one stands checkpoints and tellings would do.
  pub theorem_A_2_eventually_delivery : Eventually t g 3 1 q (λ l. Arrives t g 3 1 l 2)
  theorem_A_2_eventually_delivery =
      T.theorem_A_2_eventually_delivery t g 3 1 q loss_12.from 2 lost_deliverable
      (subst (HasHeard t g 3 1 q) (sym lost_receiver) (has_heard t g (take 12 loss) loss_12 2 loss_told.all_heard))

  -- Message 2 has the first of three fates, and message 4, sent from there and never released, the second.
  pub theorem_A_2_let_out : (mask : ℕ) × LetOutIn t g 3 1 q 2 mask
  theorem_A_2_let_out = decided (T.theorem_A_2 t g 3 1 q loss_12.from 2 lost_sent)
    where
      out : LetOutIn t g 3 1 q 2 2
      out = out_by t g (take 12 loss) loss_12 4 2 2 refl

      decided : Fate t g 3 1 q 2 → (mask : ℕ) × LetOutIn t g 3 1 q 2 mask
      decided (was_let_out mask z) = (mask, z)
      decided (is_discarded none gone refused) = absurd (none 2 out)
      decided (still_held none live goes) = absurd (none 2 out)

  pub theorem_A_2_discarded : (step_in (up_to t g 3 1 q) (Release 4)).answer ≡ Refused STATE
  theorem_A_2_discarded = decided (T.theorem_A_2 t g 3 1 q loss_12.from 4 (sent_by t g (take 12 loss) loss_12 7 4 1 desk 4 refl))
    where
      decided : Fate t g 3 1 q 4 → NotHeld t g 3 1 q 4
      decided (was_let_out mask z) = absurd (not_let_out t g (take 12 loss) loss_12 4 loss_told.inside mask z)
      decided (is_discarded none gone refused) = refused
      decided (still_held none live goes) = contrary live (loss_says (λ h. (let y = h.sending 4 in member y (h.chain y.owner)) ≡ false) loss_told.gone)

  -- A MESSAGE WAITS, AND IS DELIVERED
  waited : Shown t g waiting
  unfolding all_look
  waited = shown t g long wide waiting refl waiting_run

  waited_to : (j : ℕ) → Shown t g (take j waiting)
  waited_to = shown_to t g waiting waited

  abbrev w : ℕ → List Call
  w j = calls_of (take j waiting)

  abbrev wh : ℕ → History
  wh j = end t g 3 1 (w j)

  waiting_says : (j : ℕ) (P : History → Type 0) → P (waiting_to j) → P (wh j)
  waiting_says j = told t g (take j waiting) (waited_to j)

  -- (1;1,4) is stable, and so is (1;0,2), on which it rests;
  pub lemma_A_1 : (wh 17).stable (interval 1 0 2) ≡ true
  lemma_A_1 =
      T.lemma_A_1 t g 3 1 (w 17) (waited_to 17).from (interval 1 1 4) (interval 1 0 2) (waiting_says 17 (λ h. h.stable (interval 1 1 4) ≡ true) waiting_told.stable)
      (waiting_says 17 (λ h. h.rests (interval 1 1 4) (interval 1 0 2) ≡ true) waiting_told.rests) refl

  -- this is live, and no other live interval of its controller has its number.
  pub observation_A_1 : (y : Interval) → member y ((wh 17).chain 1) ≡ true → y.number ≡ 2 → y ≡ interval 1 0 2
  observation_A_1 y live =
      T.observation_A_1 t g 3 1 (w 17) (waited_to 17).from 1 (omega arith) y (interval 1 0 2) live
      (waiting_says 17 (λ h. member (interval 1 0 2) (h.chain 1) ≡ true) waiting_told.live)

  -- Message 2 can be delivered, and waits.
  pub waits : Deliverable t g 3 1 (w 13) 2 × ((step_in (up_to t g 3 1 (w 13)) (Deliver 2)).answer ≡ Waits 2)
  unfolding report
  waits = (
    deliverable_by t g (take 14 waiting) (waited_to 14) 13 2 (Waits 2) refl refl,
    answer_in t g (take 14 waiting) (waited_to 14) (take 13 waiting) (line (Deliver 2) (Waits 2)) [] refl,
  )

  -- Its release named controller 1, which then checkpoints and tells controller 2. So it doesn't wait once controller 2 has heard of the crash:
  arrives : (j : ℕ) → (waiting_to j).receiver 2 ≡ 2 → (waiting_to j).incarnation 2 ≡ 0 → (newest ((waiting_to j).chain 2)).number ≡ 2 → Begins t g 3 1 (w j) 2 →
      (step_in (up_to t g 3 1 (w j)) (Deliver 2)).answer ≡ Delivered 2 0 3
  arrives j to incarnation number =
      let receiver = waiting_says j (λ h. h.receiver 2 ≡ 2) to in
      let i = waiting_says j (λ h. h.incarnation 2 ≡ 0) incarnation in
      let x = waiting_says j (λ h. (newest (h.chain 2)).number ≡ 2) number in
      ⊎_elim (λ a. a ∙ ap (λ c. Delivered 2 ((wh j).incarnation c) ((newest ((wh j).chain c)).number + 1)) receiver ∙ ap₂ (λ i x. Delivered 2 i (x + 1)) i x)
      (λ a. absurd (omega (arith, subst (λ c. house.places ≤ (newest ((wh j).chain c)).number) receiver a.1)))

  pub theorem_A_2_delivery : (step_in (up_to t g 3 1 (w 17)) (Deliver 2)).answer ≡ Delivered 2 0 3
  unfolding report
  theorem_A_2_delivery =
      let receiver = waiting_says 17 (λ h. h.receiver 2 ≡ 2) waiting_told.to in
      arrives 17 waiting_told.to waiting_told.incarnation waiting_told.newest_number
      ((T.theorem_A_2_delivery t g 3 1 (w 17) (waited_to 17).from 2 (deliverable_by t g waiting waited 17 2 (Delivered 2 0 3) refl refl) 2
      (out_by t g (take 17 waiting) (waited_to 17) 4 2 2 refl)
      (subst (AllAsked t g 3 1 (w 17) 2 2) (sym receiver)
      (three (λ c. named 2 c ≡ true → Asked t g 3 1 (w 17) 2 2 c) (λ e. absurd (true≢false (sym e)))
      (λ _. asked_by_lem t g (take 17 waiting) (waited_to 17) 2 2 1 14 (line (Checkpoint 1) Done) refl checkpoints
      (sent_by t g (take 14 waiting) (waited_to 14) 3 2 1 2 9 refl) 0 refl) (λ e. absurd (true≢false (sym e)))))
      (subst (HasHeard t g 3 1 (w 17)) (sym receiver) (has_heard t g (take 17 waiting) (waited_to 17) 2 waiting_told.all_heard))).otherwise
      (no_orphan t g (take 17 waiting) (waited_to 17) waiting_told.none_lost ((wh 17).sending 2)))

  -- before, too, since nothing that it rests on is lost.
  sooner : Shown t g delivered_sooner
  unfolding all_look
  sooner = shown t g long wide delivered_sooner refl delivered_sooner_run

  pub theorem_A_2_useful_delivery : ((step_in (up_to t g 3 1 (w 16)) (Deliver 2)).answer ≡ Delivered 2 0 3) × ((wh 16).heard 2 1 0 ≡ false)
  unfolding report
  theorem_A_2_useful_delivery =
      let receiver = waiting_says 16 (λ h. h.receiver 2 ≡ 2) waiting_told.early_to in
      let out = out_by t g (take 16 waiting) (waited_to 16) 4 2 2 refl in (
        arrives 16 waiting_told.early_to waiting_told.early_incarnation waiting_told.early_number
            (T.theorem_A_2_useful_delivery t g 3 1 (w 16) (waited_to 16).from 2 (deliverable_by t g delivered_sooner sooner 16 2 (Delivered 2 0 3) refl refl)
            (subst (AllCleared t g 3 1 (w 16) 2) (sym receiver)
            (three (Cleared t g 3 1 (w 16) 2 2) (out_without 2 out refl)
            (was_asked (asked_by_lem t g (take 16 waiting) (waited_to 16) 2 2 1 14 (line (Checkpoint 1) Done) refl checkpoints
            (sent_by t g (take 14 waiting) (waited_to 14) 3 2 1 2 9 refl) 0 refl)) (out_without 2 out refl)))
            (no_orphan t g (take 16 waiting) (waited_to 16) waiting_told.early_lost ((wh 16).sending 2))),
        waiting_says 16 (λ h. h.heard 2 1 0 ≡ false) waiting_told.early_unheard,
      )
