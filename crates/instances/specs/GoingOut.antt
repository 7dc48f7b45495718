-- Instances of the paper's theorems (paper/proofs/Theorems.antt), each under its name, on the list of messages that are held and go out
-- (`woven`): all that the theorem asks for is there, and what it says is used. They hold from every table of 15,152 words and every ledger of
-- 257. Lists.antt has the lists, Told.antt what their lines tell, Arriving.antt the other theorems.
use Rattle.std.specs.Prelude.{◌≡◌, Bool, ◌≢◌, ℕ, ◌≤◌, ◌<◌, length, take, ◌==◌}
use Rattle.std.proofs.Math.Path.{refl, ap, subst}
use Rattle.std.proofs.Common.{sym, ◌∙◌, true≢false, arith}
use Rattle.std.proofs.Math.Bool.{true, false, and-false}
use mathlib.Core.List.{List, []}
use Rattle.std.proofs.Math.Logic.{⊎_elim}
use Rattle.table.specs.Field.{desk}
use Rattle.table.specs.Layout.{controllers, table_words}
use Rattle.rules.specs.Limits.{house}
use Rattle.rules.specs.Refusal.{STATE}
use Rattle.rules.specs.Ledger.{ledger_words}
use Rattle.rules.specs.Report.{report}
use Rattle.rules.specs.Step.{Call, asks}
use Rattle.rules.specs.declared.Answer.TheVariants.{Done, Released, Held, Refused}
use Rattle.rules.specs.declared.Command.TheVariants.{Release, Checkpoint, Tell}
use Rattle.history.specs.History.{Interval, interval, History, member}
use Rattle.history.specs.Demand.{step_in, next, named, just_opened, up_to, end}
use Rattle.history.specs.Progress.{Orphan, SentIn, HasHeard}
use Rattle.history.specs.Asked.{checkpoints, Asked, AllAsked, AllCleared, Learned, names_held, Unlearned, GoesOut, GoesOutWithin, NotHeld, Eventually, Fate, was_let_out, is_discarded, still_held}
use Rattle.history.specs.Uses.{mask_cleared}
use Rattle.history.specs.Examples.{line, all_cited}
use Rattle.history.specs.Citations.{no_citations}
use Rattle.model.specs.Model.{interval_of, Model}
use Rattle.model.proofs.Tests.{contrary, fails}
use Rattle.model.proofs.Vectors.{pos_full}
use Rattle.model.proofs.Paper.{Useful, vector_of}
use Rattle.base.specs.Ranges.{count}
use Rattle.image.proofs.Tables.{model_of}
use Rattle.testers.specs.Refused.{answers_differ}
use Rattle.testers.specs.Sample.{all_look}
use Rattle.testers.proofs.Along.{citations_after}
use Rattle.paper.specs.Ready.{model_in}
use Rattle.paper.proofs.Theorems as T
use Rattle.instances.specs.Lists.{woven, all_but_one, unrevoked, calls_of, woven_run, all_but_one_run, unrevoked_run}
use Rattle.instances.specs.Shown.{three, Shown, shown, shown_to, told, no_orphan, not_let_out, has_heard, answer_in, sent_by, held_by, goes_by, own_asked_by, asked_by_lem}
use Rattle.instances.specs.Told.{woven_to, woven_told, unrevoked_told}

module _ (t g : List ℕ) (long : length t ≡ table_words) (wide : length g ≡ ledger_words house) where
  -- TWO MESSAGES ARE HELD, AND GO OUT
  -- the list, and its first j lines: their calls, history and model
  wove : Shown t g woven
  unfolding all_look
  wove = shown t g long wide woven refl woven_run

  first : (j : ℕ) → Shown t g (take j woven)
  first = shown_to t g woven wove

  abbrev upto : ℕ → List Call
  upto j = calls_of (take j woven)

  abbrev h : ℕ → History
  h j = end t g 3 1 (upto j)

  abbrev μ : ℕ → Model
  μ j = model_of (up_to t g 3 1 (upto j)).table

  -- what these lines tell
  says : (j : ℕ) (P : History → Type 0) → P (woven_to j) → P (h j)
  says j = told t g (take j woven) (first j)

  -- three intervals that rest on nothing lost
  useful : (y : Interval) → (woven_to 10).begun y ≡ true → Useful (h 10) y
  useful y b = record { begun = says 10 (λ h. h.begun y ≡ true) b; sure = no_orphan t g (take 10 woven) (first 10) woven_told.then_lost y }

  of_0 : Useful (h 10) (interval 0 0 1)
  of_0 = useful (interval 0 0 1) woven_told.begun_0

  of_1 : Useful (h 10) (interval 1 0 2)
  of_1 = useful (interval 1 0 2) woven_told.begun_1

  of_2 : Useful (h 10) (interval 2 0 2)
  of_2 = useful (interval 2 0 2) woven_told.begun_2

  -- the last rests on the one before it, which is not stable
  rests : (h 10).rests (interval 2 0 2) (interval 1 0 2) ≡ true
  rests = says 10 (λ h. h.rests (interval 2 0 2) (interval 1 0 2) ≡ true) woven_told.rests

  unstable : (h 10).stable (interval 1 0 2) ≡ false
  unstable = says 10 (λ h. h.stable (interval 1 0 2) ≡ false) woven_told.unstable

  live : member (interval 2 0 2) ((h 10).chain 2) ≡ true
  live = says 10 (λ h. member (interval 2 0 2) (h.chain 2) ≡ true) woven_told.live_then

  -- (1;0,2) doesn't rest on (2;0,2): its entry for controller 2 is lower.
  pub lemma_1 : (vector_of (μ 10) (interval 1 0 2) 2).number < 2
  lemma_1 =
      T.lemma_1 t g 3 1 (upto 10) (first 10).from (interval 2 0 2) (interval 1 0 2) of_2 of_1
      (says 10 (λ h. h.rests (interval 1 0 2) (interval 2 0 2) ≡ false) woven_told.rests_not)

  -- (2;0,2) rests on (1;0,2), and (0;0,1) doesn't: so say their entries for controller 1.
  pub theorem_1 : (2 ≤ (vector_of (μ 10) (interval 2 0 2) 1).number) × (2 ≤ (vector_of (μ 10) (interval 0 0 1) 1).number → ⊥)
  theorem_1 = (
    (T.theorem_1 t g 3 1 (upto 10) (first 10).from (interval 1 0 2) (interval 2 0 2) of_1 of_2 unstable).0 rests,
    λ l. contrary ((T.theorem_1 t g 3 1 (upto 10) (first 10).from (interval 1 0 2) (interval 0 0 1) of_1 of_0 unstable).1 l)
        (says 10 (λ h. h.rests (interval 0 0 1) (interval 1 0 2) ≡ false) woven_told.other_rests_not),
  )

  -- The entry of (2;0,2) for controller 1 is of the incarnation of (1;0,2), and reaches its number;
  pub invariant_A_1 : let e = vector_of (μ 10) (interval 2 0 2) 1 in (e.incarnation ≡ 0) × (2 ≤ e.number)
  invariant_A_1 =
      let o = T.invariant_A_1 t g 3 1 (upto 10) (first 10).from (interval 2 0 2) (omega arith) live (interval 1 0 2) rests unstable in
      (o.same, o.upto)

  -- and (2;0,2) rests on the interval that it names.
  pub invariant_A_3 : (h 10).rests (interval 2 0 2) (interval_of 1 (vector_of (μ 10) (interval 2 0 2) 1)) ≡ true
  invariant_A_3 = T.invariant_A_3 t g 3 1 (upto 10) (first 10).from (interval 2 0 2) (omega arith) live 1 (pos_full _ (omega (arith, invariant_A_1.1)))

  -- Controller 1 tells controller 2 of its (0,2), which is stable by then.
  pub lemma_A_3 : let r = up_to t g 3 1 (upto 14) in
      ((step_in r (Tell 1 2)).answer ≡ Done) × (2 ≤ ((model_in (next (asks (Tell 1 2)) r)).controller 2).known 1 0)
  lemma_A_3 =
      T.lemma_A_3 t g 3 1 (upto 14) (first 14).from (interval 1 0 2) 2 (omega arith) (omega arith) (λ e. omega arith)
      (says 14 (λ h. member (interval 1 0 2) (h.chain 1) ≡ true) woven_told.told_live) (says 14 (λ h. h.stable (interval 1 0 2) ≡ true) woven_told.told_stable)

  -- Messages 3 and 4 were sent,
  first_sent : SentIn t g 3 1 (upto 16) 3
  first_sent = sent_by t g (take 16 woven) (first 16) 6 3 2 desk 5 refl

  -- from controller 2,
  by_2 : (j m : ℕ) → (woven_to j).sending m ≡ interval 2 0 2 → ((h j).sending m).owner ≡ 2
  by_2 j m e = ap (λ (y : Interval). y.owner) (says j (λ h. h.sending m ≡ interval 2 0 2) e)

  -- which has heard every crash in the list;
  all_heard : HasHeard t g 3 1 (upto 16) 2
  all_heard = has_heard t g (take 16 woven) (first 16) 2 woven_told.all_heard

  -- a release held each with controllers 1 and 2 named. After that controller 2 checkpointed, and controller 1, which told it:
  asked_16 : (m : ℕ) → SentIn t g 3 1 (upto 10) m → SentIn t g 3 1 (upto 13) m → AllAsked t g 3 1 (upto 16) m 6 2
  asked_16 m then later =
      three (λ c. named 6 c ≡ true → Asked t g 3 1 (upto 16) m 2 c) (λ e. absurd (true≢false (sym e)))
      (λ _. asked_by_lem t g (take 16 woven) (first 16) m 2 1 13 (line (Checkpoint 1) Done) refl checkpoints later 0 refl)
      (λ _. own_asked_by t g (take 16 woven) (first 16) m 2 10 (line (Checkpoint 2) Done) refl checkpoints then)

  -- before it heard of the crash, too
  asked_15 : (m : ℕ) → SentIn t g 3 1 (upto 10) m → SentIn t g 3 1 (upto 13) m → AllAsked t g 3 1 (upto 15) m 6 2
  asked_15 m then later =
      three (λ c. named 6 c ≡ true → Asked t g 3 1 (upto 15) m 2 c) (λ e. absurd (true≢false (sym e)))
      (λ _. asked_by_lem t g (take 15 woven) (first 15) m 2 1 13 (line (Checkpoint 1) Done) refl checkpoints later 0 refl)
      (λ _. own_asked_by t g (take 15 woven) (first 15) m 2 10 (line (Checkpoint 2) Done) refl checkpoints then)

  -- Message 3 has the last of three fates: it goes out, and is published.
  goes : (j m : ℕ) → (all_cited (take j woven) no_citations).published ≡ [] → GoesOut t g 3 1 (upto j) m → (step_in (up_to t g 3 1 (upto j)) (Release m)).answer ≡ Released m 0
  unfolding just_opened
  goes j m none said =
      let published = ap (λ q. q.published) (citations_after (just_opened t g 3 1) (take j woven) (first j).answers) ∙ none in
      said ∙ rw (published, and-false) refl

  pub theorem_A_2 : (step_in (up_to t g 3 1 (upto 16)) (Release 3)).answer ≡ Released 3 0
  theorem_A_2 = goes 16 3 woven_told.none_published (decided (T.theorem_A_2 t g 3 1 (upto 16) (first 16).from 3 first_sent))
    where
      sender : ((h 16).sending 3).owner ≡ 2
      sender = by_2 16 3 woven_told.first_from

      cleared : AllCleared t g 3 1 (upto 16) 3 ((h 16).sending 3).owner
      cleared =
          mask_cleared t g 3 1 (upto 16) 3 6 (held_by t g (take 16 woven) (first 16) 7 3 6 refl)
          (subst (AllAsked t g 3 1 (upto 16) 3 6) (sym sender)
          (asked_16 3 (sent_by t g (take 10 woven) (first 10) 6 3 2 desk 5 refl) (sent_by t g (take 13 woven) (first 13) 6 3 2 desk 5 refl)))

      decided : Fate t g 3 1 (upto 16) 3 → GoesOut t g 3 1 (upto 16) 3
      decided (was_let_out mask out) = absurd (not_let_out t g (take 16 woven) (first 16) 3 woven_told.first_inside mask out)
      decided (is_discarded none gone refused) =
          absurd (gone (says 16 (λ h. let y = h.sending 3 in member y (h.chain y.owner) ≡ true) woven_told.first_live))
      decided (still_held none live goes) = goes (subst (HasHeard t g 3 1 (upto 16)) (sym sender) all_heard) cleared

  -- It would have before its sender heard of the crash, since nothing that it rests on is lost.
  pub theorem_A_2_useful : (step_in (up_to t g 3 1 (upto 15)) (Release 3)).answer ≡ Released 3 0
  theorem_A_2_useful =
      goes 15 3 woven_told.early_published
      (T.theorem_A_2_useful t g 3 1 (upto 15) (first 15).from 3 (sent_by t g (take 15 woven) (first 15) 6 3 2 desk 5 refl)
      (not_let_out t g (take 15 woven) (first 15) 3 woven_told.early_inside) (no_orphan t g (take 15 woven) (first 15) woven_told.early_lost ((h 15).sending 3))
      (mask_cleared t g 3 1 (upto 15) 3 6 (held_by t g (take 15 woven) (first 15) 7 3 6 refl)
      (subst (AllAsked t g 3 1 (upto 15) 3 6) (sym (by_2 15 3 woven_told.early_from))
      (asked_15 3 (sent_by t g (take 10 woven) (first 10) 6 3 2 desk 5 refl) (sent_by t g (take 13 woven) (first 13) 6 3 2 desk 5 refl)))))

  -- a message that the next line finds held
  is_held : (l : List Call) (m mask : ℕ) → (step_in (up_to t g 3 1 l) (Release m)).answer ≡ Released m mask → NotHeld t g 3 1 l m → ⊥
  unfolding report
  is_held l m mask e z = answers_differ (Released m mask) (Refused STATE) refl (sym e ∙ z)

  -- Message 4, to a controller, goes out by the mask with which it was held.
  pub theorem_A_2_mask : GoesOut t g 3 1 (upto 16) 4
  theorem_A_2_mask =
      let sender = by_2 16 4 woven_told.second_from in
      ⊎_elim (λ z. absurd (is_held (upto 16) 4 0 (answer_in t g woven wove (take 16 woven) (line (Release 4) (Released 4 0)) [] refl) z)) (λ z. z)
      (T.theorem_A_2_mask t g 3 1 (upto 16) (first 16).from 4 6 (held_by t g (take 16 woven) (first 16) 9 4 6 refl)
      (subst (AllAsked t g 3 1 (upto 16) 4 6) (sym sender)
      (asked_16 4 (sent_by t g (take 10 woven) (first 10) 8 4 2 0 6 refl) (sent_by t g (take 13 woven) (first 13) 8 4 2 0 6 refl)))
      (subst (HasHeard t g 3 1 (upto 16)) (sym sender) all_heard))

  -- With controller 2 asked alone it may go out already: only controller 1 is left, and the degree is 1.
  but_one : Shown t g all_but_one
  unfolding all_look
  but_one = shown t g long wide all_but_one refl all_but_one_run

  abbrev the_first : ℕ → Bool
  the_first c = c == 1

  all_but_K : GoesOutWithin t g 3 1 (upto 12) 4 the_first
  unfolding count
  all_but_K =
      let sender = by_2 12 4 woven_told.asked_from in
      ⊎_elim (λ z. absurd (is_held (upto 12) 4 2 (answer_in t g all_but_one but_one (take 12 woven) (line (Release 4) (Released 4 2)) [] refl) z)) (λ z. z)
      (T.theorem_A_2_all_but_K t g 3 1 (upto 12) (first 12).from 4 6 (held_by t g (take 12 woven) (first 12) 9 4 6 refl)
      (subst (HasHeard t g 3 1 (upto 12)) (sym sender) (has_heard t g (take 12 woven) (first 12) 2 woven_told.asked_heard))
      (says 12 (λ h. h.receiver 4 ≢ desk) (subst (λ c. c ≢ desk) (sym woven_told.asked_to) (λ e. omega arith))) the_first
      (subst (λ c. count controllers the_first ≤ (h 12).degree c) (sym sender) (says 12 (λ h. count controllers the_first ≤ h.degree 2) (omega (arith, woven_told.asked_degree))))
      (three (λ c. named 6 c ≡ true → the_first c ≡ false → Asked t g 3 1 (upto 12) 4 ((h 12).sending 4).owner c) (λ e _. absurd (true≢false (sym e)))
      (λ _ e. absurd (true≢false e))
      (λ _ _. subst (λ b. Asked t g 3 1 (upto 12) 4 b 2) (sym sender)
      (own_asked_by t g (take 12 woven) (first 12) 4 2 10 (line (Checkpoint 2) Done) refl checkpoints (sent_by t g (take 10 woven) (first 10) 8 4 2 0 6 refl)))))

  -- So it does, and doesn't name controller 2.
  pub theorem_A_2_all_but_K : (mask : ℕ) × ((step_in (up_to t g 3 1 (upto 12)) (Release 4)).answer ≡ Released 4 mask) × (named mask 2 ≡ false)
  theorem_A_2_all_but_K = (all_but_K.mask, all_but_K.answer, fails _ (λ e. absurd (true≢false (sym (all_but_K.within 2 e)))))

  -- The second mask of message 3 names nobody whom the first didn't name.
  pub theorem_A_2_masks : (c : ℕ) → named 6 c ≡ false → named 2 c ≡ false
  theorem_A_2_masks =
      T.theorem_A_2_masks t g 3 1 (upto 11) (first 11).from 3 6 2 (held_by t g (take 11 woven) (first 11) 7 3 6 refl) (names_held 3 2)
      (answer_in t g (take 12 woven) (first 12) (take 11 woven) (line (Release 3) (Held 3 2)) [] refl)

  -- The first named controller 1: its (0,2), on which message 3 rests, was not stable,
  pub theorem_A_2_names : named 6 1 ≡ true
  theorem_A_2_names =
      T.theorem_A_2_names t g 3 1 (upto 7) (first 7).from 3 6 (names_held 3 6) (answer_in t g (take 8 woven) (first 8) (take 7 woven) (line (Release 3) (Held 3 6)) [] refl)
      (interval 1 0 2) (says 7 (λ h. h.rests (h.sending 3) (interval 1 0 2) ≡ true) woven_told.first_rests)
      (says 7 (λ h. h.stable (interval 1 0 2) ≡ false) woven_told.first_unstable)

  -- and its sender has no word of some such interval.
  pub theorem_A_2_cause : (z : Interval) × (z.owner ≡ 1) × ((h 7).rests ((h 7).sending 3) z ≡ true) × (Learned t g 3 1 (upto 7) 2 z → ⊥)
  theorem_A_2_cause = (why.on, why.owner_is, why.rests, why.no_word)
    where
      why : Unlearned t g 3 1 (upto 7) 3 2 1
      why =
          subst (λ b. Unlearned t g 3 1 (upto 7) 3 b 1) (by_2 7 3 woven_told.first_then)
          (T.theorem_A_2_cause t g 3 1 (upto 7) (first 7).from 3 6 (names_held 3 6)
          (answer_in t g (take 8 woven) (first 8) (take 7 woven) (line (Release 3) (Held 3 6)) [] refl)
          (no_orphan t g (take 7 woven) (first 7) woven_told.first_lost ((h 7).sending 3)) 1 refl)

  -- At any time a controller can checkpoint, and tell another.
  pub theorem_A_2_done : ((step_in (up_to t g 3 1 (upto 12)) (Checkpoint 1)).answer ≡ Done) × ((step_in (up_to t g 3 1 (upto 12)) (Tell 1 2)).answer ≡ Done)
  theorem_A_2_done =
      let done = T.theorem_A_2_done t g 3 1 (upto 12) (first 12).from 1 (omega arith) in
      (done.0, done.1 2 (omega arith) (λ e. omega arith))

  -- From the end of the first ten lines message 3 can be brought out by checkpoints and tellings.
  pub theorem_A_2_eventually : Eventually t g 3 1 (upto 10) (λ l. GoesOut t g 3 1 l 3)
  theorem_A_2_eventually =
      let sender = says 10 (λ h. h.sending 3 ≡ interval 2 0 2) woven_told.then_from in
      T.theorem_A_2_eventually t g 3 1 (upto 10) (first 10).from 3 (sent_by t g (take 10 woven) (first 10) 6 3 2 desk 5 refl)
      (not_let_out t g (take 10 woven) (first 10) 3 woven_told.then_inside) (subst (λ (y : Interval). member y ((h 10).chain y.owner) ≡ true) (sym sender) live)
      (subst (λ (y : Interval). HasHeard t g 3 1 (upto 10) y.owner) (sym sender) (has_heard t g (take 10 woven) (first 10) 2 woven_told.then_heard))

  -- Message 4, to a controller, was held: the degree of its sender was below 3.
  pub optimism_n : (h 9).degree ((h 9).sending 4).owner < 3
  optimism_n =
      T.optimism_n t g 3 1 (upto 9) (first 9).from 4 4 6 (answer_in t g (take 10 woven) (first 10) (take 9 woven) (line (Release 4) (Held 4 6)) [] refl)
      (says 9 (λ h. h.receiver 4 ≢ desk) (subst (λ c. c ≢ desk) (sym woven_told.then_to) (λ e. omega arith)))

  -- A MESSAGE IS LET OUT UNDER THE DEGREE 0
  sure : Shown t g unrevoked
  unfolding all_look
  sure = shown t g long wide unrevoked refl unrevoked_run

  -- It is never revoked.
  pub optimism_0 : let e = end t g 3 1 (calls_of unrevoked) in Orphan e (e.sending 1) → ⊥
  optimism_0 =
      T.optimism_0 t g 3 1 (calls_of unrevoked) sure.from (calls_of (take 2 unrevoked)) [] (asks (Release 1)) 1 0 refl (goes_by t g unrevoked sure 2 1 0 refl)
      (told t g (take 2 unrevoked) (shown_to t g unrevoked sure 2) (λ h. h.degree (h.sending 1).owner ≡ 0) unrevoked_told.degree)
