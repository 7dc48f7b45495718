-- No held message is the cause of a live interval: it is so in a house just opened, and every step keeps it.
use Rattle.std.specs.Prelude.{◌≡◌, true, false, not, ◌&&◌, List, ◌≢◌, ◌⊎◌, ℕ, ◌+◌, ◌≤◌, ◌<◌, set, ◌==◌}
use Rattle.std.proofs.Math.Path.{refl}
use Rattle.std.proofs.Common.{sym, ap, ◌∙◌, subst, inl, inr, ⊎_elim, arith}
use Rattle.std.proofs.Math.Decide.{ℕ_discrete}
use borrow.Author.Tests.{eqb-true, leb-false, ltb-false, eq-eqb, ne_eqb, le-ltb}
use Rattle.base.specs.Choice.{◌≤?◌, cond_ind, le?}
use Rattle.base.specs.Cases.{Case, first_of}
use Rattle.table.specs.Field.{Field, State, End, OfPlace, OfMessage, Size, Incarnation, LiveCount, StableCount, SentCount, Cause, MessageState, Sender, SendingNumber, region, alike, word, same, message_head}
use Rattle.table.specs.Change.{put, put_same, put_other, put_part, clear_places, put_states}
use Rattle.table.specs.Numbering.{number_of, used, record_of, next_message, message_of, posted, Numbered}
use Rattle.table.proofs.Numbering.{numbers_put, numbers_states, none_used, present_pos, message_of_record, record_of_message, posted_used, posted_new, posted_record, posted_kept, posted_size}
use Rattle.rules.specs.Limits.{Limits, last_incarnation}
use Rattle.rules.specs.Vector.{Vector, pair, message_vector, flat, condemned}
use Rattle.rules.specs.Form.{state_held, state_released, state_delivered, state_dropped, state_published, in_form}
use Rattle.rules.specs.Shared.{place_record, logged_to, caused_in, offered_again, causes_in, causes, new_vector, placed, entered, restarted, orphaned, held_or_dropped, drop_held, start_anew, removed}
use Rattle.rules.specs.Steps.{After, AfterBoth, refusing, refusing_both, open_house, step_open, sent, step_send, let_out, step_release, interval_added, interval_begins, step_deliver, crashed, step_crash, noted, lowest_condemned, rolled_back, hear, step_hear}
use Rattle.rules.specs.Step.{perform, looks_at_form, step_on}
use Rattle.rules.specs.declared.Command.{Command}
use Rattle.rules.specs.declared.Command.TheVariants.{Open, SetDegree, Send, Release, Deliver, Log, Checkpoint, Tell, Crash, Hear, SetGap}
use Rattle.laws.specs.Numbers.{numbers_added, numbers_restarted}
use Rattle.laws.specs.Facts.{form, controller_form, place_form}
use Rattle.laws.specs.Records.{part_at, part_other, clear_kept, length_place_record}
use Rattle.laws.specs.Agree.{live_restarted}
use Rattle.laws.specs.Releasing.{release_cases}
use Rattle.laws.specs.Delivering.{deliver_cases}
use Rattle.laws.specs.Allowed.{crash_allowed}
use Rattle.image.specs.Begin.{written, written_other}
use Rattle.progress.specs.Unmoved.{Unmoved, numbers_unmoved, unmoved_put, unmoved_part, unmoved_logged_to, unmoved_capped, unmoved_noted, unmoved_degree, unmoved_log, unmoved_checkpoint, unmoved_tell, unmoved_gap}

-- no held message is the cause of a live interval
pub record NoneCauses (σ : State) : Type 0 where
  pub not_cause : (c p r : ℕ) → c < σ Size → p < σ (LiveCount c) → r < used σ → σ (MessageState r) ≡ state_held → σ (Cause c p) ≢ message_of σ r

-- where no message was sent there is none
pub none_unsent : (σ : State) → used σ ≡ 0 → NoneCauses σ
none_unsent σ e = record { not_cause = λ c p r _ _ l. absurd (omega arith) }

-- a house just opened
pub none_causes_opened : (n k : ℕ) → NoneCauses (open_house n k)
unfolding open_house
none_causes_opened n k = none_unsent (open_house n k) (none_used (open_house n k) refl)

-- the number of a message is not 0, which is the cause of a start
message_pos : (σ : State) (r : ℕ) → r < used σ → 1 ≤ message_of σ r
message_pos σ r l = present_pos σ (message_of σ r) (subst (λ i. i < used σ) (sym (record_of_message σ r l)) l)

-- CHANGES
-- after a change from σ to τ, the cause in place p of c is that of a live interval before, or is not the message in record r
abbrev Past : State → State → ℕ → ℕ → ℕ → Type 0
Past σ τ c p r = ((p < σ (LiveCount c)) × (τ (Cause c p) ≡ σ (Cause c p))) ⊎ (τ (Cause c p) ≢ message_of σ r)

-- A change keeps it where numbers stay, what is held then was held before, and no held message has become a cause.
record Carried (σ τ : State) : Type 0 where
  size : τ Size ≡ σ Size
  numbers : Numbered τ σ
  held : (r : ℕ) → τ (MessageState r) ≡ state_held → σ (MessageState r) ≡ state_held
  cause : (c p r : ℕ) → p < τ (LiveCount c) → r < used σ → τ (MessageState r) ≡ state_held → Past σ τ c p r

none_carried : (σ τ : State) → Carried σ τ → NoneCauses σ → NoneCauses τ
none_carried σ τ h n =
    record {
      not_cause = λ c p r cl pl rl held e.
          let named = subst (λ s. c < s) h.size cl in
          let sent_r = subst (λ u. r < u) h.numbers.used_same rl in
          let q = e ∙ h.numbers.message r in
          ⊎_elim (λ w. n.not_cause c p r named w.0 sent_r (h.held r held) (sym w.1 ∙ q)) (λ ne. ne q) (h.cause c p r pl sent_r held);
    }

-- one of words that it does not look at
pub none_unmoved : (σ τ : State) → Unmoved σ τ → NoneCauses σ → NoneCauses τ
none_unmoved σ τ h =
    none_carried σ τ
    (record {
      size = h Size refl;
      numbers = numbers_unmoved σ τ h;
      held = λ r e. sym (h (MessageState r) refl) ∙ e;
      cause = λ c p r l _ _. inl (subst (λ n. p < n) (h (LiveCount c) refl) l, h (Cause c p) refl);
    })

-- states of messages, none of which becomes held
none_states : (σ : State) (s : ℕ → ℕ) → ((r : ℕ) → s r ≡ state_held → σ (MessageState r) ≡ state_held) → NoneCauses σ → NoneCauses (put_states σ s)
unfolding put_states
none_states σ s h =
    none_carried σ (put_states σ s) (record { size = refl; numbers = numbers_states σ s; held = h; cause = λ c p r l _ _. inl (l, refl) })

-- one state put, which is not held: what is held then was so before, and is another message
state_put : (σ : State) (r st i : ℕ) → st ≢ state_held → put σ (MessageState r) st (MessageState i) ≡ state_held →
    (σ (MessageState i) ≡ state_held) × (i ≢ r)
state_put σ r st i ne h =
    elim (ℕ_discrete i r) [
      | yes e ↦ absurd (ne (sym (put_same σ (MessageState r) st) ∙ ap (λ i. put σ (MessageState r) st (MessageState i)) (sym e) ∙ h))
      | no e ↦ (sym (put_other σ (MessageState r) (MessageState i) st (λ q. e (cc))) ∙ h, e)
    ]

-- so it keeps it
none_state : (σ : State) (r st : ℕ) → st ≢ state_held → NoneCauses σ → NoneCauses (put σ (MessageState r) st)
unfolding put same
none_state σ r st ne =
    none_carried σ (put σ (MessageState r) st)
    (record {
      size = refl;
      numbers = numbers_put σ (MessageState r) st refl;
      held = λ i h. (state_put σ r st i ne h).0;
      cause = λ c p i l _ _. inl (l, refl);
    })

-- R
none_let_out : (σ : State) (r : ℕ) (v : Vector) (st : ℕ) → st ≢ state_held → NoneCauses σ → NoneCauses (let_out σ r v st)
unfolding let_out
none_let_out σ r v st ne n =
    let stored = unmoved_part σ σ (OfMessage r 0) message_head (flat v) (λ i. le-ltb (message_head + i) message_head (omega arith)) (λ _ _. refl) in
    none_state _ r st ne (none_unmoved σ _ stored n)

-- The chain of c ends with an interval of the cause m, in place k, and no other chain changes.
record Ends (σ τ : State) (c k m : ℕ) : Type 0 where
  below : k ≤ σ (LiveCount c)
  live : τ (LiveCount c) ≡ k + 1
  last : τ (Cause c k) ≡ m
  kept : (p : ℕ) → p < k → τ (Cause c p) ≡ σ (Cause c p)
  other_live : (d : ℕ) → d ≢ c → τ (LiveCount d) ≡ σ (LiveCount d)
  other_cause : (d p : ℕ) → d ≢ c → τ (Cause d p) ≡ σ (Cause d p)

-- it keeps it where m is no held message
none_ended : (σ τ : State) (c k m : ℕ) → Ends σ τ c k m → τ Size ≡ σ Size → Numbered τ σ →
    ((r : ℕ) → τ (MessageState r) ≡ state_held → σ (MessageState r) ≡ state_held) →
    ((r : ℕ) → r < used σ → τ (MessageState r) ≡ state_held → m ≢ message_of σ r) → NoneCauses σ → NoneCauses τ
none_ended σ τ c k m w size numbers held unheld = none_carried σ τ (record { size = size; numbers = numbers; held = held; cause = cause })
  where
    own : (p r : ℕ) → p < τ (LiveCount c) → r < used σ → τ (MessageState r) ≡ state_held → Past σ τ c p r
    own p r l u h =
        le? (p + 1) k (λ b. inl (omega (arith, w.below), w.kept p (omega arith)))
        (λ b. let e : p ≡ k = omega (arith, w.live) in inr (λ q. unheld r u h (sym w.last ∙ ap (λ p. τ (Cause c p)) (sym e) ∙ q)))

    cause : (d p r : ℕ) → p < τ (LiveCount d) → r < used σ → τ (MessageState r) ≡ state_held → Past σ τ d p r
    cause d p r l u h =
        elim (ℕ_discrete d c) [
          | yes e ↦ subst (λ d. p < τ (LiveCount d) → Past σ τ d p r) (sym e) (λ l. own p r l u h) l
          | no e ↦ inl (subst (λ n. p < n) (w.other_live d e) l, w.other_cause d p e)
        ]

-- an interval written to a place of c has its cause, and other chains stay
written_cause : (σ : State) (c p i x m flag : ℕ) (v : Vector) → written σ c p i x m flag v (Cause c p) ≡ m
unfolding place_record
written_cause σ c p i x m flag v =
    let k = word (Cause c p) in
    part_at σ (OfPlace c p 0) 0 (place_record i x m flag v) k k (omega (arith, length_place_record i x m flag v)) refl

written_away : (σ : State) (c p i x m flag : ℕ) (v : Vector) (d q : ℕ) → d ≢ c → written σ c p i x m flag v (Cause d q) ≡ σ (Cause d q)
written_away σ c p i x m flag v d q ne = part_other σ (OfPlace c p 0) (Cause d q) 0 (place_record i x m flag v) (λ j _ e. ne (cc))

-- D: an interval begins, whose cause is delivered then
none_added : (σ : State) (c m r : ℕ) (v : Vector) → record_of σ m ≡ r → NoneCauses σ → NoneCauses (interval_added σ c m r v)
unfolding interval_added put same put_part
none_added σ c m r v e =
    let live = σ (LiveCount c) in
    let i = σ (Incarnation c) in
    let x = number_of σ c (live + 1) in
    let own = set v c (pair i x) in
    let ρ = written σ c live i x m 0 own in
    let begun = put ρ (LiveCount c) (live + 1) in
    none_ended σ (interval_added σ c m r v) c live m
    (record {
      below = omega arith;
      live = put_same ρ (LiveCount c) (live + 1);
      last = written_cause σ c live i x m 0 own;
      kept = λ p l. written_other σ c live i x m 0 own p (word (Cause c p)) (omega arith);
      other_live = λ d ne. put_other ρ (LiveCount c) (LiveCount d) (live + 1) (λ q. ne (cc));
      other_cause = λ d p ne. written_away σ c live i x m 0 own d p ne;
    })
    refl (numbers_added σ c m r v) (λ j h. (state_put begun r state_delivered j (omega arith) h).0)
    (λ j u h q. (state_put begun r state_delivered j (omega arith) h).1 (sym (record_of_message σ j u) ∙ ap (record_of σ) (sym q) ∙ e))

-- starting anew: the interval that begins has no cause
none_restarted : (σ : State) (c k : ℕ) → k ≤ σ (LiveCount c) → NoneCauses σ → NoneCauses (restarted σ c k)
unfolding restarted entered placed put same put_part clear_places
none_restarted σ c k l =
    let i = σ (Incarnation c) + 1 in
    let x = number_of σ c (k + 1) in
    let v = new_vector σ c k in
    let freed = clear_places σ c k (σ (LiveCount c)) in
    let ρ = written freed c k i x 0 0 v in
    none_ended σ (restarted σ c k) c k 0
    (record {
      below = l;
      live = live_restarted σ c k;
      last = written_cause freed c k i x 0 0 v;
      kept = λ p l. let w = word (Cause c p) in written_other freed c k i x 0 0 v p w (omega arith) ∙ clear_kept σ c k (σ (LiveCount c)) p w l;
      other_live = λ d ne. put_other (put ρ (Incarnation c) i) (LiveCount c) (LiveCount d) (k + 1) (λ q. ne (cc));
      other_cause = λ d p ne. written_away freed c k i x 0 0 v d p ne ∙ rw (ne_eqb d c ne);
    })
    refl (numbers_restarted σ c k) (λ r h. h) (λ r u _ q. omega (arith, message_pos σ r u))

-- the causes of removed intervals are released or dropped: what is held then was held before
pub causes_held : (σ : State) (c k r : ℕ) → causes σ c k (MessageState r) ≡ state_held → σ (MessageState r) ≡ state_held
unfolding causes causes_in offered_again put_states
causes_held σ c k r =
    let kept : ℕ → Type 0 = λ x. x ≡ state_held → σ (MessageState r) ≡ state_held in
    cond_ind kept (caused_in σ c k _ r)
    (λ _. cond_ind kept (condemned σ c (message_vector σ r)) (λ _ e. absurd (omega arith)) (λ _ e. absurd (omega arith))) (λ _ e. e)

none_causes : (σ : State) (c k : ℕ) → NoneCauses σ → NoneCauses (causes σ c k)
unfolding causes causes_in put_states
none_causes σ c k = none_states σ _ (causes_held σ c k)

-- messages are dropped: what is held then was held before, and if c sent it, then up to the k-th number
pub undropped : (σ : State) (c k r : ℕ) → drop_held σ c k (MessageState r) ≡ state_held →
    (σ (MessageState r) ≡ state_held) × (σ (Sender r) ≡ c → σ (SendingNumber r) ≤ number_of σ c k)
unfolding drop_held held_or_dropped put_states
undropped σ c k r =
    cond_ind (λ x. x ≡ state_held → (σ (MessageState r) ≡ state_held) × (σ (Sender r) ≡ c → σ (SendingNumber r) ≤ number_of σ c k))
    (orphaned σ c (number_of σ c k) r) (λ _ e. absurd (omega arith))
    (λ q h. (h, λ s. ltb-false (number_of σ c k) (σ (SendingNumber r)) (rw (eq-eqb (σ (MessageState r)) state_held h, eq-eqb (σ (Sender r)) c s) at q)))

none_drop_held : (σ : State) (c k : ℕ) → NoneCauses σ → NoneCauses (drop_held σ c k)
unfolding drop_held put_states
none_drop_held σ c k = none_states σ _ (λ r h. (undropped σ c k r h).0)

-- intervals removed from place k on
none_removed : (σ : State) (c k : ℕ) → k ≤ σ (LiveCount c) → NoneCauses σ → NoneCauses (removed σ c k)
unfolding removed start_anew causes causes_in put_states
none_removed σ c k l n =
    let ρ = restarted (causes σ c k) c k in
    none_drop_held _ c k (none_unmoved ρ _ (unmoved_capped ρ c) (none_restarted (causes σ c k) c k l (none_causes σ c k n)))

-- S: the number of the new message is above every cause
none_posted : (L : Limits) (σ : State) (w : List ℕ) → in_form L σ ≡ true → NoneCauses σ → NoneCauses (posted σ w)
none_posted L σ w f n =
    record { not_cause = λ c p r cl pl. go c p r (subst (λ s. c < s) (posted_size σ w) cl) (subst (λ k. p < k) (outside (LiveCount c) refl refl) pl) }
  where
    τ : State
    τ = posted σ w

    outside : (g : Field) → (region g == region SentCount) ≡ false → alike g (OfMessage (used σ) 0) ≡ false → τ g ≡ σ g
    outside = posted_kept σ w

    go : (c p r : ℕ) → c < σ Size → p < σ (LiveCount c) → r < used τ → τ (MessageState r) ≡ state_held → τ (Cause c p) ≢ message_of τ r
    go c p r cl pl rl held e =
        let cause = sym (outside (Cause c p) refl refl) ∙ e in
        le? (r + 1) (used σ)
        (λ l. let u : r < used σ = omega arith in
        let ne : r ≢ used σ = λ z. absurd (omega arith) in
        let back = record_of_message σ r u in
        let there : record_of τ (message_of σ r) ≡ r = posted_record σ w (message_of σ r) (omega arith) ∙ back in
        let number : message_of τ r ≡ message_of σ r = ap (message_of τ) (sym there) ∙ message_of_record τ (message_of σ r) (omega arith) in
        n.not_cause c p r cl pl u (sym (outside (MessageState r) refl (rw (ne_eqb r (used σ) ne))) ∙ held) (cause ∙ number))
        (λ l. let last : r ≡ record_of τ (next_message σ) = omega (arith, posted_used σ w, posted_new σ w) in
        let number : message_of τ r ≡ next_message σ = ap (message_of τ) last ∙ message_of_record τ (next_message σ) (omega arith) in
        absurd (omega (arith, (place_form (form L σ f) c p cl pl).cause_le)))

-- THE STEPS
module _ (L : Limits) (σ : State) (f : in_form L σ ≡ true) (n : NoneCauses σ) where
  -- a step after its refusals
  none_refusing : (cases : List Case) (o : After) → (0 ≡ first_of cases → NoneCauses o.left) → NoneCauses (refusing cases σ o).left
  unfolding refusing
  none_refusing cases o h = cond_ind (λ (o : After). NoneCauses o.left) (first_of cases == 0) (λ q. h (sym (eqb-true (first_of cases) 0 q))) (λ _. n)

  none_refusing_both : (cases : List Case) (g : List ℕ) (o : AfterBoth) → NoneCauses o.left → NoneCauses (refusing_both cases σ g o).left
  unfolding refusing_both
  none_refusing_both cases g o h = cond_ind (λ (o : AfterBoth). NoneCauses o.left) (first_of cases == 0) (λ _. h) (λ _. n)

  -- K, L, C, T and the gap
  none_kept : (τ : State) → Unmoved σ τ → NoneCauses τ
  none_kept τ h = none_unmoved σ τ h n

  -- O
  none_step_open : (g : List ℕ) (m k : ℕ) → NoneCauses (step_open L σ g m k).left
  unfolding step_open
  none_step_open g m k = none_refusing_both _ g _ (none_causes_opened m k)

  -- S
  none_step_send : (sender receiver payload : ℕ) → NoneCauses (step_send L σ sender receiver payload).left
  unfolding step_send sent
  none_step_send sender receiver payload = none_refusing _ _ (λ _. none_posted L σ _ f n)

  -- R
  none_step_release : (g : List ℕ) (m : ℕ) → NoneCauses (step_release L σ g m).left
  unfolding step_release
  none_step_release g m =
      none_refusing_both _ g _
      (let r = record_of σ m in
      release_cases L σ g m r (λ o. NoneCauses o.left) (λ _. n) (λ _ _. none_let_out σ r _ state_released (omega arith) n) (λ _ _. n)
      (λ _ _ _. none_let_out σ r _ state_published (omega arith) n))

  -- D
  none_step_deliver : (m : ℕ) → NoneCauses (step_deliver L σ m).left
  unfolding step_deliver interval_begins
  none_step_deliver m =
      none_refusing _ _
      (λ _. let r = record_of σ m in
      deliver_cases L σ r m (λ o. NoneCauses o.left) (λ _. none_state σ r state_dropped (omega arith) n) (λ _. n) (λ _. n)
      (λ _ _ _. none_unmoved _ _ (unmoved_capped _ _) (none_added σ _ m r _ refl n)))

  -- X
  none_step_crash : (c : ℕ) → NoneCauses (step_crash L σ c).left
  unfolding step_crash crashed put same
  none_step_crash c =
      none_refusing _ _
      (λ q. let k = controller_form (form L σ f) c (crash_allowed L σ c q).controller_lt in
      none_removed _ c (σ (StableCount c)) k.stable_le (none_kept _ (unmoved_put σ σ (End c c _) _ refl (λ _ _. refl))))

  -- H
  none_step_hear : (hearer owner i : ℕ) → NoneCauses (step_hear σ hearer owner i).left
  unfolding step_hear hear rolled_back
  none_step_hear hearer owner i =
      none_refusing _ _
      (λ _. let kept : After → Type 0 = λ o. NoneCauses o.left in
      let heard = noted σ hearer owner i in
      let k = lowest_condemned heard hearer in
      let good : NoneCauses heard = none_kept heard (unmoved_noted σ hearer owner i) in
      let log = unmoved_logged_to heard hearer k in
      let live = log (LiveCount hearer) refl ∙ unmoved_noted σ hearer owner i (LiveCount hearer) refl in
      cond_ind kept (σ (LiveCount hearer) ≤? k) (λ _. good)
      (λ u. cond_ind kept (last_incarnation ≤? σ (Incarnation hearer)) (λ _. n)
      (λ _. none_removed (logged_to heard hearer k) hearer k (omega (arith, leb-false (σ (LiveCount hearer)) k u, live)) (none_unmoved heard _ log good))))

  -- every step after the host's refusals
  none_perform : (g : List ℕ) (x : Command) → NoneCauses (perform L σ g x).left
  unfolding perform
  none_perform g (Open m k) = none_step_open g m k
  none_perform g (SetDegree c k) = none_kept _ (unmoved_degree σ c k)
  none_perform g (Send sender receiver payload) = none_step_send sender receiver payload
  none_perform g (Release m) = none_step_release g m
  none_perform g (Deliver m) = none_step_deliver m
  none_perform g (Log c q) = none_kept _ (unmoved_log σ c q)
  none_perform g (Checkpoint c) = none_kept _ (unmoved_checkpoint σ c)
  none_perform g (Tell owner holder) = none_kept _ (unmoved_tell σ owner holder)
  none_perform g (Crash c) = none_step_crash c
  none_perform g (Hear hearer owner i) = none_step_hear hearer owner i
  none_perform g (SetGap q) = none_kept _ (unmoved_gap σ q)

-- every step keeps it, on a state in form
pub none_causes_kept : (L : Limits) (σ : State) (g : List ℕ) (x : Command) → in_form L σ ≡ true → NoneCauses σ → NoneCauses (step_on L σ g x).left
unfolding step_on
none_causes_kept L σ g x f n =
    cond_ind (λ (o : AfterBoth). NoneCauses o.left) (looks_at_form x && not (in_form L σ)) (λ _. n) (λ _. none_perform L σ f n g x)
