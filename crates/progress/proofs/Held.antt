-- What ends the holding of a message: a release lets it out, or its sender starts anew at or below its sending number. No other step does,
-- and none makes a message held that was there and was not.
use Rattle.std.specs.Prelude.{◌≡◌, true, ◌&&◌, List, ◌≢◌, ◌⊎◌, ℕ, ◌+◌, ◌-◌, ◌≤◌, ◌<◌}
use Rattle.std.proofs.Math.Path.{refl}
use Rattle.std.proofs.Common.{sym, ap, ◌∙◌, subst, inl, inr, ⊎_elim, arith, eqb-true, ltb-true, eq-eqb, ne_eqb, ◌==◌}
use Rattle.std.proofs.Math.Bool.{not}
use Rattle.base.specs.Choice.{◌≤?◌, ◌<?◌, cond_ind, and_left, and_right}
use Rattle.base.specs.Ranges.{anyb_some}
use Rattle.base.specs.Cases.{Case, first_of}
use Rattle.table.specs.Field.{State, End, OfMessage, Size, Incarnation, LiveCount, Cause, MessageState, Sender, SendingNumber, same, message_head}
use Rattle.table.specs.Change.{put, put_same, put_other, put_part, clear_places, put_states, states_at}
use Rattle.table.specs.Numbering.{number_of, last_live, used, record_of, message_of, Numbered}
use Rattle.table.proofs.Numbering.{number_next, numbers_states, numbers_trans, posted_kept}
use Rattle.rules.specs.Limits.{Limits, last_incarnation}
use Rattle.rules.specs.Vector.{Vector, flat, mask}
use Rattle.rules.specs.Form.{state_held, state_released, state_delivered, state_dropped, state_published, in_form}
use Rattle.rules.specs.Shared.{capped, logged_to, causing, caused_in, causes_in, causes, new_vector, placed, entered, restarted, orphaned, held_or_dropped, drop_held, start_anew, removed}
use Rattle.rules.specs.Steps.{After, AfterBoth, after_both, beside, refusing, refusing_both, step_open, open_refusals, sent, step_send, own_vector, let_out, step_release, interval_added, interval_begins, step_deliver, crashed, step_crash, noted, lowest_condemned, rolled_back, hear, step_hear}
use Rattle.rules.specs.Step.{perform, looks_at_form, step_on}
use Rattle.rules.specs.declared.Answer.{Answer}
use Rattle.rules.specs.declared.Answer.TheVariants.{Done, Released, Dropped}
use Rattle.rules.specs.declared.Command.{Command}
use Rattle.rules.specs.declared.Command.TheVariants.{Open, SetDegree, Send, Release, Deliver, Log, Checkpoint, Tell, Crash, Hear, SetGap}
use Rattle.model.proofs.Tests.{eq?}
use Rattle.laws.specs.Numbers.{numbers_restarted}
use Rattle.laws.specs.Records.{part_other}
use Rattle.laws.specs.Agree.{live_restarted}
use Rattle.laws.specs.Releasing.{release_cases}
use Rattle.laws.specs.Delivering.{deliver_cases}
use Rattle.laws.specs.Allowed.{message_allowed, crash_allowed, hear_allowed}
use Rattle.progress.specs.Unmoved.{Unmoved, numbers_unmoved, unmoved_put, unmoved_logged_to, unmoved_capped, unmoved_noted, unmoved_degree, unmoved_log, unmoved_checkpoint, unmoved_tell, unmoved_gap}
use Rattle.progress.specs.Causes.{NoneCauses, none_unmoved, causes_held, undropped}
use Rattle.progress.specs.Held.{Anew, Leaves, let_out_lem, undone, Spared, KeptHeld}

-- the same with a change of other words before it
spared_unmoved : (σ ρ τ : State) (r : ℕ) → Unmoved σ ρ → Spared ρ τ r → Spared σ τ r
spared_unmoved σ ρ τ r w s =
    let sender = w (Sender r) refl in
    subst (λ c. (τ (Incarnation c) ≡ σ (Incarnation c)) ⊎ (σ (SendingNumber r) < last_live τ c)) sender
    (⊎_elim (λ e. inl (e ∙ w (Incarnation (ρ (Sender r))) refl)) (λ l. inr (omega (arith, l, w (SendingNumber r) refl))) s)

-- INTERVALS REMOVED
-- a held message is not among their causes
held_causes : (σ : State) (c k : ℕ) → c < σ Size → NoneCauses σ → (r : ℕ) → r < used σ → σ (MessageState r) ≡ state_held →
    causes σ c k (MessageState r) ≡ state_held
unfolding causes causes_in caused_in
held_causes σ c k cl n r u h =
    states_at σ _ r
    ∙ cond_ind (λ x. x ≡ state_held) (caused_in σ c k (σ (LiveCount c) - k) r)
    (λ e. let s = anyb_some (λ (j : ℕ). σ (Cause c (k + j)) == message_of σ r) (σ (LiveCount c) - k) (and_right (causing σ r) _ e) in
    absurd (n.not_cause c (k + s.index) r cl (omega (arith, s.below)) u h (eqb-true _ _ s.passes))) (λ _. h)

-- it is dropped only where c sent it, above the k-th number
held_dropped : (σ : State) (c k r : ℕ) → σ (MessageState r) ≡ state_held →
    (drop_held σ c k (MessageState r) ≡ state_held) ⊎ ((σ (Sender r) ≡ c) × (number_of σ c k < σ (SendingNumber r)))
unfolding drop_held held_or_dropped put_states
held_dropped σ c k r h =
    cond_ind (λ x. (x ≡ state_held) ⊎ ((σ (Sender r) ≡ c) × (number_of σ c k < σ (SendingNumber r)))) (orphaned σ c (number_of σ c k) r)
    (λ e. let q = and_right (σ (MessageState r) == state_held) _ e in
    inr (eqb-true _ _ (and_left (σ (Sender r) == c) _ q), ltb-true _ _ (and_right (σ (Sender r) == c) _ q))) (λ _. inl h)

-- a start: all numbers stay, and so does what a message's record has before its vector
numbers_begun : (σ : State) (c k : ℕ) → Numbered (capped (restarted σ c k) c) σ
numbers_begun σ c k = numbers_trans _ _ σ (numbers_unmoved _ _ (unmoved_capped (restarted σ c k) c)) (numbers_restarted σ c k)

numbers_anew : (σ : State) (c k : ℕ) → Numbered (start_anew σ c k) σ
unfolding start_anew drop_held
numbers_anew σ c k = numbers_trans _ _ σ (numbers_states (capped (restarted σ c k) c) _) (numbers_begun σ c k)

begun_word : (σ : State) (c k r w : ℕ) → (w <? message_head) ≡ true → capped (restarted σ c k) c (OfMessage r w) ≡ σ (OfMessage r w)
unfolding restarted entered placed put same put_part clear_places
begun_word σ c k r w e = unmoved_capped (restarted σ c k) c (OfMessage r w) e

-- the number of the new interval is that after the k-th
start_number : (σ : State) (c k : ℕ) → let τ = start_anew σ c k in last_live τ c ≡ number_of σ c k + 1
unfolding start_anew drop_held put_states
start_number σ c k =
    let live = unmoved_capped (restarted σ c k) c (LiveCount c) refl ∙ live_restarted σ c k in
    ap (number_of (start_anew σ c k) c) live ∙ (numbers_anew σ c k).number c (k + 1) ∙ number_next σ c k

-- its incarnation is the next
start_anew_lem : (σ : State) (c k x : ℕ) → number_of σ c k < x → Anew σ (start_anew σ c k) c x
unfolding start_anew drop_held put_states restarted entered put same
start_anew_lem σ c k x l =
    let i = σ (Incarnation c) + 1 in
    record {
      incarnation_is =
          unmoved_capped (restarted σ c k) c (Incarnation c) refl ∙ put_same (placed σ c k i (number_of σ c (k + 1)) (new_vector σ c k)) (Incarnation c) i;
      number_le = omega (arith, start_number σ c k);
    }

-- that of another controller stays
start_other : (σ : State) (c k d : ℕ) → d ≢ c → start_anew σ c k (Incarnation d) ≡ σ (Incarnation d)
unfolding start_anew drop_held put_states restarted entered placed put same put_part clear_places
start_other σ c k d ne = unmoved_capped (restarted σ c k) c (Incarnation d) refl ∙ rw (ne_eqb d c ne)

-- so it stays held, or it was sent from one of them
held_removed : (σ : State) (c k : ℕ) → c < σ Size → NoneCauses σ → (r : ℕ) → r < used σ → σ (MessageState r) ≡ state_held →
    (removed σ c k (MessageState r) ≡ state_held) ⊎ ((σ (Sender r) ≡ c) × Anew σ (removed σ c k) c (σ (SendingNumber r)))
unfolding removed start_anew causes causes_in put_states
held_removed σ c k cl n r u h =
    let α = causes σ c k in
    let τ = capped (restarted α c k) c in
    let word = begun_word α c k r in
    ⊎_elim inl
    (λ (d : (τ (Sender r) ≡ c) × (number_of τ c k < τ (SendingNumber r))).
    let y : number_of τ c k ≡ number_of α c k = (numbers_begun α c k).number c k in
    let z : τ (SendingNumber r) ≡ σ (SendingNumber r) = word _ refl in
    let w = start_anew_lem α c k (σ (SendingNumber r)) (omega (arith, d.1)) in
    inr (sym (word _ refl) ∙ d.0, record { incarnation_is = w.incarnation_is; number_le = w.number_le }))
    (held_dropped τ c k r (word _ refl ∙ held_causes σ c k cl n r u h))

-- and what is held then was held before, and was not sent from one of them
spared_removed : (σ : State) (c k r : ℕ) → removed σ c k (MessageState r) ≡ state_held → (σ (MessageState r) ≡ state_held) × Spared σ (removed σ c k) r
unfolding removed start_anew causes causes_in put_states
spared_removed σ c k r h =
    let α = causes σ c k in
    let τ = capped (restarted α c k) c in
    let word = begun_word α c k r in
    let (held, low) = undropped τ c k r h in
    let ρ = removed σ c k in
    let last = start_number α c k in
    let kth : number_of τ c k ≡ number_of α c k = (numbers_begun α c k).number c k in
    let sending : τ (SendingNumber r) ≡ σ (SendingNumber r) = word _ refl in (
      causes_held σ c k r (sym (word _ refl) ∙ held),
      eq? (σ (Sender r)) c (λ e. inr (subst (λ d. σ (SendingNumber r) < last_live ρ d) (sym e) (omega (arith, low (word _ refl ∙ e)))))
          (λ ne. inl (start_other α c k _ ne)),
    )

-- THE STEPS
module _ (L : Limits) (σ : State) (r : ℕ) (u : r < used σ) where
  -- after step x, which left o: where the message was held it is held still, unless this lets it go, and where it is held it was so before
  record Goes (x : Command) (o : AfterBoth) : Type 0 where
    on : NoneCauses σ → σ (MessageState r) ≡ state_held → (o.left (MessageState r) ≡ state_held) ⊎ Leaves σ o.left r x o.answer
    back : o.left (MessageState r) ≡ state_held → (σ (MessageState r) ≡ state_held) × Spared σ o.left r

  -- its state stays, and no controller starts anew
  goes_kept : (x : Command) (o : AfterBoth) → o.left (MessageState r) ≡ σ (MessageState r) →
      ((c : ℕ) → o.left (Incarnation c) ≡ σ (Incarnation c)) → Goes x o
  goes_kept x o same stay = record { on = λ _ h. inl (same ∙ h); back = λ h. (sym same ∙ h, inl (stay _)) }

  -- nothing changes
  goes_same : (x : Command) (a : Answer) (g : List ℕ) → Goes x (after_both a σ g)
  goes_same x a g = goes_kept x _ refl (λ _. refl)

  -- the message in record i is not held then, another's state stays, and no controller starts anew
  goes_put : (x : Command) (o : AfterBoth) (i : ℕ) → o.left (MessageState i) ≢ state_held →
      (r ≢ i → o.left (MessageState r) ≡ σ (MessageState r)) → ((c : ℕ) → o.left (Incarnation c) ≡ σ (Incarnation c)) →
      (r ≡ i → σ (MessageState r) ≡ state_held → Leaves σ o.left r x o.answer) → Goes x o
  goes_put x o i ne other stay leaves =
      eq? r i
      (λ e. record { on = λ _ h. inr (leaves e h); back = λ h. absurd (ne (subst (λ j. o.left (MessageState j) ≡ state_held) e h)) })
      (λ e. goes_kept x o (other e) stay)

  -- a step after its refusals
  goes_refusing : (x : Command) (g : List ℕ) (cases : List Case) (o : After) → (0 ≡ first_of cases → Goes x (beside o g)) →
      Goes x (beside (refusing cases σ o) g)
  unfolding refusing
  goes_refusing x g cases o w =
      cond_ind (λ o. Goes x (beside o g)) (first_of cases == 0) (λ e. w (sym (eqb-true (first_of cases) 0 e))) (λ _. goes_same x _ g)

  goes_refusing_both : (x : Command) (g : List ℕ) (cases : List Case) (o : AfterBoth) → Goes x o → Goes x (refusing_both cases σ g o)
  unfolding refusing_both
  goes_refusing_both x g cases o w = cond_ind (Goes x) (first_of cases == 0) (λ _. w) (λ _. goes_same x _ g)

  -- K, L, C, T and the gap
  goes_unmoved : (x : Command) (g : List ℕ) (o : After) → Unmoved σ o.left → Goes x (beside o g)
  goes_unmoved x g o w = goes_kept x _ (w (MessageState r) refl) (λ c. w (Incarnation c) refl)

  -- O, where it isn't done
  goes_open : (g : List ℕ) (m k : ℕ) → (step_open L σ g m k).answer ≢ Done → Goes (Open m k) (step_open L σ g m k)
  unfolding step_open refusing_both
  goes_open g m k =
      cond_ind (λ (o : AfterBoth). o.answer ≢ Done → Goes (Open m k) o) (first_of (open_refusals L g m k) == 0)
      (λ _ ne. absurd (ne refl)) (λ _ _. goes_same _ _ g)

  -- S puts another record
  goes_send : (g : List ℕ) (sender receiver payload : ℕ) → Goes (Send sender receiver payload) (beside (step_send L σ sender receiver payload) g)
  unfolding step_send sent
  goes_send g sender receiver payload =
      goes_refusing _ g _ _ (λ _. let ne : r ≢ used σ = λ z. absurd (omega arith) in
      goes_kept _ _ (posted_kept σ _ (MessageState r) refl (rw (ne_eqb r (used σ) ne))) (λ c. posted_kept σ _ (Incarnation c) refl refl))

  -- R lets it out, or another
  goes_out : (m mask : ℕ) (v : Vector) (st : ℕ) (g : List ℕ) → st ≢ state_held →
      Goes (Release m) (after_both (Released m mask) (let_out σ (record_of σ m) v st) g)
  unfolding let_out put same put_part
  goes_out m mask v st g ne =
      let i = record_of σ m in
      let stored = put_part σ (OfMessage i 0) message_head (flat v) in
      goes_put _ _ i (λ h. ne (sym (put_same stored (MessageState i) st) ∙ h))
      (λ e. put_other stored (MessageState i) (MessageState r) st (λ q. e (cc))
      ∙ part_other σ (OfMessage i 0) (MessageState r) message_head (flat v) (λ j _ q. e (cc)))
      (λ _. refl) (λ e _. let_out_lem m mask (sym e))

  goes_release : (g : List ℕ) (m : ℕ) → Goes (Release m) (step_release L σ g m)
  unfolding step_release
  goes_release g m =
      goes_refusing_both _ g _ _
      (let v = own_vector σ (record_of σ m) in
      release_cases L σ g m (record_of σ m) (Goes (Release m)) (λ _. goes_same _ _ g) (λ _ _. goes_out m (mask v) v state_released g (omega arith)) (λ _ _. goes_same _ _ g)
      (λ _ _ _. goes_out m (mask v) v state_published _ (omega arith)))

  -- a message that is released is not held, so D changes the state of another
  module _ (g : List ℕ) (m : ℕ) (released : σ (MessageState (record_of σ m)) ≡ state_released) where
    none_leaves : {A : Type 0} → r ≡ record_of σ m → σ (MessageState r) ≡ state_held → A
    none_leaves z h = absurd (let e : σ (MessageState r) ≡ σ (MessageState (record_of σ m)) = ap (λ j. σ (MessageState j)) z in omega arith)

    goes_dropped : (owner i : ℕ) → Goes (Deliver m) (after_both (Dropped m owner i) (put σ (MessageState (record_of σ m)) state_dropped) g)
    unfolding put same
    goes_dropped owner i =
        let at = record_of σ m in
        goes_put _ _ at (λ h. omega (arith, put_same σ (MessageState at) state_dropped))
        (λ e. put_other σ (MessageState at) (MessageState r) state_dropped (λ q. e (cc))) (λ _. refl) none_leaves

    goes_begins : (c : ℕ) (v : Vector) → Goes (Deliver m) (beside (interval_begins σ c m (record_of σ m) v) g)
    unfolding interval_begins interval_added put same put_part
    goes_begins c v =
        let i = record_of σ m in
        let stay = unmoved_capped (interval_added σ c m i v) c in
        let delivered : interval_added σ c m i v (MessageState i) ≡ state_delivered = rw (eq-eqb i i refl) in
        goes_put _ _ i (λ h. omega (arith, stay (MessageState i) refl))
        (λ e. stay (MessageState r) refl ∙ rw (ne_eqb r i e)) (λ d. stay (Incarnation d) refl) none_leaves

  goes_deliver : (g : List ℕ) (m : ℕ) → Goes (Deliver m) (beside (step_deliver L σ m) g)
  unfolding step_deliver
  goes_deliver g m =
      goes_refusing _ g _ _
      (λ q. let released = (message_allowed σ (record_of σ m) state_released q).state_is in
      deliver_cases L σ (record_of σ m) m (λ o. Goes (Deliver m) (beside o g)) (λ _. goes_dropped g m released _ _) (λ _. goes_same _ _ g) (λ _. goes_same _ _ g)
      (λ _ _ _. goes_begins g m released _ _))

  -- X and H remove intervals, after other words have changed
  goes_removed : (x : Command) (a : Answer) (g : List ℕ) (ρ : State) (c k : ℕ) → Unmoved σ ρ → c < σ Size → Goes x (after_both a (removed ρ c k) g)
  goes_removed x a g ρ c k w cl =
      let τ = removed ρ c k in
      let size : ρ Size ≡ σ Size = w Size refl in
      let count = (numbers_unmoved σ ρ w).used_same in
      record {
        on = λ n h.
            ⊎_elim inl
            (λ d. let c_is : c ≡ σ (Sender r) = sym d.0 ∙ w (Sender r) refl in
            let next = d.1.incarnation_is ∙ ap (λ i. i + 1) (w (Incarnation c) refl) in
            let low = subst (λ y. last_live τ c ≤ y) (w (SendingNumber r) refl) d.1.number_le in
            inr (undone x a (subst (λ c. Anew σ τ c (σ (SendingNumber r))) c_is (record { incarnation_is = next; number_le = low }))))
            (held_removed ρ c k (omega arith) (none_unmoved σ ρ w n) r (omega arith) (w (MessageState r) refl ∙ h));
        back = λ h. let (was, low) = spared_removed ρ c k r h in (sym (w (MessageState r) refl) ∙ was, spared_unmoved σ ρ τ r w low);
      }

  goes_crash : (g : List ℕ) (c : ℕ) → Goes (Crash c) (beside (step_crash L σ c) g)
  unfolding step_crash crashed
  goes_crash g c =
      goes_refusing _ g _ _
      (λ q. goes_removed _ _ g _ c _ (unmoved_put σ σ (End c c _) _ refl (λ _ _. refl)) (crash_allowed L σ c q).controller_lt)

  goes_hear : (g : List ℕ) (hearer owner i : ℕ) → Goes (Hear hearer owner i) (beside (step_hear σ hearer owner i) g)
  unfolding step_hear hear rolled_back
  goes_hear g hearer owner i =
      goes_refusing _ g _ _
      (λ q. let goes : After → Type 0 = λ o. Goes (Hear hearer owner i) (beside o g) in
      let heard = noted σ hearer owner i in
      let k = lowest_condemned heard hearer in
      let note = unmoved_noted σ hearer owner i in
      cond_ind goes (σ (LiveCount hearer) ≤? k) (λ _. goes_unmoved _ g _ note)
      (λ _. cond_ind goes (last_incarnation ≤? σ (Incarnation hearer)) (λ _. goes_same _ _ g)
      (λ _. goes_removed _ _ g (logged_to heard hearer k) hearer k (λ f e. unmoved_logged_to heard hearer k f e ∙ note f e)
      (hear_allowed σ hearer owner i q).hearer_lt)))

  -- every step after the host's refusals
  goes_perform : (g : List ℕ) (x : Command) → ((m k : ℕ) → x ≡ Open m k → (perform L σ g x).answer ≢ Done) → Goes x (perform L σ g x)
  unfolding perform
  goes_perform g (Open m k) ne = goes_open g m k (ne m k refl)
  goes_perform g (SetDegree c k) ne = goes_unmoved _ g _ (unmoved_degree σ c k)
  goes_perform g (Send sender receiver payload) ne = goes_send g sender receiver payload
  goes_perform g (Release m) ne = goes_release g m
  goes_perform g (Deliver m) ne = goes_deliver g m
  goes_perform g (Log c q) ne = goes_unmoved _ g _ (unmoved_log σ c q)
  goes_perform g (Checkpoint c) ne = goes_unmoved _ g _ (unmoved_checkpoint σ c)
  goes_perform g (Tell owner holder) ne = goes_unmoved _ g _ (unmoved_tell σ owner holder)
  goes_perform g (Crash c) ne = goes_crash g c
  goes_perform g (Hear hearer owner i) ne = goes_hear g hearer owner i
  goes_perform g (SetGap q) ne = goes_unmoved _ g _ (unmoved_gap σ q)

  -- and with these, of every step but an opening that is done
  module _ (g : List ℕ) (x : Command) (unopened : (m k : ℕ) → x ≡ Open m k → (step_on L σ g x).answer ≢ Done) where
    abbrev τ : State
    τ = (step_on L σ g x).left

    goes_step : Goes x (step_on L σ g x)
    unfolding step_on
    goes_step =
        cond_ind (λ (o : AfterBoth). ((m k : ℕ) → x ≡ Open m k → o.answer ≢ Done) → Goes x o)
        (looks_at_form x && not (in_form L σ)) (λ _ _. goes_same x _ g) (λ _. goes_perform g x) unopened

    -- a message that is held then was held before
    pub was_held : τ (MessageState r) ≡ state_held → KeptHeld σ τ r
    was_held h = let (was, low) = goes_step.back h in record { was = was; is = h; low = low }

    -- a held one stays held, unless one of these lets it go: then it is held no more
    pub stays_held : NoneCauses σ → σ (MessageState r) ≡ state_held →
        KeptHeld σ τ r ⊎ (Leaves σ τ r x (step_on L σ g x).answer × (τ (MessageState r) ≢ state_held))
    stays_held n h =
        eq? (τ (MessageState r)) state_held (λ e. inl (was_held e)) (λ ne. ⊎_elim (λ e. absurd (ne e)) (λ l. inr (l, ne)) (goes_step.on n h))
