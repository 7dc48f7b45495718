-- The same of tables of words: what a step on a lent table leaves are the words of what it leaves on the state.
use Rattle.std.specs.Prelude.{◌≡◌, not, cond, List, ◌≢◌, ◌⊎◌, ℕ, ◌≤◌, ◌<◌, length}
use Rattle.std.proofs.Math.Path.{refl}
use Rattle.std.proofs.Common.{sym, ap, ◌∙◌, subst, inl, inr, ⊎_elim, arith, eq-eqb, ltb-true, ◌==◌}
use Rattle.base.specs.Choice.{◌<?◌, cond_ind, and_right}
use Rattle.base.specs.Cases.{Case, first_of}
use Rattle.table.specs.Field.{State, OfMessage, Size, Incarnation, LiveCount, StableCount, Cause, MessageState, Sender, SendingNumber, word, same, message_head, Served}
use Rattle.table.specs.Layout.{controllers, table_words}
use Rattle.table.specs.Change.{put, put_part}
use Rattle.table.specs.Words.{state, Agree, words}
use Rattle.table.proofs.Words.{agree_words}
use Rattle.table.specs.Numbering.{number_of, last_live, used, record_of, next_message, posted, Numbered}
use Rattle.table.proofs.Numbering.{none_used, posted_used, posted_new, posted_at, number_same, used_agree, record_agree, message_agree, numbers_put}
use Rattle.rules.specs.Limits.{Limits, house, last_served}
use Rattle.rules.specs.Vector.{Vector}
use Rattle.rules.specs.Refusal.{FORM}
use Rattle.rules.specs.Form.{state_held, in_form}
use Rattle.rules.specs.Shared.{logged, logged_to, checkpointed}
use Rattle.rules.specs.Steps.{After, after, AfterBoth, beside, refuse, refusing, open_house, message_record, sent, send_refusals, step_send, checkpoint_refusals, step_checkpoint, told, tell_refusals, step_tell}
use Rattle.rules.specs.Step.{perform, step_on, written_both, lent, step}
use Rattle.rules.specs.declared.Answer.{Answer}
use Rattle.rules.specs.declared.Answer.TheVariants.{Done, Sent, Refused}
use Rattle.rules.specs.declared.Command.{Command}
use Rattle.rules.specs.declared.Command.TheVariants.{Open, Send, Checkpoint, Tell}
use Rattle.laws.specs.Facts.{Form, form, below_8, controller_form, message_form, house_fits}
use Rattle.laws.specs.Records.{length_message_record}
use Rattle.laws.specs.Answering.{Lent}
use Rattle.keeping.proofs.Steps.{form_kept}
use Rattle.image.proofs.Tables.{opening_done}
use Rattle.progress.specs.Causes.{NoneCauses, none_unsent, none_causes_kept, none_unmoved}
use Rattle.progress.specs.Held.{Leaves, let_out_lem, undone, KeptHeld}
use Rattle.progress.proofs.Held.{was_held, stays_held}
use Rattle.progress.specs.There.{Stays, there_stays, stays_step}
use Rattle.progress.specs.Unmoved.{Unmoved, unmoved_put}
use Rattle.keeping.proofs.Changes.{kept_served}

-- STATES WITH THE SAME WORDS
module _ (σ τ : State) (e : Agree σ τ) (f : Form house τ) where
  -- no held message is a cause
  none_agree : NoneCauses τ → NoneCauses σ
  none_agree n =
      record {
        not_cause = λ c p r cl pl rl held q.
            let named : c < τ Size = subst (λ s. c < s) (e Size (omega arith)) cl in
            let live = e (LiveCount c) (below_8 f c named, omega arith) in
            let top = (controller_form f c named).live_le in
            let count = used_agree σ τ e in
            let few = f.used_le in
            n.not_cause c p r named (omega arith) (omega arith) (sym (e (MessageState r) (omega arith, omega arith)) ∙ held)
            (sym (e (Cause c p) (below_8 f c named, omega arith, omega arith)) ∙ q ∙ message_agree σ τ e r (omega arith));
      }

  -- messages are there
  stays_agree : (ρ : State) → Stays ρ τ → Stays ρ σ
  stays_agree ρ s =
      let count = used_agree σ τ e in
      let few = f.used_le in
      let more = s.used_le in
      record {
        used_le = omega arith;
        record_same = λ m l. record_agree σ τ e m (omega arith) ∙ s.record_same m l;
        word_same = λ r k l q.
            let h = ltb-true k message_head (and_right (word (MessageState r) <? k) _ q) in
            e (OfMessage r k) (omega arith, omega arith) ∙ s.word_same r k l q;
      }

  -- newest numbers
  newest_agree : (c : ℕ) → c < controllers → last_live σ c ≡ last_live τ c
  newest_agree c cl = number_same σ τ e c (σ (LiveCount c)) cl ∙ ap (number_of τ c) (e (LiveCount c) (cl, omega arith))

  -- a sender starts anew
  leaves_agree : (ρ : State) (r : ℕ) → ρ (Sender r) < controllers → {x : Command} {a : Answer} → Leaves ρ τ r x a → Leaves ρ σ r x a
  leaves_agree ρ r cl (let_out_lem m mask q) = let_out_lem m mask q
  leaves_agree ρ r cl (undone x a w) =
      let c = ρ (Sender r) in
      undone x a
      (record {
        incarnation_is = e (Incarnation c) (cl, omega arith) ∙ w.incarnation_is;
        number_le = subst (λ y. y ≤ ρ (SendingNumber r)) (sym (newest_agree c cl)) w.number_le;
      })

  -- a message stays held
  kept_agree : (ρ : State) (r : ℕ) → ρ (Sender r) < controllers → r < used τ → KeptHeld ρ τ r → KeptHeld ρ σ r
  kept_agree ρ r cl rl w =
      let c = ρ (Sender r) in
      let few = f.used_le in
      record {
        was = w.was;
        is = e (MessageState r) (omega arith, omega arith) ∙ w.is;
        low = ⊎_elim (λ q. inl (e (Incarnation c) (cl, omega arith) ∙ q)) (λ l. inr (omega (arith, l, newest_agree c cl))) w.low;
      }

-- A STEP ON A LENT TABLE
module _ (t g : List ℕ) (x : Command) (h : Lent t) where
  -- the state that is left
  abbrev τ : State
  τ = (step_on house (state t) g x).left

  -- it is the step on the state
  pub step_is : step t g x ≡ written_both (step_on house (state t) g x)
  unfolding step lent
  step_is = rw (eq-eqb (length t) table_words h.long)

  -- the table that is left has its words
  pub left_agree : Agree (state (step t g x).table) τ
  left_agree = agree_words τ (ap (λ o. o.table) step_is)

  -- and the answer is its answer
  pub answer_is : (step t g x).answer ≡ (step_on house (state t) g x).answer
  answer_is = ap (λ o. o.answer) step_is

  -- it is in form
  left_form : Form house τ
  left_form = form house τ (form_kept house house_fits (state t) g x h.good)

-- every step on a lent table leaves none that causes a live interval
pub none_causes_step : (t g : List ℕ) (x : Command) → Lent t → NoneCauses (state t) → NoneCauses (state (step t g x).table)
none_causes_step t g x h n = none_agree _ _ (left_agree t g x h) (left_form t g x h) (none_causes_kept house (state t) g x h.good n)

-- an opening that is done leaves none, whatever stood there
pub none_causes_open : (t g : List ℕ) (n k : ℕ) → (step t g (Open n k)).answer ≡ Done → NoneCauses (state (step t g (Open n k)).table)
unfolding open_house
none_causes_open t g n k d =
    none_unsent _ (used_agree _ (open_house n k) (agree_words (open_house n k) (opening_done t g n k d).table_is) ∙ none_used (open_house n k) refl)

-- every step but an opening that is done leaves the messages of the table there
pub there_step : (t g : List ℕ) (x : Command) → Lent t → ((n k : ℕ) → x ≡ Open n k → (step t g x).answer ≢ Done) →
    Stays (state t) (state (step t g x).table)
there_step t g x h ne =
    stays_agree _ _ (left_agree t g x h) (left_form t g x h) (state t) (stays_step house (state t) g x (λ n k e d. ne n k e (answer_is t g x h ∙ d)))

-- C and T write no state of a message
module _ (L : Limits) (σ : State) (g : List ℕ) (r : ℕ) where
  abbrev Kept : AfterBoth → Type 0
  Kept o = o.left (MessageState r) ≡ σ (MessageState r)

  kept_looked : (cases : List Case) (o : After) → o.left (MessageState r) ≡ σ (MessageState r) →
      Kept (cond (not (in_form L σ)) (beside (refuse FORM σ) g) (beside (refusing cases σ o) g))
  unfolding refusing
  kept_looked cases o h =
      cond_ind Kept (not (in_form L σ)) (λ _. refl) (λ _. cond_ind (λ (o : After). o.left (MessageState r) ≡ σ (MessageState r)) (first_of cases == 0) (λ _. h) (λ _. refl))

  pub checkpoint_leaves : (c : ℕ) → Kept (step_on L σ g (Checkpoint c))
  unfolding step_on perform step_checkpoint checkpointed logged_to logged put same
  checkpoint_leaves c =
      kept_looked (checkpoint_refusals σ c) (after Done (checkpointed σ c))
      (cond_ind (λ (τ : State). τ (MessageState r) ≡ σ (MessageState r)) (σ (StableCount c) <? σ (LiveCount c)) (λ _. refl) (λ _. refl))

  pub tell_leaves : (teller told : ℕ) → Kept (step_on L σ g (Tell teller told))
  unfolding step_on perform step_tell told put_part
  tell_leaves teller hearer = kept_looked (tell_refusals σ teller hearer) (after Done (told σ teller hearer)) refl

-- and message m among them, which is in record r
module _ (t g : List ℕ) (x : Command) (h : Lent t) (ne : (n k : ℕ) → x ≡ Open n k → (step t g x).answer ≢ Done) (m : ℕ)
    (l : record_of (state t) m < used (state t)) where
  abbrev σ : State
  σ = state t

  abbrev r : ℕ
  r = record_of σ m

  -- the state that is left, and that of the table then
  abbrev ρ : State
  ρ = τ t g x h

  abbrev then : State
  then = state (step t g x).table

  -- it is in record r still
  pub same_record : record_of then m ≡ r
  same_record = (there_stays σ then (there_step t g x h ne) m l).0

  still : r < used ρ
  still = omega (arith, used_agree then ρ (left_agree t g x h), (there_step t g x h ne).used_le)

  -- and its state is that which is left
  state_left : then (MessageState r) ≡ ρ (MessageState r)
  state_left = left_agree t g x h (MessageState r) (omega (arith, still, (left_form t g x h).used_le), omega arith)

  -- so a step that leaves the word leaves its state
  pub state_same : (step_on house σ g x).left (MessageState r) ≡ σ (MessageState r) → then (MessageState (record_of then m)) ≡ σ (MessageState r)
  state_same e = ap (λ i. then (MessageState i)) same_record ∙ state_left ∙ e

  -- its sender is a controller
  sender : σ (Sender r) < controllers
  sender = let f = form house σ h.good in below_8 f _ (message_form f r l).sender_lt

  unopened : (n k : ℕ) → x ≡ Open n k → (step_on house σ g x).answer ≢ Done
  unopened n k z d = ne n k z (answer_is t g x h ∙ d)

  -- where it is held then it was held before
  pub held_before : then (MessageState r) ≡ state_held → KeptHeld σ then r
  held_before held =
      kept_agree then ρ (left_agree t g x h) (left_form t g x h) σ r sender still (was_held house σ r l g x unopened (sym state_left ∙ held))

  -- where it was held it is held still, unless it is let out or its sender starts anew
  pub held_step : NoneCauses σ → σ (MessageState r) ≡ state_held →
      KeptHeld σ then r ⊎ (Leaves σ then r x (step t g x).answer × (then (MessageState r) ≢ state_held))
  held_step n held =
      let e = left_agree t g x h in
      let f = left_form t g x h in
      ⊎_elim (λ w. inl (kept_agree then ρ e f σ r sender still w))
      (λ w. inr (subst (Leaves σ then r x) (sym (answer_is t g x h)) (leaves_agree then ρ e f σ r sender w.0), λ q. w.1 (sym state_left ∙ q)))
      (stays_held house σ r l g x unopened n held)

-- A MESSAGE SENT
-- m is there, and held
abbrev HeldIn : State → ℕ → Type 0
HeldIn σ m = (record_of σ m < used σ) × (σ (MessageState (record_of σ m)) ≡ state_held)

-- a new record has the state held
posted_held : (σ : State) (sender receiver i x payload : ℕ) (v : Vector) →
    HeldIn (posted σ (message_record state_held sender receiver i x payload v)) (next_message σ)
unfolding message_record
posted_held σ sender receiver i x payload v =
    let w = message_record state_held sender receiver i x payload v in
    let new = posted_new σ w in
    let first = posted_at σ w (word (MessageState 0)) (omega (arith, length_message_record state_held sender receiver i x payload v)) in
    (omega (arith, posted_used σ w), ap (λ r. posted σ w (MessageState r)) new ∙ first)

-- a refusal sends none
not_sent : {A : Type 0} (number m : ℕ) → Refused number ≡ Sent m → A
not_sent number m e = absurd (let z : ◌≡◌ {A = ℕ} 0 1 = cc in omega arith)

-- S, on a state
sent_state : (L : Limits) (σ : State) (g : List ℕ) (s r p m : ℕ) → let o = step_on L σ g (Send s r p) in
    o.answer ≡ Sent m → HeldIn o.left m
unfolding step_on perform step_send refusing sent
sent_state L σ g s r p m =
    cond_ind (λ (o : AfterBoth). o.answer ≡ Sent m → HeldIn o.left m) (not (in_form L σ)) (λ _. not_sent _ m)
    (λ _. cond_ind (λ (o : After). o.answer ≡ Sent m → HeldIn o.left m) (first_of (send_refusals L σ s r) == 0)
    (λ _ e. let z : next_message σ ≡ m = cc in subst (HeldIn (sent σ s r p)) z (posted_held σ s r _ _ p _)) (λ _. not_sent _ m))

-- a send on a lent table leaves its message there, held
pub sent_held : (t g : List ℕ) (s r p m : ℕ) → Lent t → (step t g (Send s r p)).answer ≡ Sent m → let τ = state (step t g (Send s r p)).table in
    (record_of τ m < used τ) × (τ (MessageState (record_of τ m)) ≡ state_held)
sent_held t g s r p m h d =
    let x = Send s r p in
    let ρ = (step_on house (state t) g x).left in
    let τ = state (step t g x).table in
    let e = left_agree t g x h in
    let few = (left_form t g x h).used_le in
    let count = used_agree τ ρ e in
    let q = sent_state house (state t) g s r p m (sym (answer_is t g x h) ∙ d) in
    let same = record_agree τ ρ e m (omega arith) in
    let l : record_of τ m < used τ = omega (arith, q.0) in
    (l, e (MessageState (record_of τ m)) (omega arith, omega arith) ∙ ap (λ r. ρ (MessageState r)) same ∙ q.1)

-- WHOEVER WAS SERVED LAST
module _ (t : List ℕ) (c : ℕ) (h : Lent t) (low : c ≤ last_served) where
  -- the state with c as the controller last served, and that of its table
  abbrev turned_state : State
  turned_state = put (state t) Served c

  abbrev served : State
  served = state (words turned_state)

  same_words : Agree served turned_state
  same_words = agree_words turned_state refl

  watched_same : Unmoved (state t) turned_state
  watched_same = unmoved_put (state t) (state t) Served c refl (λ _ _. refl)

  numbers_same : Numbered turned_state (state t)
  numbers_same = numbers_put (state t) Served c refl

  good : Form house turned_state
  good = form house turned_state (kept_served house (state t) c low h.good)

  -- no held message is a cause
  pub none_causes_served : NoneCauses (state t) → NoneCauses served
  none_causes_served n = none_agree served turned_state same_words good (none_unmoved (state t) turned_state watched_same n)

  -- a message that is there was there, in the same state
  pub there_served : (m : ℕ) → record_of served m < used served →
      (record_of (state t) m < used (state t)) × (served (MessageState (record_of served m)) ≡ state t (MessageState (record_of (state t) m)))
  there_served m l =
      let count = used_agree served turned_state same_words ∙ numbers_same.used_same in
      let few = (form house (state t) h.good).used_le in
      let r = record_agree served turned_state same_words m (omega arith) ∙ numbers_same.record_same m in
      (omega arith, same_words (MessageState (record_of served m)) (omega arith, omega arith) ∙ watched_same (MessageState (record_of served m)) refl ∙ ap (λ r. state t (MessageState r)) r)
