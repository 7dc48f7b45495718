-- A step looks only at words of the table and at the ledger: on states with the same words, beside one ledger, it answers the same and
-- leaves the same words and the same ledger. So what is computed on states by name holds of the step function on tables of words.
use Rattle.std.specs.Prelude.{◌≡◌, Bool, true, false, cond, ◌&&◌, ◌||◌, List, ◌∷◌, ℕ, ◌+◌, ◌-◌, ◌<◌, length}
use Rattle.std.proofs.Math.Path.{refl, ap, ap₂, subst}
use Rattle.std.proofs.Common.{sym, ◌∙◌, arith, eqb-true, eq-eqb, leb-false, lt-ltb, ◌==◌}
use Rattle.std.proofs.Math.Bool.{not}
use Rattle.std.specs.Int.Count.{ones}
use Rattle.std.proofs.lemmas.Bool.{not-false}
use Rattle.base.specs.Choice.{◌≤?◌, ◌<?◌, or_left, or_right, le?}
use Rattle.base.specs.Cases.{Case, ◌⇒◌, first_of, hit}
use Rattle.table.specs.Field.{State, End, Size, Gap, Degree, Incarnation, LiveCount, StableCount, MessageState, Receiver, desk, same}
use Rattle.table.specs.Change.{put}
use Rattle.table.specs.Layout.{controllers, messages, table_words}
use Rattle.table.specs.Words.{state, words, Agree}
use Rattle.table.proofs.Words.{length_words, word_at, words_same, agree_put, agree_put_to}
use Rattle.table.specs.Numbering.{number_of, used, record_of}
use Rattle.table.proofs.Numbering.{number_same, used_agree, last_agree, record_agree}
use Rattle.rules.specs.Limits.{house, last_incarnation}
use Rattle.rules.specs.Refusal.{FORM, LEDGER, CONTROLLER, MESSAGE, DEGREE, SAME_CONTROLLER, STATE, LOG_COUNT, NO_SUCH_CRASH, ALREADY_HEARD, MESSAGES_USED_UP, PLACES_USED_UP, INCARNATIONS_USED_UP}
use Rattle.rules.specs.Vector.{Vector, incarnation, pair_of, place_vector, message_vector, filtered, condemned, condemning, mask, conflict, merged}
use Rattle.rules.specs.Form.{in_form, state_held, state_released, state_dropped}
use Rattle.rules.specs.Ledger.{count_of}
use Rattle.rules.specs.Shared.{newest_place, capped}
use Rattle.rules.specs.Steps.{After, refuse, refusing, AfterBoth, beside, refusing_both, step_open, step_degree, step_send, message_refusals, may_go, release, step_release, interval_added, interval_begins, prospect, comes_of, deliver, step_deliver, step_log, step_checkpoint, step_tell, crashed, step_crash, noted, lowest_condemned, hear, hear_refusals, step_hear, step_gap}
use Rattle.rules.specs.Step.{perform, step_on, out_both, written_both, lent, step}
use Rattle.rules.specs.declared.Answer.TheVariants.{Sent, Released, Held, Delivered, Dropped, Crashed, Rolled, Refused}
use Rattle.rules.specs.declared.Prospect.{Prospect}
use Rattle.rules.specs.declared.Command.{Command}
use Rattle.rules.specs.declared.Command.TheVariants.{Open, SetDegree, Send, Release, Deliver, Log, Checkpoint, Tell, Crash, Hear, SetGap}
use Rattle.laws.specs.Facts.{Form, form, below_8, controller_form, released_lt, message_near, house_fits}
use Rattle.laws.specs.Allowed.{send_allowed, message_allowed, release_allowed, log_allowed, checkpoint_allowed, tell_allowed, crash_allowed, hear_allowed, Room, room_left}
use Rattle.laws.specs.Numbers.{room_live}
use Rattle.laws.specs.Agree.{incarnation_same, live_same, stable_same, records_full_same, no_place_same, state_same, place_vector_same, message_vector_same, filtered_same, condemned_same, condemning_same, replayed_same, lowest_condemned_same, agree_logged, agree_checkpointed, agree_capped, agree_sent, agree_begun, agree_noted, agree_told}
use Rattle.laws.specs.Chain.{releasable_there, chain_counts, counts_added, Chain, chain_form, chain_noted, Starts, starts_put}
use Rattle.laws.specs.Found.{lowest}
use Rattle.laws.specs.Releasing.{degree_agree, desk_agree, own_agree, agree_gone, ledger_out_agree}
use Rattle.laws.specs.Kept.{agree_removed, agree_rolled}
use Rattle.keeping.proofs.Kept.{in_form_same}

-- the same answer, and states with the same words
pub record Same (o p : After) : Type 0 where
  pub answer_is : o.answer ≡ p.answer
  pub left_is : Agree o.left p.left

-- the same of a step that looks at both buffers: and the same ledger
pub record SameBoth (o p : AfterBoth) : Type 0 where
  pub answer_is : o.answer ≡ p.answer
  pub left_is : Agree o.left p.left
  pub ledger_is : o.ledger ≡ p.ledger

pub same_refl : (o : AfterBoth) → SameBoth o o
same_refl o = record { answer_is = refl; left_is = λ f v. refl; ledger_is = refl }

-- beside one ledger
pub same_beside : {o p : After} (g : List ℕ) → Same o p → SameBoth (beside o g) (beside p g)
same_beside g s = record { answer_is = s.answer_is; left_is = s.left_is; ledger_is = refl }

-- then the same is written
pub same_written : {o p : AfterBoth} → SameBoth o p → written_both o ≡ written_both p
same_written {o} {p} s d = out_both (s.answer_is d) (words_same o.left p.left s.left_is d) (s.ledger_is d)

-- a choice by a test that is the same
pub same_cond : {A : Type 0} (R : A → A → Type 0) {b c : Bool} {o o' p p' : A} → b ≡ c → (b ≡ true → R o p) → (b ≡ false → R o' p') → R (cond b o o') (cond c p p')
same_cond R {b} {c} {o} {o'} {p} {p'} q f g = subst (λ z. R (cond b o o') (cond z p p')) q (go b f g)
  where
    go : (b : Bool) → (b ≡ true → R o p) → (b ≡ false → R o' p') → R (cond b o o') (cond b p p')
    go true f g = f refl
    go false f g = g refl

-- a case more, by a test that is the same
pub same_first : {b c : Bool} (n : ℕ) (cases cases' : List Case) → b ≡ c → (b ≡ false → first_of cases ≡ first_of cases') →
    first_of ((b ⇒ n) ∷ cases) ≡ first_of ((c ⇒ n) ∷ cases')
unfolding first_of
same_first {b} {c} n cases cases' q h = go b h ∙ ap (λ z. cond z n (first_of cases')) q
  where
    go : (b : Bool) → (b ≡ false → first_of cases ≡ first_of cases') → cond b n (first_of cases) ≡ cond b n (first_of cases')
    go true h = refl
    go false h = h refl

module _ (σ τ : State) (e : Agree σ τ) where
  size : σ Size ≡ τ Size
  size = e Size (omega arith)

  -- refused, with the same number
  pub same_refuse : {i j : ℕ} → i ≡ j → Same (refuse i σ) (refuse j τ)
  same_refuse q = record { answer_is = ap Refused q; left_is = e }

  -- a step after its refusals
  same_refusing : (cases cases' : List Case) {o p : After} → first_of cases ≡ first_of cases' → (0 ≡ first_of cases → Same o p) →
      Same (refusing cases σ o) (refusing cases' τ p)
  unfolding refusing
  same_refusing cases cases' q h = same_cond Same (ap (λ i. i == 0) q) (λ z. h (sym (eqb-true (first_of cases) 0 z))) (λ _. same_refuse q)

  pub same_refusing_both : (g : List ℕ) (cases cases' : List Case) {o p : AfterBoth} → first_of cases ≡ first_of cases' → (0 ≡ first_of cases → SameBoth o p) →
      SameBoth (refusing_both cases σ g o) (refusing_both cases' τ g p)
  unfolding refusing_both
  same_refusing_both g cases cases' q h =
      same_cond SameBoth (ap (λ i. i == 0) q) (λ z. h (sym (eqb-true (first_of cases) 0 z))) (λ _. same_beside g (same_refuse q))

  -- an interval begins, with vectors that are the same
  pub same_begins : (c m r : ℕ) {v w : Vector} → Chain σ c → Room house σ c (σ (LiveCount c)) → v ≡ w → Same (interval_begins σ c m r v) (interval_begins τ c m r w)
  unfolding interval_begins
  same_begins c m r {v} {w} chain room q =
      let cl = chain.named in
      let counts = counts_added σ c m r v (chain_counts chain) room in
      let x = number_same σ τ e c (σ (LiveCount c) + 1) cl ∙ ap (λ live. number_of τ c (live + 1)) (live_same σ τ e c cl) in
      record {
        answer_is = ap₂ (Delivered m) (incarnation_same σ τ e c cl) x;
        left_is =
            subst (λ w. Agree (capped (interval_added σ c m r v) c) (capped (interval_added τ c m r w) c)) q (agree_capped _ _ (agree_begun σ τ e c m r v cl) c cl counts.live_le);
      }

  -- O
  same_open : (g : List ℕ) (n k : ℕ) → SameBoth (step_open house σ g n k) (step_open house τ g n k)
  unfolding step_open
  same_open g n k = same_refusing_both g _ _ refl (λ _. same_refl _)

  -- The other steps, where σ is in form.
  module _ (f : Form house σ) where
    -- a controller that is there
    named : (c : ℕ) → (σ Size ≤? c) ≡ false → c < controllers
    named c z = below_8 f c (leb-false (σ Size) c z)

    -- a message's vector, filtered for a controller
    message_filtered : (c r : ℕ) → c < controllers → r < messages → filtered σ c (message_vector σ r) ≡ filtered τ c (message_vector τ r)
    message_filtered c r cl rl = filtered_same σ τ e c _ cl (message_near f r rl) ∙ ap (filtered τ c) (message_vector_same σ τ e r rl)

    -- a controller's newest vector, filtered for it
    pub newest_filtered : (c : ℕ) → Chain σ c → filtered σ c (place_vector σ c (newest_place σ c)) ≡ filtered τ c (place_vector τ c (newest_place τ c))
    newest_filtered c w =
        let p : newest_place σ c < σ (LiveCount c) = omega (arith, w.live_pos) in
        filtered_same σ τ e c _ w.named (w.near (newest_place σ c) p)
        ∙ ap (filtered τ c) (place_vector_same σ τ e c (newest_place σ c) w.named (omega (arith, w.live_le))
        ∙ ap (λ live. place_vector τ c (live - 1)) (live_same σ τ e c w.named))

    -- K
    same_degree : (c k : ℕ) → Same (step_degree σ c k) (step_degree τ c k)
    unfolding step_degree
    same_degree c k =
        same_refusing _ _ (same_first CONTROLLER _ _ (ap (λ n. n ≤? c) size) (λ _. same_first DEGREE _ _ (ap (λ n. n <? k) size) (λ _. refl)))
        (λ _. record { answer_is = refl; left_is = agree_put σ τ (Degree c) k e })

    -- S
    same_send : (sender receiver payload : ℕ) → Same (step_send house σ sender receiver payload) (step_send house τ sender receiver payload)
    unfolding step_send
    same_send sender receiver payload =
        same_refusing _ _
        (same_first CONTROLLER _ _ (ap (λ n. (n ≤? sender) || ((n ≤? receiver) && not (receiver == desk))) size)
        (λ _. same_first SAME_CONTROLLER _ _ refl (λ _. same_first MESSAGES_USED_UP _ _ (records_full_same σ τ e house) (λ _. refl))))
        (λ z. let w = chain_form σ sender f (send_allowed house σ sender receiver z).sender_lt in
        let p : newest_place σ sender < σ (LiveCount sender) = omega (arith, w.live_pos) in
        record {
          answer_is = ap (λ m. Sent (m + 1)) (last_agree σ τ e);
          left_is = agree_sent σ τ e sender receiver payload w.named (omega (arith, w.live_le)) (w.near (newest_place σ sender) p);
        })

    -- the refusals of R and D by their message, in record r
    message_cases : (r wanted : ℕ) → first_of (message_refusals σ r wanted) ≡ first_of (message_refusals τ r wanted)
    message_cases r wanted =
        same_first MESSAGE _ _ (ap (λ u. u ≤? r) (used_agree σ τ e))
        (λ z. same_first STATE _ _ (ap (λ x. not (x == wanted)) (state_same σ τ e r (omega (arith, leb-false (used σ) r z, f.used_le)))) (λ _. refl))

    -- R
    same_released : (g : List ℕ) (m r : ℕ) → r < used σ → SameBoth (release house σ g m r) (release house τ g m r)
    unfolding release may_go
    same_released g m r h =
        let w = releasable_there f h in
        let v = own_agree σ τ e r w in
        let outside = desk_agree σ τ e r w in
        let k = degree_agree σ τ e r w in
        same_cond SameBoth (λ d. not (cond (outside d) (mask (v d) == 0) (ones (mask (v d)) ≤? k d)))
        (λ _. record { answer_is = ap (λ v. Held m (mask v)) v; left_is = e; ledger_is = refl })
        (λ _. same_cond SameBoth (ap (λ b. b && (house.entries ≤? count_of g)) outside) (λ _. same_beside g (same_refuse refl))
        (λ _. record { answer_is = ap (λ v. Released m (mask v)) v; left_is = agree_gone σ τ e r w; ledger_is = ledger_out_agree σ τ e r w g m }))

    same_release : (g : List ℕ) (m : ℕ) → SameBoth (step_release house σ g m) (step_release house τ g m)
    unfolding step_release
    same_release g m =
        let r = record_of σ m in
        rw (← record_agree σ τ e m f.used_le)
        (same_refusing_both g _ _ (same_first LEDGER _ _ refl (λ _. message_cases r state_held))
        (λ z. same_released g m r (release_allowed house σ g r z).0.record_used))

    -- D
    same_delivered : (m r : ℕ) → r < used σ → σ (MessageState r) ≡ state_released → Same (deliver house σ m r) (deliver house τ m r)
    unfolding deliver prospect comes_of
    same_delivered m r h st =
        let rl : r < messages = omega (arith, f.used_le) in
        let c = σ (Receiver r) in
        let w = chain_form σ c f (released_lt f r h st) in
        let near = message_near f r rl in
        let sent = message_vector_same σ τ e r rl in
        let blamed = condemning_same σ τ e c _ w.named near ∙ ap (condemning τ c) sent in
        let ours_same = newest_filtered c w in
        let theirs_same = message_filtered c r w.named rl in
        let receiver_is = e (Receiver r) (rl, omega arith) in
        let comes : Prospect → Prospect → Type 0 = λ p q. Same (comes_of σ m r p) (comes_of τ m r q) in
        rw (← receiver_is)
        (same_cond comes (condemned_same σ τ e c _ w.named near ∙ ap (condemned τ c) sent)
        (λ _. record { answer_is = λ d. Dropped m (blamed d) (incarnation (pair_of (sent d) (blamed d))); left_is = agree_put σ τ (MessageState r) state_dropped e })
        (λ _. same_cond comes (ap₂ (conflict c) ours_same theirs_same) (λ _. record { answer_is = refl; left_is = e })
        (λ _. same_cond comes (no_place_same σ τ e house c w.named (live_same σ τ e c w.named)) (λ _. same_refuse refl)
        (λ full. rw (← receiver_is) (same_begins c m r w (room_left house σ f house_fits c _ full) (ap₂ merged ours_same theirs_same))))))

    same_deliver : (m : ℕ) → Same (step_deliver house σ m) (step_deliver house τ m)
    unfolding step_deliver
    same_deliver m =
        let r = record_of σ m in
        rw (← record_agree σ τ e m f.used_le)
        (same_refusing _ _ (message_cases r state_released) (λ z. let a = message_allowed σ r state_released z in same_delivered m r a.record_used a.state_is))

    -- L
    same_log : (c q : ℕ) → Same (step_log σ c q) (step_log τ c q)
    unfolding step_log
    same_log c q =
        same_refusing _ _
        (same_first CONTROLLER _ _ (ap (λ n. n ≤? c) size)
        (λ z. let cl = named c z in
        same_first LOG_COUNT _ _ (ap₂ (λ live stable. (q == 0) || (live - stable <? q)) (live_same σ τ e c cl) (stable_same σ τ e c cl)) (λ _. refl)))
        (λ z. let cl = below_8 f c (log_allowed σ c q z).controller_lt in
        rw (← stable_same σ τ e c cl) (record { answer_is = refl; left_is = agree_logged σ τ e c (σ (StableCount c) + q) cl }))

    -- C
    same_checkpoint : (c : ℕ) → Same (step_checkpoint σ c) (step_checkpoint τ c)
    unfolding step_checkpoint
    same_checkpoint c =
        same_refusing _ _ (same_first CONTROLLER _ _ (ap (λ n. n ≤? c) size) (λ _. refl))
        (λ z. record { answer_is = refl; left_is = agree_checkpointed σ τ e c (below_8 f c (checkpoint_allowed σ c z)) })

    -- T
    same_tell : (owner holder : ℕ) → Same (step_tell σ owner holder) (step_tell τ owner holder)
    unfolding step_tell
    same_tell owner holder =
        same_refusing _ _
        (same_first CONTROLLER _ _ (ap (λ n. (n ≤? owner) || (n ≤? holder)) size) (λ _. same_first SAME_CONTROLLER _ _ refl (λ _. refl)))
        (λ z. let d = tell_allowed σ owner holder z in
        record { answer_is = refl; left_is = agree_told σ τ e owner holder (below_8 f owner d.owner_lt) (below_8 f holder d.holder_lt) })

    -- X
    same_crash : (c : ℕ) → Same (step_crash house σ c) (step_crash house τ c)
    unfolding step_crash crashed
    same_crash c =
        same_refusing _ _
        (same_first CONTROLLER _ _ (ap (λ n. n ≤? c) size)
        (λ z. let cl = named c z in
        same_first PLACES_USED_UP _ _ (no_place_same σ τ e house c cl (stable_same σ τ e c cl))
        (λ _. same_first INCARNATIONS_USED_UP _ _ (ap (λ i. last_incarnation ≤? i) (incarnation_same σ τ e c cl)) (λ _. refl))))
        (λ z. let d = crash_allowed house σ c z in
        let g = controller_form f c d.controller_lt in
        let w = chain_form σ c f d.controller_lt in
        let k = σ (StableCount c) in
        let left = room_left house σ f house_fits c k d.place_left in
        let s : Starts σ c k = record { chain = w; kept = g.stable_pos; room = left; below = g.stable_le; left = d.incarnation_lt } in
        let own = incarnation_same σ τ e c w.named in
        let live = live_same σ τ e c w.named in
        let x = number_same σ τ e c k w.named in
        let again = replayed_same σ τ e c k w.named (omega (arith, left.place_lt)) in
        rw (← stable_same σ τ e c w.named)
        (record {
          answer_is = λ i. Crashed c (own i) (x i) (live i - k) (again i);
          left_is =
              agree_removed _ _ c k (starts_put σ c k (End c c (σ (Incarnation c))) _ refl s) (agree_put_to σ τ (ap (End c c) own) x e);
        }))

    -- the first refusals of H
    hear_cases : (hearer owner i : ℕ) → first_of (hear_refusals σ hearer owner i) ≡ first_of (hear_refusals τ hearer owner i)
    hear_cases hearer owner i =
        same_first CONTROLLER _ _ (ap (λ n. (n ≤? hearer) || (n ≤? owner)) size)
        (λ z. let hl = named hearer (or_left (σ Size ≤? hearer) _ z) in
        let ol = named owner (or_right (σ Size ≤? hearer) _ z) in
        le? i last_incarnation
        (λ l. same_first NO_SUCH_CRASH _ _ (ap (λ x. (last_incarnation <? i) || (x == 0)) (e (End owner owner i) (ol, ol, omega arith)))
        (λ _. same_first ALREADY_HEARD _ _ (ap (λ x. not (x == 0)) (e (End hearer owner i) (hl, ol, omega arith))) (λ _. refl)))
        (λ l. let late = lt-ltb last_incarnation i l in
        sym (hit _ NO_SUCH_CRASH _ (ap (λ b. b || (σ (End owner owner i) == 0)) late)) ∙ hit _ NO_SUCH_CRASH _ (ap (λ b. b || (τ (End owner owner i) == 0)) late)))

    -- a hearing that undoes the intervals of the hearer from place k on
    hear_starts : (hearer owner i : ℕ) → Chain σ hearer → let k = lowest_condemned (noted σ hearer owner i) hearer in
        k < σ (LiveCount hearer) → σ (Incarnation hearer) < last_incarnation → Starts (noted σ hearer owner i) hearer k
    unfolding noted put same
    hear_starts hearer owner i w l j =
        let w' = chain_noted σ hearer hearer owner i w in
        let low = lowest (noted σ hearer owner i) hearer w'.live_pos in
        record { chain = w'; kept = low.pos; room = room_live l w'.live_le w'.numbers_le; below = low.le; left = j }

    -- H
    same_hear : (hearer owner i : ℕ) → Same (step_hear σ hearer owner i) (step_hear τ hearer owner i)
    unfolding step_hear hear
    same_hear hearer owner i =
        same_refusing _ _ (hear_cases hearer owner i)
        (λ z. let d = hear_allowed σ hearer owner i z in
        let w = chain_form σ hearer f d.hearer_lt in
        let heard = agree_noted σ τ e hearer owner i w.named (below_8 f owner d.owner_lt) (omega (arith, d.incarnation_le)) in
        let w' = chain_noted σ hearer hearer owner i w in
        let k = lowest_condemned (noted σ hearer owner i) hearer in
        let live = live_same σ τ e hearer w.named in
        rw (← lowest_condemned_same _ _ heard hearer w'.named w'.live_le w'.near)
        (same_cond Same (ap (λ n. n ≤? k) live) (λ _. record { answer_is = refl; left_is = heard })
        (λ l. same_cond Same (ap (λ j. last_incarnation ≤? j) (incarnation_same σ τ e hearer w.named)) (λ _. same_refuse refl)
        (λ j. let s = hear_starts hearer owner i w (leb-false (σ (LiveCount hearer)) k l) (leb-false last_incarnation (σ (Incarnation hearer)) j) in
        let x = number_same σ τ e hearer k w.named in
        let again = replayed_same σ τ e hearer k w.named (omega (arith, s.room.place_lt)) in
        record { answer_is = λ d. Rolled hearer (x d) (live d - k) (again d) owner i; left_is = agree_rolled _ _ hearer k s heard }))))

    -- the gap
    same_gap : (q : ℕ) → Same (step_gap σ q) (step_gap τ q)
    unfolding step_gap
    same_gap q = same_refusing _ _ refl (λ _. record { answer_is = refl; left_is = agree_put σ τ Gap q e })

-- the host's look at the form
looked : (σ τ : State) → Agree σ τ → (g : List ℕ) {o p : AfterBoth} → (Form house σ → SameBoth o p) →
    SameBoth (cond (not (in_form house σ)) (beside (refuse FORM σ) g) o) (cond (not (in_form house τ)) (beside (refuse FORM τ) g) p)
looked σ τ e g h = same_cond SameBoth (ap not (in_form_same σ τ e)) (λ _. same_beside g (same_refuse σ τ e refl)) (λ z. h (form house σ (not-false (in_form house σ) z)))

-- a step on states with the same words, beside one ledger
pub same_step : (σ τ : State) → Agree σ τ → (g : List ℕ) (x : Command) → SameBoth (step_on house σ g x) (step_on house τ g x)
unfolding step_on perform
same_step σ τ e g (Open n k) = same_open σ τ e g n k
same_step σ τ e g (SetDegree c k) = looked σ τ e g (λ f. same_beside g (same_degree σ τ e f c k))
same_step σ τ e g (Send sender receiver payload) = looked σ τ e g (λ f. same_beside g (same_send σ τ e f sender receiver payload))
same_step σ τ e g (Release m) = looked σ τ e g (λ f. same_release σ τ e f g m)
same_step σ τ e g (Deliver m) = looked σ τ e g (λ f. same_beside g (same_deliver σ τ e f m))
same_step σ τ e g (Log c q) = looked σ τ e g (λ f. same_beside g (same_log σ τ e f c q))
same_step σ τ e g (Checkpoint c) = looked σ τ e g (λ f. same_beside g (same_checkpoint σ τ e f c))
same_step σ τ e g (Tell owner holder) = looked σ τ e g (λ f. same_beside g (same_tell σ τ e f owner holder))
same_step σ τ e g (Crash c) = looked σ τ e g (λ f. same_beside g (same_crash σ τ e f c))
same_step σ τ e g (Hear hearer owner i) = looked σ τ e g (λ f. same_beside g (same_hear σ τ e f hearer owner i))
same_step σ τ e g (SetGap q) = looked σ τ e g (λ f. same_beside g (same_gap σ τ e f q))

-- The step function on the table of a state, beside a ledger, is the step on that state.
pub step_words_lem : (σ : State) (g : List ℕ) (x : Command) → step (words σ) g x ≡ written_both (step_on house σ g x)
unfolding step lent
step_words_lem σ g x = rw (eq-eqb (length (words σ)) table_words (length_words σ)) (same_written (same_step (state (words σ)) σ (word_at σ) g x))
