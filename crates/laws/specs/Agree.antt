-- Rules look only at words of the table: on states with the same words they give the same, and leave the same words.
use Rattle.std.specs.Prelude.{◌≡◌, ◌&&◌, ◌==◌}
use Rattle.std.proofs.Math.Path.{refl, ap, ap₂}
use Rattle.std.proofs.Common.{◌∙◌, subst}
use Rattle.std.proofs.Math.Bool.{cond, not}
use Prim.Native.Nat.{ℕ, zero, suc, ◌+◌, ◌-◌, ◌≤◌, ◌<◌, max}
use native.Mathlib.Omega.{arith}
use Rattle.std.proofs.Math.ListN.{set}
use Rattle.base.specs.Choice.{◌≤?◌, ◌<?◌}
use Rattle.base.specs.Ranges.{anyb, first, anyb_same, first_same}
use Rattle.base.specs.Lists.{tab_same}
use Rattle.table.specs.Field.{State, Known, End, OfPlace, Gap, Incarnation, LiveCount, StableCount, PlaceIncarnation, PlaceNumber, Cause, Flag, MessageState, Sender, Receiver, SendingNumber, same, desk}
use Rattle.table.specs.Change.{put, put_same}
use Rattle.table.specs.Layout.{controllers, incarnations, places, messages}
use Rattle.table.proofs.Positions.{valid_pair, valid_message_pair}
use Rattle.table.specs.Words.{Agree}
use Rattle.table.proofs.Words.{agree_put, agree_put_to, agree_value, agree_part_to, agree_values, agree_clear_to, agree_cond, agree_states}
use Rattle.table.specs.Numbering.{number_of, message_of}
use Rattle.table.proofs.Numbering.{number_same, used_agree, message_agree, posted_agree}
use Rattle.rules.specs.Limits.{Limits}
use Rattle.rules.specs.Vector.{Pair, Vector, pair, no_pair, incarnation, number, empty, pair_of, place_vector, message_vector, known_stable, filter_pair, filtered, condemned_pair, condemned, condemning}
use Rattle.rules.specs.Form.{state_held, state_released, state_delivered, state_dropped}
use Rattle.rules.specs.Shared.{newest_place, place_record, logged, logged_to, checkpointed, forced, capped, causing, caused_in, causes_in, causes, offered_again, new_vector, placed, entered, restarted, held_or_dropped, drop_held, start_anew, latest_flagged, replayed}
use Rattle.rules.specs.Steps.{message_record, sent, records_full, interval_added, no_place, told_row, told, noted, lowest_condemned}
use Rattle.laws.specs.Facts.{Near}
use Rattle.laws.specs.Records.{place_vector_of, message_vector_of}

module _ (σ τ : State) (e : Agree σ τ) where
  -- a controller's own words
  pub incarnation_same : (c : ℕ) → c < controllers → σ (Incarnation c) ≡ τ (Incarnation c)
  incarnation_same c cl = e (Incarnation c) (cl, omega arith)

  pub live_same : (c : ℕ) → c < controllers → σ (LiveCount c) ≡ τ (LiveCount c)
  live_same c cl = e (LiveCount c) (cl, omega arith)

  pub stable_same : (c : ℕ) → c < controllers → σ (StableCount c) ≡ τ (StableCount c)
  stable_same c cl = e (StableCount c) (cl, omega arith)

  -- whether a record and a place are left
  pub records_full_same : (L : Limits) → records_full L σ ≡ records_full L τ
  unfolding records_full
  records_full_same L = ap (λ n. L.messages ≤? n) (used_agree σ τ e)

  pub no_place_same : (L : Limits) (c : ℕ) {j k : ℕ} → c < controllers → j ≡ k → no_place L σ c j ≡ no_place L τ c k
  unfolding no_place
  no_place_same L c cl q = ap (λ k. L.places ≤? k) q

  -- the state of a message
  pub state_same : (r : ℕ) → r < messages → σ (MessageState r) ≡ τ (MessageState r)
  state_same r rl = e (MessageState r) (rl, omega arith)

  -- vectors
  pub place_vector_same : (c p : ℕ) → c < controllers → p < places → place_vector σ c p ≡ place_vector τ c p
  place_vector_same c p cl pl =
      place_vector_of σ τ c p (λ owner l. let v = valid_pair c p owner cl pl l in (e _ v.0, e _ v.1))

  pub message_vector_same : (r : ℕ) → r < messages → message_vector σ r ≡ message_vector τ r
  message_vector_same r rl = message_vector_of σ τ r (λ owner l. let v = valid_message_pair r owner rl l in (e _ v.0, e _ v.1))

  -- whether a pair is known stable
  pub known_stable_same : (holder owner : ℕ) (p : Pair) → holder < controllers → owner < controllers → incarnation p < incarnations →
      known_stable σ holder owner p ≡ known_stable τ holder owner p
  unfolding known_stable
  known_stable_same holder owner p hl ol il = ap (λ x. number p ≤? x) (e (Known holder owner (incarnation p)) (hl, ol, il))

  -- a vector filtered
  pub filtered_same : (holder : ℕ) (v : Vector) → holder < controllers → Near v → filtered σ holder v ≡ filtered τ holder v
  unfolding filtered filter_pair
  filtered_same holder v hl near =
      tab_same controllers _ _ (λ owner l. ap (λ x. cond x no_pair (pair_of v owner)) (known_stable_same holder owner (pair_of v owner) hl l (near owner l)))

  -- whether a pair is condemned
  pub condemned_pair_same : (holder owner : ℕ) (p : Pair) → holder < controllers → owner < controllers → incarnation p < incarnations →
      condemned_pair σ holder owner p ≡ condemned_pair τ holder owner p
  unfolding condemned_pair
  condemned_pair_same holder owner p hl ol il =
      ap (λ x. not (empty p) && (not (x == 0) && (x <? number p))) (e (End holder owner (incarnation p)) (hl, ol, il))

  -- whether a vector is condemned
  pub condemned_same : (holder : ℕ) (v : Vector) → holder < controllers → Near v → condemned σ holder v ≡ condemned τ holder v
  unfolding condemned
  condemned_same holder v hl near = anyb_same controllers _ _ (λ owner l. condemned_pair_same holder owner (pair_of v owner) hl l (near owner l))

  -- and by whom
  pub condemning_same : (holder : ℕ) (v : Vector) → holder < controllers → Near v → condemning σ holder v ≡ condemning τ holder v
  unfolding condemning
  condemning_same holder v hl near = first_same controllers _ _ (λ owner l. condemned_pair_same holder owner (pair_of v owner) hl l (near owner l))

  -- the state of a cause that is offered again
  pub offered_again_same : (c r : ℕ) → c < controllers → r < messages → Near (message_vector σ r) → offered_again σ c r ≡ offered_again τ c r
  unfolding offered_again
  offered_again_same c r cl rl near =
      ap (λ x. cond x state_dropped state_released) (condemned_same c (message_vector σ r) cl near ∙ ap (condemned τ c) (message_vector_same r rl))

  -- whether a message can be a cause
  pub causing_same : (r : ℕ) → r < messages → causing σ r ≡ causing τ r
  unfolding causing
  causing_same r rl = ap₂ (λ n x. (r <? n) && not (x == desk)) (used_agree σ τ e) (e (Receiver r) (rl, omega arith))

  -- what is looked for on a chain
  pub caused_in_same : (c k r : ℕ) {n o : ℕ} → c < controllers → r < messages → k + n ≤ places → n ≡ o → caused_in σ c k n r ≡ caused_in τ c k o r
  unfolding caused_in
  caused_in_same c k r {n} {o} cl rl l z =
      ap₂ (λ a b. a && b) (causing_same r rl)
      (anyb_same n _ _ (λ j h. ap₂ (λ x m. x == m) (e (Cause c (k + j)) (cl, omega arith, omega arith)) (message_agree σ τ e r rl))
      ∙ ap (λ n. anyb n (λ (j : ℕ). τ (Cause c (k + j)) == message_of τ r)) z)

  -- the highest flagged number
  pub latest_flagged_same : (c k : ℕ) → c < controllers → k ≤ places → latest_flagged σ c k ≡ latest_flagged τ c k
  unfolding latest_flagged
  latest_flagged_same c zero cl kl = refl
  latest_flagged_same c (suc p) cl kl =
      λ d. cond (e (Flag c p) (cl, omega arith, omega arith) d == 1) (number_same σ τ e c (p + 1) cl d) (latest_flagged_same c p cl (omega arith) d)

  -- how much is replayed
  pub replayed_same : (c k : ℕ) → c < controllers → k ≤ places → replayed σ c k ≡ replayed τ c k
  unfolding replayed
  replayed_same c k cl kl = ap₂ (λ x y. x - y) (number_same σ τ e c k cl) (latest_flagged_same c k cl kl)

  -- the lowest condemned place
  pub lowest_condemned_same : (hearer : ℕ) → hearer < controllers → σ (LiveCount hearer) ≤ places →
      ((p : ℕ) → p < σ (LiveCount hearer) → Near (place_vector σ hearer p)) → lowest_condemned σ hearer ≡ lowest_condemned τ hearer
  unfolding lowest_condemned
  lowest_condemned_same hearer hl ll near =
      ap (λ x. 1 + x)
      (first_same (σ (LiveCount hearer) - 1) _ _
      (λ j l. condemned_same hearer (place_vector σ hearer (1 + j)) hl (near (1 + j) (omega arith))
      ∙ ap (condemned τ hearer) (place_vector_same hearer (1 + j) hl (omega arith)))
      ∙ ap (λ n. first (n - 1) (λ (j : ℕ). condemned τ hearer (place_vector τ hearer (1 + j)))) (live_same hearer hl))

  -- logging
  pub agree_logged : (c k : ℕ) → c < controllers → Agree (logged σ c k) (logged τ c k)
  unfolding logged
  agree_logged c k cl =
      agree_put_to _ _ (ap (Known c c) (incarnation_same c cl)) (number_same σ τ e c k cl) (agree_put σ τ (StableCount c) k e)

  -- logging, if there is anything to log
  pub agree_logged_to : (c k : ℕ) → c < controllers → Agree (logged_to σ c k) (logged_to τ c k)
  unfolding logged_to
  agree_logged_to c k cl = agree_cond _ _ _ _ (ap (λ n. n <? k) (stable_same c cl)) (agree_logged c k cl) e

  -- a checkpoint
  pub agree_checkpointed : (c : ℕ) → c < controllers → Agree (checkpointed σ c) (checkpointed τ c)
  unfolding checkpointed
  agree_checkpointed c cl =
      let live = live_same c cl in
      agree_put_to _ _ (ap (λ n. Flag c (n - 1)) live) refl (subst (λ n. Agree (logged_to σ c (σ (LiveCount c))) (logged_to τ c n)) live (agree_logged_to c (σ (LiveCount c)) cl))

  -- whether the newest interval is to be checkpointed as it begins, and where it was
  forced_same : (c : ℕ) → c < controllers → σ (LiveCount c) ≤ places → forced σ c ≡ forced τ c
  unfolding forced
  forced_same c cl ll =
      ap₂ (λ q x. not (q == 0) && (q ≤? x)) (e Gap (omega arith)) (replayed_same c (σ (LiveCount c)) cl ll ∙ ap (replayed τ c) (live_same c cl))

  pub agree_capped : (c : ℕ) → c < controllers → σ (LiveCount c) ≤ places → Agree (capped σ c) (capped τ c)
  unfolding capped
  agree_capped c cl ll = agree_cond _ _ _ _ (forced_same c cl ll) (agree_checkpointed c cl) e

  -- states of causes
  pub agree_causes : (c k : ℕ) → c < controllers → k ≤ σ (LiveCount c) → σ (LiveCount c) ≤ places → ((r : ℕ) → r < messages → Near (message_vector σ r)) →
      Agree (causes σ c k) (causes τ c k)
  unfolding causes causes_in
  agree_causes c k cl kl ll near =
      let n = ap (λ live. live - k) (live_same c cl) in
      agree_states σ τ _ _ (λ r l. λ d. cond (caused_in_same c k r cl l (omega arith) n d) (offered_again_same c r cl l (near r l) d) (state_same r l d)) e

  -- the state of a message that may be dropped
  pub held_or_dropped_same : (c r : ℕ) {x y : ℕ} → r < messages → x ≡ y → held_or_dropped σ c x r ≡ held_or_dropped τ c y r
  unfolding held_or_dropped
  held_or_dropped_same c r l z =
      let number_is = e (SendingNumber r) (l, omega arith) in
      λ d. cond ((state_same r l d == state_held) && ((e (Sender r) (l, omega arith) d == c) && (z d <? number_is d))) state_dropped (state_same r l d)

  -- held messages dropped
  pub agree_drop_held : (c k : ℕ) → c < controllers → Agree (drop_held σ c k) (drop_held τ c k)
  unfolding drop_held
  agree_drop_held c k cl = agree_states σ τ _ _ (λ r l. held_or_dropped_same c r l (number_same σ τ e c k cl)) e

  -- starting anew
  pub new_vector_same : (c k : ℕ) → c < controllers → k ≤ places → 1 ≤ k → Near (place_vector σ c (k - 1)) → new_vector σ c k ≡ new_vector τ c k
  unfolding new_vector
  new_vector_same c k cl kl k1 near =
      let v = filtered_same c (place_vector σ c (k - 1)) cl near ∙ ap (filtered τ c) (place_vector_same c (k - 1) cl (omega arith)) in
      λ d. set (v d) c (pair (incarnation_same c cl d + 1) (number_same σ τ e c (k + 1) cl d))

  -- the new place, and the controller's own words
  pub agree_placed : (c k : ℕ) {i j x y : ℕ} {v w : Vector} → c < controllers → i ≡ j → x ≡ y → v ≡ w → Agree (placed σ c k i x v) (placed τ c k j y w)
  unfolding placed
  agree_placed c k cl p q r = agree_values _ _ (OfPlace c k 0) 0 (λ d. place_record (p d) (q d) 0 0 (r d)) (agree_clear_to σ τ c k (live_same c cl) e)

  pub agree_entered : (c k : ℕ) {i j x y : ℕ} → i ≡ j → x ≡ y → Agree (entered σ c k i x) (entered τ c k j y)
  unfolding entered
  agree_entered c k p q =
      agree_put_to _ _ (ap (Known c c) p) q (agree_put _ _ (StableCount c) k (agree_put _ _ (LiveCount c) k (agree_value σ τ (Incarnation c) p e)))

  -- a message sent
  pub agree_sent : (sender receiver payload : ℕ) → sender < controllers → newest_place σ sender < places → Near (place_vector σ sender (newest_place σ sender)) →
      Agree (sent σ sender receiver payload) (sent τ sender receiver payload)
  unfolding sent
  agree_sent sender receiver payload sl nl near =
      let n : newest_place σ sender ≡ newest_place τ sender = ap (λ x. x - 1) (live_same sender sl) in
      let v : filtered σ sender (place_vector σ sender (newest_place σ sender)) ≡ filtered τ sender (place_vector τ sender (newest_place τ sender)) =
      filtered_same sender _ sl near ∙ ap (filtered τ sender) (place_vector_same sender (newest_place σ sender) sl nl ∙ ap (place_vector τ sender) n) in
      let i : σ (PlaceIncarnation sender (newest_place σ sender)) ≡ τ (PlaceIncarnation sender (newest_place τ sender)) =
      e (PlaceIncarnation sender (newest_place σ sender)) (sl, nl, omega arith) ∙ ap (λ p. τ (PlaceIncarnation sender p)) n in
      let x : σ (PlaceNumber sender (newest_place σ sender)) ≡ τ (PlaceNumber sender (newest_place τ sender)) =
      e (PlaceNumber sender (newest_place σ sender)) (sl, nl, omega arith) ∙ ap (λ p. τ (PlaceNumber sender p)) n in
      posted_agree σ τ e (λ d. message_record state_held sender receiver (i d) (x d) payload (v d))

  -- an interval begun
  pub agree_begun : (c m r : ℕ) (v : Vector) → c < controllers → Agree (interval_added σ c m r v) (interval_added τ c m r v)
  unfolding interval_added
  agree_begun c m r v cl =
      let i = incarnation_same c cl in
      let live = live_same c cl in
      let x : number_of σ c (σ (LiveCount c) + 1) ≡ number_of τ c (τ (LiveCount c) + 1) = number_same σ τ e c _ cl ∙ ap (λ n. number_of τ c (n + 1)) live in
      agree_put _ _ (MessageState r) state_delivered
      (agree_value _ _ (LiveCount c) (ap (λ n. n + 1) live)
      (agree_part_to σ τ 0 (ap (λ p. OfPlace c p 0) live) (λ d. place_record (i d) (x d) m 0 (set v c (pair (i d) (x d)))) e))

  -- what a hearer notes
  pub agree_noted : (hearer owner i : ℕ) → hearer < controllers → owner < controllers → i < incarnations → Agree (noted σ hearer owner i) (noted τ hearer owner i)
  unfolding noted
  agree_noted hearer owner i hl ol il =
      let end = e (End owner owner i) (ol, ol, il) in
      agree_value _ _ (Known hearer owner i) (ap₂ max (e (Known hearer owner i) (hl, ol, il)) end)
      (agree_value σ τ (End hearer owner i) end e)

  -- known words told
  pub agree_told : (owner holder : ℕ) → owner < controllers → holder < controllers → Agree (told σ owner holder) (told τ owner holder)
  unfolding told told_row
  agree_told owner holder ol hl =
      agree_values σ τ (Known holder owner 0) 0
      (tab_same incarnations _ _ (λ i l. ap₂ max (e (Known holder owner i) (hl, ol, l)) (e (Known owner owner i) (ol, ol, l)))) e

-- starting anew, without the messages that it drops
pub agree_restarted : (σ τ : State) → Agree σ τ → (c k : ℕ) → c < controllers → k ≤ places → 1 ≤ k → Near (place_vector σ c (k - 1)) →
    Agree (restarted σ c k) (restarted τ c k)
unfolding restarted
agree_restarted σ τ e c k cl kl k1 near =
    let i = ap (λ x. x + 1) (incarnation_same σ τ e c cl) in
    let x = number_same σ τ e c (k + 1) cl in
    agree_entered _ _ (agree_placed σ τ e c k cl i x (new_vector_same σ τ e c k cl kl k1 near)) c (k + 1) i x

-- the live count of a start
pub live_restarted : (σ : State) (c k : ℕ) → restarted σ c k (LiveCount c) ≡ k + 1
unfolding restarted entered put same
live_restarted σ c k =
    let i = σ (Incarnation c) + 1 in
    put_same (put (placed σ c k i (number_of σ c (k + 1)) (new_vector σ c k)) (Incarnation c) i) (LiveCount c) (k + 1)

-- starting anew, with its checkpoint, if one is due, and the messages that it drops
pub agree_start_anew : (σ τ : State) → Agree σ τ → (c k : ℕ) → c < controllers → k < places → 1 ≤ k → Near (place_vector σ c (k - 1)) →
    Agree (start_anew σ c k) (start_anew τ c k)
unfolding start_anew
agree_start_anew σ τ e c k cl kl k1 near =
    agree_drop_held _ _ (agree_capped _ _ (agree_restarted σ τ e c k cl (omega arith) k1 near) c cl (omega (arith, live_restarted σ c k))) c k cl
