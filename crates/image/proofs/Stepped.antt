-- Every step on a state and a ledger is one of the outcomes, in a house of any limits.
use Rattle.std.specs.Prelude.{◌≡◌, true, false, ◌&&◌, List, ℕ, ◌+◌, ◌-◌, ◌≤◌, ◌<◌, set}
use Rattle.std.proofs.Math.Path.{refl, sym, ap, ap₂}
use Rattle.std.proofs.Common.{◌∙◌, subst, inl, inr, ◌==◌}
use Rattle.std.proofs.Math.Bool.{not}
use native.Mathlib.Omega.{arith}
use Rattle.std.specs.Int.Count.{ones}
use borrow.Author.Tests.{eqb-true, leb-true, leb-false, le-leb, not-false}
use Rattle.base.specs.Choice.{◌≤?◌, cond_ind, le?}
use Rattle.base.specs.Cases.{first_of}
use Rattle.table.specs.Field.{State, OfPlace, Size, Degree, Incarnation, LiveCount, StableCount, Sender, Receiver, desk, same}
use Rattle.table.specs.Change.{put, put_same, put_part, clear_places, put_states}
use Rattle.table.specs.Layout.{controllers, incarnations}
use Rattle.table.specs.Numbering.{number_of, used, record_of}
use Rattle.table.proofs.Numbering.{number_from_lem, number_next, number_add, place_of_count, present_pos, present_given, posted_size}
use Rattle.rules.specs.Limits.{Limits, last_incarnation}
use Rattle.rules.specs.Refusal.{FORM, PLACES_USED_UP, INCARNATIONS_USED_UP, LEDGER_USED_UP}
use Rattle.rules.specs.Vector.{Vector, pair as pair_list, place_vector, message_vector, filtered, condemned, condemning, mask, conflict, merged}
use Rattle.rules.specs.Form.{in_form, state_released, state_dropped, state_published}
use Rattle.rules.specs.Shared.{newest_place, place_record, logged, checkpointed, causes_in, causes, placed, entered, restarted, drop_held, start_anew, removed}
use Rattle.rules.specs.Steps.{degree_refusals, step_degree, sent, no_receiver, send_refusals, step_send, message_refusals, own_vector, let_out, may_go, release_refusals, step_release, interval_added, interval_begins, ours, theirs as theirs_for, step_deliver, log_refusals, step_log, checkpoint_refusals, step_checkpoint, told, tell_refusals, step_tell, crashed, crash_refusals, step_crash, noted, lowest_condemned, rolled_back, hear, hear_refusals, step_hear, gap_refusals, step_gap}
use Rattle.rules.specs.Step.{perform, looks_at_form, step_on}
use Rattle.rules.specs.declared.Answer.TheVariants.{Sent, Delivered, Dropped, Crashed, Rolled}
use Rattle.rules.specs.declared.Command.{Command}
use Rattle.rules.specs.declared.Command.TheVariants.{Open, SetDegree, Send, Release, Deliver, Log, Checkpoint, Tell, Crash, Hear, SetGap}
use Rattle.history.specs.History.{Interval}
use Rattle.history.specs.Demand.{named}
use Rattle.model.specs.Model as M
use Rattle.model.specs.Vectors.{Condemned, LowestOwner}
use Rattle.model.specs.Beginning.{Compatible}
use Rattle.model.proofs.Steps.{Delivers, LetsOut}
use Rattle.model.proofs.Recovery.{HearsOf, noted_controller, NoneCondemned, LowestCondemned}
use Rattle.laws.specs.Facts.{Form, form, controller_form, place_form, message_form, released_lt}
use Rattle.laws.specs.Allowed.{degree_allowed, send_allowed, message_allowed, release_allowed, log_allowed, checkpoint_allowed, tell_allowed, crash_allowed, hear_allowed, gap_allowed}
use Rattle.laws.specs.Numbers.{numbers_added, numbers_noted}
use Rattle.laws.specs.Found.{lowest}
use Rattle.laws.specs.Records.{length_filtered}
use Rattle.laws.specs.Releasing.{release_cases}
use Rattle.laws.specs.Delivering.{deliver_cases}
use Rattle.image.specs.Image.{vec_of, image, put_controller_own}
use Rattle.image.specs.Changes.{image_state}
use Rattle.image.specs.Controllers.{image_degree, image_gap, image_logged, image_told, image_noted}
use Rattle.image.specs.Messages.{image_sent, image_let_out}
use Rattle.image.specs.Begin.{image_begun}
use Rattle.image.specs.Capped.{Counted, replayed_is, image_checkpointed, image_capped}
use Rattle.image.specs.Anew.{Starting, image_crashed, image_heard_rolled}
use Rattle.image.specs.Vectors.{length_message}
use Rattle.image.specs.Mask.{named_is}
use Rattle.image.specs.Tests.{spared, condemned_for, compatible, filtered_is, released_is, sound, sound_noted, filtered_number, Fresh, fresh_kept, none_condemned, lowest_condemned_lem}
use Rattle.image.specs.Reads.{sent_is, degree_is, incarnation_is, live_is, stable_is, ends_is, to_is, from_is, message_vec_is}
use Rattle.image.specs.Outcome as O
use Rattle.image.specs.Outcome.{Receives}
use Rattle.image.specs.Stepped.{Stepped, SteppedBoth, outcome_as, stepped_refusing, stepped_refusing_both, stepped_open, logged_to_size, capped_size, go_few, go_none}

module _ {L : Limits} (σ : State) (f : Form L σ) (m : ℕ) (l : record_of σ m < used σ) where
  abbrev r : ℕ
  r = record_of σ m

  -- message m was sent
  was_sent : m ≤ (image σ).sent
  was_sent = omega (arith, sent_is σ, present_given σ m l)

  -- what is at most the degree of its sender is so in the model
  pub within_degree : (k : ℕ) → k ≤ σ (Degree (σ (Sender r))) → k ≤ ((image σ).controller ((image σ).message m).from.owner).degree
  within_degree k few =
      let sender = σ (Sender r) in
      let g = message_form f r l in
      let owner : sender ≡ ((image σ).message m).from.owner = sym (ap (λ (x : Interval). x.owner) (from_is σ m l)) in
      subst (λ b. k ≤ ((image σ).controller b).degree) owner (omega (arith, degree_is σ sender (omega arith)))

  -- whom its mask names, in terms of the model
  pub own_names : (a : ℕ) → named (mask (own_vector σ r)) a ≡ M.full (M.released_vec (image σ) m a)
  unfolding own_vector
  own_names a =
      let v = filtered σ (σ (Sender r)) (message_vector σ r) in
      named_is v (length_filtered σ (σ (Sender r)) (message_vector σ r)) a ∙ ap (λ (w : M.Vec). M.full (w a)) (released_is σ f m l)

  -- message m can be let out, where its filtered vector has this mask
  pub release_found : may_go σ r (mask (own_vector σ r)) ≡ true → LetsOut (image σ) m (mask (own_vector σ r))
  release_found goes =
      record {
        pos = present_pos σ m l;
        sent = was_sent;
        within = within_degree (ones (mask (own_vector σ r))) (go_few σ r (mask (own_vector σ r)) goes);
        names = own_names;
        desk_none = λ e. go_none σ r (mask (own_vector σ r)) goes (sym (to_is σ m l) ∙ e);
      }

  -- the receiver of message m
  abbrev receiver : ℕ
  receiver = σ (Receiver r)

  -- as the model has it
  receiver_is : receiver ≡ ((image σ).message m).to
  receiver_is = sym (to_is σ m l)

  -- the vector of message m
  abbrev theirs : Vector
  theirs = message_vector σ r

  -- as the model has it
  theirs_is : vec_of theirs ≡ ((image σ).message m).vec
  theirs_is = sym (message_vec_is σ m l)

  -- message m is condemned to its receiver, by this owner
  abbrev blamed : ℕ
  blamed = condemning σ receiver theirs

  drop_found : receiver < σ Size → condemned σ receiver theirs ≡ true → LowestOwner (σ Size) ((image σ).controller ((image σ).message m).to) ((image σ).message m).vec blamed
  drop_found h e =
      let g = message_form f r l in
      subst (λ c. LowestOwner (σ Size) ((image σ).controller c) ((image σ).message m).vec blamed) receiver_is
      (subst (λ w. LowestOwner (σ Size) ((image σ).controller receiver) w blamed) theirs_is
      (condemned_for σ receiver (omega arith) theirs g.vector (length_message σ r) e))

  -- message m can be delivered
  deliver_found : receiver < σ Size → condemned σ receiver theirs ≡ false →
      conflict receiver (filtered σ receiver (place_vector σ receiver (newest_place σ receiver))) (filtered σ receiver theirs) ≡ false →
      Delivers (σ Size) (image σ) m
  deliver_found h e e' =
      let c = receiver in
      let g = message_form f r l in
      let k = controller_form f c h in
      let μ = image σ in
      let cl : c < controllers = omega arith in
      let w = theirs_is in
      let live = σ (LiveCount c) in
      let ours : vec_of (filtered σ c (place_vector σ c (newest_place σ c))) ≡ M.filtered (μ.controller c) ((μ.controller c).vec (μ.controller c).live) =
      ap (λ p. vec_of (filtered σ c (place_vector σ c p))) (sym (place_of_count σ c live k.live_pos))
      ∙ filtered_number σ c (sound σ f c h) (number_of σ c live) (omega (arith, number_from_lem σ c live, k.live_pos)) (omega arith)
      ∙ ap (λ x. M.filtered (μ.controller c) ((μ.controller c).vec x)) (sym (live_is σ c cl)) in
      let their : vec_of (filtered σ c theirs) ≡ M.filtered (μ.controller c) (μ.message m).vec =
      filtered_is σ c cl theirs g.vector (length_message σ r) ∙ ap (M.filtered (μ.controller c)) w in
      record {
        pos = present_pos σ m l;
        sent = was_sent;
        to_below = subst (λ c. c < σ Size) receiver_is h;
        not_condemned =
            subst (λ z. Condemned (σ Size) (μ.controller z) (μ.message m).vec → ⊥) receiver_is
            (subst (λ z. Condemned (σ Size) (μ.controller c) z → ⊥) w (spared σ c cl theirs g.vector (length_message σ r) e));
        no_conflict =
            subst (λ z. Compatible (σ Size) z (M.filtered (μ.controller z) ((μ.controller z).vec (μ.controller z).live)) (M.filtered (μ.controller z) (μ.message m).vec))
            receiver_is
            (subst (λ z. Compatible (σ Size) c z (M.filtered (μ.controller c) (μ.message m).vec)) ours
            (subst (Compatible (σ Size) c (vec_of (filtered σ c (place_vector σ c (newest_place σ c))))) their
            (compatible (σ Size) c (filtered σ c (place_vector σ c (newest_place σ c))) (filtered σ c theirs) f.size_le e')));
      }

-- a receiver that S lets pass is a controller or the desk
receives : (σ : State) (c : ℕ) → no_receiver σ c ≡ false → Receives (σ Size) c
receives σ c e = le? (σ Size) c (λ l. inr (eqb-true c desk (not-false (c == desk) (rw (le-leb (σ Size) c l) at e)))) (λ l. inl l)

module _ {L : Limits} (σ : State) (f : Form L σ) (c : ℕ) (h : c < σ Size) where
  -- what a checkpoint counts on, in a house in form
  counted : Counted σ c
  counted = let k = controller_form f c h in record { named = omega (arith, f.size_le); incarnation_le = k.incarnation_le; live_pos = k.live_pos }

  -- and after an interval has begun
  counted_added : (m r : ℕ) (v : Vector) → Counted (interval_added σ c m r v) c
  unfolding interval_added put same put_part
  counted_added m r v =
      let live = σ (LiveCount c) in
      let x = number_of σ c (live + 1) in
      let own = place_record (σ (Incarnation c)) x m 0 (set v c (pair_list (σ (Incarnation c)) x)) in
      let n : interval_added σ c m r v (LiveCount c) ≡ live + 1 = put_same (put_part σ (OfPlace c live 0) 0 own) (LiveCount c) (live + 1) in
      record { named = counted.named; incarnation_le = counted.incarnation_le; live_pos = omega arith }

  -- what starting anew counts on
  starting : (k : ℕ) → 1 ≤ k → k ≤ σ (LiveCount c) → σ (Incarnation c) < last_incarnation → Starting σ c k
  starting k k1 kl il = record { named = counted.named; kept = k1; below = kl; left = il; near = (place_form f c (k - 1) h (omega arith)).vector.near }

module _ (L : Limits) (σ : State) (f : Form L σ) where
  -- K
  stepped_degree : (c k : ℕ) → Stepped σ (SetDegree c k) (step_degree σ c k)
  unfolding step_degree put same
  stepped_degree c k =
      stepped_refusing σ (SetDegree c k) (degree_refusals σ c k) _
      (λ e. let d = degree_allowed σ c k e in
      outcome_as _ _ (SetDegree c k) refl refl (image_degree σ c k (omega arith)) (O.degree_set_lem c k d.controller_lt d.degree_le))

  -- S
  stepped_send : (sender receiver payload : ℕ) → Stepped σ (Send sender receiver payload) (step_send L σ sender receiver payload)
  unfolding step_send sent
  stepped_send sender receiver payload =
      stepped_refusing σ (Send sender receiver payload) (send_refusals L σ sender receiver) _
      (λ e. let d = send_allowed L σ sender receiver e in
      let q = sent_is σ in
      outcome_as _ _ (Send sender receiver payload) (ap (λ m. Sent (m + 1)) (sym q)) (posted_size σ _)
      (image_sent σ f sender receiver payload d.sender_lt ∙ ap (λ m. M.send_message (image σ) (m + 1) sender receiver) (sym q))
      (O.sent sender receiver payload d.sender_lt (receives σ receiver d.receiver_ok) d.differ))

  -- R: held, let out or published, or no room for an entry
  stepped_release : (g : List ℕ) (m : ℕ) → SteppedBoth σ (Release m) (step_release L σ g m)
  unfolding step_release own_vector let_out put same put_part
  stepped_release g m =
      stepped_refusing_both σ g (Release m) (release_refusals L σ g (record_of σ m)) _
      (λ e. let r = record_of σ m in
      let l = (release_allowed L σ g r e).0.record_used in
      let low : (c : ℕ) → c < σ Size → ((image σ).controller c).incarnation < incarnations = λ c h. let k = controller_form f c h in omega (arith, incarnation_is σ c (omega arith)) in
      release_cases L σ g m r (SteppedBoth σ (Release m)) (λ _. O.held m _)
      (λ may _. outcome_as _ _ (Release m) refl refl (image_let_out σ f m state_released l) (O.released m _ (release_found σ f m l may) low)) (λ _ _. O.refused (Release m) LEDGER_USED_UP)
      (λ may _ _. outcome_as _ _ (Release m) refl refl (image_let_out σ f m state_published l) (O.released m _ (release_found σ f m l may) low)))

  -- D
  stepped_deliver : Fresh σ → (m : ℕ) → Stepped σ (Deliver m) (step_deliver L σ m)
  unfolding step_deliver interval_begins interval_added put same put_part
  stepped_deliver z m =
      stepped_refusing σ (Deliver m) (message_refusals σ (record_of σ m) state_released) _
      (λ e. let r = record_of σ m in
      let a = message_allowed σ r state_released e in
      let l = a.record_used in
      let c = σ (Receiver r) in
      let h : c < σ Size = released_lt f r l a.state_is in
      let cl : c < controllers = omega arith in
      let x = number_next σ c (σ (LiveCount c)) ∙ ap (λ n. n + 1) (sym (live_is σ c cl)) in
      deliver_cases L σ r m (Stepped σ (Deliver m))
      (λ q. outcome_as _ _ (Deliver m) (ap (λ (w : M.Vec). Dropped m (blamed σ f m l) (w (blamed σ f m l)).incarnation) (theirs_is σ f m l)) refl (image_state σ r state_dropped)
      (O.dropped m (blamed σ f m l) (present_pos σ m l) (was_sent σ f m l) (subst (λ c. c < σ Size) (receiver_is σ f m l) h) (drop_found σ f m l h q)))
      (λ _. O.waits m) (λ _. O.refused (Deliver m) PLACES_USED_UP)
      (λ q q' _. let v = merged (ours σ c) (theirs_for σ c r) in
      outcome_as _ _ (Deliver m) (ap₂ (Delivered m) (sym (incarnation_is σ c cl)) x) (capped_size (interval_added σ c m r v) c)
      (image_capped (interval_added σ c m r v) c (counted_added σ f c h m r v) (fresh_kept σ _ (numbers_added σ c m r v) z)
      ∙ ap (λ (μ : M.Model). M.cap_model μ c) (image_begun σ f c m h l))
      (O.delivered m c (receiver_is σ f m l) (deliver_found σ f m l h q q'))))

  -- L
  stepped_log : (c q : ℕ) → Stepped σ (Log c q) (step_log σ c q)
  unfolding step_log logged put same
  stepped_log c q =
      stepped_refusing σ (Log c q) (log_refusals σ c q) _
      (λ e. let d = log_allowed σ c q e in
      let k = controller_form f c d.controller_lt in
      let cl : c < controllers = omega arith in
      let stable = σ (StableCount c) in
      let x : number_of σ c (stable + q) ≡ ((image σ).controller c).stable + q = number_add σ c stable q ∙ ap (λ n. n + q) (sym (stable_is σ c cl)) in
      outcome_as _ _ (Log c q) refl refl
      (image_logged σ c (stable + q) cl (omega arith) ∙ ap (λ x. M.put_controller (image σ) c (M.log_controller c ((image σ).controller c) x)) x)
      (O.logged c q d.controller_lt d.number_pos
      (omega (arith, live_is σ c cl, number_from_lem σ c (σ (LiveCount c)), number_from_lem σ c (stable + q), d.number_le))))

  -- C
  stepped_checkpoint : Fresh σ → (c : ℕ) → Stepped σ (Checkpoint c) (step_checkpoint σ c)
  unfolding step_checkpoint checkpointed put same
  stepped_checkpoint z c =
      stepped_refusing σ (Checkpoint c) (checkpoint_refusals σ c) _
      (λ e. let h = checkpoint_allowed σ c e in
      outcome_as _ _ (Checkpoint c) refl (logged_to_size σ c (σ (LiveCount c))) (image_checkpointed σ c (counted σ f c h) z) (O.checkpointed c h))

  -- T
  stepped_tell : (owner holder : ℕ) → Stepped σ (Tell owner holder) (step_tell σ owner holder)
  unfolding step_tell told put_part
  stepped_tell owner holder =
      stepped_refusing σ (Tell owner holder) (tell_refusals σ owner holder) _
      (λ e. let d = tell_allowed σ owner holder e in
      outcome_as _ _ (Tell owner holder) refl refl (image_told σ owner holder (omega arith) (omega arith)) (O.told owner holder d.owner_lt d.holder_lt d.differ))

  -- X
  stepped_crash : Fresh σ → (c : ℕ) → Stepped σ (Crash c) (step_crash L σ c)
  unfolding step_crash crashed removed start_anew drop_held restarted placed entered causes causes_in put same put_part clear_places put_states
  stepped_crash z c =
      stepped_refusing σ (Crash c) (crash_refusals L σ c) _
      (λ e. let d = crash_allowed L σ c e in
      let k = controller_form f c d.controller_lt in
      let cl : c < controllers = omega arith in
      let j = σ (StableCount c) in
      let s = sym (stable_is σ c cl) in
      let model = (image σ).controller c in
      outcome_as _ _ (Crash c)
      (ap (Crashed c (σ (Incarnation c)) (number_of σ c j) (σ (LiveCount c) - j)) (replayed_is σ c (counted σ f c d.controller_lt) z j k.stable_le)
      ∙ ap₂ (λ i x. Crashed c i x (σ (LiveCount c) - j) (M.above_latest model x)) (sym (incarnation_is σ c cl)) s)
      (capped_size _ c)
      (image_crashed σ c (starting σ f c d.controller_lt j k.stable_pos k.stable_le d.incarnation_lt) z
      ∙ ap (λ x. M.cap_model (M.put_controller (image σ) c (M.anew_controller c (M.end_controller c model) x)) c) s)
      (O.crashed c _ d.controller_lt))

  -- what a hearing has found
  hear_found : (hearer owner i : ℕ) → 0 ≡ first_of (hear_refusals σ hearer owner i) → HearsOf (σ Size) (image σ) hearer owner i
  hear_found hearer owner i e =
      let d = hear_allowed σ hearer owner i e in
      record {
        hearer_below = d.hearer_lt;
        crashed_below = d.owner_lt;
        ended = let own = d.own_end in omega (arith, ends_is σ owner (omega arith) owner i (omega arith) (omega arith));
        unheard = ends_is σ hearer (omega arith) owner i (omega arith) (omega arith) ∙ d.unheard;
      }

  -- H, where numbers are counts
  stepped_hear : Fresh σ → (hearer owner i : ℕ) → Stepped σ (Hear hearer owner i) (step_hear σ hearer owner i)
  unfolding step_hear hear noted rolled_back removed start_anew drop_held restarted placed entered causes causes_in put same put_part clear_places put_states
  stepped_hear z hearer owner i =
      stepped_refusing σ (Hear hearer owner i) (hear_refusals σ hearer owner i) _
      (λ e. let d = hear_allowed σ hearer owner i e in
      let h = hear_found hearer owner i e in
      let c = controller_form f hearer d.hearer_lt in
      let hl : hearer < controllers = omega arith in
      let τ = noted σ hearer owner i in
      let k = lowest_condemned τ hearer in
      let s = sound_noted σ hearer owner i hearer (sound σ f hearer d.hearer_lt) in
      let n = numbers_noted σ hearer owner i in
      let z' = fresh_kept σ τ n z in
      let model = image_noted σ hearer owner i hl (omega arith) (omega arith) in
      let controller : (image τ).controller hearer ≡ noted_controller (image σ) hearer owner i =
      ap (λ (μ : M.Model). μ.controller hearer) model ∙ put_controller_own (image σ) hearer (noted_controller (image σ) hearer owner i) in
      let low = lowest τ hearer c.live_pos in
      cond_ind (Stepped σ (Hear hearer owner i)) (σ (LiveCount hearer) ≤? k)
      (λ l. outcome_as _ _ (Hear hearer owner i) refl refl model
      (O.heard hearer owner i h (subst (NoneCondemned (σ Size)) controller (none_condemned τ hearer s z' (leb-true (σ (LiveCount hearer)) k l)))))
      (λ l. let l' = leb-false (σ (LiveCount hearer)) k l in
      cond_ind (Stepped σ (Hear hearer owner i)) (last_incarnation ≤? σ (Incarnation hearer)) (λ w. O.refused (Hear hearer owner i) INCARNATIONS_USED_UP)
      (λ w. let w' = leb-false last_incarnation (σ (Incarnation hearer)) w in
      outcome_as _ _ (Hear hearer owner i)
      (ap (λ again. Rolled hearer (number_of σ hearer k) (σ (LiveCount hearer) - k) again owner i) (replayed_is σ hearer (counted σ f hearer d.hearer_lt) z k (omega arith)))
      (capped_size _ hearer ∙ logged_to_size τ hearer k)
      (image_heard_rolled σ hearer owner i k (starting σ f hearer d.hearer_lt k low.pos (omega arith) w') z (omega arith) (omega arith))
      (O.rolled hearer owner i (number_of σ hearer k) _ h
      (subst (LowestCondemned (σ Size) (noted_controller (image σ) hearer owner i)) (n.number hearer k)
      (subst (λ (q : M.Controller). LowestCondemned (σ Size) q (number_of τ hearer k)) controller (lowest_condemned_lem τ hearer s z' l')))))))

  -- W4: the gap
  stepped_gap : (q : ℕ) → Stepped σ (SetGap q) (step_gap σ q)
  unfolding step_gap put same
  stepped_gap q = stepped_refusing σ (SetGap q) (gap_refusals q) _ (λ e. outcome_as _ _ (SetGap q) refl refl (image_gap σ q) (O.gap_set_lem q (gap_allowed q e)))

-- after the host's look at the form, in a house from which nothing is discarded; one that is not in form need not say so
module _ (L : Limits) (σ : State) (g : List ℕ) (whole : in_form L σ ≡ true → Fresh σ) where
  looked : (x : Command) → looks_at_form x ≡ true → (Form L σ → Fresh σ → SteppedBoth σ x (perform L σ g x)) → SteppedBoth σ x (step_on L σ g x)
  unfolding step_on
  looked x q h =
      cond_ind (SteppedBoth σ x) (looks_at_form x && not (in_form L σ)) (λ e. O.refused x FORM)
      (λ e. let good = not-false (in_form L σ) (subst (λ b. (b && not (in_form L σ)) ≡ false) q e) in h (form L σ good) (whole good))

  -- every step on a state and a ledger
  pub stepped_state : (x : Command) → SteppedBoth σ x (step_on L σ g x)
  unfolding step_on perform
  stepped_state (Open n k) = stepped_open L σ g n k
  stepped_state (SetDegree c k) = looked (SetDegree c k) refl (λ f z. stepped_degree L σ f c k)
  stepped_state (Send sender receiver payload) = looked (Send sender receiver payload) refl (λ f z. stepped_send L σ f sender receiver payload)
  stepped_state (Release m) = looked (Release m) refl (λ f z. stepped_release L σ f g m)
  stepped_state (Deliver m) = looked (Deliver m) refl (λ f z. stepped_deliver L σ f z m)
  stepped_state (Log c q) = looked (Log c q) refl (λ f z. stepped_log L σ f c q)
  stepped_state (Checkpoint c) = looked (Checkpoint c) refl (λ f z. stepped_checkpoint L σ f z c)
  stepped_state (Tell owner holder) = looked (Tell owner holder) refl (λ f z. stepped_tell L σ f owner holder)
  stepped_state (Crash c) = looked (Crash c) refl (λ f z. stepped_crash L σ f z c)
  stepped_state (Hear hearer owner i) = looked (Hear hearer owner i) refl (λ f z. stepped_hear L σ f z hearer owner i)
  stepped_state (SetGap q) = looked (SetGap q) refl (λ f z. stepped_gap L σ f q)
