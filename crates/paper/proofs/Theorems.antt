-- The paper's theorems, corollary, lemmas, invariants and observation, as far as they are proved, by name and under their sentence, for every
-- list of steps from an opening, at its end. (A first part of a list is a list, so they hold at all times.) Not here are Lemma A.6, Invariant
-- A.2 and Claim A.1. A state interval s happened before u where u rests on s; an entry of a vector is a pair; knows_stable and knows_orphan are
-- known words that reach a number, and condemned vectors. Known words and vectors are those of the table, read as a model. docs/COVERAGE.md
-- has them in a table, with what the paper has and this doesn't, and why.
use Rattle.std.specs.Prelude.{◌≡◌, Bool, true, false, List, [], ◌∷◌, ◌++◌, ◌≢◌, ◌⊎◌, ◌↔◌, ℕ, ◌≤◌, ◌<◌}
use Rattle.std.proofs.Common.{sym, append-nil, ⊎_elim}
use Rattle.table.specs.Field.{desk}
use Rattle.table.specs.Layout.{controllers}
use Rattle.rules.specs.Step.{Call, asks}
use Rattle.rules.specs.declared.Answer.{Answer}
use Rattle.rules.specs.declared.Answer.TheVariants.{Done, Held}
use Rattle.rules.specs.declared.Command.TheVariants.{Release, Deliver, Checkpoint, Tell, Hear}
use Rattle.history.specs.History.{Interval, interval, History, member}
use Rattle.history.specs.Demand.{call_in, step_in, next, Accepted, RestsOnLost, named, LetsGo, FromOpening, up_to, end}
use Rattle.history.specs.Progress.{Orphan, Drops, SentIn, SendingLive, HeldIn, LetOutIn, NotLetOut, HasHeard, CanHear, Deliverable}
use Rattle.history.specs.Asked.{Asked, AllAsked, AllCleared, Names, Unlearned, GoesOut, GoesOutWithin, NotHeld, Begins, Arrives, Eventually, Fate}
use Rattle.model.specs.Model.{interval_of, Model, full}
use Rattle.model.proofs.Tests.{contrary, passes, fails}
use Rattle.model.proofs.Invariant.{Inv, Covers}
use Rattle.model.specs.Vectors.{Condemned}
use Rattle.model.proofs.Consequences.{spoilt_orphan, live_begun, live_or_lost}
use Rattle.model.proofs.Paper as P
use Rattle.model.proofs.Paper.{Useful, vector_of}
use Rattle.model.proofs.Informed.{ended_known}
use Rattle.model.proofs.Stability.{lemma_A_1_always}
use Rattle.base.specs.Ranges.{count}
use Rattle.image.proofs.Tables.{model_of}
use Rattle.demand.specs.Demanded.{table_inv, follows, demand_3}
use Rattle.demand.proofs.Beyond.{lost_unstable}
use Rattle.demand.proofs.Claims.{at_most_K_named}
use Rattle.paper.specs.Ready.{model_in, ready}
use Rattle.paper.specs.Crashes.{can_hear, live_sure}
use Rattle.paper.specs.Interleaved.{telling_knows}
use Rattle.paper.specs.Whenever.{checkpoint_is_done, tell_is_done, mask_asked, useful_goes, masks_shrink, unstable_named, named_with_cause, dropped_exactly, useful_arrives, mask_arrives}
use Rattle.paper.proofs.AllButK.{mask_all_but_K}
use Rattle.paper.proofs.Eventually.{brought_out, brought_in}
use Rattle.paper.proofs.Fates.{fate}
use Rattle.paper.specs.Extremes.{never_revoked, never_held, heard_once}

module _ (t g : List ℕ) (n k : ℕ) (l : List Call) (O : FromOpening t g n k l) where
  -- the history at the end of the list, and the known words and vectors of the table there
  abbrev h : History
  h = end t g n k l

  abbrev μ : Model
  μ = model_of (up_to t g n k l).table

  v : Inv n μ h
  v = table_inv (ready t g n k l O).holds

  -- Lemma 1. "Let s and u be distinct useful states (neither lost nor orphan). Then, s ↛ u ⇒ u.c[s.p] < s.c[s.p]." By numbers: useful
  -- intervals of one controller stand in one chain.
  pub lemma_1 : (s u : Interval) → Useful h s → Useful h u → h.rests u s ≡ false → (vector_of μ u s.owner).number < s.number
  lemma_1 = P.lemma_1 v

  -- Theorem 1. "Let s and u be useful states in a distributed computation. Then, s → u iff s.c < u.c." Where s is not stable, and by the one
  -- entry for its controller: what is stable may have been omitted.
  pub theorem_1 : (s u : Interval) → Useful h s → Useful h u → h.stable s ≡ false → (h.rests u s ≡ true) ↔ (s.number ≤ (vector_of μ u s.owner).number)
  theorem_1 = P.theorem_1 v

  -- Theorem 2. "With transitive dependency tracking, announcing only failures (instead of all rollbacks) is sufficient for orphan
  -- detection." What rests on an interval that was lost or undone rests on one that was lost.
  pub theorem_2 : (u z : Interval) → h.begun u ≡ true → h.rests u z ≡ true → member z (h.chain z.owner) ≡ false → Orphan h u
  theorem_2 = P.theorem_2 v

  -- Theorem 3. "Commit dependency tracking and failure announcements are sufficient for orphan detection." A vector without what is
  -- stable is condemned to b just where its interval rests on one lost in a crash that b has heard: of live intervals, and of messages.
  pub theorem_3 : (u : Interval) → u.owner < n → member u (h.chain u.owner) ≡ true → (b : ℕ) → b < n →
      Condemned n (μ.controller b) (vector_of μ u) ↔ RestsOnLost h h b u
  theorem_3 = P.theorem_3 v

  pub theorem_3_message : (m b : ℕ) → 1 ≤ m → m ≤ μ.sent → b < n → Condemned n (μ.controller b) (μ.message m).vec ↔ RestsOnLost h h b (h.sending m)
  theorem_3_message = P.theorem_3_message v

  -- Corollary 1. "Upon receiving a failure announcement containing index (t, x')i, a process can omit the dependency entry (t, x)i if x ≤
  -- x'." Once b has heard it, such an interval is stable, and known stable to b.
  pub corollary_1 : (b a i x : ℕ) → b < n → a < n → h.heard b a i ≡ true → h.begun (interval a i x) ≡ true → x ≤ (μ.controller b).ends a i →
      (x ≤ (μ.controller b).known a i) × (h.stable (interval a i x) ≡ true)
  corollary_1 b a i x below owner = ended_known v (ready t g n k l O).informed b below a i x owner

  -- Lemma A.1. "(s → w ∧ s.p = w.p ∧ stable(w)) ⇒ stable(s)."
  pub lemma_A_1 : (w s : Interval) → h.stable w ≡ true → h.rests w s ≡ true → s.owner ≡ w.owner → h.stable s ≡ true
  lemma_A_1 = lemma_A_1_always (follows n) t g k l O l [] (sym (append-nil l))

  -- Lemma A.2. "knows_stable(s, e, j) ⇒ stable(get_state(j, e))."
  pub lemma_A_2 : (b a i x : ℕ) → b < n → h.begun (interval a i x) ≡ true → x ≤ (μ.controller b).known a i → h.stable (interval a i x) ≡ true
  lemma_A_2 = P.lemma_A_2 v

  -- Lemma A.3. "stable(get_state(j, e)) ⇒ ∀i: ∃s ∈ P_i: knows_stable(s, e, j)." Of live intervals: after one telling, which is done.
  pub lemma_A_3 : (s : Interval) (b : ℕ) → s.owner < n → b < n → s.owner ≢ b → member s (h.chain s.owner) ≡ true → h.stable s ≡ true →
      let r = up_to t g n k l in
      let x = Tell s.owner b in
      ((step_in r x).answer ≡ Done) × (s.number ≤ ((model_in (next (asks x) r)).controller b).known s.owner s.incarnation)
  lemma_A_3 s b p q ne live stable = let done = tell_is_done t g n k l O s.owner b p q ne in (done, telling_knows (ready t g n k l O) s b done stable live)

  -- Lemma A.4. "knows_orphan(s, u) ⇒ orphan(u)."
  pub lemma_A_4 : (u : Interval) → u.owner < n → member u (h.chain u.owner) ≡ true → (b : ℕ) → b < n → Condemned n (μ.controller b) (vector_of μ u) → RestsOnLost h h b u
  lemma_A_4 = P.lemma_A_4 v

  -- Lemma A.5. "orphan(u) ⇒ ∀i: ∃w ∈ P_i: knows_orphan(w, u)." Once b has heard the crash.
  pub lemma_A_5 : (u : Interval) → u.owner < n → member u (h.chain u.owner) ≡ true → (b : ℕ) → b < n → RestsOnLost h h b u → Condemned n (μ.controller b) (vector_of μ u)
  lemma_A_5 = P.lemma_A_5 v

  -- Observation A.1. "Different states of the same process have different entries." Live ones even have different numbers.
  pub observation_A_1 : (c : ℕ) → c < n → (s u : Interval) → member s (h.chain c) ≡ true → member u (h.chain c) ≡ true → s.number ≡ u.number → s ≡ u
  observation_A_1 = P.observation_A_1 v

  -- Invariant A.1. "∀s, u: (s → u ∧ ¬stable(s)) ⇒ ((u.c[s.p].inc = s.c[s.p].inc) ∧ (u.c[s.p].seq ≥ s.c[s.p].seq))." Of a live u.
  pub invariant_A_1 : (u : Interval) → u.owner < n → member u (h.chain u.owner) ≡ true → (s : Interval) → h.rests u s ≡ true → h.stable s ≡ false →
      Covers (vector_of μ u s.owner) s
  invariant_A_1 = P.invariant_A_1 v

  -- Invariant A.3 "ensures that our dependency tracking mechanism does not introduce any false dependencies": a live u rests on each interval
  -- that its vector names.
  pub invariant_A_3 : (u : Interval) → u.owner < n → member u (h.chain u.owner) ≡ true → (a : ℕ) → full (vector_of μ u a) ≡ true →
      h.rests u (interval_of a (vector_of μ u a)) ≡ true
  invariant_A_3 = P.invariant_A_3 v

  -- Theorem A.1. "The protocol rolls back all orphan states and orphan states only." Orphans only, whatever was heard: what was begun and is live
  -- no more is an orphan.
  pub theorem_A_1_only : (b : ℕ) → b < n → (y : Interval) → y.owner ≡ b → h.begun y ≡ true → member y (h.chain b) ≡ false → Orphan h y
  theorem_A_1_only b below y mine begun gone = ⊎_elim (λ live. contrary live gone) spoilt_orphan (live_or_lost v b below y mine begun)

  -- All orphans: where b has heard every crash, what it has begun is live no more just where it is one. (Hearing by hearing this is in demand 3.)
  pub theorem_A_1 : (b : ℕ) → b < n → HasHeard t g n k l b → (y : Interval) → y.owner ≡ b → h.begun y ≡ true → (member y (h.chain b) ≡ false) ↔ Orphan h y
  theorem_A_1 b below heard y mine begun = (theorem_A_1_only b below y mine begun, λ o. fails _ (λ live. live_sure t g n k l O b below heard y live o))

  -- of messages: a delivery drops exactly what was sent from an interval that rests on one lost in a crash which the receiver has heard
  pub theorem_A_1_messages : (m : ℕ) → Deliverable t g n k l m → Drops m (step_in (up_to t g n k l) (Deliver m)).answer ↔ RestsOnLost h h (h.receiver m) (h.sending m)
  theorem_A_1_messages = dropped_exactly t g n k l O

  -- and what is left is a consistent state: where all have heard all, what a live interval rests on is live
  pub theorem_A_1_consistent : ((b : ℕ) → b < n → HasHeard t g n k l b) → (y z : Interval) → y.owner < n → member y (h.chain y.owner) ≡ true → h.rests y z ≡ true →
      member z (h.chain z.owner) ≡ true
  theorem_A_1_consistent all y z below live rests =
      passes _ (λ gone. live_sure t g n k l O y.owner below (all y.owner below) y live (theorem_2 y z (live_begun v y.owner below y live) rests gone))

  -- Theorem A.2. "Each message in Send_buffer is either lost in a failure, or discarded as an orphan, or eventually sent." Every message that
  -- was sent in the list has one of three fates: a release let it out; or its sending interval is live no more, and its release is refused with
  -- 7; or it is held, and goes out once its sender has heard every crash and the controllers are cleared.
  pub theorem_A_2 : (m : ℕ) → SentIn t g n k l m → Fate t g n k l m
  theorem_A_2 = fate t g n k l O

  -- the last, where its sending interval is no orphan, whatever was heard
  pub theorem_A_2_useful : (m : ℕ) → SentIn t g n k l m → NotLetOut t g n k l m → (Orphan h (h.sending m) → ⊥) → AllCleared t g n k l m (h.sending m).owner → GoesOut t g n k l m
  theorem_A_2_useful = useful_goes t g n k l O

  -- "Eventually sent": let no release have let m out, its sending interval be live and its sender have heard every crash. From there some more
  -- checkpoints and tellings, each of which is done, bring it out.
  pub theorem_A_2_eventually : (m : ℕ) → SentIn t g n k l m → NotLetOut t g n k l m → SendingLive t g n k l m → HasHeard t g n k l (h.sending m).owner →
      Eventually t g n k l (λ l. GoesOut t g n k l m)
  theorem_A_2_eventually = brought_out t g n k l O

  -- By the mask, whatever stands between: let a release of m in the list have been held, and each controller that it names have been asked. Where
  -- the sender has heard every crash, the release of m at the end answers `released m 0` (or 18), unless it is refused with 7.
  pub theorem_A_2_mask : (m mask : ℕ) → HeldIn t g n k l m mask → AllAsked t g n k l m mask (h.sending m).owner → HasHeard t g n k l (h.sending m).owner →
      NotHeld t g n k l m ⊎ GoesOut t g n k l m
  theorem_A_2_mask = mask_asked t g n k l O

  -- To a controller all but K are enough: where those that were not asked are no more than the sender's degree, it is let out, and names only those.
  pub theorem_A_2_all_but_K : (m mask : ℕ) → HeldIn t g n k l m mask → HasHeard t g n k l (h.sending m).owner → h.receiver m ≢ desk →
      (left : ℕ → Bool) → count controllers left ≤ h.degree (h.sending m).owner →
      ((c : ℕ) → c < n → named mask c ≡ true → left c ≡ false → Asked t g n k l m (h.sending m).owner c) → NotHeld t g n k l m ⊎ GoesOutWithin t g n k l m left
  theorem_A_2_all_but_K = mask_all_but_K t g n k l O

  -- Masks only shrink: whom a held release of m didn't name no later release of m names.
  pub theorem_A_2_masks : (m mask later : ℕ) {a : Answer} → HeldIn t g n k l m mask → Names later a → (step_in (up_to t g n k l) (Release m)).answer ≡ a →
      (c : ℕ) → named mask c ≡ false → named later c ≡ false
  theorem_A_2_masks = masks_shrink t g n k l O

  -- They name all that must be named: the controller of each interval that the sending interval rests on and that is not stable.
  pub theorem_A_2_names : (m mask : ℕ) {a : Answer} → Names mask a → (step_in (up_to t g n k l) (Release m)).answer ≡ a →
      (z : Interval) → h.rests (h.sending m) z ≡ true → h.stable z ≡ false → named mask z.owner ≡ true
  theorem_A_2_names = unstable_named t g n k l O

  -- And they name with cause: of each controller that a release names, where the sending interval is no orphan, it rests on an interval of which
  -- the sender has no word.
  pub theorem_A_2_cause : (m mask : ℕ) {a : Answer} → Names mask a → (step_in (up_to t g n k l) (Release m)).answer ≡ a → (Orphan h (h.sending m) → ⊥) →
      (c : ℕ) → named mask c ≡ true → Unlearned t g n k l m (h.sending m).owner c
  theorem_A_2_cause = named_with_cause t g n k l O

  -- The same of the delivery of a released message, by the mask with which it was let out: asked for its receiver, it doesn't wait.
  pub theorem_A_2_delivery : (m : ℕ) → Deliverable t g n k l m → (mask : ℕ) → LetOutIn t g n k l m mask → AllAsked t g n k l m mask (h.receiver m) →
      HasHeard t g n k l (h.receiver m) → Arrives t g n k l m
  theorem_A_2_delivery = mask_arrives t g n k l O

  -- Where its sending interval is no orphan it arrives, though its receiver hasn't heard every crash.
  pub theorem_A_2_useful_delivery : (m : ℕ) → Deliverable t g n k l m → AllCleared t g n k l m (h.receiver m) → (Orphan h (h.sending m) → ⊥) → Begins t g n k l m
  theorem_A_2_useful_delivery = useful_arrives t g n k l O

  -- From wherever one stands it arrives after some more checkpoints and tellings, each of which is done, where its receiver has heard every crash.
  pub theorem_A_2_eventually_delivery : (m : ℕ) → Deliverable t g n k l m → HasHeard t g n k l (h.receiver m) → Eventually t g n k l (λ l. Arrives t g n k l m)
  theorem_A_2_eventually_delivery = brought_in t g n k l O

  -- What is asked for can always be done: a checkpoint, a telling,
  pub theorem_A_2_done : (c : ℕ) → c < n → ((step_in (up_to t g n k l) (Checkpoint c)).answer ≡ Done) × ((b : ℕ) → b < n → c ≢ b → (step_in (up_to t g n k l) (Tell c b)).answer ≡ Done)
  theorem_A_2_done c below = (checkpoint_is_done t g n k l O c below, λ b near. tell_is_done t g n k l O c b below near)

  -- and a hearing, unless it must undo in the last incarnation
  pub theorem_A_2_hearing : (b : ℕ) → b < n → CanHear t g n k l b
  theorem_A_2_hearing = can_hear t g n k l O

  -- Theorem A.3. "Given any message m released by its sender, the number of processes that can make the message orphan on their failure is
  -- at most K." Those that a release or a set names are at most K, and they own all that the sending interval rests on and that is lost anywhere in
  -- the list.
  pub theorem_A_3 : (before after : List Call) (x : Call) (m mask : ℕ) → l ≡ before ++ x ∷ after → LetsGo x (call_in (up_to t g n k before) x).answer m mask →
      let then = (up_to t g n k before).history in
      (count controllers (named mask) ≤ then.degree (then.sending m).owner)
      × ((y : Interval) (crash : ℕ) → h.rests (h.sending m) y ≡ true → h.lost y crash ≡ true → named mask y.owner ≡ true)
  theorem_A_3 before after x m mask e goes = (
    at_most_K_named t g n k l O before after x m mask e goes,
    λ y crash rests lost. (demand_3 t g n k l O).releases before after x m mask e goes y crash rests (lost_unstable t g n k l O before (x ∷ after) e y crash lost) lost,
  )

  -- Section 1. "Pessimistic logging corresponds to 0-optimistic logging because messages can never be revoked by any process failures": what was
  -- let out under the degree 0 is no orphan.
  pub optimism_0 : (before after : List Call) (x : Call) (m mask : ℕ) → l ≡ before ++ x ∷ after → LetsGo x (call_in (up_to t g n k before) x).answer m mask →
      (let then = (up_to t g n k before).history in then.degree (then.sending m).owner ≡ 0) → Orphan h (h.sending m) → ⊥
  optimism_0 = never_revoked t g n k l O

  -- "Traditional optimistic logging corresponds to n-optimistic logging": where a message to a controller is held, the degree is below n.
  pub optimism_n : (m echoed mask : ℕ) → (step_in (up_to t g n k l) (Release m)).answer ≡ Held echoed mask → h.receiver m ≢ desk → h.degree (h.sending m).owner < n
  optimism_n = never_held t g n k l O

  -- Table 1. "Number of rollbacks per failure": 1. Of two hearings of one crash by one controller only the first is accepted.
  pub one_rollback_a_failure : (before between after : List Call) (b a i : ℕ) → let x = Hear b a i in
      l ≡ before ++ asks x ∷ (between ++ asks x ∷ after) → Accepted (step_in (up_to t g n k before) x).answer →
      Accepted (step_in (up_to t g n k (before ++ asks x ∷ between)) x).answer → ⊥
  one_rollback_a_failure = heard_once t g n k l O
