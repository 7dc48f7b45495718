-- Uses of the public statements, so that an edit that empties one of these clauses, or narrows one of these hypotheses, is refused here: what
-- demand 3 gives, which crash it was, what is a message that was sent or that can be delivered, when a crash can be heard, when a controller
-- was asked, and what "eventually" gives. (Clauses that are not here are used in `demand` and `paper`, where the statements are proved, and
-- in `instances`, where lists are shown of which they speak.)
use Rattle.std.specs.Prelude.{◌≡◌, refl, Bool, true, false, List, ◌∷◌, ◌++◌, ◌≢◌, ℕ, ◌≤◌, ◌<◌, length}
use Rattle.std.proofs.Common.{sym, ◌∙◌, ap, true≢false, append_assoc, inr, ⊎_elim, arith}
use Rattle.std.proofs.Math.Path.{subst}
use Rattle.std.specs.Int.Count.{ones}
use Rattle.base.specs.Choice.{holds, fails}
use Rattle.table.specs.Field.{desk}
use Rattle.rules.specs.Limits.{last_incarnation}
use Rattle.rules.specs.Sets.{nth}
use Rattle.rules.specs.Step.{Call, asks, release_set, step_call, dispatch, OutBoth}
use Rattle.rules.specs.declared.Answer.{Answer}
use Rattle.rules.specs.declared.Answer.TheVariants.{Done, Sent, Released, Dropped, Waits, Rolled, SetReleased, SetHeld}
use Rattle.rules.specs.declared.Command.TheVariants.{Send, Release, Deliver, Checkpoint, Tell, Hear}
use Rattle.history.specs.History.{Interval, History, member, newest}
use Rattle.history.specs.Demand.{call_in, step_in, next, Accepted, RestsOnLost, named, LetsGo, alone, together, up_to, end, Demand3, Run}
use Rattle.history.specs.Blame.{DropsNaming, by_delivery, by_dispatcher, OrphanBy, Blame, DroppedFor}
use Rattle.history.specs.Progress.{SentIn, HoldsBack, held_together, HeldIn, LetOutIn, Deliverable, CrashIn, HasHeard, CanHear}
use Rattle.history.specs.Asked.{Secures, checkpoints, undoes, SecuredIn, Spreads, by_checkpoint, by_telling, Asked, AllAsked, Learned, its_own, was_told, has_heard, Cleared, held_without, was_asked, each_learned, AllCleared, Eventually}
use Rattle.history.specs.Emptied.{AllTellAll}
use Rattle.history.specs.Fair as F
use Rattle.history.specs.Fair.{Serves, InTurn, size_in, receiver_in, turn_in, DeliveredOrDropped, PassedOver}

-- lists from the opening of t, beside the ledger g, with n and k
module _ (t g : List ℕ) (n k : ℕ) (l : List Call) where
  abbrev h : History
  h = end t g n k l

  -- DEMAND 3
  module _ (said : Demand3 t g n k l) where
    -- a hearing that is accepted
    module _ (before after : List Call) (hearer crashed i : ℕ) (e : l ≡ before ++ asks (Hear hearer crashed i) ∷ after)
        (accepted : Accepted (step_in (up_to t g n k before) (Hear hearer crashed i)).answer)
        (y : Interval) (live : member y ((up_to t g n k before).history.chain hearer) ≡ true) where
      abbrev then : History
      then = (next (asks (Hear hearer crashed i)) (up_to t g n k before)).history

      -- undoes what rests on lost work,
      pub orphan_is_undone : RestsOnLost h then hearer y → member y (then.chain hearer) ≡ false
      orphan_is_undone = (said.hearings before after hearer crashed i e accepted y live).1

      -- and nothing else
      pub other_is_kept : (RestsOnLost h then hearer y → ⊥) → member y (then.chain hearer) ≡ true
      other_is_kept sure = holds _ (λ gone. sure ((said.hearings before after hearer crashed i e accepted y live).0 gone))

    -- what rests on lost work that its controller has heard of is not live
    pub orphan_is_not_live : (c : ℕ) → c < n → (y : Interval) → RestsOnLost h h c y → member y (h.chain c) ≡ false
    orphan_is_not_live c below y o = fails _ (λ live. said.live c below y live o)

    -- a message that a release or a set let out
    module _ (before after : List Call) (x : Call) (m mask : ℕ) (e : l ≡ before ++ x ∷ after) (goes : LetsGo x (call_in (up_to t g n k before) x).answer m mask) where
      abbrev at : History
      at = (up_to t g n k before).history

      -- under the degree 0 was let out with nobody named
      pub nobody_named_at_0 : at.degree (at.sending m).owner ≡ 0 → ones mask ≡ 0
      nobody_named_at_0 z = omega (arith, said.degrees before after x m mask e goes)

      -- whoever is not named loses nothing on which it rests and that wasn't stable then
      pub unnamed_loses_nothing : (y : Interval) (crash : ℕ) → h.rests (h.sending m) y ≡ true → at.stable y ≡ false → named mask y.owner ≡ false → h.lost y crash ≡ false
      unnamed_loses_nothing y crash rests unstable unnamed =
          fails _ (λ lost. true≢false (sym (said.releases before after x m mask e goes y crash rests unstable lost) ∙ unnamed))

      -- to the desk: nobody was named, and what it was sent from is live and not lost
      pub reading_stands : at.receiver m ≡ desk →
          let y = at.sending m in
          (mask ≡ 0) × (member y (h.chain y.owner) ≡ true) × ((crash : ℕ) → h.lost y crash ≡ false)
      reading_stands = said.published before after x m mask e goes

    -- a release that answers so lets its message out,
    pub release_lets_go : (before after : List Call) (m echoed mask : ℕ) → l ≡ before ++ asks (Release m) ∷ after → (step_in (up_to t g n k before) (Release m)).answer ≡ Released echoed mask →
        let at = (up_to t g n k before).history in
        ones mask ≤ at.degree (at.sending m).owner
    unfolding step_call
    release_lets_go before after m echoed mask e answer =
        said.degrees before after (asks (Release m)) m mask e (subst (λ a. LetsGo (asks (Release m)) a m mask) (sym answer) (alone m echoed mask))

    -- and a set each of its messages, all with the union
    pub set_lets_go : (before after : List Call) (messages : List ℕ) (mask : ℕ) → l ≡ before ++ release_set messages ∷ after →
        (call_in (up_to t g n k before) (release_set messages)).answer ≡ SetReleased mask → (i : ℕ) → i < length messages →
        let at = (up_to t g n k before).history in
        ones mask ≤ at.degree (at.sending (nth messages i)).owner
    set_lets_go before after messages mask e answer i below =
        said.degrees before after (release_set messages) (nth messages i) mask e
        (subst (λ a. LetsGo (release_set messages) a (nth messages i) mask) (sym answer) (together messages i mask below))

  -- WHICH CRASH IT WAS
  -- a delivery that drops its message
  pub drop_named : (before : List Call) (m echoed crashed i : ℕ) → (step_in (up_to t g n k before) (Deliver m)).answer ≡ Dropped echoed crashed i →
      DropsNaming (asks (Deliver m)) (call_in (up_to t g n k before) (asks (Deliver m))).answer m crashed i
  unfolding step_call
  drop_named before m echoed crashed i answer = subst (λ a. DropsNaming (asks (Deliver m)) a m crashed i) (sym answer) (by_delivery m echoed crashed i)

  module _ (said : Blame t g n k l) where
    -- the dispatcher names the crash, too
    pub dispatcher_names : (before after : List Call) (m crashed i : ℕ) → l ≡ before ++ dispatch ∷ after → (call_in (up_to t g n k before) dispatch).answer ≡ Dropped m crashed i →
        DroppedFor (up_to t g n k before) m crashed i
    dispatcher_names before after m crashed i e answer =
        said.dropped before after dispatch m crashed i e (subst (λ a. DropsNaming dispatch a m crashed i) (sym answer) (by_dispatcher m crashed i))

    -- a message that is dropped
    module _ (before after : List Call) (x : Call) (m crashed i : ℕ) (e : l ≡ before ++ x ∷ after)
        (drops : DropsNaming x (call_in (up_to t g n k before) x).answer m crashed i) where
      abbrev seen : History
      seen = (up_to t g n k before).history

      -- has its cause, in a crash of the controller that it names,
      pub dropped_with_cause : (seen.heard (seen.receiver m) crashed i ≡ true)
          × (z : Interval) × (z.owner ≡ crashed) × (seen.rests (seen.sending m) z ≡ true) × (seen.lost z i ≡ true)
      dropped_with_cause = let o = (said.dropped before after x m crashed i e drops).is_orphan in (o.heard, o.on, o.owner_is, o.rests, o.lost)

      -- and neither in one of a lower controller,
      pub lower_loses_nothing : (other j : ℕ) → other < crashed → OrphanBy seen (seen.receiver m) (seen.sending m) other j → ⊥
      lower_loses_nothing other j below o =
          ⊎_elim (λ u. omega arith) (λ u. omega (arith, u.0)) ((said.dropped before after x m crashed i e drops).lowest other j o)

      -- nor in another of that one
      pub only_crash : (j : ℕ) → OrphanBy seen (seen.receiver m) (seen.sending m) crashed j → j ≡ i
      only_crash j o = ⊎_elim (λ u. absurd (omega arith)) (λ u. u.1) ((said.dropped before after x m crashed i e drops).lowest crashed j o)

    -- a hearing that rolls back
    module _ (before after : List Call) (hearer crashed i echoed kept undone replayed owner ended : ℕ) (e : l ≡ before ++ asks (Hear hearer crashed i) ∷ after)
        (answer : (step_in (up_to t g n k before) (Hear hearer crashed i)).answer ≡ Rolled echoed kept undone replayed owner ended) where
      -- names the crash that it was told of,
      pub rolled_names : (owner ≡ crashed) × (ended ≡ i)
      rolled_names = let (o, i, _) = said.rolled before after hearer crashed i echoed kept undone replayed owner ended e answer in (o, i)

      -- and something is undone, for that crash, and not for one that was heard before
      pub rolled_with_cause : let r = up_to t g n k before in
          let then = (next (asks (Hear hearer crashed i)) r).history in
          member (newest (r.history.chain hearer)) (r.history.chain hearer) ≡ true →
          OrphanBy then hearer (newest (r.history.chain hearer)) crashed i × (r.history.heard hearer crashed i ≡ false)
      rolled_with_cause live =
          let (_, _, f) = said.rolled before after hearer crashed i echoed kept undone replayed owner ended e answer in
          (f.each_orphan _ live f.newest_undone, f.unheard)

  -- MESSAGES AND CRASHES
  -- a set that is held holds each of its messages back,
  pub set_holds_back : (before after : List Call) (messages : List ℕ) (mask : ℕ) → l ≡ before ++ release_set messages ∷ after →
      (call_in (up_to t g n k before) (release_set messages)).answer ≡ SetHeld mask → (i : ℕ) → i < length messages → HeldIn t g n k l (nth messages i) mask
  set_holds_back before after messages mask e answer i below =
      record {
        before = before;
        call = release_set messages;
        after = after;
        is_in = e;
        holds_back = subst (λ a. HoldsBack (release_set messages) a (nth messages i) mask) (sym answer) (held_together messages i mask below);
      }

  -- and one that is released lets each of them out
  pub set_lets_out : (before after : List Call) (messages : List ℕ) (mask : ℕ) → l ≡ before ++ release_set messages ∷ after →
      (call_in (up_to t g n k before) (release_set messages)).answer ≡ SetReleased mask → (i : ℕ) → i < length messages → LetOutIn t g n k l (nth messages i) mask
  set_lets_out before after messages mask e answer i below =
      record {
        before = before;
        call = release_set messages;
        after = after;
        is_in = e;
        lets_go = subst (λ a. LetsGo (release_set messages) a (nth messages i) mask) (sym answer) (together messages i mask below);
      }

  -- a send to whomever, by whomever, sends its message
  pub send_sends : (before after : List Call) (sender receiver payload m : ℕ) → l ≡ before ++ asks (Send sender receiver payload) ∷ after →
      (step_in (up_to t g n k before) (Send sender receiver payload)).answer ≡ Sent m → SentIn t g n k l m
  send_sends before after sender receiver payload m e sent =
      record { before = before; after = after; sender = sender; receiver = receiver; payload = payload; is_in = e; answer = sent }

  -- a message that waits can be delivered
  pub waiting_is_deliverable : (m echoed : ℕ) → (step_in (up_to t g n k l) (Deliver m)).answer ≡ Waits echoed → Deliverable t g n k l m
  waiting_is_deliverable m echoed e =
      record {
        is_there = λ z. absurd (let q : ◌≡◌ {A = ℕ} 0 1 = cc in omega arith);
        is_released_lem = λ z. absurd (let q : ◌≡◌ {A = ℕ} 0 1 = cc in omega arith);
      }

  -- before its last incarnation a controller can hear every crash in the list
  pub hearing_is_accepted : (b : ℕ) → CanHear t g n k l b → h.incarnation b < last_incarnation → (c i : ℕ) → CrashIn t g n k l c i → h.heard b c i ≡ false →
      Accepted (step_in (up_to t g n k l) (Hear b c i)).answer
  hearing_is_accepted b can early c i crash unheard = ⊎_elim (λ a. a) (λ last. absurd (omega (arith, last.1))) (can c i crash unheard)

  -- ASKED
  -- C c, and then T c b, both done, when the sending interval had begun
  pub checkpoint_and_tell : (m b c : ℕ) (before between after : List Call) → l ≡ before ++ asks (Checkpoint c) ∷ (between ++ asks (Tell c b) ∷ after) →
      (up_to t g n k before).history.begun (h.sending m) ≡ true → (step_in (up_to t g n k before) (Checkpoint c)).answer ≡ Done →
      (step_in (up_to t g n k (before ++ asks (Checkpoint c) ∷ between)) (Tell c b)).answer ≡ Done → Asked t g n k l m b c
  checkpoint_and_tell m b c before between after e began done told =
      record {
        point = record {
          before = before;
          step = Checkpoint c;
          after = between ++ asks (Tell c b) ∷ after;
          is_in = e;
          secures = subst (Secures c (Checkpoint c)) (sym done) checkpoints;
          began = began;
        };
        tell = inr (record { between = between; after = after; is_in = refl; answer = told });
      }

  -- a hearing at which c undoes serves as a checkpoint
  pub rollback_secures : (m c crashed i echoed kept undone replayed owner ended : ℕ) (before after : List Call) → l ≡ before ++ asks (Hear c crashed i) ∷ after →
      (up_to t g n k before).history.begun (h.sending m) ≡ true → (step_in (up_to t g n k before) (Hear c crashed i)).answer ≡ Rolled echoed kept undone replayed owner ended →
      SecuredIn t g n k l m c
  rollback_secures m c crashed i echoed kept undone replayed owner ended before after e began rolled =
      record {
        before = before;
        step = Hear c crashed i;
        after = after;
        is_in = e;
        secures = subst (Secures c (Hear c crashed i)) (sym rolled) (undoes crashed i echoed kept undone replayed owner ended);
        began = began;
      }

  -- who was asked for another has told it: of an interval that is stable whenever it tells
  pub asked_has_told : (m b c : ℕ) → Asked t g n k l m b c → c ≢ b → (z : Interval) → z.owner ≡ c →
      ((before after : List Call) → l ≡ before ++ asks (Tell c b) ∷ after → (up_to t g n k before).history.stable z ≡ true) → Learned t g n k l b z
  asked_has_told m b c a other z mine stable =
      ⊎_elim (λ same. absurd (other same))
      (λ tell. let p = a.point in
      let first = p.before ++ asks p.step ∷ tell.between in
      let whole = p.is_in ∙ ap (λ q. p.before ++ asks p.step ∷ q) tell.is_in ∙ sym (append_assoc p.before (asks p.step ∷ tell.between) (asks (Tell c b) ∷ tell.after)) in
      was_told first tell.after (subst (λ d. l ≡ first ++ asks (Tell d b) ∷ tell.after) (sym mine) whole)
      (subst (λ d. (step_in (up_to t g n k first) (Tell d b)).answer ≡ Done) (sym mine) tell.answer) (stable first tell.after whole))
      a.tell

  -- who has heard a crash has word of every interval of the incarnation that it ended
  pub heard_has_word : (b : ℕ) → HasHeard t g n k l b → (z : Interval) → CrashIn t g n k l z.owner z.incarnation → Learned t g n k l b z
  heard_has_word b heard z crash = has_heard (heard z.owner z.incarnation crash)

  -- b needs nobody's word of its own intervals that are stable
  pub own_cleared : (m b : ℕ) → ((z : Interval) → z.owner ≡ b → h.rests (h.sending m) z ≡ true → h.stable z ≡ true) → Cleared t g n k l m b b
  own_cleared m b stable = each_learned (λ z mine rests. its_own mine (stable z mine rests))

  -- where each controller that a held release of m named was asked for its sender, all are cleared
  pub mask_cleared : (m mask : ℕ) → HeldIn t g n k l m mask → AllAsked t g n k l m mask (h.sending m).owner → AllCleared t g n k l m (h.sending m).owner
  mask_cleared m mask held asked c below = named? (named mask c) refl
    where
      named? : (b : Bool) → named mask c ≡ b → Cleared t g n k l m (h.sending m).owner c
      named? true e = was_asked (asked c below e)
      named? false e = held_without mask held e refl

  -- EVENTUALLY
  module _ (P : List Call → Type 0) (e : Eventually t g n k l P) (before after : List Call) where
    -- whatever is done for it is done,
    pub eventually_done : (x : Call) → e.more ≡ before ++ x ∷ after → (call_in (up_to t g n k (l ++ before)) x).answer ≡ Done
    eventually_done x is = (e.each before x after is).1

    -- it brings what it says,
    pub eventually_then : P (l ++ e.more)
    eventually_then = e.then

    -- and nothing of it is a release
    pub eventually_unreleased : (m : ℕ) → e.more ≡ before ++ asks (Release m) ∷ after → ⊥
    eventually_unreleased m is = none (asks (Release m)) refl (e.each before (asks (Release m)) after is).0
      where
        none : (x : Call) → x ≡ asks (Release m) → Spreads x → ⊥
        none _ z (by_checkpoint c) = absurd (let q : ◌≡◌ {A = ℕ} 0 1 = cc in omega arith)
        none _ z (by_telling teller told) = absurd (let q : ◌≡◌ {A = ℕ} 0 1 = cc in omega arith)

-- THE DISPATCHER
-- a call that serves c
module _ (r : Run) (c : ℕ) (s : Serves r c) (said : InTurn r c s) where
  -- answers as the delivery of its message, and leaves the ledger that this leaves;
  pub answers_as_D : ((call_in r dispatch).answer ≡ (step_in r (Deliver s.message)).answer) × ((call_in r dispatch).ledger ≡ (step_in r (Deliver s.message)).ledger)
  answers_as_D = (ap (λ (o : OutBoth). o.answer) said.performs, ap (λ (o : OutBoth). o.ledger) said.performs)

  -- c has its turn in the round, and a controller whose turn is before has no message that D would deliver or drop;
  pub earlier_have_none : (place : ℕ) × (place < size_in r) × (turn_in r place ≡ c)
      × ((i m : ℕ) → i < place → receiver_in r m ≡ turn_in r i → DeliveredOrDropped m (step_in r (Deliver m)).answer → ⊥)
  earlier_have_none = (said.place, said.short, said.whose, λ i m l for would. said.first i l (record { message = m; for = for; would = would }))

  -- nor has c one with a lower number
  pub lower_are_none : (m : ℕ) → m < s.message → receiver_in r m ≡ c → DeliveredOrDropped m (step_in r (Deliver m)).answer → ⊥
  lower_are_none m l for would = omega (arith, said.lowest (record { message = m; for = for; would = would }))

-- what is passed over is neither delivered nor dropped
pub passed_over_stays : {m n : ℕ} {a : Answer} → PassedOver m a → DeliveredOrDropped n a → ⊥
passed_over_stays F.waits d = elim d [ ]
passed_over_stays F.no_place_lem d = elim d [ ]

-- each of C by all and T by all to all stands in such a list, T after C
pub tells_after_checkpoint : {n : ℕ} {l : List Call} → AllTellAll n l → (c b : ℕ) → c < n → b < n → c ≢ b →
    (before between after : List Call) × (l ≡ before ++ asks (Checkpoint c) ∷ (between ++ asks (Tell c b) ∷ after))
tells_after_checkpoint all c b below near ne = let w = all.each c b below near ne in (w.before, w.between, w.after, w.is_in)
