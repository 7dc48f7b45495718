-- Nothing is held for ever, whenever and among whatever other steps the controllers were asked: the theorems, for every list of calls from an
-- opening, at its end. Asked.antt has what they say.
use Rattle.std.specs.Prelude.{◌≡◌, Bool, true, false, List, ◌∷◌, ◌++◌, ◌≢◌, ◌⊎◌, ◌↔◌, ℕ, ◌+◌, ◌≤◌, ◌<◌}
use Rattle.std.proofs.Math.Path.{refl, subst}
use Rattle.std.proofs.Common.{sym, ◌∙◌, ap, ⊎_elim, arith}
use Rattle.std.proofs.Math.Logic.{inl, inr}
use Rattle.table.specs.Field.{State, Receiver, Incarnation, desk}
use Rattle.table.specs.Layout.{controllers}
use Rattle.table.specs.Words.{state}
use Rattle.table.specs.Numbering.{last_live, used, record_of}
use Rattle.table.proofs.Numbering.{present_pos, given_present}
use Rattle.rules.specs.Limits.{house}
use Rattle.rules.specs.Form.{state_held, state_released}
use Rattle.rules.specs.Vector.{message_vector, condemned}
use Rattle.rules.specs.Steps.{chain_full}
use Rattle.rules.specs.Step.{Call, asks}
use Rattle.rules.specs.declared.Answer.{Answer}
use Rattle.rules.specs.declared.Answer.TheVariants.{Done, Delivered}
use Rattle.rules.specs.declared.Command.{Command}
use Rattle.rules.specs.declared.Command.TheVariants.{Release, Deliver, Checkpoint, Tell}
use Rattle.laws.specs.Allowed.{no_place_number}
use Rattle.history.specs.History.{Interval, History, newest}
use Rattle.history.specs.Demand.{Run, step_in, named, RestsOnLost, FromOpening, up_to, end}
use Rattle.history.specs.Progress.{Orphan, Drops, SentIn, SendingLive, HeldIn, LetOutIn, NotLetOut, HasHeard, Deliverable}
use Rattle.history.specs.Asked.{Secures, SecuredIn, AllAsked, Cleared, out_without, was_asked, AllCleared, Names, Unlearned, GoesOut, GoesOutWithin, NotHeld, Begins, Arrives}
use Rattle.fairness.specs.Settling.{Unhindered, drops, known}
use Rattle.history.specs.Uses.{mask_cleared}
use Rattle.model.specs.Model.{Model, full, filtered, released_vec}
use Rattle.model.specs.Tests.{Is}
use Rattle.model.proofs.Tests.{contrary, eq?}
use Rattle.model.proofs.Invariant.{MessageOk, Inv, newest_is, ext_refl}
use Rattle.model.specs.Vectors.{Condemned}
use Rattle.model.proofs.Consequences.{orphan_up, sending_begun, release_degree, release_covers, release_named}
use Rattle.model.proofs.Paper.{useful_live, theorem_3_message}
use Rattle.base.specs.Ranges.{count, count_le}
use Rattle.image.specs.Reads.{sent_is, incarnation_is, live_is, present_sent, to_is}
use Rattle.image.proofs.Tables.{size_of, opening_done}
use Rattle.progress.proofs.Answers.{checkpoint_answers, tell_answers, record_in, receiver_in, deliverable_is, receiver_below, delivery_drops, dropped_condemned, delivery_goes, release_refused, condemned_there, known_there}
use Rattle.demand.specs.Demanded.{table_inv}
use Rattle.paper.specs.Ready.{Ready, model_in, state_of_message, there_ok, ready, sent_there}
use Rattle.paper.specs.Crashes.{heard_loss, live_sure}
use Rattle.paper.specs.Holding.{is_held}
use Rattle.paper.specs.Discarded.{held_live}
use Rattle.paper.specs.Spreading.{first, ready_at, grown_from}
use Rattle.paper.specs.Named.{held_covers, few_go}
use Rattle.paper.specs.Interleaved.{clear_emptied, sending_then, learned_known, held_clear, names_full, cleared_clear, all_emptied, held_goes_out, Clear}

-- what rests on one lost in a crash that was heard is an orphan
loss_orphan : {h : History} {b : ℕ} {y : Interval} → RestsOnLost h h b y → Orphan h y
loss_orphan o = record { on = o.on; crash = o.crash; rests = o.rests; lost = o.lost }

-- a test by its two cases
pub either : {A : Type 0} (b : Bool) → (b ≡ true → A) → (b ≡ false → A) → A
either true f g = f refl
either false f g = g refl

module _ (t g : List ℕ) (n k : ℕ) (l : List Call) (O : FromOpening t g n k l) where
  -- the run at the end of the list, its history and its model
  abbrev r : Run
  r = up_to t g n k l

  abbrev h : History
  h = end t g n k l

  abbrev μ : Model
  μ = model_in r

  abbrev u : List ℕ
  u = r.table

  s : Ready n r
  s = ready t g n k l O

  v : Inv n μ h
  v = table_inv s.holds

  -- once a message is sent, its sending interval has begun, and it is that at the end
  pub sent_began : (m : ℕ) (before rest : List Call) → l ≡ before ++ rest → SentIn t g n k before m → (up_to t g n k before).history.begun (h.sending m) ≡ true
  sent_began m before rest e sent =
      let q = up_to t g n k before in
      let there = sent_there t g n k before (first t g n k l O before rest e) m sent in
      let v' = table_inv (ready_at t g n k l O before rest e).holds in
      subst (λ (y : Interval). Is (q.history.begun y)) (sym (sending_then t g n k l O before rest e m there))
      (sending_begun v' m (present_pos _ m there) (present_sent _ m there))

  -- so a step after the send that secures c secures it for m
  unfoldable pub secured_since : (m c : ℕ) (before : List Call) (x : Command) (after : List Call) → l ≡ before ++ asks x ∷ after →
      Secures c x (step_in (up_to t g n k before) x).answer → SentIn t g n k before m → SecuredIn t g n k l m c
  secured_since m c before x after e secures sent =
      record { before = before; step = x; after = after; is_in = e; secures = secures; began = sent_began m before (asks x ∷ after) e sent }

  -- Whatever the list, every controller can checkpoint at its end, and tell every other: both are done.
  pub checkpoint_is_done : (c : ℕ) → c < n → (step_in r (Checkpoint c)).answer ≡ Done
  checkpoint_is_done c below = checkpoint_answers u r.ledger s.sound c (subst (λ j. c < j) (sym s.holds.reads.size_is) below)

  pub tell_is_done : (a b : ℕ) → a < n → b < n → a ≢ b → (step_in r (Tell a b)).answer ≡ Done
  tell_is_done a b p q ne =
      let size : size_of u ≡ n = s.holds.reads.size_is in
      tell_answers u r.ledger s.sound a b (subst (λ j. a < j) (sym size) p) (subst (λ j. b < j) (sym size) q) ne

  -- a message that was held, by its release or in a set, is there at the end
  pub held_there : (m mask : ℕ) → HeldIn t g n k l m mask → record_of (state u) m < used (state u)
  held_there m mask held =
      let rest = held.call ∷ held.after in
      let q = up_to t g n k held.before in
      let (there, covers) = held_covers q.table q.ledger (ready_at t g n k l O held.before rest held.is_in).sound held.holds_back refl in
      given_present (state u) m (present_pos _ m there)
      (omega (arith, present_sent _ m there, (grown_from t g n k l O held.before rest held.is_in).sent_le, sent_is (state u)))

  -- THE RELEASE
  module _ (m : ℕ) where
    -- its sender
    abbrev sender : ℕ
    sender = (h.sending m).owner

    -- a message that is there was sent from a controller of the house
    sender_below : record_of (state u) m < used (state u) → sender < n
    sender_below here = v.history.owner_below _ (sending_begun v m (present_pos _ m here) (present_sent _ m here))

    -- where it is held and its sender has heard every crash, its sending interval rests on nothing lost
    held_sure : (here : record_of (state u) m < used (state u)) → state_of_message u m ≡ state_held → HasHeard t g n k l sender → Orphan h (h.sending m) → ⊥
    held_sure here held heard = live_sure t g n k l O sender (sender_below here) heard (h.sending m) (held_live t g n k l O m here held)

    -- By the mask: let a release of m in the list, or a set with m, have been held, and each controller that it names have been asked. Where the sender has heard
    -- every crash, the release of m at the end answers `released m 0` (or 18), unless it is refused with 7.
    pub mask_asked : (mask : ℕ) → HeldIn t g n k l m mask → AllAsked t g n k l m mask sender → HasHeard t g n k l sender → NotHeld t g n k l m ⊎ GoesOut t g n k l m
    mask_asked mask held asked heard =
        let here = held_there m mask held in
        eq? (state_of_message u m) state_held (λ is. inr (held_goes_out t g n k l O m here (held_sure here is heard) is (mask_cleared t g n k l m mask held asked)))
        (λ other. inl (release_refused u r.ledger s.sound m here other))

    -- where no release let it out and its sending interval rests on nothing lost, heard or not
    pub useful_goes : SentIn t g n k l m → NotLetOut t g n k l m → (Orphan h (h.sending m) → ⊥) → AllCleared t g n k l m sender → GoesOut t g n k l m
    useful_goes sent inside sure all =
        let here = sent_there t g n k l O m sent in
        let begun = sending_begun v m (present_pos _ m here) (present_sent _ m here) in
        held_goes_out t g n k l O m here sure (is_held t g n k l O m inside here (useful_live v (h.sending m) (record { begun = begun; sure = sure }))) all

    -- where its sending interval is live and its sender has heard every crash
    pub live_goes : SentIn t g n k l m → NotLetOut t g n k l m → SendingLive t g n k l m → HasHeard t g n k l sender → AllCleared t g n k l m sender → GoesOut t g n k l m
    live_goes sent inside live heard =
        useful_goes sent inside (live_sure t g n k l O sender (sender_below (sent_there t g n k l O m sent)) heard (h.sending m) live)

    -- ALL BUT K
    -- Not every controller need be cleared: where those that are left are no more than the sender's degree, a message to a controller is let out,
    -- and names only those.
    pub all_but : record_of (state u) m < used (state u) → HasHeard t g n k l sender → h.receiver m ≢ desk → (left : ℕ → Bool) → count controllers left ≤ h.degree sender →
        ((c : ℕ) → c < n → left c ≡ false → Cleared t g n k l m sender c) → NotHeld t g n k l m ⊎ GoesOutWithin t g n k l m left
    unfolding released_vec
    all_but here heard away left few cleared =
        eq? (state_of_message u m) state_held (λ held. inr (out held)) (λ other. inl (release_refused u r.ledger s.sound m here other))
      where
        pos : 1 ≤ m
        pos = present_pos _ m here

        sent : m ≤ μ.sent
        sent = present_sent _ m here

        message : MessageOk h m (μ.message m)
        message = there_ok u v m here

        out : state_of_message u m ≡ state_held → GoesOutWithin t g n k l m left
        out held =
            let sure = held_sure here held heard in
            let go = few_go u r.ledger s.sound m here held in
            let within : (c : ℕ) → named go.mask c ≡ true → left c ≡ true =
            λ c is. either (left c) (λ e. e) (λ e. let filled = sym (go.names c) ∙ is in
            let filled' = subst (λ (z : Interval). full (filtered (μ.controller z.owner) (μ.message m).vec c) ≡ true) (sym message.sending_is) filled in
            let near = v.history.owner_below _ (v.history.rests_begun _ _ (sending_begun v m pos sent) (release_named v m pos sent c filled).rests) in
            let owner = (release_named v m pos sent c filled).owner_is in
            contrary filled' (clear_emptied μ m sender c (cleared_clear t g n k l O m here sure sender c (sender_below here) (cleared c (subst (λ d. d < n) owner near) e)))) in
            record {
              mask = go.mask;
              answer = go.goes (λ e. away (message.receiver_is ∙ e)) (omega (arith, count_le controllers (named go.mask) left within, few, release_degree v m pos sent));
              within = within;
            }

    -- MASKS
    -- A controller that a held release of m didn't name is named by no later release of m.
    pub masks_shrink : (mask later : ℕ) {a : Answer} → HeldIn t g n k l m mask → Names later a → (step_in r (Release m)).answer ≡ a →
        (c : ℕ) → named mask c ≡ false → named later c ≡ false
    unfolding released_vec
    masks_shrink mask later held shown e c unnamed =
        let (here, names) = names_full t g n k l O m later shown e in
        let clear = held_clear t g n k l O m sender c mask held unnamed refl in
        names c ∙ subst (λ (y : Interval). full (filtered (μ.controller y.owner) (μ.message m).vec c) ≡ false) (there_ok u v m here).sending_is (clear_emptied μ m sender c clear)

    -- A release names the controller of each interval that its sending interval rests on and that is not stable.
    pub unstable_named : (mask : ℕ) {a : Answer} → Names mask a → (step_in r (Release m)).answer ≡ a →
        (z : Interval) → h.rests (h.sending m) z ≡ true → h.stable z ≡ false → named mask z.owner ≡ true
    unstable_named mask shown e z rests unstable =
        let (here, names) = names_full t g n k l O m mask shown e in
        names z.owner ∙ (release_covers v m (present_pos _ m here) (present_sent _ m here) (ext_refl h) refl z rests unstable).1

    -- A release names c only with cause, where its sending interval rests on nothing lost.
    pub named_with_cause : (mask : ℕ) {a : Answer} → Names mask a → (step_in r (Release m)).answer ≡ a → (Orphan h (h.sending m) → ⊥) →
        (c : ℕ) → named mask c ≡ true → Unlearned t g n k l m sender c
    named_with_cause mask shown e sure c is =
        let (here, names) = names_full t g n k l O m mask shown e in
        let pos = present_pos _ m here in
        let sent = present_sent _ m here in
        let begun = sending_begun v m pos sent in
        let why = release_named v m pos sent c (sym (names c) ∙ is) in
        let z = why.on in
        record {
          on = z;
          owner_is = why.owner_is;
          rests = why.rests;
          no_word = λ word.
              let known = learned_known t g n k l O sender (sender_below here) z (v.history.rests_begun _ z begun why.rests) (λ o. sure (orphan_up v.history begun why.rests o)) word in
              let less = subst (λ d. (μ.controller sender).known d z.incarnation < z.number) (sym why.owner_is) why.unknown in
              omega (arith, known, less);
        }

  -- THE DELIVERY
  module _ (m : ℕ) (can : Deliverable t g n k l m) where
    -- its receiver
    abbrev c : ℕ
    c = h.receiver m

    -- the message is there, and released
    is_released_lem : (record_in u m < used (state u)) × (state_of_message u m ≡ state_released)
    is_released_lem = deliverable_is u r.ledger s.sound m can.is_there can.is_released_lem

    here : record_of (state u) m < used (state u)
    here = is_released_lem.0

    receiver_is : state u (Receiver (record_of (state u) m)) ≡ c
    receiver_is = sym (to_is (state u) m here) ∙ sym (there_ok u v m here).receiver_is

    -- to a controller of the house
    pub receiver_in_lem : c < n
    receiver_in_lem = omega (arith, receiver_is, s.holds.reads.size_is, receiver_below u r.ledger s.sound m here is_released_lem.1)

    -- its vector is condemned to its receiver, which the delivery sees by the words
    abbrev Doomed : Type 0
    Doomed = Condemned n (μ.controller c) (μ.message m).vec

    doomed_is : Condemned (size_of u) (μ.controller (receiver_in u m)) (μ.message m).vec ≡ Doomed
    doomed_is = λ d. Condemned (s.holds.reads.size_is d) (μ.controller (receiver_is d)) (μ.message m).vec

    -- just where its sending interval rests on one lost in a crash that the receiver has heard
    judged : Doomed ↔ RestsOnLost h h c (h.sending m)
    judged = theorem_3_message v m c (present_pos _ m here) (present_sent _ m here) receiver_in_lem

    -- so it is dropped there, and only there
    pub dropped_exactly : Drops m (step_in r (Deliver m)).answer ↔ RestsOnLost h h c (h.sending m)
    dropped_exactly = (
      λ e. judged.0 (subst (λ X. X) doomed_is (dropped_condemned u r.ledger s.sound m here is_released_lem.1 e)),
      λ o. delivery_drops u r.ledger s.sound m here is_released_lem.1 (subst (λ X. X) (sym doomed_is) (judged.1 o)),
    )

    -- the receiver's incarnation and its highest number, by the words and by the history
    abbrev σ : State
    σ = state u

    near : c < controllers
    near = omega (arith, receiver_in_lem, (opening_done t g n k O.done).size_le)

    incarnation_now : σ (Incarnation c) ≡ h.incarnation c
    incarnation_now = sym (incarnation_is σ c near) ∙ sym (v.controller_ok_lem c receiver_in_lem).shape.incarnation_is

    number_now : last_live σ c ≡ (newest (h.chain c)).number
    number_now = sym (live_is σ c near) ∙ sym (ap (λ (y : Interval). y.number) (newest_is (v.controller_ok_lem c receiver_in_lem).shape))

    begins : let b = receiver_in u m in
        Delivered m (σ (Incarnation b)) (last_live σ b + 1) ≡ Delivered m (h.incarnation c) ((newest (h.chain c)).number + 1)
    begins =
        (λ d. let b = receiver_is d in Delivered m (σ (Incarnation b)) (last_live σ b + 1))
        ∙ (λ d. Delivered m (incarnation_now d) (number_now d + 1))

    no_place_lem : chain_full house σ (receiver_in u m) ≡ true → house.places ≤ (newest (h.chain c)).number
    no_place_lem q = subst (λ x. house.places ≤ x) (ap (last_live σ) receiver_is ∙ number_now) (no_place_number house σ (receiver_in u m) _ q)

    -- Where its controllers are cleared for its receiver and its sending interval rests on nothing lost, it doesn't wait, whatever that has heard.
    pub useful_arrives : AllCleared t g n k l m c → (Orphan h (h.sending m) → ⊥) → Begins t g n k l m
    useful_arrives all sure =
        ⊎_elim (λ e. inl (e ∙ begins)) (λ e. inr (e.0, no_place_lem e.1))
        (delivery_goes u r.ledger s.sound m here is_released_lem.1 (λ z. sure (loss_orphan (judged.0 (subst (λ X. X) doomed_is z))))
        (subst (λ b. (a : ℕ) → full (filtered (μ.controller b) (μ.message m).vec a) ≡ false) (sym receiver_is) (all_emptied t g n k l O m here sure c receiver_in_lem all)))

    -- Where its receiver has heard every crash besides, it is dropped just where its sending interval is an orphan.
    pub cleared_arrives : AllCleared t g n k l m c → HasHeard t g n k l c → Arrives t g n k l m
    cleared_arrives all heard =
        record { dropped = (λ e. loss_orphan (dropped_exactly.0 e), λ o. dropped_exactly.1 (heard_loss t g n k l O c heard (h.sending m) o)); otherwise = useful_arrives all }

    -- Where its receiver has heard every crash and the others are cleared for it, nothing hinders it: it is condemned, or the receiver knows all that its
    -- vector names of others to be stable.
    pub unhindered : ((a : ℕ) → a < n → a ≢ c → Cleared t g n k l m c a) → HasHeard t g n k l c → Unhindered σ (record_of σ m)
    unhindered others heard =
        either (condemned σ (receiver_in u m) (message_vector σ (record_of σ m))) (λ e. drops e)
        (λ e. let sure : Orphan h (h.sending m) → ⊥ = λ o.
        contrary (condemned_there u r.ledger s.sound m here is_released_lem.1 (subst (λ X. X) (sym doomed_is) (judged.1 (heard_loss t g n k l O c heard (h.sending m) o)))) e in
        known (λ a low other. known_there u r.ledger s.sound m here is_released_lem.1 a low
        (λ below. subst (λ b. Clear μ m b a) (sym receiver_is)
        (cleared_clear t g n k l O m here sure c a receiver_in_lem (others a (omega (arith, below, s.holds.reads.size_is)) (λ z. other (z ∙ sym receiver_is)))))))

    -- By the mask of its release: let each controller that it names have been asked.
    pub mask_arrives : (mask : ℕ) → LetOutIn t g n k l m mask → AllAsked t g n k l m mask c → HasHeard t g n k l c → Arrives t g n k l m
    mask_arrives mask out asked = cleared_arrives (λ a near. either (named mask a) (λ e. was_asked (asked a near e)) (λ e. out_without mask out e))
