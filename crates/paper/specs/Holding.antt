-- A message that was sent in a list, that no release and no set in it let out, and whose sending interval is live at its end, is held there.
use Rattle.std.specs.Prelude.{◌≡◌, refl, List, [], ◌∷◌, ◌++◌, ℕ, ◌+◌, ◌≤◌, ◌<◌}
use Rattle.std.proofs.Common.{sym, ◌∙◌, ap, subst, append-nil, ⊎_elim, arith}
use Rattle.base.specs.Choice.{cond_ind, le?}
use Rattle.table.specs.Field.{State, Incarnation, LiveCount, MessageState, Sender, SendingIncarnation, SendingNumber}
use Rattle.table.specs.Layout.{controllers}
use Rattle.table.specs.Words.{state}
use Rattle.table.specs.Numbering.{number_of, last_live, used, last_given, record_of}
use Rattle.table.proofs.Numbering.{present_pos, given_present, record_one}
use Rattle.rules.specs.Form.{state_held}
use Rattle.rules.specs.Step.{step, Call, asks, step_call}
use Rattle.rules.specs.declared.Answer.{Answer}
use Rattle.rules.specs.declared.Answer.TheVariants.{Done, Sent, Released}
use Rattle.rules.specs.declared.Command.{Command}
use Rattle.rules.specs.declared.Command.TheVariants.{Open, Send, Release}
use Rattle.history.specs.History.{Interval, interval, History, member, fed}
use Rattle.history.specs.Demand.{Run, step_in, next, just_opened, FromOpening, up_to}
use Rattle.history.specs.Progress.{SendingLive, NotLetOut}
use Rattle.model.specs.Model.{Model, open_model, put_controller, put_message, gap_model, logged_controller, end_controller, begin_controller, anew_controller, forced_model, cap_model, send_message, release_message}
use Rattle.model.specs.Tests.{Is}
use Rattle.model.proofs.Invariant.{Inv, Ext, spoilt_on}
use Rattle.model.proofs.Consequences.{on_chain_lem, live_clean, live_or_lost, sending_begun}
use Rattle.model.proofs.Recovery.{noted_controller}
use Rattle.calls.specs.Made.{NoDoneOpening, part_out, Unturned}
use Rattle.model.proofs.Runs.{Holds, Later, AtStep, along}
use Rattle.image.specs.Reads.{sent_is, incarnation_is, live_is, from_is, present_sent}
use Rattle.image.specs.Outcome as O
use Rattle.image.specs.Outcome.{Outcome}
use Rattle.image.proofs.Tables.{model_of, opening_done}
use Rattle.laws.specs.Answering.{Lent}
use Rattle.keeping.proofs.Unrefused.{Sound, sound_opened}
use Rattle.progress.specs.Causes.{NoneCauses}
use Rattle.progress.specs.Held.{Leaves, let_out_lem, undone}
use Rattle.progress.proofs.Tables.{none_causes_step, none_causes_open, same_record, held_step, sent_held, none_causes_served, there_served}
use Rattle.demand.specs.Demanded.{ReadOff, table_inv, table_outcome, follows}
use Rattle.demand.specs.InForm.{sound_next}
use Rattle.paper.specs.Ready.{state_of_message}
use Rattle.keeping.proofs.Dispatch.{sound_served}

-- the step sent message m
pub data Sends : Command → Answer → ℕ → Type 0 where
  sends : (sender receiver payload m : ℕ) → Sends (Send sender receiver payload) (Sent m) m

-- a forced checkpoint sends none
capped_sent : (μ : Model) (c : ℕ) → (cap_model μ c).sent ≡ μ.sent
unfolding cap_model put_controller
capped_sent μ c = cond_ind (λ (ν : Model). ν.sent ≡ μ.sent) (forced_model μ c) (λ e. refl) (λ e. refl)

-- a message that was not there before a step was sent by it
newly_sent : {n : ℕ} {μ : Model} {x : Command} {a : Answer} {j : ℕ} {μ' : Model} → Outcome n μ x a j μ' → NoDoneOpening x a →
    (m : ℕ) → μ.sent < m → m ≤ μ'.sent → Sends x a m
unfolding put_controller put_message gap_model send_message release_message
newly_sent (O.refused x number) o m l u = absurd (omega arith)
newly_sent (O.opened j k p q r) o m l u = absurd (o j k refl refl)
newly_sent (O.degree_set_lem d k p q) o m l u = absurd (omega arith)
newly_sent {μ = μ} (O.sent s r payload sender receiver ne) o m l u =
    let e : μ.sent + 1 ≡ m = omega arith in
    subst (λ z. Sends (Send s r payload) (Sent (μ.sent + 1)) z) e (sends s r payload (μ.sent + 1))
newly_sent (O.released i mask h w) o m l u = absurd (omega arith)
newly_sent (O.held i mask) o m l u = absurd (omega arith)
newly_sent (O.dropped i owner p h w y) o m l u = absurd (omega arith)
newly_sent (O.waits i) o m l u = absurd (omega arith)
newly_sent {μ = μ} (O.delivered i d e w) o m l u =
    absurd (let z = capped_sent (put_controller μ d (begin_controller d (μ.controller d) (μ.message i).vec)) d in omega arith)
newly_sent (O.logged d q below pos fits) o m l u = absurd (omega arith)
newly_sent (O.checkpointed d h) o m l u = absurd (omega arith)
newly_sent (O.told a b p q ne) o m l u = absurd (omega arith)
newly_sent {μ = μ} (O.crashed d lost h) o m l u =
    absurd (let z = capped_sent (put_controller μ d (anew_controller d (end_controller d (μ.controller d)) (μ.controller d).stable)) d in omega arith)
newly_sent (O.heard b a i w y) o m l u = absurd (omega arith)
newly_sent {μ = μ} (O.rolled b a i j gone w y) o m l u =
    absurd (let z = capped_sent (put_controller μ b (anew_controller b (logged_controller b (noted_controller μ b a i) j) j)) b in omega arith)
newly_sent (O.gap_set_lem q h) o m l u = absurd (omega arith)

-- so was one that is in a record after it and was in none before
pub just_sent : {n : ℕ} {r : Run} → Holds n (ReadOff n) r → (x : Command) → NoDoneOpening x (step_in r x).answer → (m : ℕ) → let σ = state r.table in
    let τ = state (step_in r x).table in
    used σ ≤ record_of σ m → record_of τ m < used τ → Sends x (step_in r x).answer m
just_sent {r = r} s x unopened m gone here =
    let σ = state r.table in
    let τ = state (step_in r x).table in
    let more : (model_of r.table).sent < m =
    le? m (last_given σ) (λ z. absurd (let q = given_present σ m (present_pos τ m here) z in omega arith)) (λ z. omega (arith, sent_is σ)) in
    newly_sent (table_outcome s x) unopened m more (present_sent τ m here)

-- one that was there before has the sending interval of before
pub same_sending : {n : ℕ} {r r' : Run} (s : Holds n (ReadOff n) r) → Later n (ReadOff n) s r' → (m : ℕ) →
    record_of (state r.table) m < used (state r.table) → r'.history.sending m ≡ r.history.sending m
same_sending {r = r} s q m there =
    let size = ap (λ (μ : Model). μ.sent) s.reads.model_is in
    q.keeps.sending_same m (omega (arith, present_sent (state r.table) m there))

-- one step, in a run with model μ and history h, whose message m is there: its sending interval is begun
module _ {n : ℕ} {h : History} (t : List ℕ) (v : Inv n (model_of t) h) (m : ℕ) (l : record_of (state t) m < used (state t)) where
  pos : 1 ≤ m
  pos = present_pos (state t) m l

  given : m ≤ (model_of t).sent
  given = present_sent (state t) m l

  pub sending_is : h.sending m ≡ interval (state t (Sender (record_of (state t) m))) (state t (SendingIncarnation (record_of (state t) m))) (state t (SendingNumber (record_of (state t) m)))
  sending_is = (v.message_ok_lem m pos given).sending_is ∙ from_is (state t) m l

  pub begun : Is (h.begun (h.sending m))
  begun = sending_begun v m pos given

  -- where it is live later, it was live before
  live_before : {μ' : Model} {h' : History} → Inv n μ' h' → Ext h h' → let y = h.sending m in Is (member y (h'.chain y.owner)) → Is (member y (h.chain y.owner))
  live_before v' later live =
      let y = h.sending m in
      let below = v.history.owner_below y begun in
      ⊎_elim (λ z. z) (λ r. absurd (live_clean v' y.owner below y live (spoilt_on later begun r))) (live_or_lost v y.owner below y refl begun)

  -- where its controller has started anew at or below its number, it is live no more
  gone : {h' : History} (t' : List ℕ) → Inv n (model_of t') h' → n ≤ controllers → let c = state t (Sender (record_of (state t) m)) in
      state t' (Incarnation c) ≡ state t (Incarnation c) + 1 → number_of (state t') c (state t' (LiveCount c)) ≤ state t (SendingNumber (record_of (state t) m)) →
      let y = h.sending m in
      Is (member y (h'.chain y.owner)) → ⊥
  gone {h'} t' v' fits later low live =
      let y = h.sending m in
      let below = v.history.owner_below y begun in
      let c = y.owner in
      let σ = state t in
      let τ = state t' in
      let ok = v'.controller_ok_lem c below in
      let on = on_chain_lem v' c below y live in
      let number = ap (λ (z : Interval). z.number) sending_is in
      let sender = ap (λ (z : Interval). z.owner) sending_is in
      let more : τ (Incarnation c) ≡ σ (Incarnation c) + 1 = subst (λ c. τ (Incarnation c) ≡ σ (Incarnation c) + 1) (sym sender) later in
      let above : last_live τ c ≤ σ (SendingNumber (record_of σ m)) = subst (λ c. last_live τ c ≤ σ (SendingNumber (record_of σ m))) (sym sender) low in
      let top = live_is τ c (omega arith) in
      let now = incarnation_is τ c (omega arith) in
      let before = incarnation_is σ c (omega arith) in
      let last = (v.controller_ok_lem c below).body.begun_le y.incarnation y.number begun in
      let shape = ok.shape in
      let first = shape.current_from y.number (omega (arith, shape.stable_le)) on.top in
      let is = ap (λ (z : Interval). z.incarnation) on.is in
      omega arith

-- what a step has just sent is held
sent_is_held : (t g : List ℕ) → Lent t → {x : Command} {a : Answer} {m : ℕ} → Sends x a m → (step t g x).answer ≡ a → state_of_message (step t g x).table m ≡ state_held
sent_is_held t g lent (sends sender receiver payload m) e = (sent_held t g sender receiver payload m lent e).1

-- what ends the holding of a message is a release that lets it out, or that its sending interval is live no more
left : {n : ℕ} {h h' : History} (t t' : List ℕ) (v : Inv n (model_of t) h) (v' : Inv n (model_of t') h') (m : ℕ) → record_of (state t) m < used (state t) → n ≤ controllers →
    {x : Command} {a : Answer} → Leaves (state t) (state t') (record_of (state t) m) x a → let y = h.sending m in Is (member y (h'.chain y.owner)) →
    (mask : ℕ) × (x ≡ Release m) × (a ≡ Released m mask)
left t t' v v' m l fits (let_out_lem i mask e) live =
    let is : i ≡ m = record_one (state t) i m (rw e l) l e in
    (mask, ap Release is, ap (λ i. Released i mask) is)
left t t' v v' m l fits (undone x a anew) live = absurd (gone t v m l t' v' fits anew.incarnation_is anew.number_le live)

-- at an opening no message is there
pub none_there : (t g : List ℕ) (n k : ℕ) → (step t g (Open n k)).answer ≡ Done → (m : ℕ) →
    let σ = state (just_opened t g n k).table in
    record_of σ m < used σ → ⊥
unfolding just_opened open_model
none_there t g n k done m here =
    let σ = state (step t g (Open n k)).table in
    let none = ap (λ (μ : Model). μ.sent) (opening_done t g n k done).model_is in
    omega (arith, present_pos σ m here, present_sent σ m here)

module _ (t g : List ℕ) (n k : ℕ) (l : List Call) (O : FromOpening t g n k l) (m : ℕ) (inside : NotLetOut t g n k l m) where
  -- in a run: m is held, where it is there and its sending interval is live; and what it takes to see that
  record Held (r : Run) : Type 0 where
    sound : Sound r.table r.ledger
    none : NoneCauses (state r.table)
    held : record_of (state r.table) m < used (state r.table) →
        let y = r.history.sending m in
        Is (member y (r.history.chain y.owner)) → state_of_message r.table m ≡ state_held

  -- at the opening
  held_opened : Held (just_opened t g n k)
  unfolding just_opened
  held_opened =
      record {
        sound = sound_opened t g n k O.done;
        none = none_causes_open t g n k O.done;
        held = λ here live. absurd (none_there t g n k O.done m here);
      }

  -- each step keeps it: m was there and held, or the step sent it
  held_next : (before : List Call) (x : Call) (after : List Call) → l ≡ before ++ x ∷ after → (r : Run) (y : Command) → AtStep (follows n) t g k before x r y →
      Held r → Held (next (asks y) r)
  unfolding next step_call fed
  held_next before x after e r y s w =
      record {
        sound = sound_next r (asks y) w.sound;
        none = none_causes_step r.table r.ledger y w.sound.table w.none;
        held = λ here live. le? (used σ) (record_of σ m) (λ gone. new here gone) (λ there. old there live);
      }
    where
      σ : State
      σ = state r.table

      u : List ℕ
      u = (step r.table r.ledger y).table

      later : History
      later = (next (asks y) r).history

      old : record_of σ m < used σ → let y = later.sending m in Is (member y (later.chain y.owner)) → state_of_message u m ≡ state_held
      old there live =
          let v = table_inv s.holds in
          let v' = table_inv s.one.holds in
          let keeps = s.one.keeps in
          let live' = subst (λ (y : Interval). Is (member y (later.chain y.owner))) (same_sending s.holds s.one m there) live in
          let lent = w.sound.table in
          ap (λ i. state u (MessageState i)) (same_record r.table r.ledger y lent s.unopened m there)
          ∙ ⊎_elim (λ z. z.is)
          (λ q. let (own, is, answer) = left r.table u v v' m there (opening_done t g n k O.done).size_le q.0 live' in
          let (mask, goes, _) = part_out m m own s.part is answer in
          absurd (inside mask (record { before = before; call = x; after = after; is_in = e; lets_go = goes })))
          (held_step r.table r.ledger y lent s.unopened m there w.none (w.held there (live_before r.table v m there v' keeps.ext live')))

      new : record_of (state u) m < used (state u) → used σ ≤ record_of σ m → state_of_message u m ≡ state_held
      new here gone = sent_is_held r.table r.ledger w.sound.table (just_sent s.holds y s.unopened m gone here) refl

  -- whoever was served last
  held_turned : Unturned Held
  held_turned q c lent low w =
      record {
        sound = sound_served q.table q.ledger c low w.sound;
        none = none_causes_served q.table c lent low w.none;
        held = λ here live. let (there, same) = there_served q.table c lent low m here in same ∙ w.held there live;
      }

  -- so it is held at the end of the list
  pub is_held : record_of (state (up_to t g n k l).table) m < used (state (up_to t g n k l).table) → SendingLive t g n k l m → state_of_message (up_to t g n k l).table m ≡ state_held
  is_held = (along (follows n) t g k l O Held held_turned held_opened held_next l [] (sym (append-nil l))).held
