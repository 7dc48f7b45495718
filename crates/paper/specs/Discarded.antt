-- What is held has a live sending interval. So a message whose sending interval is live no more is held no more: it was lost in a failure or
-- discarded as an orphan, or let out before, and its release is refused for its state.
use Rattle.std.specs.Prelude.{◌≡◌, refl, List, [], ◌∷◌, ◌++◌, ℕ, ◌+◌, ◌≤◌, ◌<◌}
use Rattle.std.proofs.Common.{sym, ◌∙◌, ap, subst, append-nil, inl, inr, ⊎_elim, arith}
use Rattle.base.specs.Choice.{◌<?◌, cond_ind, le?}
use Rattle.table.specs.Field.{State, MessageState, Sender}
use Rattle.table.specs.Layout.{controllers}
use Rattle.table.specs.Words.{state}
use Rattle.table.specs.Numbering.{used, record_of}
use Rattle.table.proofs.Numbering.{present_pos}
use Rattle.rules.specs.Refusal.{STATE}
use Rattle.rules.specs.Form.{state_held}
use Rattle.rules.specs.Step.{step, Call, asks, step_call}
use Rattle.rules.specs.declared.Answer.{Answer}
use Rattle.rules.specs.declared.Answer.TheVariants.{Refused}
use Rattle.rules.specs.declared.Command.{Command}
use Rattle.rules.specs.declared.Command.TheVariants.{Release}
use Rattle.history.specs.History.{Interval, interval, History, fed}
use Rattle.history.specs.Demand.{Run, step_in, next, just_opened, FromOpening, up_to}
use Rattle.history.specs.Progress.{SentIn, SendingLive}
use Rattle.model.specs.Model.{Controller, Message, Model, degree_controller, log_controller, logged_controller, tell_controller, end_controller, note_controller, anew_controller, gap_model, send_message, put_message, release_message}
use Rattle.model.proofs.Tests.{changed_at_same}
use Rattle.model.proofs.Invariant.{Inv, some_live}
use Rattle.model.proofs.Consequences.{chain_live}
use Rattle.model.proofs.Recovery.{noted_controller}
use Rattle.model.proofs.Lasting.{Lasts, LastsIn, lasts_same, unchanged, lasts_checkpoint, lasts_begun, lasts_anew, lasts_put, lasts_capped, LiveIn, SparedIn, stays_live}
use Rattle.calls.specs.Made.{NoDoneOpening, Unturned}
use Rattle.model.proofs.Runs.{AtStep, along}
use Rattle.image.specs.Reads.{present_sent, incarnation_is, live_is}
use Rattle.image.specs.Outcome as O
use Rattle.image.specs.Outcome.{Outcome}
use Rattle.image.proofs.Tables.{model_of, opening_done}
use Rattle.progress.specs.Held.{Spared}
use Rattle.progress.proofs.Tables.{same_record, held_before, there_served}
use Rattle.progress.proofs.Answers.{release_refused}
use Rattle.demand.specs.Demanded.{table_inv, table_outcome, follows}
use Rattle.keeping.proofs.Unrefused.{Sound, sound_opened}
use Rattle.demand.specs.InForm.{sound_next, sound_after}
use Rattle.paper.specs.Ready.{state_of_message, sent_there}
use Rattle.paper.specs.Holding.{Sends, sends, just_sent, same_sending, sending_is, begun, none_there}
use Rattle.keeping.proofs.Dispatch.{sound_served}

-- a step leaves the live intervals of a controller whose incarnation stays, and those below its new one where it starts anew
lasts : {n : ℕ} {μ : Model} {x : Command} {a : Answer} {j : ℕ} {μ' : Model} → Outcome n μ x a j μ' → NoDoneOpening x a → LastsIn μ μ'
unfolding degree_controller log_controller tell_controller end_controller note_controller anew_controller gap_model send_message put_message release_message
lasts {μ = μ} (O.refused x number) o = unchanged μ
lasts (O.opened j k p q r) o = absurd (o j k refl refl)
lasts {μ = μ} (O.degree_set_lem c k p q) o = lasts_put μ c _ (lasts_same (μ.controller c))
lasts {μ = μ} (O.sent s r payload sender receiver ne) o = unchanged μ
lasts {μ = μ} (O.released i mask h w) o = unchanged μ
lasts {μ = μ} (O.held i mask) o = unchanged μ
lasts {μ = μ} (O.dropped i owner p h w y) o = unchanged μ
lasts {μ = μ} (O.waits i) o = unchanged μ
lasts {μ = μ} (O.delivered i c e w) o = lasts_capped μ c _ (lasts_begun c (μ.controller c) (μ.message i).vec)
lasts {μ = μ} (O.logged c q below pos fits) o = lasts_put μ c _ (lasts_same (μ.controller c))
lasts {μ = μ} (O.checkpointed c h) o = lasts_put μ c _ (lasts_checkpoint (μ.controller c) (μ.controller c) c (lasts_same (μ.controller c)))
lasts {μ = μ} (O.told a b p q ne) o = lasts_put μ b _ (lasts_same (μ.controller b))
lasts {μ = μ} (O.crashed c lost h) o = lasts_capped μ c _ (lasts_anew c (μ.controller c) (μ.controller c).stable)
lasts {μ = μ} (O.heard b a i w y) o = lasts_put μ b _ (lasts_same (μ.controller b))
lasts {μ = μ} (O.rolled b a i j gone w y) o =
    let k = μ.controller b in
    lasts_capped μ b (anew_controller b (logged_controller b (noted_controller μ b a i) j) j)
    (cond_ind (λ (q : Controller). Lasts k (anew_controller b q j)) (k.stable <? j) (λ _. lasts_anew b k j) (λ _. lasts_anew b k j))
lasts {μ = μ} (O.gap_set_lem q h) o = unchanged μ

-- a message just sent comes from the newest interval of its sender
record FromNewest (n : ℕ) (μ : Model) (m : ℕ) : Type 0 where
  sender : ℕ
  below : sender < n
  from_is : let k = μ.controller sender in (μ.message m).from ≡ interval sender (k.begun_in k.live) k.live

from_newest : {n : ℕ} {μ : Model} {x : Command} {a : Answer} {m j : ℕ} {μ' : Model} → Sends x a m → Outcome n μ x a j μ' → FromNewest n μ' m
unfolding send_message
from_newest {μ = μ} (sends _ _ _ _) (O.sent s r p below receiver ne) =
    record { sender = s; below = below; from_is = ap (λ (g : Message). g.from) (changed_at_same μ.message (μ.sent + 1) _) }

-- so its sending interval is live
new_live : {n : ℕ} {μ : Model} {h : History} {m : ℕ} → Inv n μ h → 1 ≤ m → m ≤ μ.sent → FromNewest n μ m → LiveIn h (h.sending m)
new_live {μ = μ} {h} {m} v pos sent f =
    let c = f.sender in
    let top = some_live (v.controller_ok_lem c f.below).shape in
    subst (LiveIn h) (sym ((v.message_ok_lem m pos sent).sending_is ∙ f.from_is))
    (chain_live v c f.below _ (record { pos = top; top = omega arith; is = refl }))

-- a sender that has not started anew at or below the sending number, in terms of the model
spared_is : {n : ℕ} {h : History} (t t' : List ℕ) (v : Inv n (model_of t) h) (m : ℕ) → record_of (state t) m < used (state t) → n ≤ controllers →
    Spared (state t) (state t') (record_of (state t) m) → SparedIn (model_of t) (model_of t') (h.sending m)
spared_is t t' v m l fits low =
    let e = sending_is t v m l in
    let c = state t (Sender (record_of (state t) m)) in
    let owner : c < controllers = omega (arith, ap (λ (y : Interval). y.owner) e, v.history.owner_below _ (begun t v m l)) in
    subst (SparedIn (model_of t) (model_of t')) (sym e)
    (⊎_elim (λ q. inl (incarnation_is (state t') c owner ∙ q ∙ sym (incarnation_is (state t) c owner)))
    (λ q. inr (omega (arith, q, live_is (state t') c owner))) low)

module _ (t g : List ℕ) (n k : ℕ) (l : List Call) (O : FromOpening t g n k l) (m : ℕ) where
  -- in a run: where m is there and held, its sending interval is live; and the buffers are in form
  record HeldLive (r : Run) : Type 0 where
    sound : Sound r.table r.ledger
    live : record_of (state r.table) m < used (state r.table) → state_of_message r.table m ≡ state_held → LiveIn r.history (r.history.sending m)

  -- at the opening
  live_opened : HeldLive (just_opened t g n k)
  unfolding just_opened
  live_opened = record { sound = sound_opened t g n k O.done; live = λ here. absurd (none_there t g n k O.done m here) }

  -- each step keeps it: m was there and held, or the step sent it
  live_next : (before : List Call) (x : Call) (after : List Call) → l ≡ before ++ x ∷ after → (r : Run) (y : Command) → AtStep (follows n) t g k before x r y →
      HeldLive r → HeldLive (next (asks y) r)
  unfolding next step_call fed
  live_next before x after e r y s w =
      record { sound = sound_next r (asks y) w.sound; live = λ here held. le? (used σ) (record_of σ m) (λ gone. new here gone) (λ there. old held there) }
    where
      σ : State
      σ = state r.table

      u : List ℕ
      u = (step r.table r.ledger y).table

      later : History
      later = (next (asks y) r).history

      new : record_of (state u) m < used (state u) → used σ ≤ record_of σ m → LiveIn later (later.sending m)
      new here gone =
          new_live (table_inv s.one.holds) (present_pos (state u) m here) (present_sent (state u) m here)
          (from_newest (just_sent s.holds y s.unopened m gone here) (table_outcome s.holds y))

      old : state_of_message u m ≡ state_held → record_of σ m < used σ → LiveIn later (later.sending m)
      old held there =
          let v = table_inv s.holds in
          let lent = w.sound.table in
          let place = same_record r.table r.ledger y lent s.unopened m there in
          let kept = held_before r.table r.ledger y lent s.unopened m there (ap (λ i. state u (MessageState i)) (sym place) ∙ held) in
          let low = spared_is r.table u v m there (opening_done t g n k O.done).size_le kept.low in
          let owner = v.history.owner_below _ (begun r.table v m there) in
          let last = lasts (table_outcome s.holds y) s.unopened in
          subst (LiveIn later) (sym (same_sending s.holds s.one m there))
          (stays_live v (table_inv s.one.holds) last (r.history.sending m) owner low (w.live there kept.was))

  -- whoever was served last
  live_turned : Unturned HeldLive
  live_turned q c lent low w =
      record {
        sound = sound_served q.table q.ledger c low w.sound;
        live = λ here held. let (there, same) = there_served q.table c lent low m here in w.live there (sym same ∙ held);
      }

  -- so where it is held at the end of the list, its sending interval is live
  pub held_live : let r = up_to t g n k l in
      record_of (state r.table) m < used (state r.table) → state_of_message r.table m ≡ state_held → SendingLive t g n k l m
  held_live = (along (follows n) t g k l O HeldLive live_turned live_opened live_next l [] (sym (append-nil l))).live

  -- Where the sending interval of a message that was sent in the list is not live at its end, its release is refused for its state.
  pub discarded : SentIn t g n k l m → (SendingLive t g n k l m → ⊥) → (step_in (up_to t g n k l) (Release m)).answer ≡ Refused STATE
  discarded sent gone =
      let r = up_to t g n k l in
      let here = sent_there t g n k l O m sent in
      release_refused r.table r.ledger (sound_after t g n k O.done l) m here (λ held. gone (held_live here held))
