-- Nothing is held for ever, whatever stands between: a held message goes out, and a released one arrives, once each controller that its mask
-- names has checkpointed after the send and has told the sender, or the receiver, after that, wherever these steps stand in the list.
use Rattle.std.specs.Prelude.{◌≡◌, ◌&&◌, List, ◌∷◌, ◌++◌, ◌≢◌, ℕ, ◌≤◌, ◌<◌, ◌==◌}
use Rattle.std.proofs.Math.Path.{refl, sym, ap, subst}
use Rattle.std.proofs.Common.{◌∙◌, append_assoc, ⊎_elim, arith}
use Rattle.std.proofs.Math.Bool.{false, cond}
use Rattle.base.specs.Choice.{◌≤?◌, cond_ind, le?}
use Rattle.table.specs.Field.{desk}
use Rattle.table.specs.Words.{state}
use Rattle.table.specs.Numbering.{used, record_of}
use Rattle.table.proofs.Numbering.{present_pos, given_present}
use Rattle.rules.specs.Limits.{last_entry}
use Rattle.rules.specs.Refusal.{LEDGER_USED_UP}
use Rattle.rules.specs.Form.{state_held}
use Rattle.rules.specs.Ledger.{count_of}
use Rattle.rules.specs.Step.{Call, asks, step_call}
use Rattle.rules.specs.declared.Answer.{Answer}
use Rattle.rules.specs.declared.Answer.TheVariants.{Done, Released, Crashed, Rolled, Refused}
use Rattle.rules.specs.declared.Command.{Command}
use Rattle.rules.specs.declared.Command.TheVariants.{Release, Checkpoint, Tell, Crash, Hear}
use Rattle.history.specs.History.{Interval, History, member}
use Rattle.history.specs.Demand.{Run, step_in, next, named, FromOpening, up_to, end}
use Rattle.history.specs.Progress.{HeldIn, LetOutIn}
use Rattle.history.specs.Asked.{Learned, its_own, was_told, has_heard, Secures, checkpoints, crashes, undoes, SecuredIn, TellAfter, Cleared, held_without, out_without, was_asked, each_learned, Names, names_held, names_out, GoesOut}
use Rattle.model.specs.Model.{interval_of, Controller, Message, Model, full, filtered, put_controller, logged_controller, forced_model, cap_model, end_controller, anew_controller, put_message, released_vec, release_message}
use Rattle.model.specs.Tests.{Is}
use Rattle.model.proofs.Tests.{contrary, fails, changed_at_same}
use Rattle.model.proofs.Invariant.{MessageOk, Inv, Ext, spoilt_on, rests_back}
use Rattle.model.proofs.Vectors.{pos_full, filtered_ind}
use Rattle.model.proofs.Consequences.{spoilt_orphan, orphan_up, on_chain_lem, live_or_lost, sending_begun}
use Rattle.model.proofs.Paper.{useful_live}
use Rattle.model.proofs.Steps.{LetsOut}
use Rattle.model.proofs.Securing.{Secured, secured_here, told_model, tell_tells}
use Rattle.model.proofs.Recovery.{noted_controller}
use Rattle.model.proofs.Informed.{Sure}
use Rattle.calls.specs.Made.{NotDone, out_part, part_ind, part_on}
use Rattle.model.proofs.Runs.{in_list, part, later}
use Rattle.image.specs.Reads.{sent_is, present_sent, to_is}
use Rattle.image.specs.Outcome as O
use Rattle.image.specs.Outcome.{Outcome}
use Rattle.image.proofs.Tables.{model_of, size_of}
use Rattle.progress.proofs.Answers.{release_answers}
use Rattle.testers.specs.Ledgers.{count_ledger}
use Rattle.demand.specs.Demanded.{table_inv, table_outcome, follows}
use Rattle.demand.proofs.Beyond.{ledger_cites}
use Rattle.paper.specs.Ready.{Ready, model_in, state_of_message, there_ok, ready_kept, done_outcome, ready}
use Rattle.paper.specs.Holding.{same_sending}
use Rattle.paper.specs.Spreading.{Grown, grown_self, grown_trans, ReadyFrom, grown_kept, grown_next, first, ready_at, grown_from, grown_after, grown_turned}
use Rattle.paper.specs.Named.{held_names, held_covers}

-- ONE RUN
-- the controller of a stable live interval knows it
knows_own : {n : ℕ} {r : Run} → Ready n r → (z : Interval) → z.owner < n → Is (r.history.stable z) → Is (member z (r.history.chain z.owner)) →
    z.number ≤ ((model_in r).controller z.owner).known z.owner z.incarnation
knows_own s z below stable live =
    let c = z.owner in
    let v = table_inv s.holds in
    let on = on_chain_lem v c below z live in
    let upto = (v.controller_ok_lem c below).body.stable_only z.number on.pos on.top (rw on.is at stable) in
    rw (ap (λ (j : Interval). j.incarnation) on.is) ((s.informed c below).own z.number on.pos upto)

-- a telling that is done
tell_done : {n : ℕ} {μ : Model} {a b : ℕ} {j : ℕ} {μ' : Model} → Outcome n μ (Tell a b) Done j μ' → (a < n) × (a ≢ b) × (μ' ≡ told_model μ a b)
tell_done (O.told a b p q ne) = (p, ne, refl)

-- after it, who was told knows each stable live interval of the teller
pub telling_knows : {n : ℕ} {r : Run} → Ready n r → (z : Interval) (b : ℕ) → let x = Tell z.owner b in
    (step_in r x).answer ≡ Done → Is (r.history.stable z) → Is (member z (r.history.chain z.owner)) →
    z.number ≤ ((model_in (next (asks x) r)).controller b).known z.owner z.incarnation
unfolding step_call
telling_knows {r = r} s z b done stable live =
    let c = z.owner in
    let i = z.incarnation in
    let x = asks (Tell c b) in
    let (below, ne, is) = tell_done (done_outcome s (Tell c b) done) in
    let told = subst (λ (ν : Model). (ν.controller c).known c i ≤ (ν.controller b).known c i) (sym is) (tell_tells (model_in r) c b ne i) in
    let unopened : NotDone r x = λ size degree e. absurd (let q : ◌≡◌ {A = ℕ} 0 1 = cc in omega arith) in
    omega (arith, knows_own s z below stable live, told, (grown_next s x unopened).known_le c c i)

-- a release that lets its message out
out_found : {n : ℕ} {μ : Model} {m echoed mask j : ℕ} {μ' : Model} → Outcome n μ (Release m) (Released echoed mask) j μ' → LetsOut μ m mask × (μ' ≡ release_message μ m)
out_found (O.released m mask l w) = (l, refl)

-- a step that secures c leaves all stable that is live there
capped_secured : (ν : Model) (c : ℕ) → Secured ν c → Secured (cap_model ν c) c
unfolding cap_model
capped_secured ν c e = cond_ind (λ (q : Model). Secured q c) (forced_model ν c) (λ _. secured_here ν c (omega (arith, e))) (λ _. e)

anew_secured : (μ : Model) (c : ℕ) (k : Controller) (j : ℕ) → Secured (cap_model (put_controller μ c (anew_controller c k j)) c) c
unfolding put_controller anew_controller
anew_secured μ c k j =
    capped_secured (put_controller μ c (anew_controller c k j)) c (rw (changed_at_same μ.controller c (anew_controller c k j)))

by_checkpoint : {n : ℕ} {μ : Model} {h : History} {c : ℕ} {j : ℕ} {μ' : Model} → Inv n μ h → Outcome n μ (Checkpoint c) Done j μ' → (c < n) × Secured μ' c
by_checkpoint {μ = μ} v (O.checkpointed c below) = (below, secured_here μ c (v.controller_ok_lem c below).shape.stable_le)

by_crash : {n : ℕ} {μ : Model} {c echoed i kept lost replayed : ℕ} {j : ℕ} {μ' : Model} → Outcome n μ (Crash c) (Crashed echoed i kept lost replayed) j μ' → (c < n) × Secured μ' c
by_crash {μ = μ} (O.crashed c lost below) = (below, anew_secured μ c (end_controller c (μ.controller c)) (μ.controller c).stable)

by_hearing : {n : ℕ} {μ : Model} {c a i echoed kept undone replayed owner ended : ℕ} {j : ℕ} {μ' : Model} → Outcome n μ (Hear c a i) (Rolled echoed kept undone replayed owner ended) j μ' → (c < n) × Secured μ' c
by_hearing {μ = μ} (O.rolled c a i x undone w y) = (w.hearer_below, anew_secured μ c (logged_controller c (noted_controller μ c a i) x) x)

secured_after : {n : ℕ} {μ : Model} {h : History} (c : ℕ) {x : Command} {a : Answer} {j : ℕ} {μ' : Model} → Inv n μ h → Outcome n μ x a j μ' → Secures c x a → (c < n) × Secured μ' c
secured_after c v o checkpoints = by_checkpoint v o
secured_after c v o (crashes echoed i kept lost replayed) = by_crash o
secured_after c v o (undoes crashed i echoed kept undone replayed owner ended) = by_hearing o

-- what is live at a secured controller is stable
secured_stable : {n : ℕ} {μ : Model} {h : History} → Inv n μ h → (c : ℕ) → c < n → Secured μ c → (z : Interval) → Is (member z (h.chain c)) → Is (h.stable z)
secured_stable v c below e z live =
    let on = on_chain_lem v c below z live in
    rw on.is ((v.controller_ok_lem c below).body.stable_upto z.number on.pos (omega (arith, on.top)))

-- an interval that is begun, and rests on nothing lost in a later history, is live
live_in : {n : ℕ} {μ : Model} {h' h : History} → Inv n μ h' → Ext h' h → (z : Interval) → Is (h'.begun z) → Sure h z → Is (member z (h'.chain z.owner))
live_in v later z begun sure =
    ⊎_elim (λ q. q) (λ q. absurd (sure (spoilt_orphan (spoilt_on later begun q)))) (live_or_lost v z.owner (v.history.owner_below z begun) z refl begun)

-- the pair of c in the vector of message m is one that filtering for b empties
abbrev pub Clear : Model → ℕ → ℕ → ℕ → Type 0
Clear μ m b c = ((μ.message m).vec c).number ≤ (μ.controller b).known c ((μ.message m).vec c).incarnation

-- it stays so
clear_on : {μ μ' : Model} → Grown μ μ' → (m b c : ℕ) → m ≤ μ.sent → Clear μ m b c → Clear μ' m b c
clear_on {μ} {μ'} p m b c sent clear =
    ⊎_elim (λ e. rw e (omega (arith, clear, p.known_le b c ((μ.message m).vec c).incarnation))) (λ e. rw e (omega arith)) (p.pair_kept m sent c)

-- a pair that filtering left empty
emptied_clear : (μ : Model) (m b c : ℕ) → full (filtered (μ.controller b) (μ.message m).vec c) ≡ false → Clear μ m b c
emptied_clear μ m b c =
    filtered_ind (λ q. full q ≡ false → Clear μ m b c) (μ.controller b) (μ.message m).vec c (λ l _. l)
    (λ l e. contrary (pos_full ((μ.message m).vec c) (omega arith)) e)

-- and the other way round
pub clear_emptied : (μ : Model) (m b c : ℕ) → Clear μ m b c → full (filtered (μ.controller b) (μ.message m).vec c) ≡ false
unfolding full
clear_emptied μ m b c l =
    filtered_ind (λ q. full q ≡ false) (μ.controller b) (μ.message m).vec c (λ _. refl) (λ u. absurd (omega arith))

-- LISTS
module _ (t g : List ℕ) (n k : ℕ) (l : List Call) (O : FromOpening t g n k l) where
  -- the run at the end of the list, its history and its model
  abbrev r : Run
  r = up_to t g n k l

  abbrev h : History
  h = end t g n k l

  abbrev μ : Model
  μ = model_in r

  s : Ready n r
  s = ready t g n k l O

  v : Inv n μ h
  v = table_inv s.holds

  -- after a first part of the list
  module _ (before rest : List Call) (e : l ≡ before ++ rest) where
    -- the history at the end is later
    ext : Ext (up_to t g n k before).history h
    ext = (later (follows n) t g k l O before rest e).keeps.ext

    -- a message that was there then has the sending interval of then
    pub sending_then : (m : ℕ) → let q = up_to t g n k before in
        record_of (state q.table) m < used (state q.table) → h.sending m ≡ q.history.sending m
    sending_then m here = same_sending (part (follows n) t g k l O before rest e) (later (follows n) t g k l O before rest e) m here

  -- b knows an interval of which it has word
  pub learned_known : (b : ℕ) → b < n → (z : Interval) → Is (h.begun z) → Sure h z → Learned t g n k l b z → z.number ≤ (μ.controller b).known z.owner z.incarnation
  unfolding step_call
  learned_known b below z begun sure (its_own e stable) =
      subst (λ c. z.number ≤ (μ.controller c).known z.owner z.incarnation) e
      (knows_own s z (v.history.owner_below z begun) stable (useful_live v z (record { begun = begun; sure = sure })))
  learned_known b below z begun sure (was_told before after e done stable) =
      let x = asks (Tell z.owner b) in
      let s' = ready_at t g n k l O before (x ∷ after) e in
      let v' = table_inv s'.holds in
      let live = live_in v' (ext before (x ∷ after) e) z (v'.history.stable_begun z stable) sure in
      omega (arith, telling_knows s' z b done stable live, (grown_after t g n k l O before x after e).known_le b z.owner z.incarnation)
  learned_known b below z begun sure (has_heard heard) =
      let c = z.owner in
      let i = z.incarnation in
      let ok = (v.controller_ok_lem c (v.history.owner_below z begun)).ended in
      let pos = (v.controller_ok_lem b below).ended.heard_end c i heard in
      let same = v.agree b c i pos in
      le? z.number ((μ.controller c).ends c i) (λ q. omega (arith, (s.informed b below).ended c i))
      (λ q. absurd (sure (record { on = z; crash = i; rests = v.history.rests_self z begun; lost = ok.above_lost i z.number begun (omega arith) (omega arith) })))

  -- a controller that a release didn't name: its pair is known to the sender where m was held,
  pub held_clear : (m b c mask : ℕ) → HeldIn t g n k l m mask → named mask c ≡ false → b ≡ (h.sending m).owner → Clear μ m b c
  unfolding released_vec
  held_clear m b c mask held unnamed sender =
      let before = held.before in
      let rest = held.call ∷ held.after in
      let e = held.is_in in
      let q = up_to t g n k before in
      let s' = ready_at t g n k l O before rest e in
      let v' = table_inv s'.holds in
      let (there, covers) = held_covers q.table q.ledger s'.sound held.holds_back refl in
      let from : ((model_in q).message m).from ≡ h.sending m = sym (there_ok q.table v' m there).sending_is ∙ sym (sending_then before rest e m there) in
      let owner : ((model_in q).message m).from.owner ≡ b = ap (λ (y : Interval). y.owner) from ∙ sym sender in
      let none : full (released_vec (model_in q) m c) ≡ false = fails _ (λ is. contrary (covers c is) unnamed) in
      let empty = subst (λ d. full (filtered ((model_in q).controller d) ((model_in q).message m).vec c) ≡ false) owner none in
      clear_on (grown_from t g n k l O before rest e) m b c (present_sent _ m there) (emptied_clear (model_in q) m b c empty)

  -- and was emptied for everybody where m was let out: its own release there names nobody whom the call doesn't name
  out_clear : (m b c mask : ℕ) → LetOutIn t g n k l m mask → named mask c ≡ false → Clear μ m b c
  unfolding step_call release_message put_message next
  out_clear m b c mask let_out_lem unnamed =
      let before = let_out_lem.before in
      let x = let_out_lem.call in
      let e = let_out_lem.is_in in
      let r₀ = up_to t g n k before in
      let p = out_part r₀ x m mask let_out_lem.lets_go in
      let q = p.at in
      let q' = next (asks (Release m)) q in
      let unopened = (in_list (follows n) t g k l O before x let_out_lem.after e).unopened in
      let s' : Ready n q = part_ind (Ready n) r₀ p.part (ready_at t g n k l O before (x ∷ let_out_lem.after) e) (ready_kept unopened) in
      let u = (step_in q (Release m)).table in
      let (out, is) = out_found (subst (λ a. Outcome n (model_in q) (Release m) a (size_of u) (model_of u)) p.answer (table_outcome s'.holds (Release m))) in
      let own : named p.own c ≡ false = fails (named p.own c) (λ z. contrary (p.within c z) unnamed) in
      let empty : full (((model_of u).message m).vec c) ≡ false =
      subst (λ (ν : Model). full ((ν.message m).vec c) ≡ false) (sym is)
      (ap (λ (w : Message). full (w.vec c)) (changed_at_same (model_in q).message m _) ∙ sym (out.names c) ∙ own) in
      let sent : m ≤ (model_of u).sent = subst (λ (ν : Model). m ≤ ν.sent) (sym is) out.sent in
      let none : (((model_of u).message m).vec c).number ≤ 0 = le? 1 (((model_of u).message m).vec c).number (λ pos. contrary (pos_full _ pos) empty) (λ z. omega arith) in
      let on : Grown (model_in q') (model_in (next x r₀)) =
      (part_on (ReadyFrom n (model_in q')) r₀ grown_turned p.part (ready_kept unopened q (Release m) p.part s', grown_self (model_in q')) (grown_kept unopened)).1 in
      clear_on (grown_trans on (grown_after t g n k l O before x let_out_lem.after e)) m b c sent (omega arith)

  -- a release at the end, held or let out: the message is there, and each that it names has its pair left full
  pub names_full : (m mask : ℕ) {a : Answer} → Names mask a → (step_in r (Release m)).answer ≡ a → (record_of (state r.table) m < used (state r.table)) × ((c : ℕ) → named mask c ≡ full (released_vec μ m c))
  unfolding step_call
  names_full m _ (names_held echoed mask) e = held_names r.table r.ledger s.sound m echoed mask e
  names_full m _ (names_out echoed mask) e =
      let u = (step_in r (Release m)).table in
      let (out, is) = out_found (subst (λ a. Outcome n μ (Release m) a (size_of u) (model_of u)) e (table_outcome s.holds (Release m))) in
      (given_present (state r.table) m out.pos (omega (arith, out.sent, sent_is (state r.table))), out.names)

  -- a message that is there at the end
  module _ (m : ℕ) (here : record_of (state r.table) m < used (state r.table)) where
    message : MessageOk h m (μ.message m)
    message = there_ok r.table v m here

    -- its sending interval is begun
    begun : Is (h.begun (h.sending m))
    begun = sending_begun v m (present_pos _ m here) (present_sent _ m here)

    -- where it rests on nothing lost
    module _ (sure : Sure h (h.sending m)) where
      -- what it rests on is begun, and rests on nothing lost
      resting_begun : (z : Interval) → Is (h.rests (h.sending m) z) → Is (h.begun z)
      resting_begun z rests = v.history.rests_begun _ z begun rests

      resting_sure : (z : Interval) → Is (h.rests (h.sending m) z) → Sure h z
      resting_sure z rests o = sure (orphan_up v.history begun rests o)

      -- what it rests on of c is live when c is secured, so it is stable then
      stable_then : (c : ℕ) (point : SecuredIn t g n k l m c) (z : Interval) → z.owner ≡ c → Is (h.rests (h.sending m) z) →
          Is ((next (asks point.step) (up_to t g n k point.before)).history.stable z)
      unfolding next step_call
      stable_then c point z mine rests =
          let before = point.before in
          let x = asks point.step in
          let e = point.is_in in
          let q = up_to t g n k before in
          let at = in_list (follows n) t g k l O before x point.after e in
          let v₀ = table_inv at.holds in
          let v₁ = table_inv at.one.holds in
          let rests₀ = rests_back (ext before (x ∷ point.after) e) _ z point.began rests in
          let begun₁ = at.one.keeps.ext.begun_stays z (v₀.history.rests_begun _ z point.began rests₀) in
          let on : Ext (next x q).history h = subst (λ p. Ext (next x q).history (end t g n k p)) (sym e) at.rest.keeps.ext in
          let live = live_in v₁ on z begun₁ (resting_sure z rests) in
          let (below, secured) = secured_after c v₀ (table_outcome at.holds point.step) point.secures in
          secured_stable v₁ c below secured z (subst (λ d. Is (member z ((next x q).history.chain d))) mine live)

      -- so c has word of it
      own_learned : (b c : ℕ) (point : SecuredIn t g n k l m c) → c ≡ b → (z : Interval) → z.owner ≡ c → Is (h.rests (h.sending m) z) → Learned t g n k l b z
      own_learned b c point is z mine rests =
          let at = in_list (follows n) t g k l O point.before (asks point.step) point.after point.is_in in
          its_own (mine ∙ is)
          (subst (λ q. Is ((end t g n k q).stable z)) (sym point.is_in) (at.rest.keeps.ext.stable_stays z (stable_then c point z mine rests)))

      -- and so has b, which was told
      told_learned : (b c : ℕ) (point : SecuredIn t g n k l m c) → TellAfter t g n k l m b c point → (z : Interval) → z.owner ≡ c → Is (h.rests (h.sending m) z) →
          Learned t g n k l b z
      told_learned b c point tell z mine rests =
          let x = asks point.step in
          let prefix = point.before ++ x ∷ tell.between in
          let e : l ≡ prefix ++ asks (Tell c b) ∷ tell.after =
          point.is_in ∙ ap (λ q. point.before ++ x ∷ q) tell.is_in ∙ sym (append_assoc point.before (x ∷ tell.between) (asks (Tell c b) ∷ tell.after)) in
          let at = in_list (follows n) t g k prefix (first t g n k l O prefix (asks (Tell c b) ∷ tell.after) e) point.before x tell.between refl in
          let stable = at.rest.keeps.ext.stable_stays z (stable_then c point z mine rests) in
          was_told prefix tell.after (subst (λ d. l ≡ prefix ++ asks (Tell d b) ∷ tell.after) (sym mine) e)
          (subst (λ d. (step_in (up_to t g n k prefix) (Tell d b)).answer ≡ Done) (sym mine) tell.answer) stable

      -- a controller of whose intervals b has word: its pair is known to b
      learned_clear : (b c : ℕ) → b < n → ((z : Interval) → z.owner ≡ c → Is (h.rests (h.sending m) z) → Learned t g n k l b z) → Clear μ m b c
      learned_clear b c below all =
          let p = (μ.message m).vec c in
          le? 1 p.number
          (λ pos. let z = interval_of c p in
          let rests = subst (λ (y : Interval). Is (h.rests y z)) (sym message.sending_is) (message.tracked.sound c (pos_full p pos)) in
          learned_known b below z (resting_begun z rests) (resting_sure z rests) (all z refl rests))
          (λ none. omega arith)

      -- so is that of a controller that is cleared
      pub cleared_clear : (b c : ℕ) → b < n → Cleared t g n k l m b c → Clear μ m b c
      cleared_clear b c below (held_without mask held unnamed sender) = held_clear m b c mask held unnamed sender
      cleared_clear b c below (out_without mask out unnamed) = out_clear m b c mask out unnamed
      cleared_clear b c below (was_asked q) =
          ⊎_elim (λ is. learned_clear b c below (own_learned b c q.point is)) (λ tell. learned_clear b c below (told_learned b c q.point tell)) q.tell
      cleared_clear b c below (each_learned all) = learned_clear b c below all

      -- where all are cleared, filtering for b empties the vector
      pub all_emptied : (b : ℕ) → b < n → ((c : ℕ) → c < n → Cleared t g n k l m b c) → (c : ℕ) → full (filtered (μ.controller b) (μ.message m).vec c) ≡ false
      all_emptied b below all c =
          clear_emptied μ m b c (le? 1 ((μ.message m).vec c).number
          (λ pos. let p = (μ.message m).vec c in
          let rests = message.tracked.sound c (pos_full p pos) in
          cleared_clear b c below (all c (v.history.owner_below (interval_of c p) (v.history.rests_begun _ _ message.from_begun rests))))
          (λ none. omega arith))

      -- THE RELEASE
      -- a held message all of whose controllers are cleared for its sender goes out
      pub held_goes_out : state_of_message r.table m ≡ state_held → ((c : ℕ) → c < n → Cleared t g n k l m (h.sending m).owner c) → GoesOut t g n k l m
      unfolding released_vec
      held_goes_out held all =
          let below = v.history.owner_below _ begun in
          let none : (a : ℕ) → full (released_vec μ m a) ≡ false =
          subst (λ (z : Interval). (a : ℕ) → full (filtered (μ.controller z.owner) (μ.message m).vec a) ≡ false) message.sending_is (all_emptied _ below all) in
          let counted = ap count_of (ledger_cites t g n k l O) ∙ count_ledger r.citations.published in
          let receiver = sym (to_is (state r.table) m here) ∙ sym message.receiver_is in
          release_answers r.table r.ledger s.sound m here held none
          ∙ (λ d. cond ((receiver d == desk) && (last_entry ≤? counted d)) (Refused LEDGER_USED_UP) (Released m 0))
