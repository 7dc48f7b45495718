-- Beyond demand 3, also for every list: a done opening forgets what stood in the table and in the ledger, each controller that a
-- release names owns what the sender doesn't know to be stable, the ledger says what was sent to the desk and let out, and where no crash
-- is accepted no call answers `rolled` or `dropped`.
use Rattle.std.proofs.Math.Path.{◌≡◌, refl, ap, subst}
use Rattle.std.proofs.Common.{sym, ◌∙◌, append-nil, arith}
use Rattle.std.specs.Prelude.{Bool, true, false, List, [], ◌∷◌, ◌++◌, length}
use Prim.Native.Nat.{ℕ, ◌≤◌, ◌<◌}
use Rattle.table.specs.Field.{Known}
use Rattle.table.specs.Words.{state}
use Rattle.rules.specs.Limits.{house}
use Rattle.rules.specs.Report.{report}
use Rattle.rules.specs.Sets.{nth}
use Rattle.rules.specs.Step.{OutBoth, step, Call, asks, release_set, dispatch, step_call}
use Rattle.rules.specs.declared.Answer.{Answer}
use Rattle.rules.specs.declared.Answer.TheVariants.{Done, Released, Dropped, Rolled, SetReleased}
use Rattle.rules.specs.declared.Command.{Command}
use Rattle.rules.specs.declared.Command.TheVariants.{Open, Release, Crash, Deliver}
use Rattle.history.specs.History.{Interval, History, member, joined, stabilized, flagging, degree_set, sent_from, gap_set, delivering, logging, checkpointing, beginning, opening, answers, fed_step, fed}
use Rattle.history.specs.Demand.{call_in, step_in, next, just_opened, named, LetsGo, FromOpening, up_to, end, Cited}
use Rattle.model.specs.Model.{Model, full, released_vec}
use Rattle.model.specs.Tests.{Is}
use Rattle.model.proofs.Tests.{fails}
use Rattle.model.proofs.Invariant.{Inv, ext_refl}
use Rattle.model.proofs.Consequences.{release_covers, release_named, sending_begun, unheard_end, unheard_not_condemned, unheard_live}
use Rattle.model.proofs.Blaming.{capped_heard}
use Rattle.model.proofs.Recovery.{HearsOf}
use Rattle.laws.specs.Facts.{form, controller_form}
use Rattle.laws.proofs.Together.{named_own, own_may}
use Rattle.calls.specs.Dispatch as D
use Rattle.calls.specs.Dispatch.{DispatchIn, dispatch_in}
use Rattle.calls.specs.Sets.{SetIn, refused, held, goes, set_in, set_goes}
use Rattle.calls.specs.Made.{NoDoneOpening, part_itself}
use Rattle.model.proofs.Runs.{in_list, part, along, later, at_end}
use Rattle.image.specs.Reads.{incarnation_is, known_is}
use Rattle.image.proofs.Stepped.{release_found}
use Rattle.image.specs.Outcome as O
use Rattle.image.specs.Outcome.{Outcome}
use Rattle.image.proofs.Tables.{opening_done}
use Rattle.testers.specs.Citing.{RunCites, cites_next, cites_opened, cites_served}
use Rattle.demand.specs.Demanded.{fed_refused, found, outcome, follows}
use Rattle.demand.specs.InForm.{sound_after}
use Rattle.demand.specs.Beyond.{Reason, Undoes, answers_rolled, answers_dropped, CrashAccepted, answers_crashed}

-- "The list starts from the table that a done opening left, whatever stood in it before", and from the ledger that it left: the table
-- depends on n and k alone, the ledger on nothing
pub opening_forgets : (t g u h : List ℕ) (n k : ℕ) → (step t g (Open n k)).answer ≡ Done → (step u h (Open n k)).answer ≡ Done →
    ((step t g (Open n k)).table ≡ (step u h (Open n k)).table) × ((step t g (Open n k)).ledger ≡ (step u h (Open n k)).ledger)
opening_forgets t g u h n k d e =
    let p = opening_done t g n k d in
    let q = opening_done u h n k e in
    (p.table_is ∙ sym q.table_is, p.ledger_is ∙ sym q.ledger_is)

-- a set is no such
set_undoes_nothing : {t g l : List ℕ} {o : OutBoth} → SetIn t g l o → Undoes o.answer → ⊥
set_undoes_nothing (refused number) u = elim u [ ]
set_undoes_nothing (held table w) u = elim u [ ]
set_undoes_nothing (goes w) u = elim u [ ]

-- nor is a call of the dispatcher, if no delivery is
dispatch_undoes_nothing : {t g : List ℕ} {o : OutBoth} → DispatchIn t g o → ((m : ℕ) → Undoes (step t g (Deliver m)).answer → ⊥) → Undoes o.answer → ⊥
dispatch_undoes_nothing (D.refused number) none u = elim u [ ]
dispatch_undoes_nothing D.idle none u = elim u [ ]
dispatch_undoes_nothing (D.serves c k w) none u = none _ u

-- no crash is heard by any controller
abbrev Unheard : History → Type 0
Unheard h = (hearer crashed i : ℕ) → h.heard hearer crashed i ≡ false

module _ {n : ℕ} {μ : Model} {h : History} (v : Inv n μ h) (u : Unheard h) where
  -- where no crash is heard, none can be heard of
  none_heard : {b a i : ℕ} → HearsOf n μ b a i → ⊥
  none_heard {b} {a} {i} f = let e = unheard_end v a f.crashed_below a i (u a a i) in omega (arith, f.ended)

  -- so a step that is neither a done opening nor an accepted crash leaves it so
  stays_unheard : {x : Command} {y : Answer} {j : ℕ} {μ' : Model} → Outcome n μ x y j μ' → NoDoneOpening x y →
      ((c : ℕ) → x ≡ Crash c → CrashAccepted y → ⊥) → Unheard (fed_step x y h)
  unfolding fed_step answers report joined stabilized flagging degree_set sent_from gap_set delivering beginning logging checkpointing
  stays_unheard (O.refused x number) o c = subst Unheard (sym (fed_refused x number h)) u
  stays_unheard (O.opened j k p q r) o c = absurd (o j k refl refl)
  stays_unheard (O.degree_set_lem d k p q) o c = u
  stays_unheard (O.sent s r payload sender receiver ne) o c = u
  stays_unheard (O.released m mask l w) o c = u
  stays_unheard (O.held m mask) o c = u
  stays_unheard (O.dropped m owner p l w z) o c = u
  stays_unheard (O.waits m) o c = u
  stays_unheard (O.delivered m d e w) o c = λ b a i. ap (λ (f : ℕ → ℕ → ℕ → Bool). f b a i) (capped_heard _ _) ∙ u b a i
  stays_unheard (O.logged d q below pos fits) o c = u
  stays_unheard (O.checkpointed d l) o c = u
  stays_unheard (O.told a b p q ne) o c = u
  stays_unheard (O.crashed d lost l) o c = absurd (c d refl (answers_crashed _ _ _ _ _))
  stays_unheard (O.heard b a i f w) o c = absurd (none_heard f)
  stays_unheard (O.rolled b a i j undone f w) o c = absurd (none_heard f)
  stays_unheard (O.gap_set_lem q l) o c = u

  -- nothing is dropped
  none_dropped : {x : Command} {m owner i j : ℕ} {μ' : Model} → Outcome n μ x (Dropped m owner i) j μ' → ⊥
  none_dropped (O.dropped m owner p l w z) =
      unheard_not_condemned v (μ.message m).to w (u (μ.message m).to) (μ.message m).vec (record { owner = owner; by = z.by })

  -- and nothing is rolled back
  none_rolled : {x : Command} {b k undone replayed owner i j : ℕ} {μ' : Model} → Outcome n μ x (Rolled b k undone replayed owner i) j μ' → ⊥
  none_rolled (O.rolled b a i j undone f w) = none_heard f

  -- so no step undoes
  none_undone : {x : Command} {y : Answer} {j : ℕ} {μ' : Model} → Outcome n μ x y j μ' → Undoes y → ⊥
  none_undone o (answers_rolled b k undone replayed owner i) = none_rolled o
  none_undone o (answers_dropped m owner i) = none_dropped o

module _ (t g : List ℕ) (n k : ℕ) (l : List Call) (O : FromOpening t g n k l) where
  -- a message that is there, and a controller whose pair filtering leaves of its vector: it has its reason
  reason_of : (before rest : List Call) (e : l ≡ before ++ rest) → let s = part (follows n) t g k l O before rest e in
      (m : ℕ) → 1 ≤ m → m ≤ s.model.sent → (c : ℕ) → Is (full (released_vec s.model m c)) → Reason (up_to t g n k before) m c
  reason_of before rest e m pos sent c is =
      let s = part (follows n) t g k l O before rest e in
      let v = s.inv in
      let u = (up_to t g n k before).table in
      let q = release_named v m pos sent c is in
      let begun = v.history.rests_begun _ _ (sending_begun v m pos sent) q.rests in
      let sender = v.history.owner_below _ (sending_begun v m pos sent) in
      let owner = v.history.owner_below _ begun in
      let top = (v.controller_ok_lem q.on.owner owner).body.begun_le q.on.incarnation q.on.number begun in
      let fits = (opening_done t g n k O.done).size_le in
      let is = q.owner_is in
      let unknown = q.unknown in
      let size = s.reads.size_is in
      let good = (sound_after t g n k O.done before).table.good in
      let last = (controller_form (form house (state u) good) q.on.owner (subst (λ j. q.on.owner < j) (sym size) owner)).incarnation_le in
      let now = ap (λ (μ : Model). (μ.controller q.on.owner).incarnation) s.reads.model_is in
      let low = incarnation_is (state u) q.on.owner (omega arith) in
      let sent_by = ((up_to t g n k before).history.sending m).owner in
      let read = ap (λ (μ : Model). (μ.controller sent_by).known c q.on.incarnation) s.reads.model_is in
      let above : state u (Known sent_by c q.on.incarnation) < q.on.number =
      omega (arith, read, known_is (state u) sent_by (omega arith) c q.on.incarnation (omega arith) (omega arith)) in
      record { on = q.on; owner_is = q.owner_is; rests = q.rests; unknown = above }

  -- "each release names the controllers that could still revoke it", by what the sender knows: every one that it names has its
  -- reason;
  pub release_reasons : (before after : List Call) (m echoed mask : ℕ) → l ≡ before ++ asks (Release m) ∷ after →
      (step_in (up_to t g n k before) (Release m)).answer ≡ Released echoed mask →
      (c : ℕ) → named mask c ≡ true → Reason (up_to t g n k before) m c
  release_reasons before after m echoed mask e answer c is =
      let s = part (follows n) t g k l O before (asks (Release m) ∷ after) e in
      let o = (found (outcome (Release m) s.reads) answer).out in
      reason_of before (asks (Release m) ∷ after) e m o.pos o.sent c (sym (o.names c) ∙ is)

  -- and so has every one that a set names, by one of its messages.
  pub set_reasons : (before after : List Call) (messages : List ℕ) (mask : ℕ) → l ≡ before ++ release_set messages ∷ after →
      (call_in (up_to t g n k before) (release_set messages)).answer ≡ SetReleased mask →
      (c : ℕ) → named mask c ≡ true → (i : ℕ) × (i < length messages) × Reason (up_to t g n k before) (nth messages i) c
  set_reasons before after messages mask e answer c is =
      let r = up_to t g n k before in
      let σ = state r.table in
      let s = part (follows n) t g k l O before (release_set messages ∷ after) e in
      let (w, union_is) = set_goes r.table r.ledger messages mask answer in
      let (i, below, own) = named_own σ messages c (subst (λ k. named k c ≡ true) (sym union_is) is) in
      let o = release_found σ (form house σ w.table.good) (nth messages i) (w.all.allowed.here i below) (own_may w.all i below) in
      let sent = subst (λ (μ : Model). nth messages i ≤ μ.sent) s.reads.model_is o.sent in
      let left = subst (λ (μ : Model). Is (full (released_vec μ (nth messages i) c))) s.reads.model_is (sym (o.names c) ∙ own) in
      (i, below, reason_of before (release_set messages ∷ after) e (nth messages i) o.pos sent c left)

  -- Those named own every interval that the sending interval rests on and that was not stable then, lost or not.
  pub release_owners : (before after : List Call) (x : Call) (m mask : ℕ) → l ≡ before ++ x ∷ after → LetsGo x (call_in (up_to t g n k before) x).answer m mask →
      let h = (up_to t g n k before).history in
      (y : Interval) → h.rests (h.sending m) y ≡ true → h.stable y ≡ false → named mask y.owner ≡ true
  release_owners before after x m mask e out y rests unstable =
      let s = (in_list (follows n) t g k l O before x after e).holds in
      let o = (follows n).lets_out s x m mask out in
      o.covers y.owner (release_covers s.inv m o.pos o.sent (ext_refl (up_to t g n k before).history) refl y rests unstable).1

  -- what is lost anywhere in the list is stable at no time in it
  pub lost_unstable : (before rest : List Call) → l ≡ before ++ rest → (y : Interval) (crash : ℕ) →
      (end t g n k l).lost y crash ≡ true → (up_to t g n k before).history.stable y ≡ false
  lost_unstable before rest e y crash lost =
      fails _ (λ z. (at_end (follows n) t g k l O).inv.history.stable_not_lost y crash ((later (follows n) t g k l O before rest e).keeps.ext.stable_stays y z) lost)

  -- the table and the ledger say what the citations say
  pub run_cites : RunCites (up_to t g n k l)
  run_cites =
      along (follows n) t g k l O RunCites (λ q c lent low. cites_served q.table c) (cites_opened t g n k O.done) (λ before x after e q y s. cites_next q y s.unopened) l []
      (sym (append-nil l))

  -- W2: what a scholar cites is what was sent. The ledger's pairs are, in order, the messages for the desk that the list's releases let
  -- out, with the payloads of their sends.
  pub ledger_cites : Cited t g n k l
  ledger_cites = run_cites.ledger_is

  -- where no crash in the list is accepted
  module _ (calm : (before after : List Call) (c : ℕ) → l ≡ before ++ asks (Crash c) ∷ after →
      CrashAccepted (step_in (up_to t g n k before) (Crash c)).answer → ⊥) where
    -- none is ever heard
    unheard : (before rest : List Call) → l ≡ before ++ rest → Unheard (up_to t g n k before).history
    unfolding just_opened opening next step_call fed
    unheard before rest e =
        along (follows n) t g k l O (λ r. Unheard r.history) (λ q c lent low u. u) (λ b a i. refl)
        (λ first x after f q y s u. stays_unheard s.holds.inv u (outcome y s.holds.reads) s.unopened
        (λ c is z. let (call_is, here) = part_itself s.part (λ m no. absurd (let w : ◌≡◌ {A = ℕ} 0 1 = cc in omega arith)) (λ m no. absurd (let w : ◌≡◌ {A = ℕ} 0 1 = cc in omega arith)) in
        calm first after c (f ∙ ap (λ x. first ++ x ∷ after) (call_is ∙ ap asks is)) (subst (λ r. CrashAccepted (step_in r (Crash c)).answer) here (subst (λ y. CrashAccepted (step_in q y).answer) is z))))
        before rest e

    -- no call rolls back or drops
    pub nothing_undone : (before after : List Call) (x : Call) → l ≡ before ++ x ∷ after →
        Undoes (call_in (up_to t g n k before) x).answer → ⊥
    unfolding step_call
    nothing_undone before after (asks x) e =
        let s = (in_list (follows n) t g k l O before (asks x) after e).holds in
        none_undone s.inv (unheard before (asks x ∷ after) e) (outcome x s.reads)
    nothing_undone before after dispatch e =
        let r = up_to t g n k before in
        let s = (in_list (follows n) t g k l O before dispatch after e).holds in
        dispatch_undoes_nothing (dispatch_in r.table r.ledger) (λ m. none_undone s.inv (unheard before (dispatch ∷ after) e) (outcome (Deliver m) s.reads))
    nothing_undone before after (release_set messages) e = set_undoes_nothing (set_in (up_to t g n k before).table (up_to t g n k before).ledger messages)

    -- and every interval that was begun is live at the end
    pub all_live : (y : Interval) → (end t g n k l).begun y ≡ true → member y ((end t g n k l).chain y.owner) ≡ true
    all_live y begun =
        let v = (at_end (follows n) t g k l O).inv in
        unheard_live v y.owner (v.history.owner_below y begun) (unheard l [] (sym (append-nil l)) y.owner) y refl begun
