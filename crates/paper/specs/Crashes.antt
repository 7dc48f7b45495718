-- The crashes of a list: what is lost at its end was lost in one of them, so that a controller that has heard them all has heard of every
-- loss; and those that it hasn't heard it can hear.
use Rattle.std.specs.Prelude.{◌≡◌, refl, Bool, ◌≢◌, ◌⊎◌, ℕ, ◌≤◌, ◌<◌}
use Rattle.std.proofs.Common.{sym, ◌∙◌, inl, inr, arith}
use Rattle.std.proofs.Math.Path.{ap, subst}
use Rattle.std.proofs.Math.Logic.{⊎_elim}
use mathlib.Core.List.{List, [], ◌∷◌, ◌++◌, append-nil}
use Rattle.table.specs.Field.{Incarnation}
use Rattle.table.specs.Words.{state}
use Rattle.rules.specs.Limits.{house, last_incarnation}
use Rattle.rules.specs.Report.{report}
use Rattle.rules.specs.Step.{Call, asks, step_call}
use Rattle.rules.specs.declared.Answer.{Answer}
use Rattle.rules.specs.declared.Answer.TheVariants.{Crashed}
use Rattle.rules.specs.declared.Command.{Command}
use Rattle.rules.specs.declared.Command.TheVariants.{Release, Crash, Hear, Deliver}
use Rattle.history.specs.History.{Interval, History, member, joined, leaving, stabilized, hearing, losing, flagging, degree_set, sent_from, gap_set, delivering, logging, checkpointing, beginning, crashing, rolling_back, opening, answers, fed_step, fed}
use Rattle.history.specs.Demand.{step_in, next, just_opened, RestsOnLost, FromOpening, up_to, end}
use Rattle.history.specs.Progress.{Orphan, CrashIn, HasHeard, CanHear}
use Rattle.model.specs.Model.{Model, above_latest}
use Rattle.model.specs.Tests.{Is}
use Rattle.model.proofs.Tests.{contrary}
use Rattle.model.proofs.Invariant.{Inv}
use Rattle.model.proofs.Hearing.{hearing_cases, hearing_new}
use Rattle.model.proofs.Recovery.{HearsOf, hears_other}
use Rattle.calls.specs.Made.{NoDoneOpening, part_itself}
use Rattle.model.proofs.Runs.{in_list, along, at_end}
use Rattle.model.proofs.Consequences.{unheard_end}
use Rattle.model.proofs.Blaming.{capped_heard, restarted_heard}
use Rattle.image.specs.Reads.{incarnation_is, ends_is}
use Rattle.image.specs.Outcome as O
use Rattle.image.specs.Outcome.{Outcome}
use Rattle.image.proofs.Tables.{model_of, size_of, opening_done}
use Rattle.demand.specs.Demanded.{fed_refused, outcome, table_inv, follows, demand_3}
use Rattle.demand.specs.InForm.{sound_after}
use Rattle.laws.specs.Facts.{form, controller_form}
use Rattle.progress.specs.Hears.{Hears}
use Rattle.progress.proofs.Hears.{hear_answers}

-- what is heard by one account is heard by the other
heard_in : {f f' : ℕ → ℕ → ℕ → Bool} (c i : ℕ) → f ≡ f' → Is (f c c i) → Is (f' c c i)
heard_in c i e = subst (λ (f : ℕ → ℕ → ℕ → Bool). Is (f c c i)) e

-- the step is the crash that ended incarnation i of c
data Ended : Command → Answer → ℕ → ℕ → Type 0 where
  ended : (c echoed i kept lost replayed : ℕ) → Ended (Crash c) (Crashed echoed i kept lost replayed) c i

-- a hearing is of another controller's crash
not_own : {n : ℕ} {μ : Model} (h : History) {b a i' : ℕ} → HearsOf n μ b a i' → (c i : ℕ) → Is ((hearing h b a i').heard c c i) → Is (h.heard c c i)
not_own h {b} {a} {i'} w c i z = ⊎_elim (λ g. g) (λ g. absurd (hears_other w (sym g.0 ∙ g.1))) (hearing_cases h b a i' c c i z)

-- a step marks a crash as heard by its own controller only if it is that crash
heard_own : {n : ℕ} {μ : Model} {h : History} {x : Command} {y : Answer} {j : ℕ} {μ' : Model} → Inv n μ h → Outcome n μ x y j μ' → NoDoneOpening x y →
    (c i : ℕ) → Is ((fed_step x y h).heard c c i) → Is (h.heard c c i) ⊎ Ended x y c i
unfolding fed_step answers report joined stabilized flagging degree_set sent_from gap_set delivering beginning logging checkpointing crashing leaving losing rolling_back
heard_own {h = h} v (O.refused x number) o c i z = inl (subst (λ (q : History). Is (q.heard c c i)) (fed_refused x number h) z)
heard_own v (O.opened j k p q r) o c i z = absurd (o j k refl refl)
heard_own v (O.degree_set_lem d k p q) o c i z = inl z
heard_own v (O.sent s r payload sender receiver ne) o c i z = inl z
heard_own v (O.released m mask l w) o c i z = inl z
heard_own v (O.held m mask) o c i z = inl z
heard_own v (O.dropped m owner p l w y) o c i z = inl z
heard_own v (O.waits m) o c i z = inl z
heard_own v (O.delivered m d e w) o c i z = inl (heard_in c i (capped_heard _ _) z)
heard_own v (O.logged d q below pos fits) o c i z = inl z
heard_own v (O.checkpointed d l) o c i z = inl z
heard_own v (O.told a b p q ne) o c i z = inl z
heard_own {μ = μ} {h} v (O.crashed d lost l) o c i z =
    ⊎_elim (λ g. inl g)
    (λ g. let k = μ.controller d in
    let answer : ℕ → Answer = λ u. Crashed d u k.stable lost (above_latest k k.stable) in
    let is : i ≡ k.incarnation = g.2 ∙ (v.controller_ok_lem d l).shape.incarnation_is in
    inr (subst (λ b. Ended (Crash d) (answer k.incarnation) b i) (sym g.0)
    (subst (λ u. Ended (Crash d) (answer k.incarnation) d u) (sym is) (ended d d k.incarnation k.stable lost (above_latest k k.stable)))))
    (hearing_cases (losing h d) d d (h.incarnation d) c c i (heard_in c i (restarted_heard _ d) z))
heard_own {h = h} v (O.heard b a u w y) o c i z = inl (not_own h w c i z)
heard_own {h = h} v (O.rolled b a u j undone w y) o c i z = inl (not_own h w c i (heard_in c i (restarted_heard _ b) z))
heard_own v (O.gap_set_lem q l) o c i z = inl z

-- and that crash marks it
crash_marks : {n : ℕ} {μ : Model} {h : History} {c echoed i kept lost replayed j : ℕ} {μ' : Model} → Inv n μ h →
    Outcome n μ (Crash c) (Crashed echoed i kept lost replayed) j μ' → (c < n) × Is ((fed_step (Crash c) (Crashed echoed i kept lost replayed) h).heard c c i)
unfolding fed_step answers report crashing leaving
crash_marks {h = h} v (O.crashed c lost l) =
    let marked = heard_in c (h.incarnation c) (sym (restarted_heard _ c)) (hearing_new (losing h c) c c (h.incarnation c)) in
    (l, subst (λ i. Is ((crashing h c).heard c c i)) (v.controller_ok_lem c l).shape.incarnation_is marked)

module _ (t g : List ℕ) (n k : ℕ) (l : List Call) where
  -- a step of the list that is a crash
  crash_in : (before after : List Call) {x : Command} {a : Answer} {c i : ℕ} → Ended x a c i → l ≡ before ++ asks x ∷ after → (step_in (up_to t g n k before) x).answer ≡ a →
      CrashIn t g n k l c i
  crash_in before after (ended c echoed i kept lost replayed) e answer =
      record { before = before; after = after; echoed = echoed; kept = kept; lost = lost; replayed = replayed; is_in = e; answer = answer }

  -- it releases and delivers nothing
  no_release : {x : Command} {a : Answer} {c i : ℕ} → Ended x a c i → (m : ℕ) → x ≢ Release m
  no_release (ended c echoed i kept lost replayed) m e = absurd (let z : ◌≡◌ {A = ℕ} 0 1 = cc in omega arith)

  no_delivery : {x : Command} {a : Answer} {c i : ℕ} → Ended x a c i → (m : ℕ) → x ≢ Deliver m
  no_delivery (ended c echoed i kept lost replayed) m e = absurd (let z : ◌≡◌ {A = ℕ} 0 1 = cc in omega arith)

  module _ (O : FromOpening t g n k l) where
    -- a crash that its own controller has heard is in the list
    own_crash : (c i : ℕ) → Is ((end t g n k l).heard c c i) → CrashIn t g n k l c i
    unfolding just_opened opening next step_call fed
    own_crash =
        along (follows n) t g k l O (λ r. (c i : ℕ) → Is (r.history.heard c c i) → CrashIn t g n k l c i) (λ q b lent low all. all) (λ c i z. contrary z refl)
        (λ before x after e q y s all c i z.
        ⊎_elim (all c i) (λ d. let (call_is, here) = part_itself s.part (no_release d) (no_delivery d) in
        crash_in before after d (e ∙ ap (λ x. before ++ x ∷ after) call_is) (ap (λ r. (step_in r y).answer) (sym here)))
        (heard_own s.holds.inv (outcome y s.holds.reads) s.unopened c i z))
        l [] (sym (append-nil l))

    -- so what is lost at the end was lost in a crash of the list
    pub lost_in : (y : Interval) (crash : ℕ) → Is ((end t g n k l).lost y crash) → CrashIn t g n k l y.owner crash
    lost_in y crash z =
        let v = (at_end (follows n) t g k l O).inv in
        let ok = (v.controller_ok_lem y.owner (v.history.owner_below y (v.history.lost_begun y crash z))).ended in
        let (is, begun, pos, above) = ok.lost_above y.incarnation y.number crash z in
        own_crash y.owner crash (ok.end_heard y.owner crash (rw is pos))

    -- where b has heard every crash, an interval that rests on a lost one rests on one lost in a crash that b has heard
    pub heard_loss : (b : ℕ) → HasHeard t g n k l b → (y : Interval) → Orphan (end t g n k l) y → RestsOnLost (end t g n k l) (end t g n k l) b y
    heard_loss b all y o =
        record { on = o.on; crash = o.crash; rests = o.rests; lost = o.lost; heard = all o.on.owner o.crash (lost_in o.on o.crash o.lost) }

    -- so its live intervals rest on no lost one, by demand 3
    pub live_sure : (b : ℕ) → b < n → HasHeard t g n k l b → (y : Interval) → Is (member y ((end t g n k l).chain b)) → Orphan (end t g n k l) y → ⊥
    live_sure b below all y live o = (demand_3 t g n k l O).live b below y live (heard_loss b all y o)

    -- a crash in the list is heard at its end by its own controller, which is one of the house
    crash_noted : (c i : ℕ) → CrashIn t g n k l c i → (c < n) × Is ((end t g n k l).heard c c i)
    unfolding next step_call fed
    crash_noted c i d =
        let x = Crash c in
        let r = up_to t g n k d.before in
        let s = in_list (follows n) t g k l O d.before (asks x) d.after d.is_in in
        let u = (step_in r x).table in
        let (below, marked) = crash_marks s.holds.inv (subst (λ a. Outcome n s.holds.model x a (size_of u) (model_of u)) d.answer (outcome x s.holds.reads)) in
        let now : Is ((next (asks x) r).history.heard c c i) =
        subst (λ a. Is ((fed_step x a r.history).heard c c i)) (sym d.answer) marked in
        (below, subst (λ z. Is ((end t g n k z).heard c c i)) (sym d.is_in) (s.rest.keeps.ext.heard_stays c c i now))

    -- so b can hear it, unless it must undo in the last incarnation
    pub can_hear : (b : ℕ) → b < n → CanHear t g n k l b
    can_hear b below c i d unheard =
        let r = up_to t g n k l in
        let σ = state r.table in
        let s = at_end (follows n) t g k l O in
        let v = table_inv s in
        let sound = sound_after t g n k O.done l in
        let (owner, noted) = crash_noted c i d in
        let near = (opening_done t g n k O.done).size_le in
        let size : size_of r.table ≡ n = s.reads.size_is in
        let there : c < size_of r.table = omega arith in
        let ends = (v.controller_ok_lem c owner).ended in
        let pos = ends.heard_end c i noted in
        let last : i ≤ last_incarnation = omega (arith, ends.end_le i pos, incarnation_is σ c (omega arith), (controller_form (form house σ sound.table.good) c there).incarnation_le) in
        let now : σ (Incarnation b) ≡ r.history.incarnation b = sym (incarnation_is σ b (omega arith)) ∙ sym (v.controller_ok_lem b below).shape.incarnation_is in
        let own = ends_is σ c (omega arith) c i (omega arith) (omega arith) in
        let other = ends_is σ b (omega arith) c i (omega arith) (omega arith) in
        let none = unheard_end v b below c i unheard in
        subst (λ j. Hears j (step_in r (Hear b c i)).answer) now
        (hear_answers r.table r.ledger sound b c i (omega arith) there last (λ z. omega arith) (omega arith))
