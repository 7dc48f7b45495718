-- A call is made of steps: one that asks for a step of that step, a set of its releases where it goes, and of none where it doesn't, the
-- dispatcher of the delivery that it performs, and then of the word of the controller last served. So what each step keeps, and that word
-- doesn't touch, each call keeps (`call_ind`), and what lets a message out is one of its releases (`out_part`).
use Rattle.std.specs.Prelude.{◌≡◌, refl, true, List, ◌≢◌, ℕ, zero, suc, ◌≤◌, ◌<◌, length, take}
use Rattle.std.proofs.Common.{sym, ap, ◌∙◌, arith}
use Rattle.std.proofs.Math.Path.{subst}
use Rattle.std.proofs.Math.Seq.{take-length}
use Rattle.base.specs.Choice.{le?}
use Rattle.table.specs.Words.{state}
use Rattle.rules.specs.Limits.{last_served}
use Rattle.rules.specs.Sets.{nth}
use Rattle.rules.specs.Step.{Call, asks, release_set, step_call, dispatch}
use Rattle.rules.specs.declared.Answer.{Answer}
use Rattle.rules.specs.declared.Answer.TheVariants.{Done, Released, SetReleased}
use Rattle.rules.specs.declared.Command.{Command}
use Rattle.rules.specs.declared.Command.TheVariants.{Open, Release, Deliver}
use Rattle.laws.specs.Answering.{Lent}
use Rattle.keeping.proofs.Kept.{kept}
use Rattle.history.specs.History.{fed_step, fed}
use Rattle.history.specs.Demand.{Run, call_in, step_in, next, runs, named, LetsGo, alone, together}
use Rattle.laws.proofs.Together.{own_mask, own_named}
use Rattle.calls.specs.Dispatch.{Serves, message_at, serves_low, turned, delivery_at, DispatchRun, nobody, somebody, dispatch_run}
use Rattle.calls.specs.Sets.{releases, releases_more, releases_history, way_answer, set_goes, SetRun, stays, goes_out, set_run, set_runs}

-- a step with this answer is not an opening that is done
abbrev pub NoDoneOpening : Command → Answer → Type 0
NoDoneOpening x a = (size degree : ℕ) → x ≡ Open size degree → a ≢ Done

-- nor is call x in a run
abbrev pub NotDone : Run → Call → Type 0
NotDone r x = (size degree : ℕ) → x ≡ asks (Open size degree) → (call_in r x).answer ≢ Done

-- Step y, in the run q, is one of those that call x of the run r is made of.
pub data PartOf (r : Run) : Call → Run → Command → Type 0 where
  itself : (y : Command) → PartOf r (asks y) r y
  in_set : (l : List ℕ) (i mask : ℕ) → i < length l → (call_in r (release_set l)).answer ≡ SetReleased mask →
      PartOf r (release_set l) (runs r (releases (take i l))) (Release (nth l i))
  in_turn_lem : (c k : ℕ) → Serves r.table c k → next dispatch r ≡ turned (delivery_at r k) c → PartOf r dispatch r (Deliver (message_at r.table k))

-- FACTS THAT EACH STEP KEEPS
-- a fact that doesn't look at the controller last served, of a table in form
abbrev pub Unturned : (Run → Type 0) → Type 0
Unturned P = (q : Run) (c : ℕ) → Lent q.table → c ≤ last_served → P q → P (turned q c)

module _ (P : Run → Type 0) (r : Run) where
  -- each step of call x keeps P
  abbrev Kept : Call → Type 0
  Kept x = (q : Run) (y : Command) → PartOf r x q y → P q → P (next (asks y) q)

  -- on the way of a set that goes, from its i-th message to its j-th
  on_the_way : (l : List ℕ) (mask : ℕ) → (call_in r (release_set l)).answer ≡ SetReleased mask → Kept (release_set l) → (i j : ℕ) → i ≤ j → j ≤ length l →
      P (runs r (releases (take i l))) → P (runs r (releases (take j l)))
  on_the_way l mask e keeps i zero a h p = let z : i ≡ 0 = omega arith in subst (λ k. P (runs r (releases (take k l)))) z p
  on_the_way l mask e keeps i (suc j) a h p =
      le? i j (λ b. subst P (sym (releases_more r l j h)) (keeps _ _ (in_set l j mask h e) (on_the_way l mask e keeps i j b (omega arith) p)))
      (λ b. let z : i ≡ suc j = omega arith in subst (λ k. P (runs r (releases (take k l)))) z p)

  -- to its end
  to_the_end : (l : List ℕ) (mask : ℕ) → (call_in r (release_set l)).answer ≡ SetReleased mask → Kept (release_set l) → (i : ℕ) → i ≤ length l →
      P (runs r (releases (take i l))) → P (next (release_set l) r)
  to_the_end l mask e keeps i h p =
      subst P (sym (set_runs r l mask e)) (subst (λ m. P (runs r (releases m))) (take-length l) (on_the_way l mask e keeps i (length l) h (omega arith) p))

  -- the delivery that the dispatcher performs, and then its word
  turn_on : Unturned P → (c k : ℕ) → Serves r.table c k → next dispatch r ≡ turned (delivery_at r k) c → P (delivery_at r k) → P (next dispatch r)
  unfolding next step_call
  turn_on free c k w same p = subst P (sym same) (free _ c (kept r.table r.ledger (Deliver (message_at r.table k)) w.table) (serves_low w) p)

  -- What each step of a call keeps is kept by the call,
  pub call_ind : Unturned P → (x : Call) → P r → Kept x → P (next x r)
  unfolding runs
  call_ind free (asks y) p keeps = keeps r y (itself y) p
  call_ind free dispatch p keeps = go (dispatch_run r)
    where
      go : DispatchRun r → P (next dispatch r)
      go (nobody other same) = subst P (sym same) p
      go (somebody c k w same) = turn_on free c k w same (keeps r _ (in_turn_lem c k w same) p)
  call_ind free (release_set l) p keeps = go (set_run r l)
    where
      go : SetRun r l → P (next (release_set l) r)
      go (stays other same) = subst P (sym same) p
      go (goes_out mask e same) = to_the_end l mask e keeps 0 (omega arith) p

  -- holds before each of its steps,
  pub part_ind : {x : Call} {q : Run} {y : Command} → PartOf r x q y → P r → Kept x → P q
  unfolding runs
  part_ind (itself y) p keeps = p
  part_ind (in_turn_lem c k w same) p keeps = p
  part_ind (in_set l i mask h e) p keeps = on_the_way l mask e keeps 0 i (omega arith) (omega arith) p

  -- and, if it holds after one of them, after the call.
  pub part_on : Unturned P → {x : Call} {q : Run} {y : Command} → PartOf r x q y → P (next (asks y) q) → Kept x → P (next x r)
  part_on free (itself y) p keeps = p
  part_on free (in_turn_lem c k w same) p keeps = turn_on free c k w same p
  part_on free (in_set l i mask h e) p keeps = to_the_end l mask e keeps (suc i) h (subst P (sym (releases_more r l i h)) p)

-- STEPS OF A CALL
-- A step of a call is no done opening, if the call isn't;
pub part_not_done : {r q : Run} {x : Call} {y : Command} → PartOf r x q y → NotDone r x → NoDoneOpening y (step_in q y).answer
unfolding step_call
part_not_done (itself y) ne size degree e = ne size degree (ap asks e)
part_not_done (in_turn_lem c k w same) ne size degree z = absurd (let q : ◌≡◌ {A = ℕ} 0 1 = cc in omega arith)
part_not_done (in_set l i mask h e) ne size degree z = absurd (let q : ◌≡◌ {A = ℕ} 0 1 = cc in omega arith)

-- the history before it is that before the call;
pub part_history : {r q : Run} {x : Call} {y : Command} → PartOf r x q y → q.history ≡ r.history
part_history (itself y) = refl
part_history (in_turn_lem c k w same) = refl
part_history {r = r} (in_set l i mask h e) = releases_history r (take i l)

-- and that after it is that after the call.
pub part_then : {r q : Run} {x : Call} {y : Command} → PartOf r x q y → (next (asks y) q).history ≡ (next x r).history
unfolding next fed fed_step
part_then (itself y) = refl
part_then (in_turn_lem c k w same) = ap (λ (q : Run). q.history) (sym same)
part_then {r = r} (in_set l i mask h e) = releases_history r (take i l)

-- What a call shows of message m when it lets it out: one of its steps is the release of m, which answers released, and names nobody whom the call
-- doesn't name.
pub record OutPart (r : Run) (x : Call) (m mask : ℕ) : Type 0 where
  pub at : Run
  pub part : PartOf r x at (Release m)
  pub echoed : ℕ
  pub own : ℕ
  pub answer : (step_in at (Release m)).answer ≡ Released echoed own
  pub within : (c : ℕ) → named own c ≡ true → named mask c ≡ true

out_part_as : (r : Run) {x : Call} {a : Answer} {m mask : ℕ} → LetsGo x a m mask → (call_in r x).answer ≡ a → OutPart r x m mask
unfolding step_call
out_part_as r (alone m echoed mask) e = record { at = r; part = itself (Release m); echoed = echoed; own = mask; answer = e; within = λ c z. z }
out_part_as r (together l i mask h) e =
    let (w, is) = set_goes r.table r.ledger l mask e in
    record {
      at = runs r (releases (take i l));
      part = in_set l i mask h e;
      echoed = nth l i;
      own = own_mask (state r.table) l i;
      answer = way_answer r w i h;
      within = λ c z. subst (λ k. named k c ≡ true) is (own_named (state r.table) l i c h z);
    }

pub out_part : (r : Run) (x : Call) (m mask : ℕ) → LetsGo x (call_in r x).answer m mask → OutPart r x m mask
out_part r x m mask o = out_part_as r o refl

-- The other way round: a step that releases m lets it go by the call, with a mask that names all whom it names.
pub part_out : {r q : Run} {x : Call} {y : Command} (m echoed own : ℕ) → PartOf r x q y → y ≡ Release m → (step_in q y).answer ≡ Released echoed own →
    (mask : ℕ) × LetsGo x (call_in r x).answer m mask × ((c : ℕ) → named own c ≡ true → named mask c ≡ true)
unfolding step_call
part_out {r = r} m echoed own (itself y) is e =
    (own, subst (λ y. LetsGo (asks y) (step_in r y).answer m own) (sym is) (subst (λ a. LetsGo (asks (Release m)) a m own) (sym e ∙ ap (λ y. (step_in r y).answer) is) (alone m echoed own)), λ c z. z)
part_out m echoed own (in_turn_lem c k w same) is e = absurd (let z : ◌≡◌ {A = ℕ} 0 1 = cc in omega arith)
part_out {r = r} m echoed own (in_set l i mask h s) is e =
    let (w, union_is) = set_goes r.table r.ledger l mask s in
    let here : nth l i ≡ m = cc in
    let mine : own_mask (state r.table) l i ≡ own = let z = sym (way_answer r w i h) ∙ e in cc in (
      mask,
      subst (λ m. LetsGo (release_set l) (call_in r (release_set l)).answer m mask) here (subst (λ a. LetsGo (release_set l) a (nth l i) mask) (sym s) (together l i mask h)),
      λ c z. subst (λ k. named k c ≡ true) union_is (own_named (state r.table) l i c h (subst (λ k. named k c ≡ true) (sym mine) z)),
    )

-- a step that neither releases nor delivers is the call itself
pub part_itself : {r q : Run} {x : Call} {y : Command} → PartOf r x q y → ((m : ℕ) → y ≢ Release m) → ((m : ℕ) → y ≢ Deliver m) → (x ≡ asks y) × (q ≡ r)
part_itself (itself y) release deliver = (refl, refl)
part_itself (in_turn_lem c k w same) release deliver = absurd (deliver _ refl)
part_itself (in_set l i mask h s) release deliver = absurd (release _ refl)
