-- The two extremes of the degree, and one rollback a failure: under the degree 0 nothing that was let out is ever revoked, under n no message to a
-- controller is held, and a crash is heard once.
use Rattle.std.specs.Prelude.{◌≡◌, Bool, true, List, ◌∷◌, ◌++◌, ◌≢◌, ℕ, zero, suc, ◌+◌, ◌≤◌, ◌<◌}
use Rattle.std.proofs.Math.Path.{refl, sym}
use Rattle.std.proofs.Common.{◌∙◌, ap, subst, append_assoc, arith, lt-ltb, ltb-true}
use Rattle.base.specs.Choice.{◌<?◌, cond_ind, le?}
use Rattle.table.specs.Field.{desk}
use Rattle.table.specs.Layout.{controllers}
use Rattle.table.proofs.Numbering.{present_pos}
use Rattle.rules.specs.Form.{state_held}
use Rattle.rules.specs.Report.{report}
use Rattle.rules.specs.Step.{Call, asks, step_call}
use Rattle.rules.specs.declared.Answer.{Answer}
use Rattle.rules.specs.declared.Answer.TheVariants.{Held}
use Rattle.rules.specs.declared.Command.TheVariants.{Release, Hear}
use Rattle.history.specs.History.{History, leaving, stabilized, rolling_back, answers, value_at, fed_step, fed}
use Rattle.history.specs.Demand.{call_in, step_in, next, Accepted, answers_heard, answers_rolled, named, LetsGo, FromOpening, up_to, end}
use Rattle.history.specs.Progress.{Orphan}
use Rattle.model.specs.Model.{Model}
use Rattle.model.specs.Tests.{Is}
use Rattle.model.proofs.Tests.{eq?}
use Rattle.model.proofs.Consequences.{release_degree, release_named, sending_begun}
use Rattle.model.proofs.Hearing.{hearing_new}
use Rattle.model.proofs.Runs.{in_list}
use Rattle.base.specs.Ranges.{count, count_le}
use Rattle.image.specs.Reads.{present_sent}
use Rattle.image.specs.Outcome as O
use Rattle.image.specs.Outcome.{Outcome}
use Rattle.image.proofs.Tables.{opening_done}
use Rattle.progress.proofs.Answers.{release_refused}
use Rattle.demand.specs.Demanded.{table_inv, table_outcome, follows, demand_3}
use Rattle.demand.proofs.Beyond.{lost_unstable}
use Rattle.demand.proofs.Claims.{at_most_K_named}
use Rattle.paper.specs.Ready.{state_of_message, there_ok, ready}
use Rattle.model.proofs.Blaming.{restarted_heard}
use Rattle.paper.specs.Spreading.{first, ready_at}
use Rattle.paper.specs.Named.{held_names, few_go}

-- one number that passes a test is counted
count_at_lem : (n : ℕ) (f : ℕ → Bool) (a : ℕ) → a < n → f a ≡ true → 1 ≤ count n f
unfolding count
count_at_lem zero f a l e = absurd (omega arith)
count_at_lem (suc n) f a l e = eq? a n (λ is. rw (sym (ap f is) ∙ e) (omega arith)) (λ ne. let rest = count_at_lem n f a (omega arith) e in omega arith)

-- no more than n numbers are below n
count_all : (k : ℕ) (f : ℕ → Bool) → count k f ≤ k
unfolding count
count_all zero f = omega arith
count_all (suc k) f = let rest = count_all k f in cond_ind (λ x. x + count k f ≤ suc k) (f k) (λ _. omega arith) (λ _. omega arith)

count_below : (k n : ℕ) → count k (λ c. c <? n) ≤ n
unfolding count
count_below zero n = omega arith
count_below (suc k) n =
    cond_ind (λ x. x + count k (λ c. c <? n) ≤ n) (k <? n) (λ e. omega (arith, ltb-true k n e, count_all k (λ c. c <? n))) (λ _. omega (arith, count_below k n))

-- a hearing that is accepted was of a crash unheard,
accepted_unheard : {n : ℕ} {μ : Model} {b a i j : ℕ} {y : Answer} {μ' : Model} → Outcome n μ (Hear b a i) y j μ' → Accepted y → (b < n) × ((μ.controller b).ends a i ≡ 0)
accepted_unheard (O.heard b a i w z) _ = (w.hearer_below, w.unheard)
accepted_unheard (O.rolled b a i j undone w z) _ = (w.hearer_below, w.unheard)
accepted_unheard {n = n} {μ = μ} {b = b} {a = a} {i = i} (O.refused _ number) none = elim none [ ]

-- and marks it as heard
accepted_heard : (h : History) (b a i : ℕ) (y : Answer) → Accepted y → Is ((fed_step (Hear b a i) y h).heard b a i)
unfolding fed_step answers report value_at rolling_back leaving stabilized
accepted_heard h b a i _ (answers_heard hearer) = hearing_new h b a i
accepted_heard h b a i _ (answers_rolled hearer kept undone replayed owner ended) =
    subst (λ (f : ℕ → ℕ → ℕ → Bool). Is (f b a i)) (sym (restarted_heard _ b)) (hearing_new h b a i)

module _ (t g : List ℕ) (n k : ℕ) (l : List Call) (O : FromOpening t g n k l) where
  abbrev h : History
  h = end t g n k l

  -- Under the degree 0: a message that a release or a set in the list let out then is no orphan at its end.
  pub never_revoked : (before after : List Call) (x : Call) (m mask : ℕ) → l ≡ before ++ x ∷ after → LetsGo x (call_in (up_to t g n k before) x).answer m mask →
      (let then = (up_to t g n k before).history in then.degree (then.sending m).owner ≡ 0) → Orphan h (h.sending m) → ⊥
  never_revoked before after x m mask e goes zero_degree o =
      let v = table_inv (ready t g n k l O).holds in
      let lost = v.history.lost_begun o.on o.crash o.lost in
      let named_it = (demand_3 t g n k l O).releases before after x m mask e goes o.on o.crash o.rests
      (lost_unstable t g n k l O before (x ∷ after) e o.on o.crash o.lost) o.lost in
      let near : o.on.owner < controllers = omega (arith, v.history.owner_below o.on lost, (opening_done t g n k O.done).size_le) in
      omega (arith, count_at_lem controllers (named mask) o.on.owner near named_it, at_most_K_named t g n k l O before after x m mask e goes)

  -- Under the degree n: where a message to a controller is held at the end, its sender's degree is below n.
  pub never_held : (m echoed mask : ℕ) → (step_in (up_to t g n k l) (Release m)).answer ≡ Held echoed mask → h.receiver m ≢ desk → h.degree (h.sending m).owner < n
  never_held m echoed mask held away =
      let s = ready t g n k l O in
      let r = up_to t g n k l in
      let u = r.table in
      let v = table_inv s.holds in
      let (here, names) = held_names u r.ledger s.sound m echoed mask held in
      let pos = present_pos _ m here in
      let sent = present_sent _ m here in
      let is : state_of_message u m ≡ state_held = eq? (state_of_message u m) state_held (λ e. e)
      (λ ne. let z = sym held ∙ release_refused u r.ledger s.sound m here ne in absurd (let q : ◌≡◌ {A = ℕ} 0 1 = cc in omega arith)) in
      let go = few_go u r.ledger s.sound m here is in
      let all_below : (c : ℕ) → named go.mask c ≡ true → (c <? n) ≡ true = λ c e.
      let why = release_named v m pos sent c (sym (go.names c) ∙ e) in
      lt-ltb c n (subst (λ a. a < n) why.owner_is (v.history.owner_below _ (v.history.rests_begun _ _ (sending_begun v m pos sent) why.rests))) in
      let few : count controllers (named go.mask) ≤ n = omega (arith, count_le controllers (named go.mask) (λ c. c <? n) all_below, count_below controllers n) in
      le? n (h.degree (h.sending m).owner)
      (λ q. let z = sym held ∙ go.goes (λ e. away ((there_ok u v m here).receiver_is ∙ e)) (omega (arith, few, release_degree v m pos sent)) in
      absurd (let q : ◌≡◌ {A = ℕ} 0 1 = cc in omega arith))
      (λ q. q)

  -- A crash is heard once: of two hearings of it by one controller in the list only the first is accepted.
  pub heard_once : (before between after : List Call) (b a i : ℕ) → let x = Hear b a i in
      l ≡ before ++ asks x ∷ (between ++ asks x ∷ after) → Accepted (step_in (up_to t g n k before) x).answer →
      Accepted (step_in (up_to t g n k (before ++ asks x ∷ between)) x).answer → ⊥
  unfolding next step_call fed
  heard_once before between after b a i e once again =
      let x = asks (Hear b a i) in
      let part = before ++ x ∷ between in
      let whole = e ∙ sym (append_assoc before (x ∷ between) (x ∷ after)) in
      let P = ready_at t g n k l O part (x ∷ after) whole in
      let (below, none) = accepted_unheard (table_outcome P.holds (Hear b a i)) again in
      let c = in_list (follows n) t g k part (first t g n k l O part (x ∷ after) whole) before x between refl in
      let heard = c.rest.keeps.ext.heard_stays b a i (accepted_heard (up_to t g n k before).history b a i _ once) in
      omega (arith, none, ((table_inv P.holds).controller_ok_lem b below).ended.heard_end a i heard)
