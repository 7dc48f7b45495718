-- What becomes stable in a step is live after it, whatever the step and its answer. So Lemma A.1 of the paper, which the invariant
-- gives of live intervals, holds of all intervals in a run.
use Rattle.std.specs.Prelude.{◌≡◌, refl, false, cond, List, [], ◌∷◌, ◌++◌, ◌⊎◌, ℕ, zero, suc, ◌-◌, length, drop}
use Rattle.std.proofs.Common.{sym, subst}
use Rattle.std.proofs.Math.Path.{ap}
use Rattle.std.proofs.Math.Bool.{Bool, true, not}
use Rattle.std.proofs.lemmas.Bool.{false≢true}
use Rattle.std.proofs.Math.Logic.{inl, inr, ⊎_elim}
use Rattle.base.specs.Choice.{◌≤?◌, cond_ind}
use Rattle.rules.specs.Step.{Call}
use Rattle.rules.specs.declared.Answer.{Answer}
use Rattle.rules.specs.declared.Answer.TheVariants.{Done, Sent, Delivered, Crashed, Heard, Rolled}
use Rattle.rules.specs.declared.Command.{Command}
use Rattle.rules.specs.declared.Command.TheVariants.{Open, SetDegree, Send, Release, Deliver, Log, Checkpoint, Tell, Crash, Hear, SetGap}
use Rattle.history.specs.History.{Interval, interval, History, changed_at, member, those, oldest, degree_set, sent_from, joined, leaving, stabilized, hearing, losing, gap_set, flagging, opening, logging, checkpointing, forced_at, capping, beginning, delivering, restarting, crashing, rolling_back, answers, fed_step, fed}
use Rattle.history.specs.Demand.{Run, next, just_opened, FromOpening, up_to}
use Rattle.model.specs.Model.{Model}
use Rattle.model.specs.Tests.{Is}
use Rattle.model.proofs.Tests.{or_cases, changed_at_ind, changed_at_same, changed_at_interval_ind, interval_path, same_interval_true}
use Rattle.model.proofs.Chain.{member_cases, member_head, member_tail}
use Rattle.model.proofs.Invariant.{Inv, rests_back}
use Rattle.model.proofs.Keeping.{Keeps}
use Rattle.model.proofs.Opening.{first_only}
use Rattle.model.proofs.Paper.{lemma_A_1}
use Rattle.model.proofs.Runs.{Follows, along}

-- a member of those that pass a test is one of the list
member_those : (p : Interval → Bool) (l : List Interval) (y : Interval) → Is (member y (those p l)) → Is (member y l)
unfolding those
member_those p [] y m = m
member_those p (z ∷ l) y m =
    cond_ind (λ r. Is (member y r) → Is (member y (z ∷ l))) (p z)
    (λ e n. ⊎_elim (λ i. rw i (member_head z l)) (λ i. member_tail y z l (member_those p l y i)) (member_cases y z (those p l) n))
    (λ e n. member_tail y z l (member_those p l y n)) m

-- and so is one of what is left of it behind its first k
member_drop : (k : ℕ) (l : List Interval) (y : Interval) → Is (member y (drop k l)) → Is (member y l)
member_drop zero l y m = m
member_drop (suc k) [] y m = m
member_drop (suc k) (z ∷ l) y m = member_tail y z l (member_drop k l y m)

-- the chain of c has only intervals of c
abbrev pub Owned : History → ℕ → Type 0
Owned h c = (y : Interval) → Is (member y (h.chain c)) → y.owner ≡ c

-- what is stable in h' was stable in h, or is live in h'
abbrev pub NewlyLive : History → History → Type 0
NewlyLive h h' = (y : Interval) → Is (h'.stable y) → Is (h.stable y) ⊎ Is (member y (h'.chain y.owner))

-- a step from h to h' of which this holds, and that puts an interval only on the chain of its controller
pub record Secures (h h' : History) : Type 0 where
  pub newly : NewlyLive h h'
  pub owned : (b : ℕ) → Owned h b → Owned h' b

-- nothing becomes stable
secures_same : (h h' : History) → h'.stable ≡ h.stable → h'.chain ≡ h.chain → Secures h h'
secures_same h h' p q = record { newly = λ y z. inl (rw p at z); owned = λ b own y m. own y (rw q at m) }

-- a step is done or not
secures_if : {h h' : History} (b : Bool) → Secures h h' → Secures h (cond b h' h)
secures_if {h} b s = cond_ind (Secures h) b (λ e. s) (λ e. secures_same h h refl refl)

-- two parts of a step, where what is live after the first is so after the second
secures_trans : {h h' h'' : History} → Secures h h' → Secures h' h'' →
    ((c : ℕ) (y : Interval) → Is (member y (h'.chain c)) → Is (member y (h''.chain c))) → Secures h h''
secures_trans f g live =
    record {
      newly = λ y z. ⊎_elim (λ s. ⊎_elim (λ e. inl e) (λ m. inr (live _ y m)) (f.newly y s)) (λ m. inr m) (g.newly y z);
      owned = λ b own. g.owned b (f.owned b own);
    }

-- a list of live intervals becomes stable
stabilized_secures : (h : History) (l : List Interval) → ((y : Interval) → Is (member y l) → Is (member y (h.chain y.owner))) →
    Secures h (stabilized h l)
unfolding stabilized
stabilized_secures h l live =
    record { newly = λ y z. ⊎_elim (λ s. inl s) (λ m. inr (live y m)) (or_cases (h.stable y) (member y l) z); owned = λ b own. own }

-- controller c logs; by the invariant `live_owner` is that its chain is its own
module _ (h : History) (c : ℕ) (own : Owned h c) where
  -- an interval on the chain of c is live
  on_own : (y : Interval) → Is (member y (h.chain c)) → Is (member y (h.chain y.owner))
  on_own y m = subst (λ b. Is (member y (h.chain b))) (sym (own y m)) m

  -- L: some of the chain become stable
  pub logging_secures : (q : ℕ) → Secures h (logging h c q)
  unfolding logging oldest
  logging_secures q =
      let unstable = those (λ (y : Interval). not (h.stable y)) (h.chain c) in
      stabilized_secures h (oldest q unstable) (λ y m. on_own y (member_those _ (h.chain c) y (member_drop (length unstable - q) unstable y m)))

  -- C: all of the chain do
  pub checkpointing_secures : Secures h (checkpointing h c)
  unfolding checkpointing flagging
  checkpointing_secures = let s = stabilized_secures h (h.chain c) on_own in record { newly = s.newly; owned = s.owned }

  -- W4: all of it where the checkpoint is forced
  capping_secures : Secures h (capping h c)
  unfolding capping
  capping_secures = secures_if (forced_at h c) checkpointing_secures

-- and what is live stays
capping_live : (h : History) (c b : ℕ) (y : Interval) → Is (member y (h.chain b)) → Is (member y ((capping h c).chain b))
unfolding capping checkpointing flagging stabilized
capping_live h c b y = cond_ind (λ (z : History). Is (member y (h.chain b)) → Is (member y (z.chain b))) (forced_at h c) (λ e m. m) (λ e m. m)

-- an interval of c begins
module _ (h : History) (c : ℕ) (own : Owned h c) (i x : ℕ) (on : Interval → Bool) (is_stable : Bool) where
  -- the history in which it has joined the chain
  abbrev after : History
  after = joined h c (interval c i x) on is_stable

  -- a fact of each chain in it
  after_chain : (P : ℕ → List Interval → Type 0) → P c (interval c i x ∷ h.chain c) → ((b : ℕ) → P b (h.chain b)) → (b : ℕ) → P b (after.chain b)
  unfolding joined
  after_chain P p q = changed_at_ind P h.chain c _ p (λ b ne. q b)

  -- it is live, stable or not
  joined_secures : Secures h after
  unfolding joined
  joined_secures =
      record {
        newly =
            changed_at_interval_ind (λ y s. Is s → Is (h.stable y) ⊎ Is (member y (after.chain y.owner))) h.stable (interval c i x) is_stable
            (λ s. inr (rw (changed_at_same h.chain c (interval c i x ∷ h.chain c)) (member_head (interval c i x) (h.chain c)))) (λ y ne s. inl s);
        owned = after_chain (λ b l. Owned h b → (y : Interval) → Is (member y l) → y.owner ≡ b)
            (λ o y m. ⊎_elim (λ e. ap (λ z. z.owner) e) (o y) (member_cases y (interval c i x) (h.chain c) m)) (λ b o. o);
      }

  -- all others stay live
  joined_live : (b : ℕ) (y : Interval) → Is (member y (h.chain b)) → Is (member y (after.chain b))
  joined_live b y = after_chain (λ b l. Is (member y (h.chain b)) → Is (member y l)) (member_tail y (interval c i x) (h.chain c)) (λ b m. m) b

  -- it may be checkpointed then
  beginning_secures : Secures h (beginning h c (interval c i x) on is_stable)
  unfolding beginning
  beginning_secures = let o = joined_secures.owned c own in secures_trans joined_secures (capping_secures after c o) (capping_live after c)

  -- and all others stay live
  beginning_live : (b : ℕ) (y : Interval) → Is (member y (h.chain b)) → Is (member y ((beginning h c (interval c i x) on is_stable).chain b))
  unfolding beginning
  beginning_live b y m = capping_live after c b y (joined_live b y m)

-- `delivered`: the new interval is not stable unless its checkpoint is forced
pub delivering_secures : (h : History) (m : ℕ) → Owned h (h.receiver m) → Secures h (delivering h m)
unfolding delivering
delivering_secures h m own = beginning_secures h (h.receiver m) own _ _ _ false

-- X and `rolled`: the intervals that fail a test leave the chain of c, and a new one begins
module _ (h : History) (c : ℕ) (own : Owned h c) (kept : Interval → Bool) where
  -- the history in which they have left
  abbrev cut : History
  cut = leaving h c kept

  -- the intervals left are of their controllers
  cut_owned : (b : ℕ) → Owned h b → Owned cut b
  unfolding leaving
  cut_owned =
      changed_at_ind (λ b l. Owned h b → (y : Interval) → Is (member y l) → y.owner ≡ b) h.chain c (those kept (h.chain c))
      (λ o y m. o y (member_those kept (h.chain c) y m)) (λ b ne o. o)

  -- the new one begins
  restarting_secures : Secures cut (restarting cut c)
  unfolding restarting
  restarting_secures = beginning_secures cut c (cut_owned c own) _ _ _ true

  -- and those left stay
  restarting_live : (b : ℕ) (y : Interval) → Is (member y (cut.chain b)) → Is (member y ((restarting cut c).chain b))
  unfolding restarting
  restarting_live = beginning_live cut c (cut_owned c own) _ _ _ true

-- recovery of controller c
module _ (h : History) (c : ℕ) (own : Owned h c) where
  -- X: the new interval is stable
  pub crashing_secures : Secures h (crashing h c)
  unfolding crashing leaving hearing losing
  crashing_secures =
      let marked = hearing (losing h c) c c (h.incarnation c) in
      let s = restarting_secures marked c own h.stable in
      record { newly = s.newly; owned = λ b o. s.owned b (cut_owned marked c own h.stable b o) }

  -- those of a chain that are kept become stable
  kept_secures : (kept : Interval → Bool) → Secures h (leaving (stabilized h (those kept (h.chain c))) c kept)
  unfolding leaving stabilized
  kept_secures kept =
      let l = those kept (h.chain c) in
      record {
        newly = λ y z.
            ⊎_elim (λ s. inl s)
            (λ m. let mine = own y (member_those kept (h.chain c) y m) in
            inr (subst (λ b. Is (member y (changed_at h.chain c l b))) (sym mine) (rw (changed_at_same h.chain c l) m)))
            (or_cases (h.stable y) (member y l) z);
        owned = cut_owned h c own kept;
      }

  -- `rolled`: those kept and the new interval are stable
  pub rolling_secures : (k : ℕ) → Secures h (rolling_back h c k)
  unfolding rolling_back stabilized
  rolling_secures k =
      let kept : Interval → Bool = λ (y : Interval). y.number ≤? k in
      let secured = stabilized h (those kept (h.chain c)) in
      secures_trans (kept_secures kept) (restarting_secures secured c own kept) (restarting_live secured c own kept)

-- O: each chain has one interval of its controller
opening_owned : (n k c : ℕ) → Owned (opening n k) c
unfolding opening member
opening_owned n k c y m = ⊎_elim (λ e. ap (λ z. z.owner) e) (λ e. absurd (false≢true e)) (member_cases y (interval c 0 1) [] m)

-- and just these are stable
opening_secures : (h : History) (n k : ℕ) → Secures h (opening n k)
unfolding opening
opening_secures h n k =
    record {
      newly = λ y z.
          let (_, p, q) = first_only n k y z in
          inr (subst (λ w. Is (member w (interval y.owner 0 1 ∷ []))) (sym (interval_path refl p q)) (member_head (interval y.owner 0 1) []));
      owned = λ b own. opening_owned n k b;
    }

-- H: the same after the crash is heard
hearing_secures : (h : History) (b crashed i k : ℕ) → Owned h b → Secures h (rolling_back (hearing h b crashed i) b k)
unfolding hearing
hearing_secures h b crashed i k own = let s = rolling_secures (hearing h b crashed i) b own k in record { newly = s.newly; owned = s.owned }

-- What becomes stable in a step is live after it, whatever the step and its answer.
pub fed_secures : (x : Command) (a : Answer) (h : History) → ((c : ℕ) → Owned h c) → Secures h (fed_step x a h)
unfolding fed_step degree_set sent_from hearing gap_set
fed_secures (Open n k) a h own = secures_if (answers a Done) (opening_secures h n k)
fed_secures (SetDegree c k) a h own = secures_if (answers a Done) (secures_same h _ refl refl)
fed_secures (Send s r p) a h own = secures_if (answers a (Sent 0)) (secures_same h _ refl refl)
fed_secures (Release m) a h own = secures_same h h refl refl
fed_secures (Deliver m) a h own = secures_if (answers a (Delivered 0 0 0)) (delivering_secures h m (own (h.receiver m)))
fed_secures (Log c q) a h own = secures_if (answers a Done) (logging_secures h c (own c) q)
fed_secures (Checkpoint c) a h own = secures_if (answers a Done) (checkpointing_secures h c (own c))
fed_secures (Tell teller told) a h own = secures_same h h refl refl
fed_secures (Crash c) a h own = secures_if (answers a (Crashed 0 0 0 0 0)) (crashing_secures h c (own c))
fed_secures (Hear b crashed i) a h own =
    cond_ind (Secures h) (answers a (Heard 0)) (λ e. secures_same h _ refl refl)
    (λ e. secures_if (answers a (Rolled 0 0 0 0 0 0)) (hearing_secures h b crashed i _ (own b)))
fed_secures (SetGap q) a h own = secures_if (answers a Done) (secures_same h _ refl refl)

-- "Lemma A.1. (s → w ∧ s.p = w.p ∧ stable(w)) ⇒ stable(s)." Of every w, live or not:
abbrev pub StableDown : History → Type 0
StableDown h = (w s : Interval) → Is (h.stable w) → Is (h.rests w s) → s.owner ≡ w.owner → Is (h.stable s)

-- it holds in a house just opened,
stable_down_opened : (n k : ℕ) → StableDown (opening n k)
unfolding opening
stable_down_opened n k w s z r e = rw (same_interval_true s w r) z

-- a step keeps it: w was stable before it, or is live after it,
pub stable_down_keeps : {n : ℕ} {μ μ' : Model} {h h' : History} → Inv n μ h → Keeps n μ h μ' h' → NewlyLive h h' → StableDown h → StableDown h'
stable_down_keeps {n} {μ} {μ'} {h} {h'} v keeps newly down w s z r e = ⊎_elim before now (newly w z)
  where
    before : Is (h.stable w) → Is (h'.stable s)
    before q = keeps.ext.stable_stays s (down w s q (rests_back keeps.ext w s (v.history.stable_begun w q) r) e)

    now : Is (member w (h'.chain w.owner)) → Is (h'.stable s)
    now m = let order = keeps.inv.history in lemma_A_1 keeps.inv w (order.owner_below w (order.stable_begun w z)) m s z r e

-- and so it holds at all times in a list from an opening: after each first part of it
module _ {n : ℕ} {Reads : Run → Model → Type 0} (F : Follows n Reads) (t g : List ℕ) (k : ℕ) (l : List Call) (O : FromOpening t g n k l) where
  pub lemma_A_1_always : (before rest : List Call) → l ≡ before ++ rest → StableDown (up_to t g n k before).history
  unfolding just_opened next fed
  lemma_A_1_always before rest e =
      (along F t g k l O (λ r. ((c : ℕ) → Owned r.history c) × StableDown r.history) (λ q c lent low p. p) (opening_owned n k, stable_down_opened n k)
      (λ first x after f q y s p. let step = fed_secures y _ _ p.0 in
      (λ c. step.owned c (p.0 c), stable_down_keeps s.holds.inv s.one.keeps step.newly p.1))
      before rest e).1
