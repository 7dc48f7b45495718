-- A list of calls with more checkpoints and tellings at its end: none of these touches a chain, a message or who has heard what, and who checkpoints
-- among them and tells b after that is asked for b.
use Rattle.std.specs.Prelude.{◌≡◌, refl, true, List, [], ◌∷◌, ◌++◌, ◌≢◌, ◌⊎◌, ℕ, ◌<◌}
use Rattle.std.proofs.Math.Path.{sym, subst}
use Rattle.std.proofs.Common.{◌∙◌, ap, ap₂, append_assoc, inl, ⊎_elim, arith}
use Rattle.std.proofs.Math.Logic.{inr}
use Rattle.base.specs.Choice.{cond_ind}
use Rattle.rules.specs.Step.{Call, asks}
use Rattle.rules.specs.declared.Answer.{Answer}
use Rattle.rules.specs.declared.Answer.TheVariants.{Done}
use Rattle.rules.specs.declared.Command.TheVariants.{Open, Checkpoint, Tell, Crash}
use Rattle.history.specs.History.{History, fed, fed_step, answers, checkpointing, flagging, stabilized}
use Rattle.history.specs.Demand.{runs, next, FromOpening, Run, end, call_in, up_to, LetsGo, step_in}
use Rattle.history.specs.Progress.{HasHeard}
use Rattle.history.specs.Asked.{by_checkpoint, by_telling, Spreads, checkpoints, Asked, SecuredIn, Secures}
use Rattle.history.specs.Emptied.{CheckpointThenTell}
use Rattle.calls.specs.Sets.{runs_append}
use Rattle.paper.specs.Spreading.{first}
use Rattle.paper.specs.Whenever.{checkpoint_is_done, tell_is_done}

-- LISTS
-- what is in two lists, one behind the other, is in the first or in the second
in_append : {A : Type 0} (l m before : List A) (x : A) (after : List A) → l ++ m ≡ before ++ x ∷ after →
    ((rest : List A) × (l ≡ before ++ x ∷ rest)) ⊎ ((part : List A) × (before ≡ l ++ part) × (m ≡ part ++ x ∷ after))
in_append [] m before x after e = inr (before, refl, e)
in_append (y ∷ l) m [] x after e = let z : y ≡ x = cc in inl (l, ap (λ q. q ∷ l) z)
in_append (y ∷ l) m (z ∷ before) x after e =
    let same : y ≡ z = cc in
    let rest : l ++ m ≡ before ++ x ∷ after = cc in
    ⊎_elim (λ q. inl (q.0, ap₂ ◌∷◌ same q.1)) (λ q. inr (q.0, ap₂ ◌∷◌ (sym same) q.1, q.2)) (in_append l m before x after rest)

-- where an element stands in a list
pub record At {A : Type 0} (x : A) (l : List A) : Type 0 where
  pub before : List A
  pub after : List A
  pub is : l ≡ before ++ x ∷ after

-- one further on
pub at_more : {A : Type 0} {x : A} {l : List A} (y : A) → At x l → At x (y ∷ l)
at_more y a = record { before = y ∷ a.before; after = a.after; is = ap (λ q. y ∷ q) a.is }

-- in the first of two lists, and in the second
unfoldable pub at_first : {A : Type 0} {x : A} {l : List A} (m : List A) → At x l → At x (l ++ m)
at_first {x = x} m a = record { before = a.before; after = a.after ++ m; is = ap (λ q. q ++ m) a.is ∙ append_assoc a.before (x ∷ a.after) m }

unfoldable pub at_second : {A : Type 0} {x : A} {m : List A} (l : List A) → At x m → At x (l ++ m)
at_second {x = x} l a = record { before = l ++ a.before; after = a.after; is = ap (λ q. l ++ q) a.is ∙ sym (append_assoc l a.before (x ∷ a.after)) }

-- a checkpoint in the first and a telling in the second
pub then_tells : {c b : ℕ} {l m : List Call} → At (asks (Checkpoint c)) l → At (asks (Tell c b)) m → CheckpointThenTell (l ++ m) c b
unfolding at_first at_second
then_tells {c} {b} {m = m} p q =
    record {
      before = p.before;
      between = p.after ++ q.before;
      after = q.after;
      is_in = (at_first m p).is ∙ ap (λ z. p.before ++ asks (Checkpoint c) ∷ z) (at_second p.after q).is;
    }

-- each element of a list
unfoldable pub Each : (Call → Type 0) → List Call → Type 0
Each P [] = Unit {0}
Each P (x ∷ l) = P x × Each P l

pub each_append : (P : Call → Type 0) (l m : List Call) → Each P l → Each P m → Each P (l ++ m)
unfolding Each
each_append P [] m p q = q
each_append P (x ∷ l) m p q = (p.0, each_append P l m p.1 q)

pub each_first : (P : Call → Type 0) (l m : List Call) → Each P (l ++ m) → Each P l
unfolding Each
each_first P [] m p = tt
each_first P (x ∷ l) m p = (p.0, each_first P l m p.1)

pub each_at : (P : Call → Type 0) (l before : List Call) (x : Call) (after : List Call) → Each P l → l ≡ before ++ x ∷ after → P x
unfolding Each
each_at P [] [] x after p e = absurd (let z : ◌≡◌ {A = ℕ} 0 1 = cc in omega arith)
each_at P [] (y ∷ before) x after p e = absurd (let z : ◌≡◌ {A = ℕ} 0 1 = cc in omega arith)
each_at P (y ∷ l) [] x after p e = let z : y ≡ x = cc in subst P z p.0
each_at P (y ∷ l) (z ∷ before) x after p e = each_at P l before x after p.1 (let q : l ≡ before ++ x ∷ after = cc in q)

-- by where it stands
pub each_of : (P : Call → Type 0) (l : List Call) → ((before : List Call) (x : Call) (after : List Call) → l ≡ before ++ x ∷ after → P x) → Each P l
unfolding Each
each_of P [] p = tt
each_of P (x ∷ l) p = (p [] x l refl, each_of P l (λ before y after e. p (x ∷ before) y after (ap (λ q. x ∷ q) e)))

-- WHAT THEY LEAVE
-- they are no opening, no release and no crash
pub no_opening : (x : Call) → Spreads x → (size degree : ℕ) → x ≢ asks (Open size degree)
no_opening _ (by_checkpoint c) size degree e = absurd (let z : ◌≡◌ {A = ℕ} 0 1 = cc in omega arith)
no_opening _ (by_telling c b) size degree e = absurd (let z : ◌≡◌ {A = ℕ} 0 1 = cc in omega arith)

pub lets_none_out : {x : Call} {a : Answer} {m mask : ℕ} → Spreads x → LetsGo x a m mask → ⊥
lets_none_out (by_checkpoint c) o = elim o [ ]
lets_none_out (by_telling c b) o = elim o [ ]

no_crash : (x : Call) → Spreads x → (c : ℕ) → x ≢ asks (Crash c)
no_crash _ (by_checkpoint a) c e = absurd (let z : ◌≡◌ {A = ℕ} 0 1 = cc in omega arith)
no_crash _ (by_telling a b) c e = absurd (let z : ◌≡◌ {A = ℕ} 0 1 = cc in omega arith)

-- a history with the same chains, messages and hearings
pub record Same (h h' : History) : Type 0 where
  pub chain_is : h'.chain ≡ h.chain
  pub heard_is : h'.heard ≡ h.heard
  pub receiver_is : h'.receiver ≡ h.receiver
  pub sending_is : h'.sending ≡ h.sending
  pub begun_is : h'.begun ≡ h.begun

same_self : (h : History) → Same h h
same_self h = record { chain_is = refl; heard_is = refl; receiver_is = refl; sending_is = refl; begun_is = refl }

same_trans : {h h' h'' : History} → Same h h' → Same h' h'' → Same h h''
same_trans p q =
    record {
      chain_is = q.chain_is ∙ p.chain_is;
      heard_is = q.heard_is ∙ p.heard_is;
      receiver_is = q.receiver_is ∙ p.receiver_is;
      sending_is = q.sending_is ∙ p.sending_is;
      begun_is = q.begun_is ∙ p.begun_is;
    }

same_fed : (x : Call) → Spreads x → (a : Answer) (h : History) → Same h (fed x a h)
unfolding fed fed_step checkpointing flagging stabilized
same_fed _ (by_checkpoint c) a h =
    cond_ind (Same h) (answers a Done) {x = checkpointing h c} (λ _. record { chain_is = refl; heard_is = refl; receiver_is = refl; sending_is = refl; begun_is = refl }) (λ _. same_self h)
same_fed _ (by_telling c b) a h = same_self h

same_runs : (l : List Call) → Each Spreads l → (r : Run) → Same r.history (runs r l).history
unfolding Each runs next
same_runs [] p r = same_self r.history
same_runs (x ∷ l) p r = same_trans (same_fed x p.0 (call_in r x).answer r.history) (same_runs l p.1 (next x r))

-- FROM THE END OF A LIST
module _ (t g : List ℕ) (n k : ℕ) (l : List Call) (O : FromOpening t g n k l) (more : List Call) (spreading : Each Spreads more) where
  -- the list with these steps
  abbrev longer : List Call
  longer = l ++ more

  -- the history at its end, and at the end of the list
  abbrev h' : History
  h' = end t g n k longer

  abbrev h : History
  h = end t g n k l

  -- a call in it that is none of them is in the list
  pub in_first : (x : Call) → (Spreads x → ⊥) → (before after : List Call) → longer ≡ before ++ x ∷ after → (rest : List Call) × (l ≡ before ++ x ∷ rest)
  in_first x none before after e =
      ⊎_elim (λ q. q) (λ q. absurd (none (each_at Spreads more q.0 x after spreading q.2))) (in_append l more before x after e)

  -- so it is from the opening
  pub from : FromOpening t g n k longer
  from =
      record {
        done = O.done;
        no_opening = λ before after size degree e.
            let (rest, is) = in_first (asks (Open size degree)) (λ p. no_opening _ p size degree refl) before after e in
            O.no_opening before rest size degree is;
      }

  -- a first part of the steps
  module _ (part rest : List Call) (e : more ≡ part ++ rest) where
    pub is_first : longer ≡ (l ++ part) ++ rest
    is_first = ap (λ q. l ++ q) e ∙ sym (append_assoc l part rest)

    pub from_part : FromOpening t g n k (l ++ part)
    from_part = first t g n k longer from (l ++ part) rest is_first

    pub same_part : Same h (end t g n k (l ++ part))
    same_part =
        subst (λ q. Same h q.history) (sym (runs_append _ l part))
        (same_runs part (each_first Spreads part rest (subst (Each Spreads) e spreading)) (up_to t g n k l))

  -- at the end
  pub same_end : Same h h'
  same_end = subst (λ q. Same h q.history) (sym (runs_append _ l more)) (same_runs more spreading (up_to t g n k l))

  -- b has heard no less
  pub still_heard : (b : ℕ) → HasHeard t g n k l b → HasHeard t g n k longer b
  still_heard b heard c i crash =
      let (rest, is) = in_first (asks (Crash c)) (λ p. no_crash _ p c refl) crash.before crash.after crash.is_in in
      ap (λ f. f b c i) same_end.heard_is
      ∙ heard c i (record { before = crash.before; after = rest; echoed = crash.echoed; kept = crash.kept; lost = crash.lost; replayed = crash.replayed; is_in = is; answer = crash.answer })

  -- a message whose sending interval has begun by the end of the list
  module _ (m : ℕ) (begun : h.begun (h.sending m) ≡ true) (c : ℕ) (below : c < n) where
    -- a checkpoint of c among these steps secures c for it,
    unfoldable pub secured : (before after : List Call) → more ≡ before ++ asks (Checkpoint c) ∷ after → SecuredIn t g n k longer m c
    secured before after e =
        let rest = asks (Checkpoint c) ∷ after in
        let same = same_part before rest e in
        record {
          before = l ++ before;
          step = Checkpoint c;
          after = after;
          is_in = is_first before rest e;
          secures = subst (Secures c (Checkpoint c)) (sym (checkpoint_is_done t g n k (l ++ before) (from_part before rest e) c below)) checkpoints;
          began = ap₂ (λ f s. f (s m)) same.begun_is same_end.sending_is ∙ begun;
        }

    -- and with a telling after it c is asked for b
    pub asked_among : (b : ℕ) → b < n → c ≢ b → CheckpointThenTell more c b → Asked t g n k longer m b c
    unfolding secured
    asked_among b near ne w =
        let x = asks (Checkpoint c) in
        let y = asks (Tell c b) in
        let part = w.before ++ x ∷ w.between in
        let whole : more ≡ part ++ y ∷ w.after = w.is_in ∙ sym (append_assoc w.before (x ∷ w.between) (y ∷ w.after)) in
        record {
          point = secured w.before (w.between ++ y ∷ w.after) w.is_in;
          tell = inr (record {
            between = w.between;
            after = w.after;
            is_in = refl;
            answer =
                subst (λ q. (step_in (up_to t g n k q) (Tell c b)).answer ≡ Done) (sym (append_assoc l w.before (x ∷ w.between)))
                (tell_is_done t g n k (l ++ part) (from_part part (y ∷ w.after) whole) c b below near ne);
          });
        }
