-- "Eventually sent": from the end of every list, a checkpoint of every controller and a telling of each other one to b bring out what b has sent and
-- can be brought out, and let in what was released to b. All of these steps are done, and none touches a chain, a message or who has heard what.
use Rattle.std.specs.Prelude.{◌≡◌, refl, true, List, [], ◌∷◌, ◌++◌, ◌≢◌, ℕ, zero, suc, ◌<◌}
use Rattle.std.proofs.Common.{sym, ◌∙◌, ap, subst, append_assoc, inl, arith, eq-eqb, ne_eqb, ◌==◌}
use Rattle.base.specs.Choice.{cond_ind}
use Rattle.table.specs.Words.{state}
use Rattle.table.specs.Numbering.{used, record_of}
use Rattle.table.proofs.Numbering.{present_pos, given_present}
use Rattle.rules.specs.Limits.{house}
use Rattle.rules.specs.Form.{state_released}
use Rattle.rules.specs.Step.{Call, asks, step_call}
use Rattle.rules.specs.declared.Answer.TheVariants.{Done}
use Rattle.rules.specs.declared.Command.TheVariants.{Send, Checkpoint, Tell}
use Rattle.history.specs.History.{Interval, History, member}
use Rattle.history.specs.Demand.{Run, call_in, next, runs, FromOpening, up_to, end}
use Rattle.history.specs.Progress.{SentIn, SendingLive, NotLetOut, HasHeard, Deliverable}
use Rattle.history.specs.Asked.{Spreads, by_checkpoint, by_telling, was_asked, AllCleared, GoesOut, Arrives, Eventually}
use Rattle.history.specs.Emptied.{all_checkpoint, all_tell}
use Rattle.model.proofs.Tests.{eq?}
use Rattle.model.proofs.Consequences.{live_begun, sending_begun}
use Rattle.calls.specs.Sets.{runs_append}
use Rattle.calls.specs.Made.{NotDone}
use Rattle.image.specs.Reads.{sent_is, present_sent}
use Rattle.progress.proofs.Tables.{checkpoint_leaves, tell_leaves, state_same}
use Rattle.progress.proofs.Answers.{deliverable_is, released_deliverable}
use Rattle.demand.specs.Demanded.{table_inv}
use Rattle.paper.specs.Ready.{Ready, state_of_message, ready_next, ready, sent_there}
use Rattle.paper.specs.Spreading.{grown_next}
use Rattle.paper.specs.Whenever.{checkpoint_is_done, tell_is_done, live_goes, receiver_in_lem, cleared_arrives}
use Rattle.paper.proofs.Longer.{Each, from_part, each_append, no_opening, from, Same, each_at, secured, in_first, still_heard, same_end, asked_among, lets_none_out, At, at_first, at_more, then_tells}

-- THE STEPS
-- a checkpoint of each controller below n, and a telling of each of these but b to b
abbrev informing : ℕ → ℕ → List Call
informing n b = all_checkpoint n ++ all_tell n b

-- one of these
data Informs (n b : ℕ) : Call → Type 0 where
  by_C : (c : ℕ) → c < n → Informs n b (asks (Checkpoint c))
  by_T : (c : ℕ) → c < n → c ≢ b → Informs n b (asks (Tell c b))

informs_up : (n m b : ℕ) → n < m → (x : Call) → Informs n b x → Informs m b x
informs_up n m b l _ (by_C c below) = by_C c (omega arith)
informs_up n m b l _ (by_T c below ne) = by_T c (omega arith) ne

each_up : (n m b : ℕ) → n < m → (l : List Call) → Each (Informs n b) l → Each (Informs m b) l
unfolding Each
each_up n m b l [] p = tt
each_up n m b l (x ∷ xs) p = (informs_up n m b l x p.0, each_up n m b l xs p.1)

checkpoints_inform : (n b : ℕ) → Each (Informs n b) (all_checkpoint n)
unfolding Each all_checkpoint
checkpoints_inform zero b = tt
checkpoints_inform (suc c) b = (by_C c (omega arith), each_up c (suc c) b (omega arith) (all_checkpoint c) (checkpoints_inform c b))

tells_inform : (n b : ℕ) → Each (Informs n b) (all_tell n b)
unfolding Each all_tell
tells_inform zero b = tt
tells_inform (suc c) b =
    let rest = each_up c (suc c) b (omega arith) (all_tell c b) (tells_inform c b) in
    eq? c b (λ e. rw (eq-eqb c b e) rest) (λ ne. rw (ne_eqb c b ne) (by_T c (omega arith) ne, rest))

all_inform : (n b : ℕ) → Each (Informs n b) (informing n b)
all_inform n b = each_append (Informs n b) (all_checkpoint n) (all_tell n b) (checkpoints_inform n b) (tells_inform n b)

-- checkpoints and tellings alone
pub checkpoints_spread : (n : ℕ) → Each Spreads (all_checkpoint n)
unfolding Each all_checkpoint
checkpoints_spread zero = tt
checkpoints_spread (suc c) = (by_checkpoint c, checkpoints_spread c)

pub tells_spread : (n b : ℕ) → Each Spreads (all_tell n b)
unfolding Each all_tell
tells_spread zero b = tt
tells_spread (suc c) b = cond_ind (Each Spreads) (c == b) (λ _. tells_spread c b) (λ _. (by_telling c b, tells_spread c b))

all_spread : (n b : ℕ) → Each Spreads (informing n b)
all_spread n b = each_append Spreads (all_checkpoint n) (all_tell n b) (checkpoints_spread n) (tells_spread n b)

-- where each stands
pub checkpoint_at : (n c : ℕ) → c < n → At (asks (Checkpoint c)) (all_checkpoint n)
unfolding all_checkpoint
checkpoint_at zero c below = absurd (omega arith)
checkpoint_at (suc d) c below =
    eq? c d (λ e. record { before = []; after = all_checkpoint d; is = ap (λ a. asks (Checkpoint a) ∷ all_checkpoint d) (sym e) })
    (λ ne. at_more (asks (Checkpoint d)) (checkpoint_at d c (omega arith)))

pub tell_at : (n b c : ℕ) → c < n → c ≢ b → At (asks (Tell c b)) (all_tell n b)
unfolding all_tell
tell_at zero b c below other = absurd (omega arith)
tell_at (suc d) b c below other =
    eq? c d
    (λ e. record { before = []; after = all_tell d b; is = rw (ne_eqb d b (λ z. other (e ∙ z))) (ap (λ a. asks (Tell a b) ∷ all_tell d b) (sym e)) })
    (λ ne. let rest = tell_at d b c (omega arith) other in
    cond_ind (At (asks (Tell c b))) (d == b) (λ _. rest) (λ _. at_more (asks (Tell d b)) rest))

-- WHAT THEY LEAVE
-- a message keeps its state
message_next : {n : ℕ} {r : Run} → Ready n r → (x : Call) → Spreads x → (m : ℕ) → record_of (state r.table) m < used (state r.table) →
    state_of_message (next x r).table m ≡ state_of_message r.table m
unfolding next step_call
message_next {r = r} s _ (by_checkpoint c) m there =
    state_same r.table r.ledger (Checkpoint c) s.sound.table (λ n k e. absurd (let z : ◌≡◌ {A = ℕ} 0 1 = cc in omega arith)) m there
    (checkpoint_leaves house (state r.table) r.ledger _ c)
message_next {r = r} s _ (by_telling c b) m there =
    state_same r.table r.ledger (Tell c b) s.sound.table (λ n k e. absurd (let z : ◌≡◌ {A = ℕ} 0 1 = cc in omega arith)) m there
    (tell_leaves house (state r.table) r.ledger _ c b)

message_stays : (n : ℕ) (l : List Call) → Each Spreads l → {r : Run} → Ready n r → (m : ℕ) → record_of (state r.table) m < used (state r.table) →
    let u = (runs r l).table in
    (record_of (state u) m < used (state u)) × (state_of_message u m ≡ state_of_message r.table m)
unfolding Each runs
message_stays n [] p s m there = (there, refl)
message_stays n (x ∷ l) p {r} s m there =
    let unopened : NotDone r x = λ size degree e. absurd (no_opening x p.0 size degree e) in
    let then = (next x r).table in
    let still = given_present (state then) m (present_pos _ m there) (omega (arith, present_sent _ m there, (grown_next s x unopened).sent_le, sent_is (state then))) in
    let (end_there, same) = message_stays n l p.1 (ready_next x s unopened) m still in
    (end_there, same ∙ message_next s x p.0 m there)

-- FROM THE END OF A LIST
module _ (t g : List ℕ) (n k : ℕ) (l : List Call) (O : FromOpening t g n k l) (b : ℕ) (near : b < n) where
  -- the list with these steps
  abbrev longer : List Call
  longer = l ++ informing n b

  -- the history at its end, and at the end of the list
  abbrev h' : History
  h' = end t g n k longer

  abbrev h : History
  h = end t g n k l

  -- it is from the opening
  still_from : FromOpening t g n k longer
  still_from = from t g n k l O (informing n b) (all_spread n b)

  -- chains, messages and hearings are the same at its end
  same : Same h h'
  same = same_end t g n k l O (informing n b) (all_spread n b)

  -- each of them is done
  is_done_lem : (before : List Call) (x : Call) (after : List Call) → informing n b ≡ before ++ x ∷ after → Spreads x × ((call_in (up_to t g n k (l ++ before)) x).answer ≡ Done)
  unfolding step_call
  is_done_lem before x after e = one x (each_at (Informs n b) (informing n b) before x after (all_inform n b) e)
    where
      from_here : FromOpening t g n k (l ++ before)
      from_here = from_part t g n k l O (informing n b) (all_spread n b) before (x ∷ after) e

      one : (x : Call) → Informs n b x → Spreads x × ((call_in (up_to t g n k (l ++ before)) x).answer ≡ Done)
      one _ (by_C c below) = (by_checkpoint c, checkpoint_is_done t g n k (l ++ before) from_here c below)
      one _ (by_T c below ne) = (by_telling c b, tell_is_done t g n k (l ++ before) from_here c b below near ne)

  -- all are cleared for b
  cleared : (m : ℕ) → h.begun (h.sending m) ≡ true → AllCleared t g n k longer m b
  cleared m begun c below =
      let own = checkpoint_at n c below in
      let whole = at_first (all_tell n b) own in
      was_asked (eq? c b
      (λ e. record { point = secured t g n k l O (informing n b) (all_spread n b) m begun c below whole.before whole.after whole.is; tell = inl e })
      (λ ne. asked_among t g n k l O (informing n b) (all_spread n b) m begun c below b near ne (then_tells own (tell_at n b c below ne))))

  -- THE RELEASE: what b has sent, is not let out and has live goes out, where b has heard every crash
  eventually_goes : (m : ℕ) → (h.sending m).owner ≡ b → SentIn t g n k l m → NotLetOut t g n k l m → SendingLive t g n k l m → HasHeard t g n k l b →
      Eventually t g n k l (λ l. GoesOut t g n k l m)
  eventually_goes m mine sent inside live heard =
      let begun = live_begun (table_inv (ready t g n k l O).holds) _ (subst (λ c. c < n) (sym mine) near) (h.sending m) live in
      let sender = ap (λ f. (f m).owner) same.sending_is ∙ mine in
      record {
        more = informing n b;
        each = is_done_lem;
        then = live_goes t g n k longer still_from m sent' inside'
            (subst (λ (y : Interval). member y (h'.chain y.owner) ≡ true) (ap (λ f. f m) (sym same.sending_is))
            (subst (λ f. member (h.sending m) (f (h.sending m).owner) ≡ true) (sym same.chain_is) live))
            (subst (HasHeard t g n k longer) (sym sender) (still_heard t g n k l O (informing n b) (all_spread n b) b heard)) (subst (AllCleared t g n k longer m) (sym sender) (cleared m begun));
      }
    where
      sent' : SentIn t g n k longer m
      sent' =
          record {
            before = sent.before;
            after = sent.after ++ informing n b;
            sender = sent.sender;
            receiver = sent.receiver;
            payload = sent.payload;
            is_in = ap (λ q. q ++ informing n b) sent.is_in ∙ append_assoc sent.before (asks (Send sent.sender sent.receiver sent.payload) ∷ sent.after) (informing n b);
            answer = sent.answer;
          }

      inside' : NotLetOut t g n k longer m
      inside' mask out =
          let (rest, is) = in_first t g n k l O (informing n b) (all_spread n b) out.call (λ p. lets_none_out p out.lets_go) out.before out.after out.is_in in
          inside mask (record { before = out.before; call = out.call; after = rest; is_in = is; lets_go = out.lets_go })

  -- THE DELIVERY: what was released to b doesn't wait, where b has heard every crash
  eventually_arrives : (m : ℕ) → h.receiver m ≡ b → Deliverable t g n k l m → HasHeard t g n k l b → Eventually t g n k l (λ l. Arrives t g n k l m)
  eventually_arrives m mine can heard =
      let s = ready t g n k l O in
      let u = (up_to t g n k l).table in
      let (there, released) = deliverable_is u (up_to t g n k l).ledger s.sound m can.is_there can.is_released_lem in
      let v = table_inv s.holds in
      let begun = sending_begun v m (present_pos _ m there) (present_sent _ m there) in
      let receiver = ap (λ f. f m) same.receiver_is ∙ mine in
      let (there', state') = message_stays n (informing n b) (all_spread n b) s m there in
      let s' = ready t g n k longer still_from in
      let end_is : runs (up_to t g n k l) (informing n b) ≡ up_to t g n k longer = sym (runs_append _ l (informing n b)) in
      let (taken, free) = released_deliverable (up_to t g n k longer).table (up_to t g n k longer).ledger s'.sound m
      (subst (λ q. record_of (state q.table) m < used (state q.table)) end_is there')
      (subst (λ q. state_of_message q.table m ≡ state_released) end_is (state' ∙ released)) in
      record {
        more = informing n b;
        each = is_done_lem;
        then = cleared_arrives t g n k longer still_from m (record { is_there = taken; is_released_lem = free }) (subst (AllCleared t g n k longer m) (sym receiver) (cleared m begun))
            (subst (HasHeard t g n k longer) (sym receiver) (still_heard t g n k l O (informing n b) (all_spread n b) b heard));
      }

-- The same without naming b.
module _ (t g : List ℕ) (n k : ℕ) (l : List Call) (O : FromOpening t g n k l) (m : ℕ) where
  abbrev then : History
  then = end t g n k l

  pub brought_out : SentIn t g n k l m → NotLetOut t g n k l m → SendingLive t g n k l m → HasHeard t g n k l (then.sending m).owner → Eventually t g n k l (λ l. GoesOut t g n k l m)
  brought_out sent =
      let here = sent_there t g n k l O m sent in
      let v = table_inv (ready t g n k l O).holds in
      eventually_goes t g n k l O (then.sending m).owner (v.history.owner_below _ (sending_begun v m (present_pos _ m here) (present_sent _ m here))) m refl sent

  pub brought_in : Deliverable t g n k l m → HasHeard t g n k l (then.receiver m) → Eventually t g n k l (λ l. Arrives t g n k l m)
  brought_in can = eventually_arrives t g n k l O (then.receiver m) (receiver_in_lem t g n k l O m can) m refl can
