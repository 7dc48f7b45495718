-- What C, T, R and D answer on a state and a ledger in form, in terms of the model.
use Rattle.std.proofs.Math.Path.{◌≡◌, refl, ap, subst}
use Rattle.std.proofs.Common.{sym, ◌∙◌, arith}
use Rattle.std.specs.Prelude.{Bool, true, cond, ◌&&◌, List, ◌≢◌, ◌⊎◌, ℕ, zero, suc, ◌+◌, ◌<◌, ◌≤◌, ◌==◌}
use Rattle.std.proofs.Math.Bool.{false, not, and-false}
use Rattle.std.proofs.Math.Logic.{inl, inr}
use Rattle.std.specs.Int.Count.{ones, ones_in}
use borrow.Author.Tests.{eq-eqb, ne_eqb, le-leb, lt-leb, not-false}
use Rattle.base.specs.Choice.{◌≤?◌, cond_ind, le?}
use Rattle.base.specs.Ranges.{anyb_none}
use Rattle.base.specs.Cases.{Case, first_of, none, hit, skip}
use Rattle.table.specs.Field.{State, Size, Degree, Incarnation, LiveCount, MessageState, Sender, Receiver, Known}
use Rattle.table.specs.Layout.{controllers}
use Rattle.table.specs.Numbering.{last_live, used, record_of}
use Rattle.table.proofs.Numbering.{number_next}
use Rattle.rules.specs.Limits.{Limits}
use Rattle.rules.specs.Refusal.{LEDGER, CONTROLLER, MESSAGE, SAME_CONTROLLER, STATE, PLACES_USED_UP, LEDGER_USED_UP}
use Rattle.rules.specs.Vector.{Vector, empty, pair_of, place_vector, message_vector, filtered, condemned, mask_to, mask, conflict_pair, conflict, known_stable, number, incarnation}
use Rattle.rules.specs.Form.{state_held, state_released, for_desk, in_form}
use Rattle.rules.specs.Ledger.{count_of, ledger_ok}
use Rattle.rules.specs.Shared.{newest_place}
use Rattle.rules.specs.Steps.{After, AfterBoth, beside, refuse, refusing, refusing_both, may_go, message_refusals, own_vector, release, release_refusals, step_release, interval_begins, chain_full, prospect, comes_of, deliver, step_deliver, checkpoint_refusals, step_checkpoint, tell_refusals, step_tell}
use Rattle.rules.specs.Step.{perform, step_on}
use Rattle.rules.specs.declared.Answer.{Answer}
use Rattle.rules.specs.declared.Answer.TheVariants.{Done, Released, Delivered, Refused}
use Rattle.rules.specs.declared.Prospect.{Prospect}
use Rattle.rules.specs.declared.Command.TheVariants.{Release, Deliver, Checkpoint, Tell}
use Rattle.history.specs.Progress.{Drops, drops}
use Rattle.laws.specs.Facts.{Form, form, message_form, released_lt}
use Rattle.laws.specs.Delivering.{deliver_cases}
use Rattle.model.specs.Model.{Vec, full, released_vec, filtered as filtered_for, Pair}
use Rattle.model.proofs.Tests.{fails, passes, eq?}
use Rattle.model.specs.Vectors.{Condemned}
use Rattle.image.specs.Image.{vec_of, image}
use Rattle.image.specs.Vectors.{length_message}
use Rattle.image.specs.Tests.{spared, condemned_model, filtered_is, released_is}
use Rattle.image.specs.Reads.{message_vec_is, known_is}
use Rattle.keeping.proofs.Steps.{performed}

-- EMPTY PAIRS
-- a pair of the model is empty where that of the words is
empty_of : (v : Vector) (a : ℕ) → full (vec_of v a) ≡ false → empty (pair_of v a) ≡ true
unfolding full
empty_of v a e = not-false (empty (pair_of v a)) e

-- a vector of empty pairs names nobody
mask_none : (n : ℕ) (v : Vector) → ((a : ℕ) → full (vec_of v a) ≡ false) → mask_to n v ≡ 0
unfolding mask_to
mask_none zero v h = refl
mask_none (suc n) v h = rw (empty_of v n (h n), mask_none n v h)

-- and a delivery does not wait for it
conflict_empty : (c : ℕ) (v w : Vector) → ((a : ℕ) → full (vec_of w a) ≡ false) → conflict c v w ≡ false
unfolding conflict conflict_pair
conflict_empty c v w h = anyb_none _ controllers (λ a _. rw (empty_of w a (h a), and-false) (and-false (not (a == c))))

-- a message that names nobody may go, to the desk too
nobody_goes : (σ : State) (r : ℕ) → may_go σ r 0 ≡ true
unfolding may_go ones ones_in
nobody_goes σ r = cond_ind (λ b. b ≡ true) (for_desk σ r) (λ _. refl) (λ _. le-leb 0 (σ (Degree (σ (Sender r)))) (omega arith))

-- STATES
-- where no case applies, the step is done
pub unrefused : (cases : List Case) (σ : State) (o : After) → 0 ≡ first_of cases → refusing cases σ o ≡ o
unfolding refusing
unrefused cases σ o e = rw (eq-eqb (first_of cases) 0 (sym e))

-- the same of a step that looks at both buffers
unrefused_both : (cases : List Case) (σ : State) (g : List ℕ) (o : AfterBoth) → 0 ≡ first_of cases → refusing_both cases σ g o ≡ o
unfolding refusing_both
unrefused_both cases σ g o e = rw (eq-eqb (first_of cases) 0 (sym e))

-- the answer of a choice
chosen : (b : Bool) (o p : AfterBoth) → (cond b o p).answer ≡ cond b o.answer p.answer
chosen true o p = refl
chosen false o p = refl

-- neither refusal by its message applies
message_let : (σ : State) (r wanted : ℕ) → r < used σ → σ (MessageState r) ≡ wanted → 0 ≡ first_of (message_refusals σ r wanted)
message_let σ r wanted l e = skip _ MESSAGE 0 _ (lt-leb (used σ) r l) (skip _ STATE 0 _ (ap not (eq-eqb (σ (MessageState r)) wanted e)) none)

-- the second applies, that of its state
message_refused : (σ : State) (r wanted : ℕ) → r < used σ → σ (MessageState r) ≢ wanted → STATE ≡ first_of (message_refusals σ r wanted)
message_refused σ r wanted l ne = skip _ MESSAGE STATE _ (lt-leb (used σ) r l) (hit _ STATE _ (ap not (ne_eqb (σ (MessageState r)) wanted ne)))

module _ (L : Limits) (σ : State) (g : List ℕ) (good : in_form L σ ≡ true) where
  -- what is known of a state in form
  f : Form L σ
  f = form L σ good

  -- C
  pub checkpoint_done : (c : ℕ) → c < σ Size → (step_on L σ g (Checkpoint c)).answer ≡ Done
  unfolding perform step_checkpoint
  checkpoint_done c l =
      ap (λ (o : AfterBoth). o.answer) (performed L σ g good (Checkpoint c))
      ∙ ap (λ (o : After). o.answer) (unrefused (checkpoint_refusals σ c) σ _ (skip _ CONTROLLER 0 _ (lt-leb (σ Size) c l) none))

  -- T
  pub tell_done : (owner holder : ℕ) → owner < σ Size → holder < σ Size → owner ≢ holder → (step_on L σ g (Tell owner holder)).answer ≡ Done
  unfolding perform step_tell
  tell_done owner holder ol hl ne =
      ap (λ (o : AfterBoth). o.answer) (performed L σ g good (Tell owner holder))
      ∙ ap (λ (o : After). o.answer) (unrefused (tell_refusals σ owner holder) σ _
      (skip _ CONTROLLER 0 _ (rw (lt-leb (σ Size) owner ol, lt-leb (σ Size) holder hl)) (skip _ SAME_CONTROLLER 0 _ (ne_eqb owner holder ne) none)))

  module _ (m : ℕ) where
    -- the record of message m, and its receiver
    abbrev r : ℕ
    r = record_of σ m

    abbrev c : ℕ
    c = σ (Receiver r)

    -- R: a held message whose filtered vector is empty is let out, unless it is for the desk and the ledger is full
    pub release_out : ledger_ok L g ≡ true → r < used σ → σ (MessageState r) ≡ state_held → ((a : ℕ) → full (released_vec (image σ) m a) ≡ false) →
        (step_on L σ g (Release m)).answer ≡ cond (for_desk σ r && (L.entries ≤? count_of g)) (Refused LEDGER_USED_UP) (Released m 0)
    unfolding perform step_release release mask own_vector
    release_out ok l e h =
        let v = filtered σ (σ (Sender r)) (message_vector σ r) in
        let nobody : mask_to controllers v ≡ 0 =
        mask_none controllers v (subst (λ (w : Vec). (a : ℕ) → full (w a) ≡ false) (sym (released_is σ f m l)) h) in
        ap (λ (o : AfterBoth). o.answer) (performed L σ g good (Release m)
        ∙ unrefused_both (release_refusals L σ g r) σ g _ (skip _ LEDGER 0 _ (ap not ok) (message_let σ r state_held l e)))
        ∙ rw (nobody, nobody_goes σ r) (chosen (for_desk σ r && (L.entries ≤? count_of g)) _ _)

    -- one that is there and not held is refused for its state
    pub not_held_lem : ledger_ok L g ≡ true → r < used σ → σ (MessageState r) ≢ state_held → (step_on L σ g (Release m)).answer ≡ Refused STATE
    unfolding perform step_release refusing_both
    not_held_lem ok l ne =
        ap (λ (o : AfterBoth). o.answer) (performed L σ g good (Release m))
        ∙ ap (λ k. (cond (k == 0) (release L σ g m r) (beside (refuse k σ) g)).answer)
        (sym (skip _ LEDGER STATE _ (ap not ok) (message_refused σ r state_held l ne)))

    -- D: what is neither refused as unknown nor for its state is a released message
    pub deliverable : (step_on L σ g (Deliver m)).answer ≢ Refused MESSAGE → (step_on L σ g (Deliver m)).answer ≢ Refused STATE →
        (r < used σ) × (σ (MessageState r) ≡ state_released)
    unfolding perform step_deliver refusing
    deliverable p q =
        let here : r < used σ = le? (used σ) r (λ u. absurd (p (refused_as MESSAGE refl (hit _ MESSAGE _ (le-leb (used σ) r u))))) (λ u. u) in
        let unlike : σ (MessageState r) ≢ state_released → (step_on L σ g (Deliver m)).answer ≡ Refused STATE =
        λ ne. refused_as STATE refl (message_refused σ r state_released here ne) in
        (here, eq? (σ (MessageState r)) state_released (λ z. z) (λ ne. absurd (q (unlike ne))))
      where
        refused_as : (n : ℕ) → (n == 0) ≡ false → n ≡ first_of (message_refusals σ r state_released) → (step_on L σ g (Deliver m)).answer ≡ Refused n
        refused_as n ne e =
            ap (λ (o : AfterBoth). o.answer) (performed L σ g good (Deliver m))
            ∙ ap (λ k. (cond (k == 0) (deliver L σ m r) (refuse k σ)).answer) (sym e) ∙ ap (λ b. (cond b (deliver L σ m r) (refuse n σ)).answer) ne

    module _ (l : r < used σ) (e : σ (MessageState r) ≡ state_released) where
      -- it is condemned to its receiver
      abbrev IsCondemned : Type 0
      IsCondemned = Condemned (σ Size) ((image σ).controller c) ((image σ).message m).vec

      -- which is a controller of the house
      below : c < controllers
      below = omega (arith, released_lt f r l e, f.size_le)

      -- a released message is delivered as the rule says
      delivered : (step_on L σ g (Deliver m)).answer ≡ (deliver L σ m r).answer
      unfolding perform step_deliver
      delivered =
          ap (λ (o : AfterBoth). o.answer) (performed L σ g good (Deliver m))
          ∙ ap (λ (o : After). o.answer) (unrefused (message_refusals σ r state_released) σ _ (message_let σ r state_released l e))

      -- the words say of its vector what the model says: where the model has it condemned, so have the words
      pub condemned_true : IsCondemned → condemned σ c (message_vector σ r) ≡ true
      condemned_true z =
          passes (condemned σ c (message_vector σ r)) (λ q. spared σ c below (message_vector σ r) (message_form f r l).vector (length_message σ r) q
          (subst (Condemned (σ Size) ((image σ).controller c)) (message_vec_is σ m l) z))

      -- and where the words have it condemned, so has the model
      is_condemned : condemned σ c (message_vector σ r) ≡ true → IsCondemned
      is_condemned q =
          subst (Condemned (σ Size) ((image σ).controller c)) (sym (message_vec_is σ m l))
          (condemned_model σ c below (message_vector σ r) (message_form f r l).vector (length_message σ r) q)

      -- the words have a pair of its vector known stable to the receiver where the model has; pairs beyond the house are empty
      pub known_true : (a : ℕ) → a < controllers → (a < σ Size → (((image σ).message m).vec a).number ≤ ((image σ).controller c).known a (((image σ).message m).vec a).incarnation) →
          known_stable σ c a (pair_of (message_vector σ r) a) ≡ true
      unfolding known_stable
      known_true a near knows =
          let p = pair_of (message_vector σ r) a in
          let ok = (message_form f r l).vector in
          le-leb (number p) (σ (Known c a (incarnation p)))
          (le? (a + 1) (σ Size)
          (λ low. let is = ap (λ (w : Vec). w a) (message_vec_is σ m l) in
          let word = known_is σ c below a (incarnation p) near (ok.near a near) in
          let le = subst (λ (q : Pair). q.number ≤ ((image σ).controller c).known a q.incarnation) is (knows (omega arith)) in
          omega (arith, le, word))
          (λ high. omega (arith, ok.beyond_number a near (omega arith))))

      -- a condemned message is dropped
      pub deliver_drops : IsCondemned → Drops m (step_on L σ g (Deliver m)).answer
      unfolding deliver prospect comes_of
      deliver_drops z = subst (Drops m) (sym delivered) (rw (condemned_true z) (drops _ _))

      -- and no other is
      pub drops_condemned : Drops m (step_on L σ g (Deliver m)).answer → IsCondemned
      unfolding interval_begins
      drops_condemned q =
          is_condemned (deliver_cases L σ r m (λ o. Drops m o.answer → condemned σ c (message_vector σ r) ≡ true) (λ q _. q) (λ _ d. elim d [ ])
          (λ _ d. elim d [ ]) (λ _ _ _ d. elim d [ ]) (subst (Drops m) delivered q))

      -- a released message is refused neither as unknown nor for its state
      pub released_taken : ((step_on L σ g (Deliver m)).answer ≢ Refused MESSAGE) × ((step_on L σ g (Deliver m)).answer ≢ Refused STATE)
      unfolding interval_begins
      released_taken = (taken MESSAGE (λ z. omega arith), taken STATE (λ z. omega arith))
        where
          taken : (n : ℕ) → n ≢ PLACES_USED_UP → (step_on L σ g (Deliver m)).answer ≢ Refused n
          taken n ne =
              subst (λ a. a ≢ Refused n) (sym delivered)
              (deliver_cases L σ r m (λ o. o.answer ≢ Refused n) (λ _ q. absurd (let z : ◌≡◌ {A = ℕ} 0 1 = cc in omega arith))
              (λ _ q. absurd (let z : ◌≡◌ {A = ℕ} 0 1 = cc in omega arith)) (λ _ q. ne (let z : n ≡ PLACES_USED_UP = cc in z))
              (λ _ _ _ q. absurd (let z : ◌≡◌ {A = ℕ} 0 1 = cc in omega arith)))

      -- the answer of a delivery, or the refusal where the receiver's places are used up
      abbrev pub Goes : Answer → Type 0
      Goes a =
          (a ≡ Delivered m (σ (Incarnation c)) (last_live σ c + 1)) ⊎ ((a ≡ Refused PLACES_USED_UP) × (chain_full L σ c ≡ true))

      -- so answers D to a message that is not condemned and whose filtered vector is empty
      pub deliver_goes : (IsCondemned → ⊥) → ((a : ℕ) → full (filtered_for ((image σ).controller c) ((image σ).message m).vec a) ≡ false) →
          Goes (step_on L σ g (Deliver m)).answer
      unfolding deliver prospect comes_of interval_begins
      deliver_goes kept h =
          let v = message_vector σ r in
          let ours = filtered σ c (place_vector σ c (newest_place σ c)) in
          let theirs : vec_of (filtered σ c v) ≡ filtered_for ((image σ).controller c) ((image σ).message m).vec =
          filtered_is σ c below v (message_form f r l).vector (length_message σ r)
          ∙ ap (filtered_for ((image σ).controller c)) (sym (message_vec_is σ m l)) in
          let spares : condemned σ c v ≡ false = fails (condemned σ c v) (λ q. kept (is_condemned q)) in
          let agrees : conflict c ours (filtered σ c v) ≡ false =
          conflict_empty c ours (filtered σ c v) (subst (λ (w : Vec). (a : ℕ) → full (w a) ≡ false) (sym theirs) h) in
          subst Goes (sym delivered)
          (rw (spares, agrees) (cond_ind (λ (p : Prospect). Goes (comes_of σ m r p).answer) (chain_full L σ c)
          (λ q. inr (refl, q))
          (λ _. inl (ap (Delivered m (σ (Incarnation c))) (number_next σ c (σ (LiveCount c)))))))
