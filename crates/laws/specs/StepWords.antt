-- What a step may write, word by word: a fact of every word and the number in it holds after a step, where it held before and holds
-- of whatever a rule may put there. The way through all rules is gone once, here.
use Rattle.std.specs.Prelude.{◌≡◌, refl, ◌&&◌, List, ℕ, ◌+◌, ◌-◌, ◌≤◌, get_or, ◌==◌}
use Rattle.std.proofs.Math.Bool.{not}
use Rattle.std.proofs.Common.{arith}
use Rattle.base.specs.Choice.{◌≤?◌, ◌<?◌, cond_ind}
use Rattle.base.specs.Cases.{Case, first_of}
use Rattle.table.specs.Field.{Field, State, OfController, OfPlace, OfMessage, Known, End, Gap, Degree, Incarnation, LiveCount, StableCount, Flag, MessageState, word_of, message_head}
use Rattle.table.specs.Change.{put, put_part, clear_places, put_states, put_ind, part_ind, clear_ind, states_ind}
use Rattle.table.specs.Numbering.{number_of, record_of}
use Rattle.rules.specs.Limits.{Limits, last_incarnation}
use Rattle.rules.specs.Vector.{Vector, message_vector, flat, condemned}
use Rattle.rules.specs.Form.{in_form, state_released, state_delivered, state_dropped, state_published}
use Rattle.rules.specs.Shared.{logged, logged_to, checkpointed, forced, capped, caused_in, offered_again, causes_in, causes, placed, entered, restarted, orphaned, held_or_dropped, drop_held, start_anew, removed}
use Rattle.rules.specs.Steps.{After, AfterBoth, refusing, refusing_both, open_house, step_open, step_degree, sent, step_send, let_out, step_release, interval_added, interval_begins, step_deliver, step_log, step_checkpoint, told, step_tell, crashed, step_crash, noted, rolled_back, hear, step_hear, step_gap}
use Rattle.rules.specs.Step.{perform, looks_at_form, step_on}
use Rattle.laws.specs.Releasing.{release_cases}
use Rattle.laws.specs.Delivering.{deliver_cases}
use Rattle.rules.specs.declared.Command.{Command}
use Rattle.rules.specs.declared.Command.TheVariants.{Open, SetDegree, Send, Release, Deliver, Log, Checkpoint, Tell, Crash, Hear, SetGap}

-- what rules other than those of O and S may put: any number into the gap, a controller's words, known and end words, the words of places
-- and a message's vector, and one of four states into a message's record
pub record Writable (P : Field → ℕ → Type 0) : Type 0 where
  pub gap : (x : ℕ) → P Gap x
  pub controller : (c k x : ℕ) → P (OfController c k) x
  pub known : (holder owner i x : ℕ) → P (Known holder owner i) x
  pub end : (holder owner i x : ℕ) → P (End holder owner i) x
  pub place : (c p k x : ℕ) → P (OfPlace c p k) x
  pub vector : (r k x : ℕ) → message_head ≤ k → P (OfMessage r k) x
  pub released : (r : ℕ) → P (MessageState r) state_released
  pub delivered : (r : ℕ) → P (MessageState r) state_delivered
  pub dropped : (r : ℕ) → P (MessageState r) state_dropped
  pub published : (r : ℕ) → P (MessageState r) state_published

module _ (P : Field → ℕ → Type 0) (w : Writable P) where
  -- it holds of every word of a state
  abbrev pub Every : State → Type 0
  Every σ = (g : Field) → P g (σ g)

  -- CHANGES OF A STATE
  every_put : {σ : State} (f : Field) (v : ℕ) → P f v → Every σ → Every (put σ f v)
  every_put {σ} f v p h = put_ind P σ f v p (λ g _. h g)

  every_part : {σ : State} (f : Field) (k : ℕ) (r : List ℕ) → ((i : ℕ) → P (word_of f (k + i)) (get_or r i 0)) → Every σ → Every (put_part σ f k r)
  every_part {σ} f k r p h = part_ind P σ f k r (λ i _. p i) (λ g _. h g)

  every_clear : {σ : State} (c p q : ℕ) → Every σ → Every (clear_places σ c p q)
  every_clear {σ} c p q h = clear_ind P σ c p q (λ x k _ _. w.place c x k 0) (λ g _. h g)

  every_states : {σ : State} (s : ℕ → ℕ) → ((r : ℕ) → P (MessageState r) (s r)) → Every σ → Every (put_states σ s)
  every_states {σ} s p h = states_ind P σ s p (λ g _. h g)

  -- RULES OF SEVERAL STEPS
  every_logged : {σ : State} (c k : ℕ) → Every σ → Every (logged σ c k)
  unfolding logged
  every_logged {σ} c k h = every_put (Known c c _) _ (w.known c c _ _) (every_put (StableCount c) k (w.controller c _ k) h)

  every_logged_to : {σ : State} (c k : ℕ) → Every σ → Every (logged_to σ c k)
  unfolding logged_to
  every_logged_to {σ} c k h = cond_ind Every (σ (StableCount c) <? k) (λ _. every_logged c k h) (λ _. h)

  every_checkpointed : {σ : State} (c : ℕ) → Every σ → Every (checkpointed σ c)
  unfolding checkpointed
  every_checkpointed c h = every_put (Flag c _) 1 (w.place c _ _ 1) (every_logged_to c _ h)

  every_capped : {σ : State} (c : ℕ) → Every σ → Every (capped σ c)
  unfolding capped
  every_capped {σ} c h = cond_ind Every (forced σ c) (λ _. every_checkpointed c h) (λ _. h)

  -- a cause is offered again or dropped
  every_causes : {σ : State} (c k : ℕ) → Every σ → Every (causes σ c k)
  unfolding causes causes_in offered_again
  every_causes {σ} c k h =
      every_states _
      (λ r. cond_ind (P (MessageState r)) (caused_in σ c k (σ (LiveCount c) - k) r)
      (λ _. cond_ind (P (MessageState r)) (condemned σ c (message_vector σ r)) (λ _. w.dropped r) (λ _. w.released r)) (λ _. h (MessageState r)))
      h

  every_restarted : {σ : State} (c k : ℕ) → Every σ → Every (restarted σ c k)
  unfolding restarted placed entered
  every_restarted c k h =
      every_put (Known c c _) _ (w.known c c _ _)
      (every_put (StableCount c) _ (w.controller c _ _) (every_put (LiveCount c) _ (w.controller c _ _) (every_put (Incarnation c) _ (w.controller c _ _)
      (every_part (OfPlace c k 0) 0 _ (λ i. w.place c k _ _) (every_clear c k _ h)))))

  -- a held message is dropped
  every_drop_held : {σ : State} (c k : ℕ) → Every σ → Every (drop_held σ c k)
  unfolding drop_held held_or_dropped
  every_drop_held {σ} c k h =
      every_states _ (λ r. cond_ind (P (MessageState r)) (orphaned σ c (number_of σ c k) r) (λ _. w.dropped r) (λ _. h (MessageState r))) h

  every_removed : {σ : State} (c k : ℕ) → Every σ → Every (removed σ c k)
  unfolding removed start_anew
  every_removed c k h = every_drop_held c k (every_capped c (every_restarted c k (every_causes c k h)))

  pub every_let_out : {σ : State} (r st : ℕ) (v : Vector) → P (MessageState r) st → Every σ → Every (let_out σ r v st)
  unfolding let_out
  every_let_out r st v p h = every_put (MessageState r) st p (every_part (OfMessage r 0) message_head (flat v) (λ i. w.vector r _ _ (omega arith)) h)

  every_noted : {σ : State} (hearer owner i : ℕ) → Every σ → Every (noted σ hearer owner i)
  unfolding noted
  every_noted hearer owner i h = every_put (Known hearer owner i) _ (w.known hearer owner i _) (every_put (End hearer owner i) _ (w.end hearer owner i _) h)

  -- THE STEPS
  module _ (σ : State) (h : Every σ) where
    -- a step after its refusals
    every_refusing : (cases : List Case) (o : After) → Every o.left → Every (refusing cases σ o).left
    unfolding refusing
    every_refusing cases o e = cond_ind (λ (o : After). Every o.left) (first_of cases == 0) (λ _. e) (λ _. h)

    every_refusing_both : (cases : List Case) (g : List ℕ) (o : AfterBoth) → Every o.left → Every (refusing_both cases σ g o).left
    unfolding refusing_both
    every_refusing_both cases g o e = cond_ind (λ (o : AfterBoth). Every o.left) (first_of cases == 0) (λ _. e) (λ _. h)

    -- K
    every_degree : (c k : ℕ) → Every (step_degree σ c k).left
    unfolding step_degree
    every_degree c k = every_refusing _ _ (every_put (Degree c) k (w.controller c _ k) h)

    -- R
    every_release : (L : Limits) (g : List ℕ) (m : ℕ) → Every (step_release L σ g m).left
    unfolding step_release
    every_release L g m =
        every_refusing_both _ g _
        (release_cases L σ g m (record_of σ m) (λ o. Every o.left) (λ _. h) (λ _ _. every_let_out _ state_released _ (w.released _) h) (λ _ _. h)
        (λ _ _ _. every_let_out _ state_published _ (w.published _) h))

    -- D
    every_deliver : (L : Limits) (m : ℕ) → Every (step_deliver L σ m).left
    unfolding step_deliver interval_begins interval_added
    every_deliver L m =
        every_refusing _ _
        (deliver_cases L σ (record_of σ m) m (λ o. Every o.left) (λ _. every_put (MessageState _) state_dropped (w.dropped _) h) (λ _. h) (λ _. h)
        (λ _ _ _. every_capped _ (every_put (MessageState _) state_delivered (w.delivered _)
        (every_put (LiveCount _) _ (w.controller _ _ _) (every_part (OfPlace _ _ 0) 0 _ (λ i. w.place _ _ _ _) h)))))

    -- L
    every_log : (c q : ℕ) → Every (step_log σ c q).left
    unfolding step_log
    every_log c q = every_refusing _ _ (every_logged c _ h)

    -- C
    every_checkpoint : (c : ℕ) → Every (step_checkpoint σ c).left
    unfolding step_checkpoint
    every_checkpoint c = every_refusing _ _ (every_checkpointed c h)

    -- T
    every_tell : (owner holder : ℕ) → Every (step_tell σ owner holder).left
    unfolding step_tell told
    every_tell owner holder = every_refusing _ _ (every_part (Known holder owner 0) 0 _ (λ i. w.known holder owner _ _) h)

    -- X
    every_crash : (L : Limits) (c : ℕ) → Every (step_crash L σ c).left
    unfolding step_crash crashed
    every_crash L c = every_refusing _ _ (every_removed c _ (every_put (End c c _) _ (w.end c c _ _) h))

    -- H
    every_hear : (hearer owner i : ℕ) → Every (step_hear σ hearer owner i).left
    unfolding step_hear hear rolled_back
    every_hear hearer owner i =
        every_refusing _ _
        (let kept : After → Type 0 = λ o. Every o.left in
        cond_ind kept (σ (LiveCount hearer) ≤? _) (λ _. every_noted hearer owner i h)
        (λ _. cond_ind kept (last_incarnation ≤? σ (Incarnation hearer)) (λ _. h)
        (λ _. every_removed hearer _ (every_logged_to hearer _ (every_noted hearer owner i h)))))

    -- the gap
    every_gap : (q : ℕ) → Every (step_gap σ q).left
    unfolding step_gap
    every_gap q = every_refusing _ _ (every_put Gap q (w.gap q) h)

    -- O, where it is done, and S need a word of their own
    every_open : (L : Limits) (g : List ℕ) (n k : ℕ) → Every (open_house n k) → Every (step_open L σ g n k).left
    unfolding step_open
    every_open L g n k e = every_refusing_both _ g _ e

    every_send : (L : Limits) (sender receiver payload : ℕ) → Every (sent σ sender receiver payload) → Every (step_send L σ sender receiver payload).left
    unfolding step_send
    every_send L sender receiver payload e = every_refusing _ _ e

    -- every step
    pub every_step : (L : Limits) (g : List ℕ) (x : Command) → ((n k : ℕ) → x ≡ Open n k → Every (open_house n k)) →
        ((sender receiver payload : ℕ) → x ≡ Send sender receiver payload → Every (sent σ sender receiver payload)) → Every (step_on L σ g x).left
    unfolding step_on perform
    every_step L g x opened posted =
        cond_ind (λ (o : AfterBoth). Every o.left) (looks_at_form x && not (in_form L σ)) (λ _. h) (λ _. go x opened posted)
      where
        go : (x : Command) → ((n k : ℕ) → x ≡ Open n k → Every (open_house n k)) →
            ((sender receiver payload : ℕ) → x ≡ Send sender receiver payload → Every (sent σ sender receiver payload)) → Every (perform L σ g x).left
        go (Open n k) opened posted = every_open L g n k (opened n k refl)
        go (SetDegree c k) opened posted = every_degree c k
        go (Send sender receiver payload) opened posted = every_send L sender receiver payload (posted sender receiver payload refl)
        go (Release m) opened posted = every_release L g m
        go (Deliver m) opened posted = every_deliver L m
        go (Log c q) opened posted = every_log c q
        go (Checkpoint c) opened posted = every_checkpoint c
        go (Tell owner holder) opened posted = every_tell owner holder
        go (Crash c) opened posted = every_crash L c
        go (Hear hearer owner i) opened posted = every_hear hearer owner i
        go (SetGap q) opened posted = every_gap q
