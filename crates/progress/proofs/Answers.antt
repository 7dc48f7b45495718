-- What C, T, R and D answer on a table and a ledger in form, in terms of the model.
use Rattle.std.proofs.Math.Path.{◌≡◌, subst}
use Rattle.std.proofs.Common.{sym, ◌∙◌}
use Rattle.std.specs.Prelude.{true, cond, ◌&&◌, List, ◌≢◌, ◌⊎◌, ℕ, ◌+◌, ◌<◌, ◌≤◌}
use Rattle.std.proofs.Math.Bool.{false}
use Rattle.base.specs.Choice.{◌≤?◌}
use Rattle.table.specs.Field.{Incarnation, MessageState, Receiver}
use Rattle.table.specs.Layout.{controllers}
use Rattle.table.specs.Words.{state}
use Rattle.table.specs.Numbering.{last_live, used, record_of}
use Rattle.rules.specs.Limits.{house}
use Rattle.rules.specs.Refusal.{MESSAGE, STATE, PLACES_USED_UP, LEDGER_USED_UP}
use Rattle.rules.specs.Vector.{pair_of, message_vector, condemned, known_stable}
use Rattle.rules.specs.Form.{state_held, state_released, for_desk, in_form}
use Rattle.rules.specs.Ledger.{count_of}
use Rattle.rules.specs.Steps.{chain_full}
use Rattle.rules.specs.Step.{step_on, step}
use Rattle.rules.specs.declared.Answer.TheVariants.{Done, Released, Delivered, Refused}
use Rattle.rules.specs.declared.Command.{Command}
use Rattle.rules.specs.declared.Command.TheVariants.{Release, Deliver, Checkpoint, Tell}
use Rattle.history.specs.Progress.{Drops}
use Rattle.laws.specs.Facts.{form, released_lt}
use Rattle.keeping.proofs.Unrefused.{Sound}
use Rattle.model.specs.Model.{full, released_vec, filtered as filtered_for}
use Rattle.model.specs.Vectors.{Condemned}
use Rattle.image.proofs.Tables.{model_of, size_of}
use Rattle.progress.proofs.Tables.{answer_is}
use Rattle.progress.specs.Answers.{deliver_goes, checkpoint_done, tell_done, release_out, not_held_lem, deliverable, released_taken, deliver_drops, drops_condemned, condemned_true, known_true, Goes}

-- TABLES AND LEDGERS OF WORDS
-- where message m stands in a table, and its receiver
abbrev pub record_in : List ℕ → ℕ → ℕ
record_in t m = record_of (state t) m

abbrev pub receiver_in : List ℕ → ℕ → ℕ
receiver_in t m = state t (Receiver (record_in t m))

module _ (t g : List ℕ) (s : Sound t g) where
  -- the state of the table is in form
  good : in_form house (state t) ≡ true
  good = s.table.good

  -- the step on the table answers what the step on its state does
  pub same_answer : (x : Command) → (step t g x).answer ≡ (step_on house (state t) g x).answer
  same_answer x = answer_is t g x s.table

  -- C is done at every controller of the house
  pub checkpoint_answers : (c : ℕ) → c < size_of t → (step t g (Checkpoint c)).answer ≡ Done
  checkpoint_answers c l = same_answer (Checkpoint c) ∙ checkpoint_done house (state t) g good c l

  -- T is done between every two
  pub tell_answers : (owner holder : ℕ) → owner < size_of t → holder < size_of t → owner ≢ holder → (step t g (Tell owner holder)).answer ≡ Done
  tell_answers owner holder ol hl ne = same_answer (Tell owner holder) ∙ tell_done house (state t) g good owner holder ol hl ne

  module _ (m : ℕ) where
    -- R lets a held message out whose filtered vector is empty, with mask 0, unless it is for the desk and the ledger is full
    pub release_answers : record_in t m < used (state t) → state t (MessageState (record_in t m)) ≡ state_held →
        ((a : ℕ) → full (released_vec (model_of t) m a) ≡ false) →
        (step t g (Release m)).answer ≡ cond (for_desk (state t) (record_in t m) && (house.entries ≤? count_of g)) (Refused LEDGER_USED_UP) (Released m 0)
    release_answers l e h = same_answer (Release m) ∙ release_out house (state t) g good m s.ledger l e h

    -- R refuses a message that is there and not held, for its state
    pub release_refused : record_in t m < used (state t) → state t (MessageState (record_in t m)) ≢ state_held → (step t g (Release m)).answer ≡ Refused STATE
    release_refused l ne = same_answer (Release m) ∙ not_held_lem house (state t) g good m s.ledger l ne

    -- a message whose delivery is refused neither as unknown nor for its state is released
    pub deliverable_is : (step t g (Deliver m)).answer ≢ Refused MESSAGE → (step t g (Deliver m)).answer ≢ Refused STATE →
        (record_in t m < used (state t)) × (state t (MessageState (record_in t m)) ≡ state_released)
    deliverable_is p q = deliverable house (state t) g good m (λ z. p (same_answer (Deliver m) ∙ z)) (λ z. q (same_answer (Deliver m) ∙ z))

    module _ (l : record_in t m < used (state t)) (e : state t (MessageState (record_in t m)) ≡ state_released) where
      -- its receiver is a controller
      pub receiver_below : receiver_in t m < size_of t
      receiver_below = released_lt (form house (state t) good) (record_in t m) l e

      -- D refuses it neither as unknown nor for its state
      pub released_deliverable : ((step t g (Deliver m)).answer ≢ Refused MESSAGE) × ((step t g (Deliver m)).answer ≢ Refused STATE)
      released_deliverable =
          let (there, released) = released_taken house (state t) g good m l e in
          (λ z. there (sym (same_answer (Deliver m)) ∙ z), λ z. released (sym (same_answer (Deliver m)) ∙ z))

      -- D drops it where its vector is condemned to the receiver
      pub delivery_drops : Condemned (size_of t) ((model_of t).controller (receiver_in t m)) ((model_of t).message m).vec →
          Drops m (step t g (Deliver m)).answer
      delivery_drops z = subst (Drops m) (sym (same_answer (Deliver m))) (deliver_drops house (state t) g good m l e z)

      -- and only there
      pub dropped_condemned : Drops m (step t g (Deliver m)).answer →
          Condemned (size_of t) ((model_of t).controller (receiver_in t m)) ((model_of t).message m).vec
      dropped_condemned q = drops_condemned house (state t) g good m l e (subst (Drops m) (same_answer (Deliver m)) q)

      -- the words of the table have its vector condemned to the receiver where the model has,
      pub condemned_there : Condemned (size_of t) ((model_of t).controller (receiver_in t m)) ((model_of t).message m).vec →
          condemned (state t) (receiver_in t m) (message_vector (state t) (record_in t m)) ≡ true
      condemned_there = condemned_true house (state t) g good m l e

      -- and a pair of it known stable to the receiver
      pub known_there : (a : ℕ) → a < controllers →
          (a < size_of t → (((model_of t).message m).vec a).number ≤ ((model_of t).controller (receiver_in t m)).known a (((model_of t).message m).vec a).incarnation) →
          known_stable (state t) (receiver_in t m) a (pair_of (message_vector (state t) (record_in t m)) a) ≡ true
      known_there = known_true house (state t) g good m l e

      -- D delivers it where it is not condemned and its filtered vector is empty, unless the receiver's places are used up
      pub delivery_goes : (Condemned (size_of t) ((model_of t).controller (receiver_in t m)) ((model_of t).message m).vec → ⊥) →
          ((a : ℕ) → full (filtered_for ((model_of t).controller (receiver_in t m)) ((model_of t).message m).vec a) ≡ false) →
          ((step t g (Deliver m)).answer
          ≡ Delivered m (state t (Incarnation (receiver_in t m))) (last_live (state t) (receiver_in t m) + 1))
          ⊎ (((step t g (Deliver m)).answer ≡ Refused PLACES_USED_UP) × (chain_full house (state t) (receiver_in t m) ≡ true))
      delivery_goes kept h =
          subst (Goes house (state t) g good m l e) (sym (same_answer (Deliver m))) (deliver_goes house (state t) g good m l e kept h)
