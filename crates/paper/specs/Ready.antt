-- Runs of which all is known; the end of every list from an opening is one, and a message that was sent in the list is there.
use Rattle.std.specs.Prelude.{◌≡◌, List, [], ℕ, ◌<◌}
use Rattle.std.proofs.Common.{sym, append-nil, arith}
use Rattle.std.proofs.Math.Path.{ap, subst}
use Rattle.table.specs.Field.{MessageState}
use Rattle.table.specs.Words.{state}
use Rattle.table.specs.Numbering.{used, record_of}
use Rattle.table.proofs.Numbering.{present_pos, given_present}
use Rattle.rules.specs.Step.{Call, asks, step_call}
use Rattle.rules.specs.declared.Answer.TheVariants.{Done}
use Rattle.rules.specs.declared.Command.{Command}
use Rattle.rules.specs.declared.Command.TheVariants.{Send}
use Rattle.history.specs.History.{History}
use Rattle.history.specs.Demand.{Run, step_in, next, FromOpening, up_to}
use Rattle.history.specs.Progress.{SentIn}
use Rattle.model.specs.Model.{Model}
use Rattle.model.proofs.Invariant.{MessageOk, Inv}
use Rattle.model.proofs.Informed.{AllInformed}
use Rattle.calls.specs.Made.{NoDoneOpening, NotDone, PartOf, call_ind, part_not_done, Unturned}
use Rattle.model.proofs.Runs.{Holds, in_list, at_end}
use Rattle.image.specs.Reads.{sent_is, present_sent}
use Rattle.image.specs.Outcome.{Outcome}
use Rattle.image.proofs.Tables.{model_of, size_of}
use Rattle.keeping.proofs.Unrefused.{Sound}
use Rattle.demand.specs.Demanded.{sent_last, ReadOff, table_outcome, follows}
use Rattle.demand.specs.InForm.{sound_next, sound_after}
use Rattle.demand.specs.Informing.{informed_next, all_informed, informed_turned}
use Rattle.keeping.proofs.Dispatch.{sound_served}

-- a run of a house of n controllers of which all is known
pub record Ready (n : ℕ) (r : Run) : Type 0 where
  pub holds : Holds n (ReadOff n) r
  pub sound : Sound r.table r.ledger
  pub informed : AllInformed n (model_of r.table)

-- its model
abbrev pub model_in : Run → Model
model_in r = model_of r.table

-- the state of a message in a table
abbrev pub state_of_message : List ℕ → ℕ → ℕ
state_of_message t m = state t (MessageState (record_of (state t) m))

-- a message that is there is in order
pub there_ok : {n : ℕ} {h : History} (t : List ℕ) → Inv n (model_of t) h → (m : ℕ) → record_of (state t) m < used (state t) → MessageOk h m ((model_of t).message m)
there_ok t v m l = v.message_ok_lem m (present_pos (state t) m l) (present_sent (state t) m l)

-- what a step that is no opening leaves is ready too,
ready_step : {n : ℕ} {r : Run} (x : Command) → Ready n r → NoDoneOpening x (step_in r x).answer → Ready n (next (asks x) r)
ready_step {n} {r} x s unopened =
    record {
      holds = ((follows n).step_keeps s.holds x unopened).holds;
      sound = sound_next r (asks x) s.sound;
      informed = informed_next s.holds x unopened s.informed;
    }

-- each step of a call keeps that,
pub ready_kept : {n : ℕ} {r : Run} {x : Call} → NotDone r x → (q : Run) (y : Command) → PartOf r x q y → Ready n q → Ready n (next (asks y) q)
ready_kept unopened q y part w = ready_step y w (part_not_done part unopened)

-- whoever was served last,
pub ready_turned : {n : ℕ} → Unturned (Ready n)
ready_turned {n} q c lent low s =
    let h = s.holds in
    record {
      holds = record { model = h.model; reads = (follows n).turn_reads h.model q c lent low h.reads; inv = h.inv };
      sound = sound_served q.table q.ledger c low s.sound;
      informed = informed_turned q c lent low s.informed;
    }

-- and so is what a call leaves
pub ready_next : {n : ℕ} {r : Run} (x : Call) → Ready n r → NotDone r x → Ready n (next x r)
ready_next {n} {r} x s unopened = call_ind (Ready n) r ready_turned x s (ready_kept unopened)

-- the model after a step that is done, by its outcome
pub done_outcome : {n : ℕ} {r : Run} → Ready n r → (x : Command) → (step_in r x).answer ≡ Done → Outcome n (model_in r) x Done (size_of (next (asks x) r).table) (model_in (next (asks x) r))
unfolding next step_call
done_outcome {n} {r} s x e =
    subst (λ a. Outcome n (model_in r) x a (size_of (step_in r x).table) (model_of (step_in r x).table)) e (table_outcome s.holds x)

module _ (t g : List ℕ) (n k : ℕ) (l : List Call) (O : FromOpening t g n k l) where
  -- the run at the end of the list
  abbrev last : Run
  last = up_to t g n k l

  -- all is known of it
  pub ready : Ready n last
  ready =
      record {
        holds = at_end (follows n) t g k l O;
        sound = sound_after t g n k O.done l;
        informed = all_informed t g n k l O l [] (sym (append-nil l));
      }

  -- a message that was sent in the list is there
  pub sent_there : (m : ℕ) → SentIn t g n k l m → record_of (state last.table) m < used (state last.table)
  unfolding next step_call
  sent_there m sent =
      let x = Send sent.sender sent.receiver sent.payload in
      let r = up_to t g n k sent.before in
      let s = in_list (follows n) t g k l O sent.before (asks x) sent.after sent.is_in in
      let u = (step_in r x).table in
      let (pos, newest_one) = sent_last (subst (λ a. Outcome n (model_in r) x a (size_of u) (model_of u)) sent.answer (table_outcome s.holds x)) in
      let read = ap (λ (μ : Model). μ.sent) s.one.holds.reads.model_is in
      let grows = s.rest.keeps.sent_grows in
      let whole = subst (λ z. (model_in (up_to t g n k z)).sent ≡ s.rest.holds.model.sent) (sym sent.is_in) (ap (λ (μ : Model). μ.sent) s.rest.holds.reads.model_is) in
      given_present (state last.table) m pos (omega (arith, sent_is (state last.table)))
