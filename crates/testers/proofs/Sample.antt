-- A short run on tables and ledgers of words of which demand 3 speaks, with its answers.
use Rattle.std.specs.Prelude.{◌≡◌, true, false, List, [], ◌∷◌, ◌++◌, ℕ, length, set}
use Rattle.std.proofs.Math.Path.{refl, ap₂}
use Rattle.std.proofs.Common.{sym, ap, ◌∙◌, true≢false, eq-eqb}
use Rattle.std.proofs.Math.Bool.{and-false}
use Rattle.base.specs.Lists.{tab}
use Rattle.table.specs.Field.{State, OfMessage, OfPlace, SentCount, LiveCount, MessageState, Known, End, desk, message_head}
use Rattle.table.specs.Layout.{controllers, table_words}
use Rattle.table.specs.Words.{state, words}
use Rattle.table.specs.Change.{put, put_part}
use Rattle.rules.specs.Limits.{house}
use Rattle.rules.specs.Vector.{Vector, pair, no_pair, flat}
use Rattle.rules.specs.Form.{state_held, state_released, state_delivered, state_published}
use Rattle.rules.specs.Ledger.{ledger_words, blank_ledger}
use Rattle.rules.specs.Shared.{place_record, removed}
use Rattle.rules.specs.Steps.{open_house, message_record, rolled_back}
use Rattle.rules.specs.Step.{looks_at_form, step_on, lent, step, Call, asks, release_set, dispatch, step_call}
use Rattle.rules.specs.declared.Answer.TheVariants.{Done}
use Rattle.rules.specs.declared.Command.{Command}
use Rattle.rules.specs.declared.Command.TheVariants.{Open}
use Rattle.listing.specs.Run.{steps, answers, opened_form, opens, blank_ok, Run, end, next, run_answers, goes}
use Rattle.history.specs.Demand.{just_opened, FromOpening}
use Rattle.history.specs.Examples.{ListingLine}
use Rattle.image.proofs.Tables.{Opened, opening_done}
use Rattle.keeping.proofs.StepSame.{step_words_lem}
use Rattle.testers.specs.Sample.{sample, asked, answered, calls, answers_from, all_look}

-- On states: each line has the words that its step writes; the rest is computed.
unfoldable pub sample_run : Run (open_house 3 1) (blank_ledger house) (asked sample) (answered sample)
unfolding steps blank_ledger
sample_run =
    let none : Vector = tab controllers (λ (_ : ℕ). no_pair) in
    let one : Vector = set none 1 (pair 0 2) in
    let two : Vector = set one 2 (pair 0 2) in
    next (λ σ. put (put_part σ (OfMessage 0 0) 0 (message_record state_held 0 1 0 1 7 none)) SentCount 1) refl  -- S 0 1 7
    (goes (λ σ. put (put_part σ (OfMessage 0 0) message_head (flat none)) (MessageState 0) state_released) blank_ok refl  -- R 1
    (next (λ σ. put (put (put_part σ (OfPlace 1 1 0) 0 (place_record 0 2 1 0 one)) (LiveCount 1) 2) (MessageState 0) state_delivered) refl  -- D 1
    (next (λ σ. put (put_part σ (OfMessage 1 0) 0 (message_record state_held 1 2 0 2 9 one)) SentCount 2) refl  -- S 1 2 9
    (goes (λ σ. put (put_part σ (OfMessage 1 0) message_head (flat one)) (MessageState 1) state_released) blank_ok refl  -- R 2
    (next (λ σ. put (put (put_part σ (OfPlace 2 1 0) 0 (place_record 0 2 2 0 two)) (LiveCount 2) 2) (MessageState 1) state_delivered) refl  -- D 2
    (next (λ σ. put (put_part σ (OfMessage 2 0) 0 (message_record state_held 0 desk 0 1 5 none)) SentCount 3) refl  -- S 0 8 5
    (goes (λ σ. put (put_part σ (OfMessage 2 0) message_head (flat none)) (MessageState 2) state_published) blank_ok refl  -- R 3
    (next (λ σ. removed (put σ (End 1 1 0) 1) 1 1) refl  -- X 1
    (next (λ σ. put (put σ (End 0 1 0) 1) (Known 0 1 0) 1) refl  -- H 0 1 0
    (next (λ σ. rolled_back (put (put σ (End 2 1 0) 1) (Known 2 1 0) 1) 2 1) refl  -- H 2 1 0
    (next (λ σ. put (put (put_part σ (OfPlace 1 2 0) 0 (place_record 1 3 1 0 (set none 1 (pair 1 3)))) (LiveCount 1) 3) (MessageState 0) state_delivered) refl  -- D 1
    end)))))))))))

-- on the table of a state they are those on the state
pub answers_words : (σ : State) (g : List ℕ) (xs : List Command) → answers_from (words σ) g (calls xs) ≡ answers σ g xs
unfolding answers answers_from step_call
answers_words σ g [] = refl
answers_words σ g (x ∷ xs) =
    let o = step_on house σ g x in
    ap (λ o. o.answer ∷ answers_from o.table o.ledger (calls xs)) (step_words_lem σ g x) ∙ ap (λ l. o.answer ∷ l) (answers_words o.left o.ledger xs)

an_opening : (before after : List Call) (n k : ℕ) → all_look (before ++ asks (Open n k) ∷ after) ≡ false
unfolding all_look
an_opening [] after n k = refl
an_opening (asks x ∷ before) after n k = rw (an_opening before after n k) (and-false (looks_at_form x))
an_opening (release_set messages ∷ before) after n k = an_opening before after n k
an_opening (dispatch ∷ before) after n k = an_opening before after n k

-- A house of three, all with the degree 1, opened in every table and every ledger of the right length.
module _ (t g : List ℕ) (long : length t ≡ table_words) (wide : length g ≡ ledger_words house) where
  -- the opening is done
  opens_three : (step t g (Open 3 1)).answer ≡ Done
  unfolding step lent step_on
  opens_three = rw (eq-eqb (length t) table_words long) (ap (λ o. o.answer) (opens (state t) g 1 wide refl))

  -- the table and the ledger that it leaves
  pub opened_three : Opened 3 1 (step t g (Open 3 1))
  opened_three = opening_done t g 3 1 opens_three

  -- "in a house just opened": and there is no opening in the list
  pub from_opening : (l : List Call) → all_look l ≡ true → FromOpening t g 3 1 l
  from_opening l looks =
      record { done = opens_three; no_opening = λ before after n k e. absurd (true≢false (sym looks ∙ ap all_look e ∙ an_opening before after n k)) }

  module _ (l : List ListingLine) where
    -- the answers, where they were computed on states
    pub run_answered : Run (open_house 3 1) (blank_ledger house) (asked l) (answered l) →
        answers_from (just_opened t g 3 1).table (just_opened t g 3 1).ledger (calls (asked l)) ≡ answered l
    unfolding just_opened
    run_answered run =
        ap₂ (λ u k. answers_from u k (calls (asked l))) opened_three.table_is opened_three.ledger_is
        ∙ answers_words (open_house 3 1) (blank_ledger house) (asked l) ∙ run_answers run (opened_form 1 refl)

  -- the sample run
  pub sample_from_opening : FromOpening t g 3 1 (calls (asked sample))
  unfolding all_look
  sample_from_opening = from_opening (calls (asked sample)) refl

  pub sample_answers : answers_from (just_opened t g 3 1).table (just_opened t g 3 1).ledger (calls (asked sample)) ≡ answered sample
  sample_answers = run_answered sample sample_run
