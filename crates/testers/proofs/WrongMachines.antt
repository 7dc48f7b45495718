-- Each wrong machine with a table and a ledger of the sample run (Sample.antt) and a step on them where it gives something else than
-- `step`, and one claim over them all.
use Rattle.std.specs.Prelude.{◌≡◌, refl, false, List, [], ◌∷◌, ◌≢◌, ℕ, length, get_or}
use Rattle.std.proofs.Common.{sym, ap, ◌∙◌, true≢false, eq-eqb, ◌==◌}
use Rattle.table.specs.Field.{Field, SentCount, PairNumber}
use Rattle.table.specs.Layout.{table_words}
use Rattle.table.specs.Words.{state}
use Rattle.rules.specs.Limits.{house}
use Rattle.rules.specs.Ledger.{ledger_words}
use Rattle.rules.specs.Step.{OutBoth}
use Rattle.rules.specs.Report.{report}
use Rattle.rules.proofs.Starred.{answer}
use Rattle.rules.specs.declared.Answer.{Answer}
use Rattle.rules.specs.declared.Command.{Command}
use Rattle.rules.specs.declared.Command.TheVariants.{Send, Release, Deliver, Crash, Hear}
use Rattle.history.specs.Demand.{Run, step_in}
use Rattle.testers.proofs.Judged.{sample_at, sample_answer, none_sent, one_sent_lem, pair_merged}
use Rattle.testers.proofs.Echo.{pair_echoed}
use Rattle.testers.specs.WrongMachines.{Machine, refuses_all, done_to_all, writes_no_word, tracks_first, more, invents, says_waits, says_held, says_heard, never_hears}

-- a row: a machine, a run with its table and its ledger, and a step on them
pub record Row : Type 0 where
  pub machine : Machine
  pub run : Run
  pub command : Command

abbrev row : Machine → Run → Command → Row
row m r x = record { machine = m; run = r; command = x }

-- what the machine gives in a row
abbrev pub given : Row → OutBoth
given r = r.machine r.run.table r.run.ledger r.command

-- the sample run from t and g; beside each step, what the step function answers
abbrev pub wrong_machines : List ℕ → List ℕ → ℕ → ℕ → List Row
wrong_machines t g number mask =
    row (refuses_all number) (sample_at t g 0) (Send 0 1 7)  -- sent 1
    ∷ row done_to_all (sample_at t g 0) (Send 0 1 7)  -- sent 1
    ∷ row writes_no_word (sample_at t g 0) (Send 0 1 7)  -- and there is 1 message sent
    ∷ row (says_held mask) (sample_at t g 1) (Release 1)  -- released 1 0
    ∷ row says_waits (sample_at t g 2) (Deliver 1)  -- delivered 1 0 2
    ∷ row (tracks_first 5) (sample_at t g 5) (Deliver 2)  -- and the new interval has the pair (0,2) of controller 1
    ∷ row (invents 1 0 0) (sample_at t g 8) (Crash 1)  -- crashed 1 0 1 1 0
    ∷ row never_hears (sample_at t g 9) (Hear 0 1 0)  -- heard 0
    ∷ row says_heard (sample_at t g 10) (Hear 2 1 0)  -- rolled 2 1 1 0 1 0
    ∷ row (invents 0 1 0) (sample_at t g 10) (Hear 2 1 0)  -- rolled 2 1 1 0 1 0
    ∷ row (invents 0 0 1) (sample_at t g 10) (Hear 2 1 0)  -- rolled 2 1 1 0 1 0
    ∷ []

-- in no row does the machine give what the step function gives, so none of them meets the statement
pub data NoneIsStep : List Row → Type 0 where
  none : NoneIsStep []
  also : {r : Row} {rows : List Row} → given r ≢ step_in r.run r.command → NoneIsStep rows → NoneIsStep (r ∷ rows)

-- two outcomes differ if their answers do on paper, in the number (place 0) or in a value, or if a word of their tables does
by_answer : (place : ℕ) {o p : OutBoth} {a b : Answer} → o.answer ≡ a → p.answer ≡ b → (get_or (answer a) place 0 == get_or (answer b) place 0) ≡ false → o ≢ p
by_answer place q r e z = true≢false (sym (eq-eqb _ _ (ap (λ a. get_or (answer a) place 0) (sym q ∙ ap (λ o. o.answer) z ∙ r))) ∙ e)

by_word : (f : Field) {o p : OutBoth} {x y : ℕ} → state o.table f ≡ x → state p.table f ≡ y → (x == y) ≡ false → o ≢ p
by_word f q r e z = true≢false (sym (eq-eqb _ _ (sym q ∙ ap (λ o. state o.table f) z ∙ r)) ∙ e)

-- The claim, whatever stood in the table and in the ledger before the house was opened, whatever the number and the mask.
pub wrong_machines_fail : (t g : List ℕ) → length t ≡ table_words → length g ≡ ledger_words house → (number mask : ℕ) → NoneIsStep (wrong_machines t g number mask)
unfolding report
wrong_machines_fail t g long wide number mask =
    let answered = sample_answer t g long wide in
    let crash = answered 8 refl in
    let hearing = answered 10 refl in
    also (by_answer 0 refl (answered 0 refl) refl)
    (also (by_answer 0 refl (answered 0 refl) refl)
    (also (by_word SentCount (none_sent t g long wide) (one_sent_lem t g long wide) refl)
    (also (by_answer 0 refl (answered 1 refl) refl)
    (also (by_answer 0 refl (answered 2 refl) refl)
    (also (by_word (PairNumber 2 1 1) (pair_echoed t g long wide) (pair_merged t g long wide) refl)
    (also (by_answer 4 (ap (more 1 0 0) crash) crash refl)
    (also (by_answer 0 refl (answered 9 refl) refl)
    (also (by_answer 0 refl hearing refl)
    (also (by_answer 3 (ap (more 0 1 0) hearing) hearing refl)
    (also (by_answer 4 (ap (more 0 0 1) hearing) hearing refl)
    none))))))))))
