-- The moments of the sample run: the answers, some words of the tables, what was published, and what the history says, which is
-- computed.
use Rattle.std.specs.Prelude.{◌≡◌, refl, true, false, List, [], ◌∷◌, ℕ, length, take}
use Rattle.std.proofs.Math.Path.{ap}
use Rattle.std.proofs.Common.{◌∙◌, ltb-true}
use native.Mathlib.Omega.{arith}
use Rattle.base.specs.Choice.{◌<?◌}
use Rattle.table.specs.Field.{SentCount, PairNumber, desk}
use Rattle.table.specs.Layout.{table_words}
use Rattle.table.specs.Words.{state}
use Rattle.table.proofs.Words.{word_at}
use Rattle.rules.specs.Limits.{house}
use Rattle.rules.specs.Ledger.{ledger_words}
use Rattle.rules.specs.Report.{report}
use Rattle.rules.specs.Steps.{open_house}
use Rattle.rules.specs.Step.{Call}
use Rattle.rules.specs.declared.Command.TheVariants.{Send, Deliver}
use Rattle.history.specs.History.{interval, History, same_interval, changed_at, changed_at_interval, newest, member, those, oldest, sent_from, joined, leaving, stabilized, hearing, losing, opening, forced_at, capping, beginning, delivering, restarting, crashing, rolling_back, answers, value_at, fed_step, fed}
use Rattle.history.specs.Citations.{Citation, no_citations, sent_with, let_out_to, cited_step, cited}
use Rattle.history.specs.Demand.{Run, step_in, just_opened}
use Rattle.history.specs.Examples.{all, all_cited}
use Rattle.listing.specs.Run.{steps, opened_form, goes}
use Rattle.testers.specs.Sample.{sample, asked, calls}
use Rattle.testers.proofs.Sample.{sample_run, opened_three, sample_answers}
use Rattle.testers.proofs.Along.{first_steps, line_at, answer_at, history_at, citations_after, state_at, StageAt, stage_step, stage_at}

abbrev pub list : List Call
list = calls (asked sample)

-- the history of the first j lines
abbrev told : ℕ → History
told j = all (take j sample) (opening 3 1)

record Told : Type 0 where
  -- controller 2 hears: its (0,2) leaves; controller 0 hears: its (0,1) stays
  live_before : member (interval 2 0 2) ((told 10).chain 2) ≡ true
  gone_after : member (interval 2 0 2) ((told 11).chain 2) ≡ false
  live_first : member (interval 0 0 1) ((told 9).chain 0) ≡ true
  still_live : member (interval 0 0 1) ((told 10).chain 0) ≡ true
  -- message 2 was sent from what is lost later, and it wasn't stable at the release
  sending_rests : (told 12).rests ((told 12).sending 2) (interval 1 0 2) ≡ true
  not_yet_stable : (told 4).stable (interval 1 0 2) ≡ false
  lost_later : (told 12).lost (interval 1 0 2) 0 ≡ true
  -- so was what controller 2 undid, which has heard that crash; the degree at the release was 1
  undone_rests : (told 12).rests (interval 2 0 2) (interval 1 0 2) ≡ true
  heard_later : (told 12).heard 2 1 0 ≡ true
  degree_then : (told 4).degree ((told 4).sending 2).owner ≡ 1
  -- message 3 was sent to the desk, from controller 0's (0,1)
  sent_to_desk : (told 7).receiver 3 ≡ desk
  sent_from_lem : (told 7).sending 3 ≡ interval 0 0 1

facts : Told
unfolding all fed fed_step answers report value_at same_interval changed_at changed_at_interval newest member those oldest sent_from joined leaving stabilized hearing losing opening forced_at capping beginning delivering restarting crashing rolling_back
facts =
    record {
      live_before = refl;
      gone_after = refl;
      live_first = refl;
      still_live = refl;
      sending_rests = refl;
      not_yet_stable = refl;
      lost_later = refl;
      undone_rests = refl;
      heard_later = refl;
      degree_then = refl;
      sent_to_desk = refl;
      sent_from_lem = refl;
    }

-- what was published, by the answers: message 3 with the payload 5
abbrev pub publications : List Citation
publications = record { message = 3; payload = 5 } ∷ []

all_published : (all_cited sample no_citations).published ≡ publications
unfolding all_cited cited cited_step sent_with let_out_to answers report value_at changed_at
all_published = refl

-- the run from a table t beside a ledger g, after the first j steps
abbrev pub sample_at : List ℕ → List ℕ → ℕ → Run
sample_at t g j = first_steps (just_opened t g 3 1) sample j

module _ (t g : List ℕ) (long : length t ≡ table_words) (wide : length g ≡ ledger_words house) where
  -- the answer to step j
  pub sample_answer : (j : ℕ) → (j <? length sample) ≡ true → (step_in (sample_at t g j) (line_at sample j).asked).answer ≡ (line_at sample j).answered
  sample_answer j b = answer_at (just_opened t g 3 1) sample (sample_answers t g long wide) j (ltb-true j (length sample) b)

  -- the table, the state and the ledger that it finds
  pub sample_stage : (j : ℕ) → StageAt (just_opened t g 3 1) sample_run j
  unfolding just_opened
  sample_stage = let o = opened_three t g long wide in stage_at sample_run (opened_form 1 refl) (just_opened t g 3 1) o.table_is o.ledger_is

  -- the count of messages before and after the first is sent, and what the second brings to its receiver
  pub none_sent : state (sample_at t g 0).table SentCount ≡ 0
  unfolding open_house state_at sample_run
  none_sent = ap (λ u. state u SentCount) (sample_stage 0).table_is ∙ word_at (open_house 3 1) SentCount (omega arith)

  pub one_sent_lem : state (step_in (sample_at t g 0) (Send 0 1 7)).table SentCount ≡ 1
  unfolding steps state_at sample_run
  one_sent_lem = ap (λ o. state o.table SentCount) (stage_step (sample_stage 0)) ∙ word_at _ SentCount (omega arith)

  pub pair_merged : state (step_in (sample_at t g 5) (Deliver 2)).table (PairNumber 2 1 1) ≡ 2
  unfolding steps state_at sample_run goes
  pair_merged =
      ap (λ o. state o.table (PairNumber 2 1 1)) (stage_step (sample_stage 5))
      ∙ word_at _ (PairNumber 2 1 1) (omega arith, omega arith, omega arith)

  -- what was published, and the ledger at the end, which has just that
  pub published_is : (sample_at t g 12).citations.published ≡ publications
  unfolding just_opened
  published_is = ap (λ q. q.published) (citations_after (just_opened t g 3 1) sample (sample_answers t g long wide)) ∙ all_published

  -- the history, and what it says of each moment
  history : (j : ℕ) → (sample_at t g j).history ≡ told j
  unfolding just_opened
  history = history_at (just_opened t g 3 1) sample (sample_answers t g long wide)

  pub live_before : member (interval 2 0 2) ((sample_at t g 10).history.chain 2) ≡ true
  live_before = ap (λ h. member (interval 2 0 2) (h.chain 2)) (history 10) ∙ facts.live_before

  pub gone_after : member (interval 2 0 2) ((sample_at t g 11).history.chain 2) ≡ false
  gone_after = ap (λ h. member (interval 2 0 2) (h.chain 2)) (history 11) ∙ facts.gone_after

  pub live_first : member (interval 0 0 1) ((sample_at t g 9).history.chain 0) ≡ true
  live_first = ap (λ h. member (interval 0 0 1) (h.chain 0)) (history 9) ∙ facts.live_first

  pub still_live : member (interval 0 0 1) ((sample_at t g 10).history.chain 0) ≡ true
  still_live = ap (λ h. member (interval 0 0 1) (h.chain 0)) (history 10) ∙ facts.still_live

  pub sending_rests : (sample_at t g 12).history.rests ((sample_at t g 12).history.sending 2) (interval 1 0 2) ≡ true
  sending_rests = ap (λ h. h.rests (h.sending 2) (interval 1 0 2)) (history 12) ∙ facts.sending_rests

  pub not_yet_stable : (sample_at t g 4).history.stable (interval 1 0 2) ≡ false
  not_yet_stable = ap (λ h. h.stable (interval 1 0 2)) (history 4) ∙ facts.not_yet_stable

  pub lost_later : (sample_at t g 12).history.lost (interval 1 0 2) 0 ≡ true
  lost_later = ap (λ h. h.lost (interval 1 0 2) 0) (history 12) ∙ facts.lost_later

  pub undone_rests : (sample_at t g 12).history.rests (interval 2 0 2) (interval 1 0 2) ≡ true
  undone_rests = ap (λ h. h.rests (interval 2 0 2) (interval 1 0 2)) (history 12) ∙ facts.undone_rests

  pub heard_later : (sample_at t g 12).history.heard 2 1 0 ≡ true
  heard_later = ap (λ h. h.heard 2 1 0) (history 12) ∙ facts.heard_later

  pub degree_then : (sample_at t g 4).history.degree ((sample_at t g 4).history.sending 2).owner ≡ 1
  degree_then = ap (λ h. h.degree (h.sending 2).owner) (history 4) ∙ facts.degree_then

  pub sent_to_desk : (sample_at t g 7).history.receiver 3 ≡ desk
  sent_to_desk = ap (λ h. h.receiver 3) (history 7) ∙ facts.sent_to_desk

  pub sent_from_lem : (sample_at t g 7).history.sending 3 ≡ interval 0 0 1
  sent_from_lem = ap (λ h. h.sending 3) (history 7) ∙ facts.sent_from_lem
