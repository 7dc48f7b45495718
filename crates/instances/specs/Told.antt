-- What the lines of each list tell, by computing on their history alone.
use Rattle.std.specs.Prelude.{◌≡◌, refl, true, false, [], ℕ, take, ◌==◌}
use Rattle.std.proofs.Common.{sym, ◌∙◌, subst, true≢false}
use Rattle.std.proofs.Math.Bool.{and-false}
use Rattle.rules.specs.Report.{report}
use Rattle.history.specs.History.{Interval, interval, History, same_interval, changed_at, changed_at_interval, newest, member, those, oldest, degree_set, sent_from, joined, leaving, stabilized, hearing, losing, flagging, opening, logging, checkpointing, latest_on, forced_at, capping, beginning, delivering, restarting, crashing, rolling_back, answers, value_at, fed_step, fed}
use Rattle.history.specs.Citations.{no_citations, sent_with, let_out_to, cited_step, cited}
use Rattle.history.specs.Progress.{Orphan}
use Rattle.history.specs.Examples.{all, all_cited}
use Rattle.model.proofs.Tests.{same_interval_true}
use Rattle.testers.specs.Sample.{sample}
use Rattle.instances.specs.Lists.{woven, unrevoked, unheard, loss, waiting}
use Rattle.instances.specs.Shown.{judged, passes, holding, hears, all_stable, none_lost, history_of}

-- the history after the first j lines of each
abbrev pub sample_to : ℕ → History
sample_to j = history_of (take j sample)

abbrev pub woven_to : ℕ → History
woven_to j = history_of (take j woven)

abbrev pub unheard_to : ℕ → History
unheard_to j = history_of (take j unheard)

abbrev pub loss_to : ℕ → History
loss_to j = history_of (take j loss)

abbrev pub waiting_to : ℕ → History
waiting_to j = history_of (take j waiting)

-- A crash is heard by all, and one controller undoes an interval (the sample run, 12 lines).
pub record Sampled : Type 0 where
  -- controller 2 began its (0,2) and undid it, and its (0,1) is live
  pub undone_begun : (sample_to 12).begun (interval 2 0 2) ≡ true
  pub undone : member (interval 2 0 2) ((sample_to 12).chain 2) ≡ false
  pub undone_rests : (sample_to 12).rests (interval 2 0 2) (interval 2 0 2) ≡ true
  pub first_begun : (sample_to 12).begun (interval 2 0 1) ≡ true
  pub first_live : member (interval 2 0 1) ((sample_to 12).chain 2) ≡ true
  -- each controller has heard every crash
  pub heard_0 : passes (hears (sample_to 12) 0) sample ≡ true
  pub heard_1 : passes (hears (sample_to 12) 1) sample ≡ true
  pub heard_2 : passes (hears (sample_to 12) 2) sample ≡ true
  -- the live (1;1,3) rests on (0;0,1)
  pub newest_live : member (interval 1 1 3) ((sample_to 12).chain 1) ≡ true
  pub newest_rests : (sample_to 12).rests (interval 1 1 3) (interval 0 0 1) ≡ true
  -- message 2 was let out under the degree 1, from an interval that is lost later
  pub degree : (sample_to 4).degree ((sample_to 4).sending 2).owner ≡ 1
  pub sending_rests : (sample_to 12).rests ((sample_to 12).sending 2) (interval 1 0 2) ≡ true
  pub lost : (sample_to 12).lost (interval 1 0 2) 0 ≡ true

-- all of it, by computing
pub sample_told : Sampled
unfolding judged passes all_stable all all_cited cited cited_step sent_with let_out_to fed fed_step answers report value_at same_interval changed_at changed_at_interval newest member those oldest sent_from joined leaving stabilized hearing losing flagging opening logging checkpointing latest_on forced_at capping beginning delivering restarting crashing rolling_back
sample_told =
    record {
      undone_begun = refl;
      undone = refl;
      undone_rests = refl;
      first_begun = refl;
      first_live = refl;
      heard_0 = refl;
      heard_1 = refl;
      heard_2 = refl;
      newest_live = refl;
      newest_rests = refl;
      degree = refl;
      sending_rests = refl;
      lost = refl;
    }

-- Two messages are held, and go out.
pub record Woven : Type 0 where
  -- messages 3 and 4 were sent from (2;0,2), which is live; the second of them is for controller 0
  pub first_from : (woven_to 16).sending 3 ≡ interval 2 0 2
  pub second_from : (woven_to 16).sending 4 ≡ interval 2 0 2
  pub first_live : (let y = (woven_to 16).sending 3 in member y ((woven_to 16).chain y.owner)) ≡ true
  -- no release let the first out by then, controller 2 has heard the crash, and nothing is published
  pub first_inside : passes (holding 3) (take 16 woven) ≡ true
  pub all_heard : passes (hears (woven_to 16) 2) (take 16 woven) ≡ true
  pub none_published : (all_cited (take 16 woven) no_citations).published ≡ []
  -- nothing is lost: all that controller 0 had was stable when it crashed
  pub none_lost : (y : Interval) (i : ℕ) → (woven_to 16).lost y i ≡ false
  -- before the crash is heard all but that is so, too
  pub early_from : (woven_to 15).sending 3 ≡ interval 2 0 2
  pub early_inside : passes (holding 3) (take 15 woven) ≡ true
  pub early_published : (all_cited (take 15 woven) no_citations).published ≡ []
  pub early_lost : (y : Interval) (i : ℕ) → (woven_to 15).lost y i ≡ false
  -- when only controller 2 was asked, the degree is 1, and message 4 is for controller 0
  pub asked_from : (woven_to 12).sending 4 ≡ interval 2 0 2
  pub asked_to : (woven_to 12).receiver 4 ≡ 0
  pub asked_degree : (woven_to 12).degree 2 ≡ 1
  pub asked_heard : passes (hears (woven_to 12) 2) (take 12 woven) ≡ true
  -- before the checkpoints (2;0,2) is live and rests on (1;0,2), which is not stable; (1;0,2) and (0;0,1) do not
  pub rests : (woven_to 10).rests (interval 2 0 2) (interval 1 0 2) ≡ true
  pub rests_not : (woven_to 10).rests (interval 1 0 2) (interval 2 0 2) ≡ false
  pub other_rests_not : (woven_to 10).rests (interval 0 0 1) (interval 1 0 2) ≡ false
  pub unstable : (woven_to 10).stable (interval 1 0 2) ≡ false
  pub begun_0 : (woven_to 10).begun (interval 0 0 1) ≡ true
  pub begun_1 : (woven_to 10).begun (interval 1 0 2) ≡ true
  pub begun_2 : (woven_to 10).begun (interval 2 0 2) ≡ true
  pub live_then : member (interval 2 0 2) ((woven_to 10).chain 2) ≡ true
  pub then_lost : (y : Interval) (i : ℕ) → (woven_to 10).lost y i ≡ false
  -- message 3 was sent from there, and not let out; there is no crash yet
  pub then_from : (woven_to 10).sending 3 ≡ interval 2 0 2
  pub then_inside : passes (holding 3) (take 10 woven) ≡ true
  pub then_heard : passes (hears (woven_to 10) 2) (take 10 woven) ≡ true
  -- message 4 is for controller 0
  pub then_to : (woven_to 9).receiver 4 ≡ 0
  -- message 3 was sent from there
  pub first_then : (woven_to 7).sending 3 ≡ interval 2 0 2
  pub first_rests : (woven_to 7).rests ((woven_to 7).sending 3) (interval 1 0 2) ≡ true
  pub first_unstable : (woven_to 7).stable (interval 1 0 2) ≡ false
  pub first_lost : (y : Interval) (i : ℕ) → (woven_to 7).lost y i ≡ false
  -- when controller 1 tells, its (0,2) is live and stable
  pub told_live : member (interval 1 0 2) ((woven_to 14).chain 1) ≡ true
  pub told_stable : (woven_to 14).stable (interval 1 0 2) ≡ true

-- all of it, by computing
pub woven_told : Woven
unfolding judged passes all_stable all all_cited cited cited_step sent_with let_out_to fed fed_step answers report value_at same_interval changed_at changed_at_interval newest member those oldest sent_from joined leaving stabilized hearing losing flagging opening logging checkpointing latest_on forced_at capping beginning delivering restarting crashing rolling_back
woven_told =
    record {
      first_from = refl;
      second_from = refl;
      first_live = refl;
      first_inside = refl;
      all_heard = refl;
      none_published = refl;
      none_lost = λ y i. none_lost (woven_to 12) 0 refl y i refl;
      early_from = refl;
      early_inside = refl;
      early_published = refl;
      early_lost = λ y i. none_lost (woven_to 12) 0 refl y i refl;
      asked_from = refl;
      asked_to = refl;
      asked_degree = refl;
      asked_heard = refl;
      rests = refl;
      rests_not = refl;
      other_rests_not = refl;
      unstable = refl;
      begun_0 = refl;
      begun_1 = refl;
      begun_2 = refl;
      live_then = refl;
      then_lost = λ y i. refl;
      then_from = refl;
      then_inside = refl;
      then_heard = refl;
      then_to = refl;
      first_then = refl;
      first_rests = refl;
      first_unstable = refl;
      first_lost = λ y i. refl;
      told_live = refl;
      told_stable = refl;
    }

-- A message is let out under the degree 0.
pub record Unrevoked : Type 0 where
  pub degree : (let h = history_of (take 2 unrevoked) in h.degree (h.sending 1).owner) ≡ 0

pub unrevoked_told : Unrevoked
unfolding degree_set judged passes all_stable all all_cited cited cited_step sent_with let_out_to fed fed_step answers report value_at same_interval changed_at changed_at_interval newest member those oldest sent_from joined leaving stabilized hearing losing flagging opening logging checkpointing latest_on forced_at capping beginning delivering restarting crashing rolling_back
unrevoked_told = record { degree = refl }

-- A message rests on lost work, and its sender has not heard.
pub record Unheard : Type 0 where
  -- message 3 was sent from (2;0,2), which is live; it was not let out
  pub from : (unheard_to 13).sending 3 ≡ interval 2 0 2
  pub live : member (interval 2 0 2) ((unheard_to 13).chain 2) ≡ true
  pub inside : passes (holding 3) (take 13 unheard) ≡ true
  -- (2;0,2) rests on (1;0,2), which was lost in a crash that controller 1 has heard; controller 2 has heard none
  pub rests : (unheard_to 13).rests (interval 2 0 2) (interval 1 0 2) ≡ true
  pub lost : (unheard_to 13).lost (interval 1 0 2) 0 ≡ true
  pub heard : (unheard_to 13).heard 1 1 0 ≡ true
  pub not_heard : (c i : ℕ) → (unheard_to 13).heard 2 c i ≡ false
  pub incarnation : (unheard_to 13).incarnation 2 ≡ 0

-- all of it, by computing
pub unheard_told : Unheard
unfolding judged passes all_stable all all_cited cited cited_step sent_with let_out_to fed fed_step answers report value_at same_interval changed_at changed_at_interval newest member those oldest sent_from joined leaving stabilized hearing losing flagging opening logging checkpointing latest_on forced_at capping beginning delivering restarting crashing rolling_back
unheard_told =
    record {
      from = refl;
      live = refl;
      inside = refl;
      rests = refl;
      lost = refl;
      heard = refl;
      not_heard = λ c i. refl;
      incarnation = refl;
    }

-- One of two released messages comes from a lost interval.
pub record Loss : Type 0 where
  -- message 2 is for controller 2, and its sending interval (1;0,2) was lost in a crash that controller 2 has heard
  pub to : (loss_to 12).receiver 2 ≡ 2
  pub rests : (loss_to 12).rests ((loss_to 12).sending 2) (interval 1 0 2) ≡ true
  pub lost : (loss_to 12).lost (interval 1 0 2) 0 ≡ true
  pub heard : (loss_to 12).heard 2 1 0 ≡ true
  pub all_heard : passes (hears (loss_to 12) 2) (take 12 loss) ≡ true
  -- controller 1 began its (0,1) in the incarnation that the crash ended
  pub first_begun : (loss_to 12).begun (interval 1 0 1) ≡ true
  -- message 3 was sent from an interval that rests on itself alone
  pub other_sure : Orphan (loss_to 12) ((loss_to 12).sending 3) → ⊥
  -- message 4 was sent from (1;0,2), which is live no more, and was not let out
  pub gone : (let y = (loss_to 12).sending 4 in member y ((loss_to 12).chain y.owner)) ≡ false
  pub inside : passes (holding 4) (take 12 loss) ≡ true

-- all of it, by computing
pub loss_told : Loss
unfolding judged passes all_stable all all_cited cited cited_step sent_with let_out_to fed fed_step answers report value_at same_interval changed_at changed_at_interval newest member those oldest sent_from joined leaving stabilized hearing losing flagging opening logging checkpointing latest_on forced_at capping beginning delivering restarting crashing rolling_back
loss_told =
    record {
      to = refl;
      rests = refl;
      lost = refl;
      heard = refl;
      all_heard = refl;
      first_begun = refl;
      other_sure = λ o.
          let is = same_interval_true o.on (interval 0 0 1) o.rests in
          true≢false (subst (λ y. true ≡ (loss_to 12).lost y o.crash) is (sym o.lost) ∙ and-false (o.crash == 0));
      gone = refl;
      inside = refl;
    }

-- A message waits, and is delivered.
pub record Waiting : Type 0 where
  -- message 2 is for controller 2, whose newest interval has number 2 when it is delivered, and which has heard the crash then
  pub to : (waiting_to 17).receiver 2 ≡ 2
  pub incarnation : (waiting_to 17).incarnation 2 ≡ 0
  pub newest_number : (newest ((waiting_to 17).chain 2)).number ≡ 2
  pub all_heard : passes (hears (waiting_to 17) 2) (take 17 waiting) ≡ true
  -- nothing is lost: all that controller 1 had was stable when it crashed
  pub none_lost : (y : Interval) (i : ℕ) → (waiting_to 17).lost y i ≡ false
  -- before the hearing all but that is so, too
  pub early_to : (waiting_to 16).receiver 2 ≡ 2
  pub early_incarnation : (waiting_to 16).incarnation 2 ≡ 0
  pub early_number : (newest ((waiting_to 16).chain 2)).number ≡ 2
  pub early_unheard : (waiting_to 16).heard 2 1 0 ≡ false
  pub early_lost : (y : Interval) (i : ℕ) → (waiting_to 16).lost y i ≡ false
  -- (1;1,4) is stable and rests on (1;0,2); both are live
  pub stable : (waiting_to 17).stable (interval 1 1 4) ≡ true
  pub rests : (waiting_to 17).rests (interval 1 1 4) (interval 1 0 2) ≡ true
  pub live : member (interval 1 0 2) ((waiting_to 17).chain 1) ≡ true

-- all of it, by computing
pub waiting_told : Waiting
unfolding judged passes all_stable all all_cited cited cited_step sent_with let_out_to fed fed_step answers report value_at same_interval changed_at changed_at_interval newest member those oldest sent_from joined leaving stabilized hearing losing flagging opening logging checkpointing latest_on forced_at capping beginning delivering restarting crashing rolling_back
waiting_told =
    record {
      to = refl;
      incarnation = refl;
      newest_number = refl;
      all_heard = refl;
      none_lost = λ y i. none_lost (waiting_to 6) 1 refl y i refl;
      early_to = refl;
      early_incarnation = refl;
      early_number = refl;
      early_unheard = refl;
      early_lost = λ y i. none_lost (waiting_to 6) 1 refl y i refl;
      stable = refl;
      rests = refl;
      live = refl;
    }
