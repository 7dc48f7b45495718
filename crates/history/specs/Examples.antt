-- Histories computed: what the steps and answers of document 01's Listing A, and of another list, say of intervals, chains and
-- crashes.
use Rattle.std.specs.Prelude.{◌≡◌, refl, true, false, ℕ, take}
use Rattle.std.proofs.lemmas.Bool.{false≢true}
use mathlib.Core.List.{List, [], ◌∷◌, flatten}
use Rattle.base.specs.Lists.{tab}
use Rattle.table.specs.Field.{desk}
use Rattle.rules.specs.Report.{report}
use Rattle.rules.specs.Step.{asks, release_set}
use Rattle.rules.specs.declared.Answer.{Answer}
use Rattle.rules.specs.declared.Answer.TheVariants.{Done, Sent, Released, Held, Delivered, Crashed, Heard, Rolled, Refused, SetReleased, SetHeld}
use Rattle.rules.specs.declared.Command.{Command}
use Rattle.rules.specs.declared.Command.TheVariants.{Open, SetDegree, Send, Release, Deliver, Log, Checkpoint, Crash, Hear, SetGap}
use Rattle.history.specs.History.{interval, History, same_interval, changed_at, changed_at_interval, newest, member, those, oldest, degree_set, sent_from, joined, leaving, stabilized, hearing, losing, gap_set, flagging, opening, logging, checkpointing, latest_on, forced_at, capping, beginning, delivering, restarting, crashing, rolling_back, answers, value_at, fed_step, fed}
use Rattle.history.specs.Citations.{Citations, no_citations, sent_with, let_out_to, cited_step, all_let_out, cited, ledger_of}
use Rattle.history.specs.Demand.{RestsOnLost, named}

-- a line of the listing: the step and its answer
pub record ListingLine : Type 0 where
  pub asked : Command
  pub answered : Answer

-- a line by its parts
abbrev pub line : Command → Answer → ListingLine
line x a = record { asked = x; answered = a }

-- Listing A after its opening
abbrev pub listing : List ListingLine
listing =
    -- 1 to 3: message 1 from controller 0 to 1
    line (Send 0 1 7) (Sent 1) ∷ line (Release 1) (Released 1 0) ∷ line (Deliver 1) (Delivered 1 0 2)
    -- 4 to 6: message 2 from controller 1 to 2
    ∷ line (Send 1 2 9) (Sent 2) ∷ line (Release 2) (Released 2 2) ∷ line (Deliver 2) (Delivered 2 0 2)
    -- 7 to 10: message 3 from controller 2 to 0, and what it rests on of controller 2 is logged
    ∷ line (Send 2 0 5) (Sent 3) ∷ line (Release 3) (Held 3 6) ∷ line (Log 2 1) Done ∷ line (Release 3) (Released 3 2)
    -- 11 and 12: controller 1 crashes, and message 3 is delivered
    ∷ line (Crash 1) (Crashed 1 0 1 1 0) ∷ line (Deliver 3) (Delivered 3 0 2)
    -- 13 to 15: controllers 2 and 0 hear of the crash
    ∷ line (Hear 2 1 0) (Rolled 2 1 1 0 1 0) ∷ line (Hear 0 1 0) (Rolled 0 1 1 0 1 0) ∷ line (Deliver 3) (Refused 7)
    ∷ []

-- the history after all lines of a list
unfoldable pub all : List ListingLine → History → History
all [] h = h
all (x ∷ l) h = all l (fed (asks x.asked) x.answered h)

-- and the citations
unfoldable pub all_cited : List ListingLine → Citations → Citations
all_cited [] q = q
all_cited (x ∷ l) q = all_cited l (cited (asks x.asked) x.answered q)

-- the history after the first k lines
abbrev pub after_lines : ℕ → History
after_lines k = all (take k listing) (opening 3 1)

-- what it says, moment by moment
pub record ListingA : Type 0 where
  -- an opening: one interval, stable, resting on itself alone; the degree is given
  pub opened_chain : (after_lines 0).chain 1 ≡ interval 1 0 1 ∷ []
  pub opened_stable : (after_lines 0).stable (interval 1 0 1) ≡ true
  pub opened_self : (after_lines 0).rests (interval 1 0 1) (interval 1 0 1) ≡ true
  pub opened_alone : (after_lines 0).rests (interval 1 0 1) (interval 0 0 1) ≡ false
  pub opened_degree : (after_lines 0).degree 2 ≡ 1
  -- a message is sent from the newest live interval; a delivery begins the next number, which is not stable
  pub first_from : (after_lines 1).sending 1 ≡ interval 0 0 1
  pub first_to : (after_lines 1).receiver 1 ≡ 1
  pub second_from : (after_lines 4).sending 2 ≡ interval 1 0 2
  pub delivered_chain : (after_lines 6).chain 2 ≡ interval 2 0 2 ∷ interval 2 0 1 ∷ []
  pub delivered_unstable : (after_lines 6).stable (interval 2 0 2) ≡ false
  -- it rests on itself, on the live interval before it, on the sending interval, and on what that rests on
  pub rests_self : (after_lines 6).rests (interval 2 0 2) (interval 2 0 2) ≡ true
  pub rests_before : (after_lines 6).rests (interval 2 0 2) (interval 2 0 1) ≡ true
  pub rests_sender : (after_lines 6).rests (interval 2 0 2) (interval 1 0 2) ≡ true
  pub rests_sender_before : (after_lines 6).rests (interval 2 0 2) (interval 1 0 1) ≡ true
  pub rests_sender_sender : (after_lines 6).rests (interval 2 0 2) (interval 0 0 1) ≡ true
  pub rests_not_back : (after_lines 6).rests (interval 1 0 2) (interval 2 0 2) ≡ false
  -- `held` changes nothing; a log makes the oldest that is not stable so, and a release nothing
  pub held_unstable : (after_lines 8).stable (interval 2 0 2) ≡ false
  pub logged_stable : (after_lines 9).stable (interval 2 0 2) ≡ true
  pub logged_only : (after_lines 9).stable (interval 1 0 2) ≡ false
  -- a crash: what is not stable is lost in it and leaves; what is stable is not lost; the new interval is stable; its controller alone has heard
  pub crashed_lost : (after_lines 11).lost (interval 1 0 2) 0 ≡ true
  pub crashed_kept : (after_lines 11).lost (interval 1 0 1) 0 ≡ false
  pub crashed_chain : (after_lines 11).chain 1 ≡ interval 1 1 2 ∷ interval 1 0 1 ∷ []
  pub crashed_incarnation : (after_lines 11).incarnation 1 ≡ 1
  pub crashed_stable : (after_lines 11).stable (interval 1 1 2) ≡ true
  pub crashed_rests : (after_lines 11).rests (interval 1 1 2) (interval 1 0 1) ≡ true
  pub crashed_forgets : (after_lines 11).rests (interval 1 1 2) (interval 1 0 2) ≡ false
  pub crashed_heard : (after_lines 11).heard 1 1 0 ≡ true
  pub crashed_unheard : (after_lines 11).heard 2 1 0 ≡ false
  -- what was stable of controller 2 still rests on the lost interval, and so does what message 3 begins
  pub orphan : (after_lines 12).rests (interval 0 0 2) (interval 1 0 2) ≡ true
  -- hearings: the numbers above 1 leave, lost they are not, and the new interval rests on what was kept alone
  pub heard : (after_lines 13).heard 2 1 0 ≡ true
  pub rolled_chain : (after_lines 13).chain 2 ≡ interval 2 1 2 ∷ interval 2 0 1 ∷ []
  pub rolled_not_lost : (after_lines 13).lost (interval 2 0 2) 0 ≡ false
  pub rolled_stable : (after_lines 13).stable (interval 2 1 2) ≡ true
  pub rolled_clean : (after_lines 13).rests (interval 2 1 2) (interval 1 0 2) ≡ false
  pub not_yet_heard : (after_lines 13).heard 0 1 0 ≡ false
  pub last_chain : (after_lines 14).chain 0 ≡ interval 0 1 2 ∷ interval 0 0 1 ∷ []
  -- a refused step changes nothing
  pub refused_chain : (after_lines 15).chain 0 ≡ interval 0 1 2 ∷ interval 0 0 1 ∷ []

-- all of it, by computing
pub listing_a_lem : ListingA
unfolding all fed fed_step answers report value_at same_interval changed_at changed_at_interval newest member those oldest degree_set sent_from joined leaving stabilized hearing losing opening delivering logging flagging checkpointing latest_on forced_at capping beginning restarting crashing rolling_back gap_set
listing_a_lem =
    record {
      opened_chain = refl;
      opened_stable = refl;
      opened_self = refl;
      opened_alone = refl;
      opened_degree = refl;
      first_from = refl;
      first_to = refl;
      second_from = refl;
      delivered_chain = refl;
      delivered_unstable = refl;
      rests_self = refl;
      rests_before = refl;
      rests_sender = refl;
      rests_sender_before = refl;
      rests_sender_sender = refl;
      rests_not_back = refl;
      held_unstable = refl;
      logged_stable = refl;
      logged_only = refl;
      crashed_lost = refl;
      crashed_kept = refl;
      crashed_chain = refl;
      crashed_incarnation = refl;
      crashed_stable = refl;
      crashed_rests = refl;
      crashed_forgets = refl;
      crashed_heard = refl;
      crashed_unheard = refl;
      orphan = refl;
      heard = refl;
      rolled_chain = refl;
      rolled_not_lost = refl;
      rolled_stable = refl;
      rolled_clean = refl;
      not_yet_heard = refl;
      last_chain = refl;
      refused_chain = refl;
    }

-- The words of demand 3 on this list: controller 2's interval (0,2) is one to undo once controller 2 has heard, not before; its
-- (0,1) never is; and the mask 6 names controllers 1 and 2.
pub record ListingAJudged : Type 0 where
  pub orphan_heard : RestsOnLost (after_lines 15) (after_lines 13) 2 (interval 2 0 2)
  pub orphan_unheard : RestsOnLost (after_lines 15) (after_lines 12) 2 (interval 2 0 2) → ⊥
  pub first_kept_lem : (after_lines 15).rests (interval 2 0 1) (interval 1 0 2) ≡ false
  pub named_0 : named 6 0 ≡ false
  pub named_1 : named 6 1 ≡ true
  pub named_2 : named 6 2 ≡ true
  pub named_3 : named 6 3 ≡ false

-- all of it, by computing
pub listing_a_judged : ListingAJudged
unfolding all fed fed_step answers report value_at same_interval changed_at changed_at_interval newest member those oldest degree_set sent_from joined leaving stabilized hearing losing opening delivering logging flagging checkpointing latest_on forced_at capping beginning restarting crashing rolling_back gap_set
listing_a_judged =
    record {
      orphan_heard = record { on = interval 1 0 2; crash = 0; rests = refl; lost = refl; heard = refl };
      orphan_unheard = λ r. false≢true r.heard;
      first_kept_lem = refl;
      named_0 = refl;
      named_1 = refl;
      named_2 = refl;
      named_3 = refl;
    }

-- Another list: controller 0 gets message 1, which rests on stable intervals alone, and then messages 3 and 4 from an interval of
-- controller 1 that is not stable; nothing of controller 0 is logged.
abbrev pub deliveries : List ListingLine
deliveries =
    line (Send 1 0 0) (Sent 1) ∷ line (Release 1) (Released 1 0) ∷ line (Deliver 1) (Delivered 1 0 2)
    ∷ line (Send 2 1 0) (Sent 2) ∷ line (Release 2) (Released 2 0) ∷ line (Deliver 2) (Delivered 2 0 2)
    ∷ line (Send 1 0 0) (Sent 3) ∷ line (Release 3) (Released 3 2) ∷ line (Deliver 3) (Delivered 3 0 3)
    ∷ line (Send 1 0 0) (Sent 4) ∷ line (Release 4) (Released 4 2) ∷ line (Deliver 4) (Delivered 4 0 4)
    ∷ []

-- the history after it and these steps more
abbrev pub then : List ListingLine → History
then l = all l (all deliveries (opening 3 3))

-- the crash of controller 1
abbrev pub crash : ListingLine
crash = line (Crash 1) (Crashed 1 0 1 1 0)

-- what the history says after each of some steps
pub record Deliveries : Type 0 where
  -- L: the two oldest that are not stable, and not the third
  pub logged_first : (then (line (Log 0 2) Done ∷ [])).stable (interval 0 0 2) ≡ true
  pub logged_second : (then (line (Log 0 2) Done ∷ [])).stable (interval 0 0 3) ≡ true
  pub logged_third : (then (line (Log 0 2) Done ∷ [])).stable (interval 0 0 4) ≡ false
  -- X after that loses the third alone
  pub lost_third : (then (line (Log 0 2) Done ∷ line (Crash 0) (Crashed 0 0 3 1 2) ∷ [])).lost (interval 0 0 4) 0 ≡ true
  pub lost_second : (then (line (Log 0 2) Done ∷ line (Crash 0) (Crashed 0 0 3 1 2) ∷ [])).lost (interval 0 0 3) 0 ≡ false
  -- C: all of its controller, and of no other
  pub checkpoint_own : (then (line (Checkpoint 0) Done ∷ [])).stable (interval 0 0 4) ≡ true
  pub checkpoint_other : (then (line (Checkpoint 0) Done ∷ [])).stable (interval 1 0 2) ≡ false
  -- K: the degree of one controller
  pub degree_own : (then (line (SetDegree 0 1) Done ∷ [])).degree 0 ≡ 1
  pub degree_other : (then (line (SetDegree 0 1) Done ∷ [])).degree 1 ≡ 3
  -- `heard`: the chain stays
  pub heard_marks : (then (crash ∷ line (Hear 2 1 0) (Heard 2) ∷ [])).heard 2 1 0 ≡ true
  pub heard_chain : (then (crash ∷ line (Hear 2 1 0) (Heard 2) ∷ [])).chain 2 ≡ interval 2 0 1 ∷ []
  -- `rolled`: what rests on the lost interval leaves, and the kept interval becomes stable
  pub rolled_before : (then (crash ∷ [])).stable (interval 0 0 2) ≡ false
  pub rolled_kept : (then (crash ∷ line (Hear 0 1 0) (Rolled 0 2 2 1 1 0) ∷ [])).stable (interval 0 0 2) ≡ true
  pub rolled_gone : (then (crash ∷ line (Hear 0 1 0) (Rolled 0 2 2 1 1 0) ∷ [])).stable (interval 0 0 3) ≡ false
  pub rolled_chain : (then (crash ∷ line (Hear 0 1 0) (Rolled 0 2 2 1 1 0) ∷ [])).chain 0 ≡ interval 0 1 3 ∷ interval 0 0 2 ∷ interval 0 0 1 ∷ []
  -- an opening that is done begins anew
  pub opened_anew : (then (line (Open 3 0) Done ∷ [])).chain 0 ≡ interval 0 0 1 ∷ []

-- all of it, by computing
pub deliveries_hold : Deliveries
unfolding all fed fed_step answers report value_at same_interval changed_at changed_at_interval newest member those oldest degree_set sent_from joined leaving stabilized hearing losing opening delivering logging flagging checkpointing latest_on forced_at capping beginning restarting crashing rolling_back gap_set
deliveries_hold =
    record {
      logged_first = refl;
      logged_second = refl;
      logged_third = refl;
      lost_third = refl;
      lost_second = refl;
      checkpoint_own = refl;
      checkpoint_other = refl;
      degree_own = refl;
      degree_other = refl;
      heard_marks = refl;
      heard_chain = refl;
      rolled_before = refl;
      rolled_kept = refl;
      rolled_gone = refl;
      rolled_chain = refl;
      opened_anew = refl;
    }

-- W4: a list with a gap of 2. Controller 0 gets messages 1 to 3 from controller 1: its third interval stands 2 above its first, and is
-- checkpointed as it begins; the fourth is not.
abbrev pub gapped : List ListingLine
gapped =
    line (SetGap 2) Done
    ∷ line (Send 1 0 0) (Sent 1) ∷ line (Release 1) (Released 1 0) ∷ line (Deliver 1) (Delivered 1 0 2)
    ∷ line (Send 1 0 0) (Sent 2) ∷ line (Release 2) (Released 2 0) ∷ line (Deliver 2) (Delivered 2 0 3)
    ∷ line (Send 1 0 0) (Sent 3) ∷ line (Release 3) (Released 3 0) ∷ line (Deliver 3) (Delivered 3 0 4)
    ∷ []

-- the history after its first k lines, and these more
abbrev pub after_gap : ℕ → List ListingLine → History
after_gap k l = all l (all (take k gapped) (opening 2 2))

pub record Gapped : Type 0 where
  -- an opening: Q is 0, and each first interval is flagged
  pub opened_off : (after_gap 0 []).gap ≡ 0
  pub opened_flagged : (after_gap 0 []).flagged (interval 0 0 1) ≡ true
  -- Q is what was set; a refused step leaves it
  pub set : (after_gap 1 []).gap ≡ 2
  pub set_refused : (after_gap 1 (line (SetGap 65) (Refused 5) ∷ [])).gap ≡ 2
  -- one number above the checkpoint: nothing is forced
  pub below : (after_gap 4 []).flagged (interval 0 0 2) ≡ false
  pub below_unstable : (after_gap 4 []).stable (interval 0 0 2) ≡ false
  -- two above it: the new one is flagged, and stable with all before it
  pub forced : (after_gap 7 []).flagged (interval 0 0 3) ≡ true
  pub forced_alone : (after_gap 7 []).flagged (interval 0 0 2) ≡ false
  pub forced_stable : (after_gap 7 []).stable (interval 0 0 3) ≡ true
  pub forced_before : (after_gap 7 []).stable (interval 0 0 2) ≡ true
  -- and the next is counted from there
  pub after : (after_gap 10 []).flagged (interval 0 0 4) ≡ false
  pub after_unstable : (after_gap 10 []).stable (interval 0 0 4) ≡ false
  -- a checkpoint of C counts as well, and flags the newest
  pub asked : (after_gap 4 (line (Checkpoint 0) Done ∷ [])).flagged (interval 0 0 2) ≡ true
  -- the start after a crash is counted: number 4 is 1 above the checkpoint, which Q as 1 forces, and as 2 doesn't
  pub started : (after_gap 10 (line (SetGap 1) Done ∷ line (Crash 0) (Crashed 0 0 3 1 0) ∷ [])).flagged (interval 0 1 4) ≡ true
  pub not_started : (after_gap 10 (line (Crash 0) (Crashed 0 0 3 1 0) ∷ [])).flagged (interval 0 1 4) ≡ false
  -- so is the start after a rollback: number 3 is 2 above the first, since what was flagged above it is undone
  pub restarted : (after_gap 10 (line (Crash 1) (Crashed 1 0 1 0 0) ∷ line (Hear 0 1 0) (Rolled 0 2 2 1 1 0) ∷ [])).flagged (interval 0 1 3) ≡ true
  -- 0 is off
  pub off : (after_gap 4 (line (SetGap 0) Done ∷ line (Send 1 0 0) (Sent 2) ∷ line (Deliver 2) (Delivered 2 0 3) ∷ [])).flagged (interval 0 0 3) ≡ false
  -- an opening that is done begins anew
  pub opened_again : (after_gap 10 (line (Open 2 0) Done ∷ [])).gap ≡ 0

-- all of it, by computing
pub gapped_hold : Gapped
unfolding all fed fed_step answers report value_at same_interval changed_at changed_at_interval newest member those oldest degree_set sent_from joined leaving stabilized hearing losing opening delivering logging flagging checkpointing latest_on forced_at capping beginning restarting crashing rolling_back gap_set
gapped_hold =
    record {
      opened_off = refl;
      opened_flagged = refl;
      set = refl;
      set_refused = refl;
      below = refl;
      below_unstable = refl;
      forced = refl;
      forced_alone = refl;
      forced_stable = refl;
      forced_before = refl;
      after = refl;
      after_unstable = refl;
      asked = refl;
      started = refl;
      not_started = refl;
      restarted = refl;
      off = refl;
      opened_again = refl;
    }

-- W2: what goes out is what was sent. Message 1, for the desk, is held and then let out; message 2, for controller 1, is let out;
-- message 3, for the desk, is let out.
abbrev pub going_out : List ListingLine
going_out =
    line (Send 0 desk 24) (Sent 1) ∷ line (Release 1) (Held 1 2) ∷ line (Send 0 1 7) (Sent 2) ∷ line (Release 2) (Released 2 1)
    ∷ line (Release 1) (Released 1 0) ∷ line (Send 1 desk 25) (Sent 3) ∷ line (Release 3) (Released 3 0)
    ∷ []

-- messages 1 and 3 in the order of their release, each with the payload of its send, and the ledger that says so
pub two_citations : take 6 (ledger_of (all_cited going_out no_citations).published) ≡ 2 ∷ 1 ∷ 24 ∷ 3 ∷ 25 ∷ 0 ∷ []
unfolding all_cited cited cited_step answers report value_at changed_at sent_with let_out_to ledger_of tab flatten
two_citations = refl

-- W5: "desk messages enter the ledger in the order given". Messages 1 and 3, for the desk, and message 2, for controller 1, are let out as a set,
-- the third first; a set that is held lets none out.
abbrev sent_three : Citations
sent_three = all_cited (line (Send 0 desk 24) (Sent 1) ∷ line (Send 0 1 7) (Sent 2) ∷ line (Send 0 desk 25) (Sent 3) ∷ []) no_citations

pub in_the_order_given : take 6 (ledger_of (cited (release_set (3 ∷ 2 ∷ 1 ∷ [])) (SetReleased 0) sent_three).published) ≡ 2 ∷ 3 ∷ 25 ∷ 1 ∷ 24 ∷ 0 ∷ []
unfolding all_cited cited cited_step all_let_out answers report value_at changed_at sent_with let_out_to ledger_of tab flatten
in_the_order_given = refl

pub held_together : (cited (release_set (3 ∷ 2 ∷ 1 ∷ [])) (SetHeld 2) sent_three).published ≡ []
unfolding all_cited cited cited_step all_let_out answers report value_at changed_at sent_with let_out_to
held_together = refl
