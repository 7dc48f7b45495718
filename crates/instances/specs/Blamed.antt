-- A list in which two controllers lose work that a message rests on, and its delivery names the crash of the lower one; and one in which the
-- sender then hears of the crash that was named.
use Rattle.std.specs.Prelude.{◌≡◌, true, false, List, [], ◌∷◌, ◌++◌, ℕ, length, take, drop, set}
use Rattle.std.proofs.Math.Path.{refl}
use Rattle.std.proofs.Common.{subst}
use Rattle.base.specs.Lists.{tab}
use Rattle.table.specs.Field.{OfMessage, SentCount, Degree, Known, End, MessageState, message_head}
use Rattle.table.specs.Layout.{controllers, table_words}
use Rattle.table.specs.Change.{put, put_part}
use Rattle.rules.specs.Shared.{removed}
use Rattle.rules.specs.Limits.{house}
use Rattle.rules.specs.Ledger.{ledger_words}
use Rattle.rules.specs.Report.{report}
use Rattle.rules.specs.Vector.{Vector, pair, no_pair, flat}
use Rattle.rules.specs.Form.{state_held, state_released, state_dropped}
use Rattle.rules.specs.Steps.{message_record, step_degree, rolled_back}
use Rattle.rules.specs.Step.{asks}
use Rattle.rules.specs.declared.Answer.TheVariants.{Done, Sent, Released, Dropped, Crashed, Heard, Rolled}
use Rattle.rules.specs.declared.Command.TheVariants.{SetDegree, Send, Release, Deliver, Crash, Hear}
use Rattle.history.specs.History.{interval, same_interval, changed_at, changed_at_interval, newest, member, those, degree_set, sent_from, joined, leaving, stabilized, hearing, losing, opening, forced_at, capping, beginning, delivering, restarting, crashing, rolling_back, answers, value_at, fed_step, fed}
use Rattle.history.specs.Demand.{up_to, end}
use Rattle.history.specs.Blame.{OrphanBy, DroppedFor}
use Rattle.history.specs.Examples.{ListingLine, line, all}
use Rattle.listing.specs.Run as states
use Rattle.listing.specs.Run.{steps, blank_ok, goes}
use Rattle.testers.specs.Sample.{sample, all_look}
use Rattle.testers.proofs.Sample.{sample_run}
use Rattle.testers.proofs.Along.{state_at, ledger_at}
use Rattle.demand.specs.Blamed.{blame}
use Rattle.demand.proofs.Claims.{hearing_it_undoes_the_sender}
use Rattle.instances.specs.Lists.{calls_of, Computed, branch}
use Rattle.instances.specs.Shown.{Shown, shown, shown_to, history_of, told, answer_in}
use Rattle.history.specs.Uses.{drop_named}

-- Message 3 from (2;0,2), which rests on (1;0,2), goes out to controller 0; then both are lost, and controller 1 crashes once more.
abbrev pub twice_lost : List ListingLine
twice_lost =
    take 6 sample
    -- 6 to 8
    ++ line (SetDegree 2 2) Done ∷ line (Send 2 0 5) (Sent 3) ∷ line (Release 3) (Released 3 6)
    -- 9 to 11: (1;0,2) is lost, nothing, and (2;0,2)
    ∷ line (Crash 1) (Crashed 1 0 1 1 0) ∷ line (Crash 1) (Crashed 1 1 2 0 1) ∷ line (Crash 2) (Crashed 2 0 1 1 0)
    -- 12 to 14: controller 0 hears all
    ∷ line (Hear 0 1 0) (Heard 0) ∷ line (Hear 0 1 1) (Heard 0) ∷ line (Hear 0 2 0) (Heard 0)
    -- 15
    ∷ line (Deliver 3) (Dropped 3 1 0)
    ∷ []

-- With (1;0,2) lost alone the message is dropped, and controller 2 hears of that crash.
abbrev pub heard_then : List ListingLine
heard_then =
    take 10 twice_lost
    -- 10 to 12
    ++ line (Hear 0 1 0) (Heard 0) ∷ line (Deliver 3) (Dropped 3 1 0) ∷ line (Hear 2 1 0) (Rolled 2 1 1 0 1 0)
    ∷ []

unfoldable twice_lost_run : Computed twice_lost
unfolding steps state_at ledger_at sample_run goes branch step_degree
twice_lost_run =
    let none : Vector = tab controllers (λ (_ : ℕ). no_pair) in
    let two : Vector = set (set none 1 (pair 0 2)) 2 (pair 0 2) in
    branch sample_run 6
    (states.next (λ σ. put σ (Degree 2) 2) refl  -- K 2 2
    (states.next (λ σ. put (put_part σ (OfMessage 2 0) 0 (message_record state_held 2 0 0 2 5 two)) SentCount 3) refl  -- S 2 0 5
    (goes (λ σ. put (put_part σ (OfMessage 2 0) message_head (flat two)) (MessageState 2) state_released) blank_ok refl  -- R 3
    (states.next (λ σ. removed (put σ (End 1 1 0) 1) 1 1) refl  -- X 1
    (states.next (λ σ. removed (put σ (End 1 1 1) 2) 1 2) refl  -- X 1
    (states.next (λ σ. removed (put σ (End 2 2 0) 1) 2 1) refl  -- X 2
    (states.next (λ σ. put (put σ (End 0 1 0) 1) (Known 0 1 0) 1) refl  -- H 0 1 0
    (states.next (λ σ. put (put σ (End 0 1 1) 2) (Known 0 1 1) 2) refl  -- H 0 1 1
    (states.next (λ σ. put (put σ (End 0 2 0) 1) (Known 0 2 0) 1) refl  -- H 0 2 0
    (states.next (λ σ. put σ (MessageState 2) state_dropped) refl  -- D 3
    states.end))))))))))

heard_then_run : Computed heard_then
unfolding steps state_at ledger_at sample_run goes branch step_degree twice_lost_run
heard_then_run =
    branch twice_lost_run 10
    (states.next (λ σ. put (put σ (End 0 1 0) 1) (Known 0 1 0) 1) refl  -- H 0 1 0
    (states.next (λ σ. put σ (MessageState 2) state_dropped) refl  -- D 3
    (states.next (λ σ. rolled_back (put (put σ (End 2 1 0) 1) (Known 2 1 0) 1) 2 1) refl  -- H 2 1 0
    states.end)))

-- what its lines tell: to controller 0 the sending interval is an orphan by the crash of controller 2, too
twice_told : OrphanBy (history_of (take 15 twice_lost)) ((history_of (take 15 twice_lost)).receiver 3) ((history_of (take 15 twice_lost)).sending 3) 2 0
unfolding all fed fed_step answers report value_at same_interval changed_at changed_at_interval newest member those degree_set sent_from joined leaving stabilized hearing losing opening forced_at capping beginning delivering restarting crashing
twice_told = record { heard = refl; on = interval 2 0 2; owner_is = refl; rests = refl; lost = refl }

-- and in the other list: which interval sent the message, and that its controller has heard of the crash at the end
record HeardTold : Type 0 where
  sending : (history_of (take 11 heard_then)).sending 3 ≡ interval 2 0 2
  heard : (history_of heard_then).heard 2 1 0 ≡ true

heard_told : HeardTold
unfolding all fed fed_step answers report value_at same_interval changed_at changed_at_interval newest member those degree_set sent_from joined leaving stabilized hearing losing opening forced_at capping beginning delivering restarting crashing rolling_back
heard_told = record { sending = refl; heard = refl }

module _ (t g : List ℕ) (long : length t ≡ table_words) (wide : length g ≡ ledger_words house) where
  shown_twice : Shown t g twice_lost
  unfolding all_look
  shown_twice = shown t g long wide twice_lost refl twice_lost_run

  -- the answer names controller 1 and the incarnation that its first crash ended
  pub the_lower_is_named : DroppedFor (up_to t g 3 1 (calls_of (take 15 twice_lost))) 3 1 0
  the_lower_is_named =
      (blame t g 3 1 (calls_of twice_lost) shown_twice.from).dropped (calls_of (take 15 twice_lost)) [] (asks (Deliver 3)) 3 1 0 refl
      (drop_named t g 3 1 (calls_of twice_lost) (calls_of (take 15 twice_lost)) 3 3 1 0
      (answer_in t g twice_lost shown_twice (take 15 twice_lost) (line (Deliver 3) (Dropped 3 1 0)) [] refl))

  -- though there is another reason, of a controller with a higher number
  pub the_higher_lost_too : let h = (up_to t g 3 1 (calls_of (take 15 twice_lost))).history in OrphanBy h (h.receiver 3) (h.sending 3) 2 0
  the_higher_lost_too = told t g (take 15 twice_lost) (shown_to t g twice_lost shown_twice 15) (λ h. OrphanBy h (h.receiver 3) (h.sending 3) 2 0) twice_told

  shown_then : Shown t g heard_then
  unfolding all_look
  shown_then = shown t g long wide heard_then refl heard_then_run

  -- once its sender has heard of the crash that was named, the interval that sent the message is live no more
  pub the_sender_is_undone : member (interval 2 0 2) ((end t g 3 1 (calls_of heard_then)).chain 2) ≡ false
  the_sender_is_undone =
      let is = told t g (take 11 heard_then) (shown_to t g heard_then shown_then 11) (λ h. h.sending 3 ≡ interval 2 0 2) heard_told.sending in
      let h = end t g 3 1 (calls_of heard_then) in
      subst (λ y. h.heard y.owner 1 0 ≡ true → member y (h.chain y.owner) ≡ false) is
      (hearing_it_undoes_the_sender t g 3 1 (calls_of heard_then) shown_then.from (calls_of (take 11 heard_then)) (calls_of (drop 12 heard_then)) (asks (Deliver 3)) 3 1 0 refl
      (drop_named t g 3 1 (calls_of heard_then) (calls_of (take 11 heard_then)) 3 3 1 0
      (answer_in t g heard_then shown_then (take 11 heard_then) (line (Deliver 3) (Dropped 3 1 0)) (drop 12 heard_then) refl)))
      (told t g heard_then shown_then (λ h. h.heard 2 1 0 ≡ true) heard_told.heard)
