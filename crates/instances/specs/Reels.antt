-- Lists in which sets go out: one with two controllers named, of whose intervals one is lost later, and one with two readings for the desk. Each is
-- told by the list that has the set's releases in its place, which was computed on states: by the equation of runs both lead to the same.
use Rattle.std.specs.Prelude.{◌≡◌, true, false, ◌||◌, List, [], ◌∷◌, ◌++◌, ℕ, ◌+◌, ◌≤◌, ◌<◌, length, take, drop, set}
use Rattle.std.proofs.Math.Path.{refl, sym, ap, ap₂, subst}
use Rattle.std.proofs.Common.{◌∙◌, arith}
use Rattle.std.specs.Int.Count.{ones}
use Rattle.base.specs.Choice.{◌<?◌}
use Rattle.base.specs.Cases.{first_of}
use Rattle.base.specs.Lists.{tab}
use Rattle.base.specs.Splice.{splice}
use Rattle.table.specs.Field.{State, OfMessage, SentCount, Degree, End, MessageState, desk, message_head}
use Rattle.table.specs.Layout.{controllers, table_words}
use Rattle.table.specs.Change.{put, put_part}
use Rattle.rules.specs.Shared.{removed}
use Rattle.rules.specs.Limits.{house}
use Rattle.rules.specs.Report.{report}
use Rattle.rules.specs.Vector.{Vector, pair, no_pair, flat}
use Rattle.rules.specs.Form.{state_held, state_released, state_published, in_form}
use Rattle.rules.specs.Ledger.{ledger_words, count_of, ledger_ok, appended, blank_ledger}
use Rattle.rules.specs.Steps.{refusing_both, message_record, step_degree}
use Rattle.rules.specs.Sets.{nth, some_absent, bad_length, named_before, named_twice, some_not_held, many_senders, some_full, bits, union, some_for_desk, set_may_go, desks, release_all, step_set}
use Rattle.rules.specs.Step.{looks_at_form, set_on, Call, release_set, step_call}
use Rattle.rules.specs.declared.Answer.TheVariants.{Done, Sent, Released, Crashed, SetReleased}
use Rattle.rules.specs.declared.Command.TheVariants.{SetDegree, Send, Release, Crash}
use Rattle.history.specs.History.{Interval, interval, History, same_interval, changed_at, changed_at_interval, newest, member, those, degree_set, sent_from, joined, leaving, stabilized, hearing, losing, opening, forced_at, capping, beginning, delivering, restarting, crashing, answers, value_at, fed_step, fed}
use Rattle.history.specs.Citations.{Citation, no_citations, sent_with, let_out_to, cited_step, cited, ledger_of}
use Rattle.history.specs.Demand.{Run, call_in, runs, just_opened, named, LetsGo, together, FromOpening, up_to, end}
use Rattle.history.specs.Examples.{ListingLine, line, all, all_cited}
use Rattle.laws.specs.Ledger.{appended_sound}
use Rattle.listing.specs.Run as states
use Rattle.listing.specs.Run.{steps, blank_ok, goes, opened_form}
use Rattle.testers.specs.Sample.{sample, asked, calls, all_look}
use Rattle.testers.proofs.Sample.{sample_run, opened_three, from_opening}
use Rattle.testers.proofs.Along.{citations_after, Stage, state_at, ledger_at, command_at, stage_at}
use Rattle.keeping.proofs.Sets.{set_words}
use Rattle.calls.specs.Sets.{runs_append, releases, set_runs}
use Rattle.demand.specs.Demanded.{demand_3}
use Rattle.demand.proofs.Beyond.{ledger_cites}
use Rattle.instances.specs.Lists.{calls_of, Computed, branch}
use Rattle.instances.specs.Shown.{Shown, shown, shown_to, history_of, history_is, told}

-- THE LISTS, with the releases in the place of the set
-- Controller 2, whose degree is 2, sends two messages from (2;0,2), which rests on (1;0,2); they go out; then controller 1 crashes, and loses (1;0,2).
abbrev pub reel : List ListingLine
reel =
    take 6 sample
    -- 6 to 8
    ++ line (SetDegree 2 2) Done ∷ line (Send 2 0 5) (Sent 3) ∷ line (Send 2 1 6) (Sent 4)
    -- 9 and 10
    ∷ line (Release 3) (Released 3 6) ∷ line (Release 4) (Released 4 6)
    -- 11
    ∷ line (Crash 1) (Crashed 1 0 1 1 0)
    ∷ []

-- Controller 0 sends two readings to the desk and a message to controller 1; they go out, the second reading first.
abbrev pub readings : List ListingLine
readings =
    line (Send 0 desk 5) (Sent 1) ∷ line (Send 0 desk 4) (Sent 2) ∷ line (Send 0 1 6) (Sent 3)
    ∷ line (Release 2) (Released 2 0) ∷ line (Release 3) (Released 3 0) ∷ line (Release 1) (Released 1 0)
    ∷ []

abbrev none : Vector
none = tab controllers (λ (_ : ℕ). no_pair)

unfoldable reel_run : Computed reel
unfolding steps state_at ledger_at sample_run goes branch step_degree
reel_run =
    let two : Vector = set (set none 1 (pair 0 2)) 2 (pair 0 2) in
    branch sample_run 6
    (states.next (λ σ. put σ (Degree 2) 2) refl  -- K 2 2
    (states.next (λ σ. put (put_part σ (OfMessage 2 0) 0 (message_record state_held 2 0 0 2 5 two)) SentCount 3) refl  -- S 2 0 5
    (states.next (λ σ. put (put_part σ (OfMessage 3 0) 0 (message_record state_held 2 1 0 2 6 two)) SentCount 4) refl  -- S 2 1 6
    (goes (λ σ. put (put_part σ (OfMessage 2 0) message_head (flat two)) (MessageState 2) state_released) blank_ok refl  -- R 3
    (goes (λ σ. put (put_part σ (OfMessage 3 0) message_head (flat two)) (MessageState 3) state_released) blank_ok refl  -- R 4
    (states.next (λ σ. removed (put σ (End 1 1 0) 1) 1 1) refl  -- X 1
    states.end))))))

blank_count : count_of (blank_ledger house) ≡ 0
unfolding blank_ledger
blank_count = refl

unfoldable readings_run : Computed readings
unfolding steps goes blank_ledger appended splice
readings_run =
    let cited_once = appended_sound house (blank_ledger house) 2 4 blank_ok (omega (arith, blank_count)) in
    (states.next (λ σ. put (put_part σ (OfMessage 0 0) 0 (message_record state_held 0 desk 0 1 5 none)) SentCount 1) refl  -- S 0 8 5
    (states.next (λ σ. put (put_part σ (OfMessage 1 0) 0 (message_record state_held 0 desk 0 1 4 none)) SentCount 2) refl  -- S 0 8 4
    (states.next (λ σ. put (put_part σ (OfMessage 2 0) 0 (message_record state_held 0 1 0 1 6 none)) SentCount 3) refl  -- S 0 1 6
    (goes (λ σ. put (put_part σ (OfMessage 1 0) message_head (flat none)) (MessageState 1) state_published) blank_ok refl  -- R 2
    (goes (λ σ. put (put_part σ (OfMessage 2 0) message_head (flat none)) (MessageState 2) state_released) cited_once refl  -- R 3
    (goes (λ σ. put (put_part σ (OfMessage 0 0) message_head (flat none)) (MessageState 0) state_published) cited_once refl  -- R 1
    states.end))))))

-- THE SET
-- a set beside a ledger in form whose other tests pass, each by computing, is released with its union
set_lets : (σ : State) (g l : List ℕ) (mask : ℕ) → in_form house σ ≡ true → ledger_ok house g ≡ true → some_absent σ l ≡ false → (bad_length l || named_twice l) ≡ false →
    some_not_held σ l ≡ false → many_senders σ l ≡ false → set_may_go σ l (union σ l) ≡ true → (house.entries <? count_of g + desks σ l (length l)) ≡ false → union σ l ≡ mask →
    (set_on house σ g l).answer ≡ SetReleased mask
unfolding set_on step_set refusing_both first_of release_all
set_lets σ g l mask good sound here apart held one may room is = rw (good, sound, here, apart, held, one, may, room) (ap SetReleased is)

-- a list whose releases from line j on are those of a set, with the set in their place
abbrev pub with_set : List ListingLine → ℕ → List ℕ → List Call
with_set l j messages = calls_of (take j l) ++ release_set messages ∷ calls_of (drop (length messages + j) l)

-- such a list, computed on states
module _ (t g : List ℕ) (long : length t ≡ table_words) (wide : length g ≡ ledger_words house) (l : List ListingLine) (w : Computed l) (j : ℕ) (messages : List ℕ) where
  -- the first part, and the rest
  abbrev first : List Call
  first = calls_of (take j l)

  abbrev rest : List Call
  rest = calls_of (drop (length messages + j) l)

  -- it stands before a line that looks at the form
  module _ (mask : ℕ) (before : calls (take j (asked l)) ≡ first) (looks : looks_at_form (command_at (asked l) j) ≡ true)
      (lets : in_form house (state_at w j) ≡ true → (set_on house (state_at w j) (ledger_at w j) messages).answer ≡ SetReleased mask) where
    pub set_answer : (call_in (up_to t g 3 1 first) (release_set messages)).answer ≡ SetReleased mask
    unfolding just_opened
    set_answer =
        let o = opened_three t g long wide in
        let s = subst (λ xs. Stage (up_to t g 3 1 xs).table (up_to t g 3 1 xs).ledger (state_at w j) (ledger_at w j) (command_at (asked l) j)) before
        (stage_at w (opened_form 1 refl) (just_opened t g 3 1) o.table_is o.ledger_is j) in
        ap₂ (λ u k. (step_call u k (release_set messages)).answer) s.table_is s.ledger_is ∙ ap (λ o. o.answer) (set_words (state_at w j) (ledger_at w j) messages) ∙ lets (s.good looks)

    -- so it leads where its releases lead
    pub same_end : calls_of l ≡ first ++ (releases messages ++ rest) → up_to t g 3 1 (with_set l j messages) ≡ up_to t g 3 1 (calls_of l)
    unfolding runs
    same_end spelled =
        let start = just_opened t g 3 1 in
        runs_append start first (release_set messages ∷ rest) ∙ ap (λ r. runs r rest) (set_runs (runs start first) messages mask set_answer)
        ∙ sym (runs_append (runs start first) (releases messages) rest) ∙ sym (runs_append start first (releases messages ++ rest)) ∙ ap (runs start) (sym spelled)

    -- and each of its messages is let out with its union
    pub each_goes : (i : ℕ) → i < length messages → LetsGo (release_set messages) (call_in (up_to t g 3 1 first) (release_set messages)).answer (nth messages i) mask
    each_goes i h = subst (λ a. LetsGo (release_set messages) a (nth messages i) mask) (sym set_answer) (together messages i mask h)

-- TWO NAMED
-- what its lines tell
record ReelTold : Type 0 where
  degree : (history_of (take 9 reel)).degree ((history_of (take 9 reel)).sending 4).owner ≡ 2
  unstable : (history_of (take 9 reel)).stable (interval 1 0 2) ≡ false
  rests : (history_of reel).rests ((history_of reel).sending 4) (interval 1 0 2) ≡ true
  lost : (history_of reel).lost (interval 1 0 2) 0 ≡ true

reel_told : ReelTold
unfolding all fed fed_step answers report value_at same_interval changed_at changed_at_interval newest member those degree_set sent_from joined leaving stabilized hearing losing opening forced_at capping beginning delivering restarting crashing
reel_told = record { degree = refl; unstable = refl; rests = refl; lost = refl }

module _ (t g : List ℕ) (long : length t ≡ table_words) (wide : length g ≡ ledger_words house) where
  shown_reel : Shown t g reel
  unfolding all_look
  shown_reel = shown t g long wide reel refl reel_run

  shown_9 : Shown t g (take 9 reel)
  shown_9 = shown_to t g reel shown_reel 9

  reel_lets : in_form house (state_at reel_run 9) ≡ true → (set_on house (state_at reel_run 9) (ledger_at reel_run 9) (3 ∷ 4 ∷ [])).answer ≡ SetReleased 6
  unfolding steps state_at ledger_at sample_run goes branch step_degree reel_run some_absent named_before named_twice some_not_held many_senders some_full bits union some_for_desk set_may_go desks
  reel_lets good = set_lets _ _ _ 6 good blank_ok refl refl refl refl refl refl refl

  -- messages 3 and 4 go out together, with controllers 1 and 2 named, before controller 1 crashes
  abbrev pub together_out : List Call
  together_out = with_set reel 9 (3 ∷ 4 ∷ [])

  pub set_with_two_named : (call_in (up_to t g 3 1 (calls_of (take 9 reel))) (release_set (3 ∷ 4 ∷ []))).answer ≡ SetReleased 6
  set_with_two_named = set_answer t g long wide reel reel_run 9 (3 ∷ 4 ∷ []) 6 refl refl reel_lets

  from_together : FromOpening t g 3 1 together_out
  unfolding all_look
  from_together = from_opening t g long wide together_out refl

  -- what demand 3 says of message 4: the set names no more than its sender's degree,
  pub two_named_under_2 : ones 6 ≤ 2
  two_named_under_2 =
      let goes_4 = each_goes t g long wide reel reel_run 9 (3 ∷ 4 ∷ []) 6 refl refl reel_lets 1 (omega arith) in
      omega (
        arith,
        (demand_3 t g 3 1 together_out from_together).degrees (calls_of (take 9 reel)) (calls_of (drop 11 reel)) _ 4 6 refl goes_4,
        told t g (take 9 reel) shown_9 (λ h. h.degree (h.sending 4).owner ≡ 2) reel_told.degree,
      )

  -- and the controller that lost later what it rests on.
  pub loser_is_named : named 6 1 ≡ true
  loser_is_named =
      let goes_4 = each_goes t g long wide reel reel_run 9 (3 ∷ 4 ∷ []) 6 refl refl reel_lets 1 (omega arith) in
      let same = ap (λ (r : Run). r.history) (same_end t g long wide reel reel_run 9 (3 ∷ 4 ∷ []) 6 refl refl reel_lets refl) ∙ history_is t g reel shown_reel in
      (demand_3 t g 3 1 together_out from_together).releases (calls_of (take 9 reel)) (calls_of (drop 11 reel)) _ 4 6 refl goes_4 (interval 1 0 2) 0
      (ap (λ (h : History). h.rests (h.sending 4) (interval 1 0 2)) same ∙ reel_told.rests)
      (told t g (take 9 reel) shown_9 (λ h. h.stable (interval 1 0 2) ≡ false) reel_told.unstable) (ap (λ (h : History). h.lost (interval 1 0 2) 0) same ∙ reel_told.lost)

-- READINGS
-- what its lines tell
abbrev two_readings : List Citation
two_readings = record { message = 2; payload = 4 } ∷ record { message = 1; payload = 5 } ∷ []

record ReadingsTold : Type 0 where
  to_desk_lem : (history_of (take 3 readings)).receiver 2 ≡ desk
  from : (history_of (take 3 readings)).sending 2 ≡ interval 0 0 1
  published : (all_cited readings no_citations).published ≡ two_readings

readings_told : ReadingsTold
unfolding all fed fed_step all_cited cited cited_step sent_with let_out_to answers report value_at changed_at newest sent_from opening
readings_told = record { to_desk_lem = refl; from = refl; published = refl }

module _ (t g : List ℕ) (long : length t ≡ table_words) (wide : length g ≡ ledger_words house) where
  shown_readings : Shown t g readings
  unfolding all_look
  shown_readings = shown t g long wide readings refl readings_run

  readings_lets : in_form house (state_at readings_run 3) ≡ true → (set_on house (state_at readings_run 3) (ledger_at readings_run 3) (2 ∷ 3 ∷ 1 ∷ [])).answer ≡ SetReleased 0
  unfolding steps state_at ledger_at goes readings_run some_absent named_before named_twice some_not_held many_senders some_full bits union some_for_desk set_may_go desks blank_ledger
  readings_lets good = set_lets _ _ _ 0 good blank_ok refl refl refl refl refl refl refl

  -- two readings and a message to a controller go out together
  abbrev pub readings_out : List Call
  readings_out = with_set readings 3 (2 ∷ 3 ∷ 1 ∷ [])

  pub set_with_readings : (call_in (up_to t g 3 1 (calls_of (take 3 readings))) (release_set (2 ∷ 3 ∷ 1 ∷ []))).answer ≡ SetReleased 0
  set_with_readings = set_answer t g long wide readings readings_run 3 (2 ∷ 3 ∷ 1 ∷ []) 0 refl refl readings_lets

  from_readings : FromOpening t g 3 1 readings_out
  unfolding all_look
  from_readings = from_opening t g long wide readings_out refl

  -- "desk messages enter the ledger in the order given": message 2 before message 1,
  pub entered_in_the_order_given : (up_to t g 3 1 readings_out).ledger ≡ ledger_of two_readings
  unfolding just_opened
  entered_in_the_order_given =
      let same = same_end t g long wide readings readings_run 3 (2 ∷ 3 ∷ 1 ∷ []) 0 refl refl readings_lets refl in
      ledger_cites t g 3 1 readings_out from_readings
      ∙ ap (λ (r : Run). ledger_of r.citations.published) same
      ∙ ap (λ q. ledger_of q.published) (citations_after (just_opened t g 3 1) readings shown_readings.answers)
      ∙ ap ledger_of readings_told.published

  -- and by demand 3 the work that sent it stands.
  pub reading_of_a_set_stands : let y = interval 0 0 1 in
      (member y ((end t g 3 1 readings_out).chain 0) ≡ true) × ((crash : ℕ) → (end t g 3 1 readings_out).lost y crash ≡ false)
  reading_of_a_set_stands =
      let goes_2 = each_goes t g long wide readings readings_run 3 (2 ∷ 3 ∷ 1 ∷ []) 0 refl refl readings_lets 0 (omega arith) in
      let shown_3 = shown_to t g readings shown_readings 3 in
      let p = (demand_3 t g 3 1 readings_out from_readings).published (calls_of (take 3 readings)) [] _ 2 0 refl goes_2
      (told t g (take 3 readings) shown_3 (λ h. h.receiver 2 ≡ desk) readings_told.to_desk_lem) in
      subst (λ (y : Interval). (member y ((end t g 3 1 readings_out).chain y.owner) ≡ true) × ((crash : ℕ) → (end t g 3 1 readings_out).lost y crash ≡ false))
      (told t g (take 3 readings) shown_3 (λ h. h.sending 2 ≡ interval 0 0 1) readings_told.from) (p.1, p.2)
