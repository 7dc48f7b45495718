-- Document 01, "The history of a house": fed each step, in order, with its numbers and its answer, it takes nothing from the
-- table. There is no vector, no known or end word and no place in it.
use Rattle.std.specs.Prelude.{Bool, true, false, not, cond, ◌&&◌, ◌||◌, List, [], ◌∷◌, ℕ, ◌+◌, ◌-◌, length, get_or, drop, ◌==◌}
use Rattle.base.specs.Choice.{◌≤?◌, ◌<?◌}
use Rattle.rules.specs.Report.{report}
use Rattle.rules.specs.Step.{Call, asks, release_set, dispatch}
use Rattle.rules.specs.declared.Answer.{Answer}
use Rattle.rules.specs.declared.Answer.TheVariants.{Done, Sent, Delivered, Crashed, Heard, Rolled}
use Rattle.rules.specs.declared.Command.{Command}
use Rattle.rules.specs.declared.Command.TheVariants.{Open, SetDegree, Send, Release, Deliver, Log, Checkpoint, Tell, Crash, Hear, SetGap}

-- "An interval has an incarnation t and a number x", and its controller.
pub record Interval : Type 0 where
  pub owner : ℕ
  pub incarnation : ℕ
  pub number : ℕ

abbrev pub interval : ℕ → ℕ → ℕ → Interval
interval c i x = record { owner = c; incarnation = i; number = x }

unfoldable pub same_interval : Interval → Interval → Bool
same_interval y z = (y.owner == z.owner) && ((y.incarnation == z.incarnation) && (y.number == z.number))

-- "It keeps each controller's degree, incarnation, chain and crashes heard; each message's receiver and sending interval; and
-- for each interval ever begun what it rests on, whether it is stable, and the crash it was lost in, if any." W4: "The history now
-- also keeps Q and what is flagged, both read off the steps."
pub record History : Type 0 where
  -- controller
  pub degree : ℕ → ℕ
  pub incarnation : ℕ → ℕ
  -- the live intervals, newest first
  pub chain : ℕ → List Interval
  -- the first controller has heard the crash that ended that incarnation of the second
  pub heard : ℕ → ℕ → ℕ → Bool
  -- message number
  pub receiver : ℕ → ℕ
  pub sending : ℕ → Interval
  pub begun : Interval → Bool
  -- the first rests on the second
  pub rests : Interval → Interval → Bool
  pub stable : Interval → Bool
  -- lost in the crash that ended that incarnation of its controller
  pub lost : Interval → ℕ → Bool
  -- Q, 0 where it is off
  pub gap : ℕ
  pub flagged : Interval → Bool

-- a function changed at one number, or at one interval
unfoldable pub changed_at : {A : Type 0} → (ℕ → A) → ℕ → A → ℕ → A
changed_at f n a k = cond (k == n) a (f k)

unfoldable pub changed_at_interval : {A : Type 0} → (Interval → A) → Interval → A → Interval → A
changed_at_interval f y a z = cond (same_interval z y) a (f z)

-- the newest of a chain; a chain is never empty, but the function must answer
unfoldable pub newest : List Interval → Interval
newest [] = interval 0 0 0
newest (y ∷ l) = y

unfoldable pub member : Interval → List Interval → Bool
member y [] = false
member y (z ∷ l) = same_interval y z || member y l

unfoldable pub those : (Interval → Bool) → List Interval → List Interval
those p [] = []
those p (y ∷ l) = cond (p y) (y ∷ those p l) (those p l)

unfoldable pub oldest : ℕ → List Interval → List Interval
oldest q l = drop (length l - q) l

-- One change of a history each; the rest stays.
-- the degree of c is k
unfoldable pub degree_set : History → ℕ → ℕ → History
degree_set h c k =
    record {
      degree = changed_at h.degree c k;
      incarnation = h.incarnation;
      chain = h.chain;
      heard = h.heard;
      receiver = h.receiver;
      sending = h.sending;
      begun = h.begun;
      rests = h.rests;
      stable = h.stable;
      lost = h.lost;
      gap = h.gap;
      flagged = h.flagged;
    }

-- "message m for r was sent from the newest live interval of s"
unfoldable pub sent_from : History → ℕ → ℕ → ℕ → History
sent_from h m s r =
    record {
      degree = h.degree;
      incarnation = h.incarnation;
      chain = h.chain;
      heard = h.heard;
      receiver = changed_at h.receiver m r;
      sending = changed_at h.sending m (newest (h.chain s));
      begun = h.begun;
      rests = h.rests;
      stable = h.stable;
      lost = h.lost;
      gap = h.gap;
      flagged = h.flagged;
    }

-- interval y of c joins the chain: it rests on itself and on what `on` tells, is stable or not, and is not flagged
unfoldable pub joined : History → ℕ → Interval → (Interval → Bool) → Bool → History
joined h c y on is_stable =
    record {
      degree = h.degree;
      incarnation = changed_at h.incarnation c y.incarnation;
      chain = changed_at h.chain c (y ∷ h.chain c);
      heard = h.heard;
      receiver = h.receiver;
      sending = h.sending;
      begun = changed_at_interval h.begun y true;
      rests = changed_at_interval h.rests y (λ (z : Interval). same_interval z y || on z);
      stable = changed_at_interval h.stable y is_stable;
      lost = h.lost;
      gap = h.gap;
      flagged = changed_at_interval h.flagged y false;
    }

-- the intervals of c that do not pass p leave the chain
unfoldable pub leaving : History → ℕ → (Interval → Bool) → History
leaving h c p =
    record {
      degree = h.degree;
      incarnation = h.incarnation;
      chain = changed_at h.chain c (those p (h.chain c));
      heard = h.heard;
      receiver = h.receiver;
      sending = h.sending;
      begun = h.begun;
      rests = h.rests;
      stable = h.stable;
      lost = h.lost;
      gap = h.gap;
      flagged = h.flagged;
    }

-- the intervals of a list become stable
unfoldable pub stabilized : History → List Interval → History
stabilized h l =
    record {
      degree = h.degree;
      incarnation = h.incarnation;
      chain = h.chain;
      heard = h.heard;
      receiver = h.receiver;
      sending = h.sending;
      begun = h.begun;
      rests = h.rests;
      stable = λ (y : Interval). h.stable y || member y l;
      lost = h.lost;
      gap = h.gap;
      flagged = h.flagged;
    }

-- H: "b has heard the crash that ended a's incarnation t": the hearer b, the crashed a and its incarnation
unfoldable pub hearing : History → ℕ → ℕ → ℕ → History
hearing h hearer crashed i =
    record {
      degree = h.degree;
      incarnation = h.incarnation;
      chain = h.chain;
      heard = changed_at h.heard hearer (changed_at (h.heard hearer) crashed (changed_at (h.heard hearer crashed) i true));
      receiver = h.receiver;
      sending = h.sending;
      begun = h.begun;
      rests = h.rests;
      stable = h.stable;
      lost = h.lost;
      gap = h.gap;
      flagged = h.flagged;
    }

-- "the live ones of c that are not stable are lost in this crash"
unfoldable pub losing : History → ℕ → History
losing h c =
    record {
      degree = h.degree;
      incarnation = h.incarnation;
      chain = h.chain;
      heard = h.heard;
      receiver = h.receiver;
      sending = h.sending;
      begun = h.begun;
      rests = h.rests;
      stable = h.stable;
      lost = λ (y : Interval) (i : ℕ). h.lost y i || ((i == h.incarnation c) && (member y (h.chain c) && not (h.stable y)));
      gap = h.gap;
      flagged = h.flagged;
    }

-- Q is q
unfoldable pub gap_set : History → ℕ → History
gap_set h q =
    record {
      degree = h.degree;
      incarnation = h.incarnation;
      chain = h.chain;
      heard = h.heard;
      receiver = h.receiver;
      sending = h.sending;
      begun = h.begun;
      rests = h.rests;
      stable = h.stable;
      lost = h.lost;
      gap = q;
      flagged = h.flagged;
    }

-- interval y is flagged
unfoldable pub flagging : History → Interval → History
flagging h y =
    record {
      degree = h.degree;
      incarnation = h.incarnation;
      chain = h.chain;
      heard = h.heard;
      receiver = h.receiver;
      sending = h.sending;
      begun = h.begun;
      rests = h.rests;
      stable = h.stable;
      lost = h.lost;
      gap = h.gap;
      flagged = changed_at_interval h.flagged y true;
    }

-- O: "each chain is (0,1), stable, resting on itself; all degrees are k." The step says that it is flagged, and W4 that Q is 0.
-- The controllers are those below n; what is said here of others is not looked at.
unfoldable pub opening : ℕ → ℕ → History
opening n k =
    record {
      degree = λ (c : ℕ). k;
      incarnation = λ (c : ℕ). 0;
      chain = λ (c : ℕ). interval c 0 1 ∷ [];
      heard = λ (hearer crashed i : ℕ). false;
      receiver = λ (m : ℕ). 0;
      sending = λ (m : ℕ). interval 0 0 0;
      begun = λ (y : Interval). (y.owner <? n) && ((y.incarnation == 0) && (y.number == 1));
      rests = λ (y z : Interval). same_interval z y;
      stable = λ (y : Interval). (y.owner <? n) && ((y.incarnation == 0) && (y.number == 1));
      lost = λ (y : Interval) (i : ℕ). false;
      gap = 0;
      flagged = λ (y : Interval). (y.owner <? n) && ((y.incarnation == 0) && (y.number == 1));
    }

-- L: "the q oldest live ones of c not yet stable become stable." C: "all of them do", and its newest is flagged.
unfoldable pub logging : History → ℕ → ℕ → History
logging h c q = let unstable = those (λ (y : Interval). not (h.stable y)) (h.chain c) in stabilized h (oldest q unstable)

unfoldable pub checkpointing : History → ℕ → History
checkpointing h c = flagging (stabilized h (h.chain c)) (newest (h.chain c))

-- the number of the latest flagged interval of a chain, or 0
unfoldable pub latest_on : History → List Interval → ℕ
latest_on h [] = 0
latest_on h (y ∷ l) = cond (h.flagged y) y.number (latest_on h l)

-- W4: "When a new interval of any cause would stand Q or more numbers above the latest flagged one on its chain": whether that
-- which has just joined the chain of c does ..
unfoldable pub forced_at : History → ℕ → Bool
forced_at h c = not (h.gap == 0) && (h.gap ≤? (newest (h.chain c)).number - latest_on h (h.chain c))

-- .. "it is checkpointed as it begins, which logs all before it"; "forced checkpoints, with all that they log, count as stable for
-- all rules, the history's too"
unfoldable pub capping : History → ℕ → History
capping h c = cond (forced_at h c) (checkpointing h c) h

-- an interval begins: it joins the chain, and may be checkpointed then
unfoldable pub beginning : History → ℕ → Interval → (Interval → Bool) → Bool → History
beginning h c y on is_stable = capping (joined h c y on is_stable) c

-- `delivered`: "the receiver's next interval, not stable, joins its chain." It rests on what "the live interval just before it
-- rests on" and "on what the sending interval rests on".
unfoldable pub delivering : History → ℕ → History
delivering h m =
    let c = h.receiver m in
    let last = newest (h.chain c) in
    let on : Interval → Bool = λ (z : Interval). h.rests last z || h.rests (h.sending m) z in
    beginning h c (interval c (h.incarnation c) (last.number + 1)) on false

-- "After X and `rolled` a stable interval joins: incarnation plus 1, number one above the highest left."
unfoldable pub restarting : History → ℕ → History
restarting h c =
    let last = newest (h.chain c) in
    beginning h c (interval c (h.incarnation c + 1) (last.number + 1)) (h.rests last) true

-- X: "the live ones of c that are not stable are lost in this crash and leave the chain; c has heard it."
unfoldable pub crashing : History → ℕ → History
crashing h c =
    let marked = hearing (losing h c) c c (h.incarnation c) in
    restarting (leaving marked c h.stable) c

-- `rolled`: "b's live ones with numbers above k are undone and leave, the others become stable."
unfoldable pub rolling_back : History → ℕ → ℕ → History
rolling_back h b k =
    let kept : Interval → Bool = λ (y : Interval). y.number ≤? k in
    let secured = stabilized h (those kept (h.chain b)) in
    restarting (leaving secured b kept) b

-- An answer has the word of another, whatever their values, and its values by their place in it (Report.antt).
unfoldable pub answers : Answer → Answer → Bool
answers a word = (report a).number == (report word).number

unfoldable pub value_at : Answer → ℕ → ℕ
value_at a place = get_or (report a).values place 0

-- "The history is fed each step, in order, with its numbers and its answer." Held, waits, dropped, T, R and refused steps
-- change nothing; what a release lets out is told by the step itself (Demand.antt).
unfoldable pub fed_step : Command → Answer → History → History
fed_step (Open n k) a h = cond (answers a Done) (opening n k) h
fed_step (SetDegree c k) a h = cond (answers a Done) (degree_set h c k) h
fed_step (Send s r p) a h = cond (answers a (Sent 0)) (sent_from h (value_at a 0) s r) h
fed_step (Release m) a h = h
fed_step (Deliver m) a h = cond (answers a (Delivered 0 0 0)) (delivering h m) h
fed_step (Log c q) a h = cond (answers a Done) (logging h c q) h
fed_step (Checkpoint c) a h = cond (answers a Done) (checkpointing h c) h
fed_step (Tell teller told) a h = h
fed_step (Crash c) a h = cond (answers a (Crashed 0 0 0 0 0)) (crashing h c) h
fed_step (Hear b crashed i) a h =
    let informed = hearing h b crashed i in
    cond (answers a (Heard 0)) informed
    (cond (answers a (Rolled 0 0 0 0 0 0)) (rolling_back informed b (value_at a 1)) h)
fed_step (SetGap q) a h = cond (answers a Done) (gap_set h q) h

-- asking for a step feeds that step; a set changes nothing, as its releases would; what the dispatcher delivers is delivered, as its answer
-- tells, and what it drops changes nothing
unfoldable pub fed : Call → Answer → History → History
fed (asks x) a h = fed_step x a h
fed (release_set l) a h = h
fed dispatch a h = cond (answers a (Delivered 0 0 0)) (delivering h (value_at a 0)) h
