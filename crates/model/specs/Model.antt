-- A house on functions: what the proof of demand 3 looks at, by controller and interval number, without places, words and
-- limits. Every change that an accepted step makes is a changer here.
use Rattle.std.specs.Prelude.{Bool, true, false, not, cond, ◌&&◌, ℕ, zero, suc, ◌+◌, ◌-◌, max, ◌==◌}
use Rattle.base.specs.Choice.{◌≤?◌, ◌<?◌}
use Rattle.history.specs.History.{Interval, interval, changed_at}

-- a pair of a vector; it is empty where its number is 0
pub record Pair : Type 0 where
  pub incarnation : ℕ
  pub number : ℕ

-- a pair by its parts
abbrev pub pair : ℕ → ℕ → Pair
pair i x = record { incarnation = i; number = x }

-- the interval that a pair of owner a names
abbrev pub interval_of : ℕ → Pair → Interval
interval_of a p = interval a p.incarnation p.number

-- a vector: the pair of each owner
abbrev pub Vec : Type 0
Vec = ℕ → Pair

-- a controller; its live intervals have the numbers 1 to live
pub record Controller : Type 0 where
  pub degree : ℕ
  pub incarnation : ℕ
  pub live : ℕ
  pub stable : ℕ
  -- owner, incarnation
  pub known : ℕ → ℕ → ℕ
  pub ends : ℕ → ℕ → ℕ
  -- number
  pub begun_in : ℕ → ℕ
  pub vec : ℕ → Vec
  pub flagged : ℕ → Bool

-- a message, without its state: no accepted step's effect on the invariant looks at it
pub record Message : Type 0 where
  pub to : ℕ
  pub from : Interval
  pub vec : Vec

-- the house
pub record Model : Type 0 where
  pub controller : ℕ → Controller
  pub sent : ℕ
  -- by message number, from 1
  pub message : ℕ → Message
  -- Q
  pub gap : ℕ

-- a table of numbers changed at row a and column i
unfoldable pub changed_at₂ : (ℕ → ℕ → ℕ) → ℕ → ℕ → ℕ → ℕ → ℕ → ℕ
changed_at₂ f a i v = changed_at f a (changed_at (f a) i v)

-- a pair that is not empty
unfoldable pub full : Pair → Bool
full p = not (p.number == 0)

-- the vector w filtered for a controller
unfoldable pub filtered : Controller → Vec → Vec
filtered k w a = cond ((w a).number ≤? k.known a (w a).incarnation) (pair 0 0) (w a)

-- the pair with the larger number
unfoldable pub larger : Pair → Pair → Pair
larger p q = cond (p.number <? q.number) q p

-- two vectors merged, with c's own pair
unfoldable pub merged_for : ℕ → Pair → Vec → Vec → Vec
merged_for c own v w a = cond (a == c) own (larger (v a) (w a))

-- k is put for controller c
unfoldable pub put_controller : Model → ℕ → Controller → Model
put_controller μ c k = record { controller = changed_at μ.controller c k; sent = μ.sent; message = μ.message; gap = μ.gap }

-- a message is put at number m
unfoldable pub put_message : Model → ℕ → Message → Model
put_message μ m g = record { controller = μ.controller; sent = μ.sent; message = changed_at μ.message m g; gap = μ.gap }

-- K
unfoldable pub degree_controller : Controller → ℕ → Controller
degree_controller k d =
    record {
      degree = d;
      incarnation = k.incarnation;
      live = k.live;
      stable = k.stable;
      known = k.known;
      ends = k.ends;
      begun_in = k.begun_in;
      vec = k.vec;
      flagged = k.flagged;
    }

-- L, C and the logging of kept intervals: stable up to number j
unfoldable pub log_controller : ℕ → Controller → ℕ → Controller
log_controller c k j =
    record {
      degree = k.degree;
      incarnation = k.incarnation;
      live = k.live;
      stable = j;
      known = changed_at₂ k.known c k.incarnation j;
      ends = k.ends;
      begun_in = k.begun_in;
      vec = k.vec;
      flagged = k.flagged;
    }

-- the same "if any" of them are not yet stable
abbrev pub logged_controller : ℕ → Controller → ℕ → Controller
logged_controller c k j = cond (k.stable <? j) (log_controller c k j) k

-- its newest interval is flagged
unfoldable pub flag_controller : Controller → Controller
flag_controller k =
    record {
      degree = k.degree;
      incarnation = k.incarnation;
      live = k.live;
      stable = k.stable;
      known = k.known;
      ends = k.ends;
      begun_in = k.begun_in;
      vec = k.vec;
      flagged = changed_at k.flagged k.live true;
    }

-- C
abbrev pub checkpoint_controller : ℕ → Controller → Controller
checkpoint_controller c k = flag_controller (logged_controller c k k.live)

-- the highest flagged of the numbers up to x, or 0
unfoldable pub latest : (ℕ → Bool) → ℕ → ℕ
latest f zero = 0
latest f (suc x) = cond (f (suc x)) (suc x) (latest f x)

-- how far number x stands above it
abbrev pub above_latest : Controller → ℕ → ℕ
above_latest k x = x - latest k.flagged x

-- W4: the newest interval of c, which has just begun, is checkpointed where it stands Q or more above the latest flagged one
unfoldable pub forced_model : Model → ℕ → Bool
forced_model μ c = not (μ.gap == 0) && (μ.gap ≤? above_latest (μ.controller c) (μ.controller c).live)

unfoldable pub cap_model : Model → ℕ → Model
cap_model μ c = cond (forced_model μ c) (put_controller μ c (checkpoint_controller c (μ.controller c))) μ

-- Q is set
unfoldable pub gap_model : Model → ℕ → Model
gap_model μ q = record { controller = μ.controller; sent = μ.sent; message = μ.message; gap = q }

-- T: a tells; w are its own known words
unfoldable pub tell_controller : ℕ → Controller → (ℕ → ℕ) → Controller
tell_controller a k w =
    record {
      degree = k.degree;
      incarnation = k.incarnation;
      live = k.live;
      stable = k.stable;
      known = changed_at k.known a (λ (i : ℕ). max (k.known a i) (w i));
      ends = k.ends;
      begun_in = k.begun_in;
      vec = k.vec;
      flagged = k.flagged;
    }

-- X, first part: the end word of c's own incarnation
unfoldable pub end_controller : ℕ → Controller → Controller
end_controller c k =
    record {
      degree = k.degree;
      incarnation = k.incarnation;
      live = k.live;
      stable = k.stable;
      known = k.known;
      ends = changed_at₂ k.ends c k.incarnation k.stable;
      begun_in = k.begun_in;
      vec = k.vec;
      flagged = k.flagged;
    }

-- H, first part: the end word e of a's incarnation i, and the known word raised to it
unfoldable pub note_controller : Controller → ℕ → ℕ → ℕ → Controller
note_controller k a i e =
    record {
      degree = k.degree;
      incarnation = k.incarnation;
      live = k.live;
      stable = k.stable;
      known = changed_at₂ k.known a i (max (k.known a i) e);
      ends = changed_at₂ k.ends a i e;
      begun_in = k.begun_in;
      vec = k.vec;
      flagged = k.flagged;
    }

-- D: an interval begins from a message with vector w
unfoldable pub begin_controller : ℕ → Controller → Vec → Controller
begin_controller c k w =
    record {
      degree = k.degree;
      incarnation = k.incarnation;
      live = k.live + 1;
      stable = k.stable;
      known = k.known;
      ends = k.ends;
      begun_in = changed_at k.begun_in (k.live + 1) k.incarnation;
      vec = changed_at k.vec (k.live + 1) (merged_for c (pair k.incarnation (k.live + 1)) (filtered k (k.vec k.live)) (filtered k w));
      flagged = changed_at k.flagged (k.live + 1) false;
    }

-- starting anew after kept number j: what was given to the numbers up to j stays, the new interval has number j + 1, and
-- the numbers above it are free, with what `none` says
unfoldable pub renewed : {A : Type 0} → ℕ → A → A → (ℕ → A) → ℕ → A
renewed j new none f x = cond (x ≤? j) (f x) (cond (x == j + 1) new none)

-- the kept vector, filtered, with the own pair of the new interval
unfoldable pub new_vec : ℕ → Controller → ℕ → Vec
new_vec c k j a = cond (a == c) (pair (k.incarnation + 1) (j + 1)) (filtered k (k.vec j) a)

-- the controller that starts anew after number j
unfoldable pub anew_controller : ℕ → Controller → ℕ → Controller
anew_controller c k j =
    record {
      degree = k.degree;
      incarnation = k.incarnation + 1;
      live = j + 1;
      stable = j + 1;
      known = changed_at₂ k.known c (k.incarnation + 1) (j + 1);
      ends = k.ends;
      begun_in = renewed j (k.incarnation + 1) 0 k.begun_in;
      vec = renewed j (new_vec c k j) (λ (a : ℕ). pair 0 0) k.vec;
      flagged = renewed j false false k.flagged;
    }

-- S: message m goes from c's newest interval to r
unfoldable pub send_message : Model → ℕ → ℕ → ℕ → Model
send_message μ m c r =
    let k = μ.controller c in
    record {
      controller = μ.controller;
      sent = m;
      message = changed_at μ.message m (record { to = r; from = interval c (k.begun_in k.live) k.live; vec = filtered k (k.vec k.live) });
      gap = μ.gap;
    }

-- R: message m's vector is filtered for its sender
unfoldable pub released_vec : Model → ℕ → Vec
released_vec μ m = filtered (μ.controller (μ.message m).from.owner) (μ.message m).vec

-- message m with that vector
unfoldable pub release_message : Model → ℕ → Model
release_message μ m = put_message μ m (record { to = (μ.message m).to; from = (μ.message m).from; vec = released_vec μ m })

-- O: "each has (0,1), .. stable, known to its owner, own pair (0,1) in its vector; all else 0."
unfoldable pub open_controller : ℕ → ℕ → Controller
open_controller k c =
    record {
      degree = k;
      incarnation = 0;
      live = 1;
      stable = 1;
      known = changed_at₂ (λ (a i : ℕ). 0) c 0 1;
      ends = λ (a i : ℕ). 0;
      begun_in = λ (x : ℕ). 0;
      vec = changed_at (λ (x a : ℕ). pair 0 0) 1 (changed_at (λ (a : ℕ). pair 0 0) c (pair 0 1));
      flagged = changed_at (λ (x : ℕ). false) 1 true;
    }

-- for controllers from n on
unfoldable pub absent_controller : Controller
absent_controller =
    record {
      degree = 0;
      incarnation = 0;
      live = 0;
      stable = 0;
      known = λ (a i : ℕ). 0;
      ends = λ (a i : ℕ). 0;
      begun_in = λ (x : ℕ). 0;
      vec = λ (x a : ℕ). pair 0 0;
      flagged = λ (x : ℕ). false;
    }

-- the house just opened
unfoldable pub open_model : ℕ → ℕ → Model
open_model n k =
    record {
      controller = λ (c : ℕ). cond (c <? n) (open_controller k c) absent_controller;
      sent = 0;
      message = λ (m : ℕ). record { to = 0; from = interval 0 0 0; vec = λ (a : ℕ). pair 0 0 };
      gap = 0;
    }
