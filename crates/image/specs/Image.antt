-- The model of a state: what its words say of each controller and of each message. No limit of a house is in it: how many places and
-- message records there are, is in the state's own counts.
use Rattle.std.specs.Prelude.{◌≡◌, refl, true, false, cond, ◌≢◌, ℕ, ◌+◌, ◌≤◌, ◌<◌, ◌==◌}
use Rattle.std.proofs.Common.{sym, ap, ◌∙◌, true≢false, arith, lt-ltb, le-ltb}
use Rattle.std.proofs.Math.Path.{fun_ext}
use Rattle.base.specs.Choice.{◌<?◌, le?}
use Rattle.table.specs.Field.{Field, State, OfHead, OfController, Known, End, OfPlace, OfMessage, Gap, Degree, Incarnation, LiveCount, StableCount, PlaceIncarnation, Flag, PairIncarnation, PairNumber, MessageState, Sender, Receiver, SendingIncarnation, SendingNumber, MessagePairIncarnation, MessagePairNumber, word}
use Rattle.table.specs.Layout.{controllers}
use Rattle.table.specs.Numbering.{number_of, last_live, place_of, used, last_given, record_of, present, numbering, Numbered}
use Rattle.table.proofs.Numbering.{place_from, numbers_kept}
use Rattle.rules.specs.Vector.{Pair as PairList, Vector, incarnation, number, pair_of, place_vector, message_vector}
use Rattle.history.specs.History.{interval}
use Rattle.model.specs.Model.{Pair, pair, Vec, Controller, Message, Model, put_controller, absent_controller}
use Rattle.model.proofs.Tests.{changed_at_ind, changed_at_same}
use Rattle.model.proofs.Keeping.{put_controller_id, put_controller_twice}
use Rattle.laws.specs.Records.{place_vector_of, message_vector_of}
use Rattle.image.specs.Functions.{within, within_in, in_rows}

-- the vector with no pair
abbrev pub no_vec : Vec
no_vec owner = pair 0 0

-- the message that was not sent
abbrev pub unsent_message : Message
unsent_message = record { to = 0; from = interval 0 0 0; vec = no_vec }

-- a pair as a pair of the model
abbrev pub model_pair : PairList → Pair
model_pair p = pair (incarnation p) (number p)

-- a vector of pairs as a vector of the model
abbrev pub vec_of : Vector → Vec
vec_of v owner = model_pair (pair_of v owner)

-- the vector in place p of c
abbrev pub place_vec : State → ℕ → ℕ → Vec
place_vec σ c p = vec_of (place_vector σ c p)

-- controller c of σ by the numbering of ν: the k-th live interval has the number number_of ν c k, and number x stands in place
-- place_of ν c x
unfoldable pub controller_by : State → State → ℕ → Controller
controller_by ν σ c =
    record {
      degree = σ (Degree c);
      incarnation = σ (Incarnation c);
      live = number_of ν c (σ (LiveCount c));
      stable = number_of ν c (σ (StableCount c));
      known = in_rows (λ owner i. σ (Known c owner i));
      ends = in_rows (λ owner i. σ (End c owner i));
      begun_in = within (number_of ν c (σ (LiveCount c))) 0 (λ x. σ (PlaceIncarnation c (place_of ν c x)));
      vec = within (number_of ν c (σ (LiveCount c))) no_vec (λ x. place_vec σ c (place_of ν c x));
      flagged = within (number_of ν c (σ (LiveCount c))) false (λ x. σ (Flag c (place_of ν c x)) == 1);
    }

-- controller c, by its own numbering
abbrev pub model_controller : State → ℕ → Controller
model_controller σ c = controller_by σ σ c

-- the message in record r
unfoldable pub model_message : State → ℕ → Message
model_message σ r =
    record {
      to = σ (Receiver r);
      from = interval (σ (Sender r)) (σ (SendingIncarnation r)) (σ (SendingNumber r));
      vec = vec_of (message_vector σ r);
    }

-- the model of a state; a house has at most 8 controllers, and message m, where it is there, stands in its record
unfoldable pub image : State → Model
image σ =
    record {
      controller = λ c. cond (c <? controllers) (model_controller σ c) absent_controller;
      sent = last_given σ;
      message = λ m. cond (present σ m) (model_message σ (record_of σ m)) unsent_message;
      gap = σ Gap;
    }

-- a controller of it
pub controller_is : (σ : State) (c : ℕ) → c < controllers → (image σ).controller c ≡ model_controller σ c
unfolding image
controller_is σ c cl = rw (lt-ltb c controllers cl)

-- what a controller has begun in its number x
pub begun_at : (σ : State) (c x : ℕ) → 1 ≤ x → x ≤ last_live σ c → (model_controller σ c).begun_in x ≡ σ (PlaceIncarnation c (place_of σ c x))
unfolding controller_by
begun_at σ c x p q = within_in (last_live σ c) 0 (λ x. σ (PlaceIncarnation c (place_of σ c x))) x p q

-- and the vector of that number
pub vec_at : (σ : State) (c x : ℕ) → 1 ≤ x → x ≤ last_live σ c → (model_controller σ c).vec x ≡ place_vec σ c (place_of σ c x)
unfolding controller_by
vec_at σ c x p q = within_in (last_live σ c) no_vec (λ x. place_vec σ c (place_of σ c x)) x p q

-- a message that is there
pub message_at_lem : (σ : State) (m : ℕ) → record_of σ m < used σ → (image σ).message m ≡ model_message σ (record_of σ m)
unfolding image
message_at_lem σ m l = rw (lt-ltb (record_of σ m) (used σ) l)

-- and one that is not
pub message_none : (σ : State) (m : ℕ) → used σ ≤ record_of σ m → (image σ).message m ≡ unsent_message
unfolding image
message_none σ m l = rw (le-ltb (record_of σ m) (used σ) l)

-- a message that two states have alike
pub message_kept : (σ τ : State) (m : ℕ) → (record_of σ m < used σ → (record_of τ m < used τ) × (model_message τ (record_of τ m) ≡ model_message σ (record_of σ m))) →
    (used σ ≤ record_of σ m → used τ ≤ record_of τ m) → (image τ).message m ≡ (image σ).message m
message_kept σ τ m here gone =
    le? (record_of σ m + 1) (used σ)
    (λ l. let u : record_of σ m < used σ = omega arith in let h = here u in message_at_lem τ m h.0 ∙ h.1 ∙ sym (message_at_lem σ m u))
    (λ l. let u : used σ ≤ record_of σ m = omega arith in message_none τ m (gone u) ∙ sym (message_none σ m u))

-- two controllers with equal parts
pub controller_path : {k l : Controller} → k.degree ≡ l.degree → k.incarnation ≡ l.incarnation → k.live ≡ l.live → k.stable ≡ l.stable →
    k.known ≡ l.known → k.ends ≡ l.ends → k.begun_in ≡ l.begun_in → k.vec ≡ l.vec → k.flagged ≡ l.flagged → k ≡ l
controller_path a b c d e f g h j =
    λ i. record { degree = a i; incarnation = b i; live = c i; stable = d i; known = e i; ends = f i; begun_in = g i; vec = h i; flagged = j i }

-- two models with equal parts
pub model_path : {μ μ' : Model} → μ.controller ≡ μ'.controller → μ.sent ≡ μ'.sent → μ.message ≡ μ'.message → μ.gap ≡ μ'.gap → μ ≡ μ'
model_path a b c d = λ i. record { controller = a i; sent = b i; message = c i; gap = d i }

-- a change that leaves the numbers may be read by the numbering of before
pub renumbered : (σ τ : State) (c : ℕ) → ((k : ℕ) → number_of τ c k ≡ number_of σ c k) → model_controller τ c ≡ controller_by σ τ c
unfolding controller_by
renumbered σ τ c n =
    let live = n (τ (LiveCount c)) in
    let place : (x : ℕ) → place_of τ c x ≡ place_of σ c x = λ x. place_from τ σ c x (n 1) in
    controller_path refl refl live (n (τ (StableCount c))) refl refl (λ d. within (live d) 0 (λ x. τ (PlaceIncarnation c (place x d))))
    (λ d. within (live d) no_vec (λ x. place_vec τ c (place x d))) (λ d. within (live d) false (λ x. τ (Flag c (place x d)) == 1))

-- a controller whose words are the same
pub controller_frame : (σ τ : State) (c : ℕ) → ((k : ℕ) → τ (OfController c k) ≡ σ (OfController c k)) → ((owner i : ℕ) → τ (Known c owner i) ≡ σ (Known c owner i)) →
    ((owner i : ℕ) → τ (End c owner i) ≡ σ (End c owner i)) → ((p k : ℕ) → τ (OfPlace c p k) ≡ σ (OfPlace c p k)) → controller_by σ τ c ≡ model_controller σ c
unfolding controller_by
controller_frame σ τ c own known ends places =
    let live = ap (number_of σ c) (own (word (LiveCount c))) in
    let vector : (p : ℕ) → place_vector τ c p ≡ place_vector σ c p =
    λ p. place_vector_of τ σ c p (λ owner l. (places p (word (PairIncarnation c p owner)), places p (word (PairNumber c p owner)))) in
    controller_path (own (word (Degree c))) (own (word (Incarnation c))) live (ap (number_of σ c) (own (word (StableCount c))))
    (λ d. in_rows (λ owner i. known owner i d)) (λ d. in_rows (λ owner i. ends owner i d))
    (λ d. within (live d) 0 (λ x. let p = place_of σ c x in places p (word (PlaceIncarnation c p)) d))
    (λ d. within (live d) no_vec (λ x. vec_of (vector (place_of σ c x) d))) (λ d. within (live d) false (λ x. let p = place_of σ c x in places p (word (Flag c p)) d == 1))

-- a message whose words but the state are the same
pub message_frame : (σ τ : State) (r : ℕ) → ((k : ℕ) → k ≢ word (MessageState r) → τ (OfMessage r k) ≡ σ (OfMessage r k)) → model_message τ r ≡ model_message σ r
unfolding model_message
message_frame σ τ r h =
    let vector = message_vector_of τ σ r (λ owner l. (h (word (MessagePairIncarnation r owner)) (omega arith), h (word (MessagePairNumber r owner)) (omega arith))) in
    λ d. record {
      to = h (word (Receiver r)) (omega arith) d;
      from = interval (h (word (Sender r)) (omega arith) d) (h (word (SendingIncarnation r)) (omega arith) d) (h (word (SendingNumber r)) (omega arith) d);
      vec = vec_of (vector d);
    }

-- a field that is neither a word of controller c nor the state of a message
abbrev pub Away : ℕ → Field → Type 0
Away c (OfHead k) = Unit {0}
Away c (OfController b k) = b ≢ c
Away c (Known holder owner i) = holder ≢ c
Away c (End holder owner i) = holder ≢ c
Away c (OfPlace b p k) = b ≢ c
Away c (OfMessage r k) = k ≢ word (MessageState r)

-- A change keeps what is said of such fields: those of τ are those of σ.
abbrev pub Elsewhere : ℕ → State → State → Type 0
Elsewhere c σ τ = (g : Field) → Away c g → τ g ≡ σ g

-- they have all words of numbering
numbering_away : (c : ℕ) (g : Field) → numbering g ≡ true → Away c g
numbering_away c (OfHead k) e = tt
numbering_away c (OfController b k) e = absurd (true≢false (sym e))
numbering_away c (Known holder owner i) e = absurd (true≢false (sym e))
numbering_away c (End holder owner i) e = absurd (true≢false (sym e))
numbering_away c (OfPlace b p k) e = absurd (true≢false (sym e))
numbering_away c (OfMessage r k) e = λ z. true≢false (sym e ∙ ap (λ k. numbering (OfMessage r k)) z)

-- so the change leaves all numbers
pub numbers_elsewhere : (c : ℕ) (σ τ : State) → Elsewhere c σ τ → Numbered τ σ
numbers_elsewhere c σ τ h = numbers_kept τ σ (λ g e. h g (numbering_away c g e))

-- a change of one controller's words is a change of its controller
pub one_controller : (σ τ : State) (c : ℕ) (F : Controller → Controller) → c < controllers → controller_by σ τ c ≡ F (model_controller σ c) → Elsewhere c σ τ →
    image τ ≡ put_controller (image σ) c (F ((image σ).controller c))
unfolding image put_controller
one_controller σ τ c F cl e h =
    model_path
    (fun_ext (changed_at_ind (λ b k. (image τ).controller b ≡ k) (image σ).controller c _
    (controller_is τ c cl ∙ renumbered σ τ c (numbers.number c) ∙ e ∙ ap F (sym (controller_is σ c cl)))
    (λ b ne. ap (λ k. cond (b <? controllers) k absent_controller) (renumbered σ τ b (numbers.number b)
    ∙ controller_frame σ τ b (λ k. h (OfController b k) ne) (λ owner i. h (Known b owner i) ne) (λ owner i. h (End b owner i) ne) (λ p k. h (OfPlace b p k) ne)))))
    numbers.last (λ d m. cond (numbers.record_same m d <? numbers.used_same d) (same_message m d) unsent_message) (h Gap tt)
  where
    numbers : Numbered τ σ
    numbers = numbers_elsewhere c σ τ h

    same_message : (m : ℕ) → model_message τ (record_of τ m) ≡ model_message σ (record_of σ m)
    same_message m = message_frame σ τ (record_of τ m) (λ k. h (OfMessage (record_of τ m) k)) ∙ ap (model_message σ) (numbers.record_same m)

-- the controller that was put
pub put_controller_own : (μ : Model) (c : ℕ) (k : Controller) → (put_controller μ c k).controller c ≡ k
unfolding put_controller
put_controller_own μ c k = changed_at_same μ.controller c k

-- a second change of a controller whose first change is known
pub then_controller : (μ μ' : Model) (c : ℕ) (k : Controller) (F : Controller → Controller) → μ' ≡ put_controller μ c k → put_controller μ' c (F (μ'.controller c)) ≡ put_controller μ c (F k)
then_controller μ μ' c k F e = ap (λ (μ : Model). put_controller μ c (F (μ.controller c))) e ∙ put_controller_twice μ c k F

-- the same where the controller stays
pub same_controller : (σ τ : State) (c : ℕ) → c < controllers → controller_by σ τ c ≡ model_controller σ c → Elsewhere c σ τ → image τ ≡ image σ
same_controller σ τ c cl e h = one_controller σ τ c (λ k. k) cl e h ∙ put_controller_id (image σ) c
