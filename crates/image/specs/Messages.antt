-- A message sent and a message let out, as changes of the model.
use Rattle.std.specs.Prelude.{◌≡◌, List, [], ◌∷◌, ◌≢◌, length, get_or}
use Rattle.std.proofs.Math.Path.{refl, sym, ap, ap₂, fun_ext}
use Rattle.std.proofs.Common.{◌∙◌, subst, arith, ne_eqb}
use Rattle.std.proofs.Math.Bool.{cond}
use Prim.Native.Nat.{ℕ, ◌+◌, ◌≤◌, ◌<◌}
use Rattle.base.specs.Choice.{◌<?◌}
use Rattle.table.specs.Field.{State, OfController, Known, End, OfPlace, OfMessage, Size, LiveCount, PlaceIncarnation, PlaceNumber, Sender, Receiver, SendingIncarnation, SendingNumber, MessagePairIncarnation, MessagePairNumber, message_head, word}
use Rattle.table.specs.Change.{put_part}
use Rattle.table.specs.Layout.{controllers, message_words}
use Rattle.table.specs.Numbering.{number_of, last_live, used, next_message, record_of, posted, Numbered}
use Rattle.table.proofs.Numbering.{number_from_lem, place_of_count, record_one, posted_used, posted_last, posted_gap, posted_new, posted_record, posted_number, posted_at, posted_kept, posted_missing, numbering_vector, numbers_part}
use Rattle.rules.specs.Limits.{Limits}
use Rattle.rules.specs.Vector.{Vector, place_vector, message_vector, flat, filtered}
use Rattle.rules.specs.Form.{state_held}
use Rattle.rules.specs.Shared.{newest_place}
use Rattle.rules.specs.Steps.{message_record, sent, let_out}
use Rattle.history.specs.History.{Interval, interval}
use Rattle.model.specs.Model.{pair, Vec, Controller, Message, put_message, absent_controller, send_message, release_message, filtered as filtered_for}
use Rattle.model.proofs.Tests.{changed_at_ind}
use Rattle.laws.specs.Facts.{Near, Form, controller_form, place_form}
use Rattle.laws.specs.Records.{part_other, length_filtered, length_message_record}
use Rattle.image.specs.Image.{vec_of, controller_by, model_controller, model_message, image, controller_is, begun_at, message_at_lem, message_kept, controller_frame, renumbered, message_frame, model_path}
use Rattle.image.specs.Changes.{image_state}
use Rattle.image.specs.Vectors.{message_pairs, record_pair, part_pair}
use Rattle.image.specs.Tests.{released_is}
use Rattle.image.specs.Begin.{filtered_count}

-- a message by its parts
abbrev message : ℕ → Interval → Vec → Message
message to from vec = record { to = to; from = from; vec = vec }

-- the words of a message put into the first free record
module _ (σ : State) (st sender receiver i x payload : ℕ) (v : Vector) where
  abbrev record_words : List ℕ
  record_words = message_record st sender receiver i x payload v

  -- a word of it
  new_word : (k : ℕ) → k < message_words → posted σ record_words (OfMessage (used σ) k) ≡ get_or record_words k 0
  new_word k l = posted_at σ record_words k (omega (arith, length_message_record st sender receiver i x payload v))

  -- its message
  new_message : length v ≡ controllers → model_message (posted σ record_words) (used σ) ≡ message receiver (interval sender i x) (vec_of v)
  unfolding model_message message_record
  new_message e =
      let r = used σ in
      λ d. message (new_word (word (Receiver r)) (omega arith) d)
      (interval (new_word (word (Sender r)) (omega arith) d) (new_word (word (SendingIncarnation r)) (omega arith) d) (new_word (word (SendingNumber r)) (omega arith) d))
      (message_pairs (posted σ record_words) r v e
      (λ owner l. ap₂ pair (new_word (word (MessagePairIncarnation r owner)) (omega arith)) (new_word (word (MessagePairNumber r owner)) (omega arith))
      ∙ record_pair (st ∷ sender ∷ receiver ∷ i ∷ x ∷ payload ∷ []) v message_head refl owner l) d)

-- the controllers, and the messages of other records, stay
module _ (σ : State) (w : List ℕ) where
  posted_controller : (c : ℕ) → model_controller (posted σ w) c ≡ model_controller σ c
  posted_controller c =
      renumbered σ (posted σ w) c (posted_number σ w c)
      ∙ controller_frame σ (posted σ w) c (λ k. posted_kept σ w (OfController c k) refl refl) (λ owner i. posted_kept σ w (Known c owner i) refl refl)
      (λ owner i. posted_kept σ w (End c owner i) refl refl) (λ p k. posted_kept σ w (OfPlace c p k) refl refl)

  posted_message : (r : ℕ) → r ≢ used σ → model_message (posted σ w) r ≡ model_message σ r
  posted_message r ne = message_frame σ (posted σ w) r (λ k _. posted_kept σ w (OfMessage r k) refl (rw (ne_eqb r (used σ) ne)))

-- S: "message held, with the newest vector of s filtered for s"
module _ (σ : State) (sender receiver payload : ℕ) (sl : sender < controllers) (l1 : 1 ≤ σ (LiveCount sender)) (near : Near (place_vector σ sender (newest_place σ sender))) where
  -- the sending interval
  abbrev newest : ℕ
  newest = newest_place σ sender

  abbrev i : ℕ
  i = σ (PlaceIncarnation sender newest)

  abbrev x : ℕ
  x = σ (PlaceNumber sender newest)

  abbrev v : Vector
  v = filtered σ sender (place_vector σ sender newest)

  abbrev w : List ℕ
  w = message_record state_held sender receiver i x payload v

  -- where the newest place has the newest number
  with_number : x ≡ last_live σ sender → image (sent σ sender receiver payload) ≡ send_message (image σ) (next_message σ) sender receiver
  unfolding image sent send_message controller_by
  with_number e =
      model_path (λ d c. cond (c <? controllers) (posted_controller σ w c d) absent_controller) (posted_last σ w)
      (fun_ext (changed_at_ind (λ m g. (image (posted σ w)).message m ≡ g) (image σ).message (next_message σ) _
      (message_at_lem (posted σ w) (next_message σ) (omega (arith, posted_new σ w, posted_used σ w)) ∙ ap (model_message (posted σ w)) (posted_new σ w)
      ∙ new_message σ state_held sender receiver i x payload v (length_filtered σ sender _)
      ∙ (λ d. message receiver (interval sender (begun d) (e d)) (vec d))
      ∙ ap (λ (k : Controller). message receiver (interval sender (k.begun_in k.live) k.live) (filtered_for k (k.vec k.live))) (sym (controller_is σ sender sl)))
      (λ m ne. message_kept σ (posted σ w) m
      (λ l. let same = posted_record σ w m l in
      (omega (arith, posted_used σ w), ap (model_message (posted σ w)) same ∙ posted_message σ w (record_of σ m) (omega arith)))
      (posted_missing σ w m ne)))) (posted_gap σ w)
    where
      live : ℕ
      live = last_live σ sender

      begun : i ≡ (model_controller σ sender).begun_in live
      begun =
          ap (λ p. σ (PlaceIncarnation sender p)) (sym (place_of_count σ sender (σ (LiveCount sender)) l1))
          ∙ sym (begun_at σ sender live (omega (arith, number_from_lem σ sender (σ (LiveCount sender)))) (omega arith))

      vec : vec_of v ≡ filtered_for (model_controller σ sender) ((model_controller σ sender).vec live)
      vec = filtered_count σ sender (σ (LiveCount sender)) l1 (omega arith) near

-- S, in a house in form
pub image_sent : {L : Limits} (σ : State) → Form L σ → (sender receiver payload : ℕ) → sender < σ Size →
    image (sent σ sender receiver payload) ≡ send_message (image σ) (next_message σ) sender receiver
image_sent σ f sender receiver payload h =
    let l1 = (controller_form f sender h).live_pos in
    let q = place_form f sender (newest_place σ sender) h (omega arith) in
    with_number σ sender receiver payload (omega (arith, f.size_le)) l1 q.vector.near (q.number_is ∙ ap (number_of σ sender) (omega arith))

-- R: "the filtered vector is stored", in record r of message m
module _ (σ : State) (r : ℕ) (v : Vector) (long : length v ≡ controllers) where
  -- the state with the new vector
  abbrev ρ : State
  ρ = put_part σ (OfMessage r 0) message_head (flat v)

  -- the message with the new vector
  let_message : model_message ρ r ≡ message (model_message σ r).to (model_message σ r).from (vec_of v)
  unfolding model_message
  let_message =
      λ d. message (head (word (Receiver r)) (omega arith) d)
      (interval (head (word (Sender r)) (omega arith) d) (head (word (SendingIncarnation r)) (omega arith) d) (head (word (SendingNumber r)) (omega arith) d))
      (vec d)
    where
      head : (k : ℕ) → k < message_head → ρ (OfMessage r k) ≡ σ (OfMessage r k)
      head k l = part_other σ (OfMessage r 0) (OfMessage r k) message_head (flat v) (λ n h e. let w : k ≡ message_head + n = cc in omega arith)

      vec : (model_message ρ r).vec ≡ vec_of v
      vec = message_pairs ρ r v long (part_pair σ (OfMessage r 0) message_head v)

  -- nothing of the numbers changes
  let_numbers : Numbered ρ σ
  let_numbers = numbers_part σ (OfMessage r 0) message_head (flat v) (λ k l. numbering_vector r (message_head + k) (omega arith))

  -- R, with any vector
  with_vec : (m : ℕ) → record_of σ m ≡ r → r < used σ → image ρ ≡ put_message (image σ) m (message ((image σ).message m).to ((image σ).message m).from (vec_of v))
  unfolding image controller_by place_vector put_message put_part
  with_vec m is l =
      model_path (λ d c. cond (c <? controllers) (renumbered σ ρ c (let_numbers.number c) d) absent_controller) let_numbers.last
      (fun_ext (changed_at_ind (λ n g. (image ρ).message n ≡ g) (image σ).message m _
      (message_at_lem ρ m (omega (arith, same m, let_numbers.used_same)) ∙ ap (model_message ρ) (same m ∙ is) ∙ let_message
      ∙ ap (λ (g : Message). message g.to g.from (vec_of v)) (ap (model_message σ) (sym is) ∙ sym (message_at_lem σ m there)))
      (λ n ne. message_kept σ ρ n
      (λ u. (
        omega (arith, same n, let_numbers.used_same),
        ap (model_message ρ) (same n) ∙ other (record_of σ n) (λ e. ne (record_one σ n m u there (e ∙ sym is))),
      ))
      (λ u. omega (arith, same n, let_numbers.used_same))))) refl
    where
      same : (n : ℕ) → record_of ρ n ≡ record_of σ n
      same = let_numbers.record_same

      there : record_of σ m < used σ
      there = subst (λ r. r < used σ) (sym is) l

      other : (q : ℕ) → q ≢ r → model_message ρ q ≡ model_message σ q
      other q ne = message_frame σ ρ q (λ k _. part_other σ (OfMessage r 0) (OfMessage q k) message_head (flat v) (λ n h e. ne (cc)))

-- R, in a house in form, whatever state the message is then in
pub image_let_out : {L : Limits} (σ : State) → Form L σ → (m st : ℕ) → record_of σ m < used σ →
    let r = record_of σ m in
    image (let_out σ r (filtered σ (σ (Sender r)) (message_vector σ r)) st) ≡ release_message (image σ) m
unfolding let_out release_message
image_let_out σ f m st l =
    let r = record_of σ m in
    let v = filtered σ (σ (Sender r)) (message_vector σ r) in
    image_state (put_part σ (OfMessage r 0) message_head (flat v)) r st
    ∙ with_vec σ r v (length_filtered σ (σ (Sender r)) (message_vector σ r)) m refl l
    ∙ ap (λ (u : Vec). put_message (image σ) m (message ((image σ).message m).to ((image σ).message m).from u)) (released_is σ f m l)
