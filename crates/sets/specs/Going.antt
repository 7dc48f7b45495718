-- The messages of a set going out one after the other, on the words of the table: each is on the way what it was at the
-- start.
use Rattle.std.specs.Prelude.{◌≡◌, refl, List, [], ◌∷◌, ◌≢◌, ℕ, suc, ◌+◌, ◌≤◌, ◌<◌, length, ◌==◌}
use Rattle.std.proofs.Common.{sym, ◌∙◌, add-one, arith}
use Rattle.std.proofs.Math.Path.{ap, subst}
use Rattle.std.proofs.Math.Bool.{true, cond}
use Rattle.table.specs.Field.{State, OfMessage, Sender, Receiver, Payload, desk, word}
use Rattle.table.specs.Layout.{message_words, table_words}
use Rattle.table.proofs.Positions.{valid_message_pair}
use Rattle.table.specs.Words.{state, words, Agree}
use Rattle.table.proofs.Words.{words_state, length_words, words_same, agree_words}
use Rattle.table.specs.Numbering.{used, record_of}
use Rattle.table.proofs.Numbering.{used_agree, record_agree}
use Rattle.rules.specs.Limits.{house, last_entry}
use Rattle.rules.specs.Vector.{message_vector}
use Rattle.rules.specs.Form.{for_desk}
use Rattle.rules.specs.Ledger.{ledger_words, count_of, appended}
use Rattle.rules.specs.Steps.{gone, ledger_out}
use Rattle.rules.specs.Sets.{nth, record_in, desks, out_to, ledger_to}
use Rattle.laws.specs.Facts.{Near}
use Rattle.laws.specs.Records.{message_vector_of}
use Rattle.laws.specs.Ledger.{ledger_form}
use Rattle.laws.specs.Chain.{Releasable}
use Rattle.laws.specs.Releasing.{agree_gone}
use Rattle.laws.specs.Sets.{outs_message, outs_numbers, Entered, entries, desks_le}
use Rattle.sets.specs.Ready.{Ready, Passed}

-- what a message that goes out asks for: its table and its record, the ledger, and room in that where it is for the
-- desk
pub record Asks (t g : List ℕ) (m : ℕ) : Type 0 where
  pub long : length t ≡ table_words
  pub ready : Ready (state t) m
  pub ledger_long : length g ≡ ledger_words house
  pub room : for_desk (state t) (record_of (state t) m) ≡ true → count_of g < last_entry

-- the table u and the ledger h are on their way from t and g: the first n of the list have gone out
pub record Gone (t g l u h : List ℕ) (n : ℕ) : Type 0 where
  pub start : Passed t g l
  pub room : count_of g + desks (state t) l (length l) ≤ last_entry
  pub bound : n ≤ length l
  pub left : u ≡ words (out_to (state t) l n)
  pub ledger : h ≡ ledger_to (state t) g l n

pub gone_none : (t g l : List ℕ) → Passed t g l → count_of g + desks (state t) l (length l) ≤ last_entry → Gone t g l t g 0
unfolding out_to ledger_to
gone_none t g l w room = record { start = w; room = room; bound = omega arith; left = words_state t w.listed.long; ledger = refl }

-- message m is to one state what it is to another
record Alike (ρ σ : State) (m : ℕ) : Type 0 where
  pub record_is : record_of ρ m ≡ record_of σ m
  pub receiver_is : ρ (Receiver (record_of σ m)) ≡ σ (Receiver (record_of σ m))
  pub payload_is : ρ (Payload (record_of σ m)) ≡ σ (Payload (record_of σ m))

module _ {t g l u h : List ℕ} {n : ℕ} (w : Gone t g l u h n) where
  pub gone_long : length u ≡ table_words
  gone_long = ap length w.left ∙ length_words _

  entered_so_far : Entered house g h (desks (state t) l n)
  entered_so_far =
      subst (λ h. Entered house g h (desks (state t) l n)) (sym w.ledger)
      (entries house (state t) g l n w.start.allowed.sound (omega (arith, w.room, desks_le (state t) l n (length l) w.bound)))

  pub gone_ledger : length h ≡ ledger_words house
  gone_ledger = (ledger_form house h entered_so_far.sound).long

  -- the next message
  module _ (nl : n < length l) where
    abbrev σ : State
    σ = state t

    abbrev τ : State
    τ = out_to (state t) l n

    abbrev r : ℕ
    r = record_in (state t) l n

    ready : Ready σ (nth l n)
    ready = w.start.listed.ready n nl

    ne : (j : ℕ) → j < n → r ≢ record_in σ l j
    ne j p = w.start.allowed.apart n j p nl

    agreed : Agree (state u) τ
    agreed = agree_words τ w.left

    words_of : (k : ℕ) → k < message_words → state u (OfMessage r k) ≡ σ (OfMessage r k)
    words_of k kl = agreed (OfMessage r k) (ready.record_lt, kl) ∙ outs_message σ l n r k ne

    used_is : used (state u) ≡ used σ
    used_is = used_agree (state u) τ agreed ∙ (outs_numbers σ l n).used_same

    near_on : Near (message_vector (state u) r)
    near_on = subst Near (sym vec) ready.near
      where
        vec : message_vector (state u) r ≡ message_vector σ r
        vec = message_vector_of (state u) σ r (λ a h. let v = valid_message_pair r a ready.record_lt h in (words_of _ v.0.1, words_of _ v.1.1))

    next_releasable : Releasable (state u) r
    next_releasable =
        let sender = words_of (word (Sender r)) (omega arith) in
        record { record_lt = ready.record_lt; sender_lt = omega (arith, sender, ready.sender_lt); near = near_on }

    next_alike : Alike (state u) σ (nth l n)
    next_alike =
        record {
          record_is = record_agree (state u) τ agreed (nth l n) (omega (arith, used_is, w.start.listed.used_le)) ∙ (outs_numbers σ l n).record_same (nth l n);
          receiver_is = words_of (word (Receiver r)) (omega arith);
          payload_is = words_of (word (Payload r)) (omega arith);
        }

module _ {t g l u h : List ℕ} {n : ℕ} (w : Gone t g l u h n) (nl : n < length l) where
  -- so much for the next
  pub gone_asks : Asks u h (nth l n)
  unfolding desks
  gone_asks =
      let a = next_alike w nl in
      let same = a.record_is in
      record {
        long = gone_long w;
        ready = subst (Releasable (state u)) (sym same) (next_releasable w nl);
        ledger_long = gone_ledger w;
        room = λ e. let d = desks_le (state t) l (suc n) (length l) (omega arith) in
            let q : for_desk (state t) (record_in (state t) l n) ≡ true = ap (λ x. x == desk) (sym a.receiver_is) ∙ ap (λ r. for_desk (state u) r) (sym same) ∙ e in
            let one = rw q at d in
            omega (arith, w.room, one, (entered_so_far w).count_is);
      }

  -- the next has gone out
  pub gone_more : {s y : List ℕ} → s ≡ words (gone (state u) (record_of (state u) (nth l n))) → y ≡ ledger_out (state u) h (nth l n) (record_of (state u) (nth l n)) → Gone t g l s y (n + 1)
  unfolding ledger_out out_to ledger_to
  gone_more {s} {y} e q =
      let a = next_alike w nl in
      let ρ = state u in
      let τ = out_to (state t) l n in
      let m = nth l n in
      let r = record_in (state t) l n in
      let next : words (gone ρ (record_of ρ m)) ≡ words (out_to (state t) l (suc n)) =
      ap (λ r. words (gone ρ r)) a.record_is ∙ words_same _ _ (agree_gone ρ τ (agreed w nl) r (next_releasable w nl)) in
      let entry : ledger_out ρ h m (record_of ρ m) ≡ ledger_to (state t) g l (suc n) =
      ap (ledger_out ρ h m) a.record_is
      ∙ (λ d. cond (a.receiver_is d == desk) (appended (w.ledger d) (m ∷ a.payload_is d ∷ [])) (w.ledger d)) in
      record {
        start = w.start;
        room = w.room;
        bound = omega arith;
        left = e ∙ next ∙ ap (λ k. words (out_to (state t) l k)) (sym (add-one n));
        ledger = q ∙ entry ∙ ap (ledger_to (state t) g l) (sym (add-one n));
      }
