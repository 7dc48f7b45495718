-- What each function of a release leaves, from what it has read and what its calls have left.
use Rattle.std.specs.Prelude.{◌≡◌, refl, Bool, true, false, not, ◌&&◌, List, ◌++◌, ℕ, ◌+◌, ◌-◌, ◌<◌, length, take, drop, ◌==◌, Result, Err}
use Rattle.std.proofs.Common.{ap, arith}
use Rattle.std.specs.Int.Count.{ones}
use borrow.Author.Tests.{eq-eqb, ne_eqb}
use Rattle.base.specs.Cases.{all_of, first_of, hit}
use Rattle.base.specs.Choice.{◌≤?◌}
use Rattle.table.specs.Field.{State, OfMessage, Degree, MessageState, Sender, Receiver, message_head, desk}
use Rattle.table.specs.Change.{put, put_part}
use Rattle.table.specs.Layout.{messages, vector_words, table_words, position}
use Rattle.table.specs.Words.{state, words}
use Rattle.table.proofs.Words.{words_state, fits_message, lent_part, then_put}
use Rattle.table.specs.Numbering.{record_of}
use Rattle.rules.specs.Limits.{house, last_entry}
use Rattle.rules.specs.Refusal.{LEDGER, LEDGER_USED_UP}
use Rattle.rules.specs.Refused.{number, refusal_of}
use Rattle.rules.specs.Vector.{Vector, message_vector, flat, filtered, mask}
use Rattle.rules.specs.Form.{state_released, state_published, for_desk}
use Rattle.rules.specs.Ledger.{ledger_words, ledger_ok, count_of, entry_of, appended}
use Rattle.rules.specs.Steps.{own_vector, let_out, gone, ledger_out, may_go, release, release_refusals, step_release}
use Rattle.rules.specs.Step.{out_both, written_both}
use Rattle.rules.specs.declared.Answer.{Answer}
use Rattle.rules.specs.declared.Answer.TheVariants.{Released, Held, Refused}
use Rattle.rules.specs.declared.refusal.Refusal.{Refusal}
use Rattle.laws.specs.Records.{length_flat}
use Rattle.laws.specs.Answering.{refused_both, turned_away_both, granted_both}

-- the words of a record's vector, from word a to word b, were lent and came back as v
pub writes_vector : (t ys : List ℕ) (r a b : ℕ) (v : Vector) → length t ≡ table_words → r < messages → a ≡ position (OfMessage r message_head) → b ≡ a + vector_words →
    ys ≡ flat v → take a t ++ (ys ++ drop (b - a) (drop a t)) ≡ words (put_part (state t) (OfMessage r 0) message_head (flat v))
writes_vector t ys r a b v l rl p q e =
    let n = length_flat v in
    rw p (lent_part (state t) (OfMessage r 0) message_head b t ys _ (words_state t l) e (omega arith) (fits_message r message_head _ rl (omega arith)))

-- then the state was put
pub writes_out : (t u w : List ℕ) (r : ℕ) (v : Vector) (st : ℕ) → u ≡ words (put_part (state t) (OfMessage r 0) message_head (flat v)) →
    w ≡ words (put (state u) (MessageState r) st) → w ≡ words (let_out (state t) r v st)
unfolding let_out
writes_out t u w r v st e h = then_put _ (MessageState r) st e h

-- whether it may go with the mask k: d is the receiver, s the sender, n its degree
module _ (σ : State) (r k d : ℕ) (de : d ≡ σ (Receiver r)) where
  pub goes_by_desk : d ≡ desk → (k == 0) ≡ may_go σ r k
  unfolding may_go
  goes_by_desk h = rw (← de, eq-eqb d desk h)

  pub goes_by_degree : (s n : ℕ) (b : Bool) → s ≡ σ (Sender r) → n ≡ σ (Degree s) → b ≡ (ones k ≤? n) → (d ≡ desk → ⊥) → b ≡ may_go σ r k
  unfolding may_go
  goes_by_degree s n b se e be h = rw (← de, ne_eqb d desk h, ← se, ← e) be

-- the vector v was read, and filtered for the sender s
pub own_filtered : (σ : State) (r s : ℕ) (v w : Vector) → s ≡ σ (Sender r) → v ≡ message_vector σ r → w ≡ filtered σ s v → w ≡ own_vector σ r
unfolding own_vector
own_filtered σ r s v w se ve we = rw (← se, ← ve) we

-- what the message in record r may count on as it goes out with the vector v
pub record Outgoing (t g : List ℕ) (r : ℕ) (v : Vector) : Type 0 where
  pub long : length t ≡ table_words
  pub record_lt : r < messages
  pub ledger_long : length g ≡ ledger_words house
  pub room : for_desk (state t) r ≡ true → count_of g < last_entry
  pub own : v ≡ own_vector (state t) r

-- it has gone out, message m; d is the receiver
module _ {t g : List ℕ} {r : ℕ} {v : Vector} (w : Outgoing t g r v) (m : ℕ) {d : ℕ} (de : d ≡ state t (Receiver r)) where
  -- the desk: it was published
  pub out_to_desk : d ≡ desk → {u h : List ℕ} → u ≡ words (let_out (state t) r v state_published) → h ≡ appended g (entry_of (state t) m r) →
      (u ≡ words (gone (state t) r)) × (h ≡ ledger_out (state t) g m r)
  unfolding gone ledger_out
  out_to_desk q ue he = (rw (← de, eq-eqb d desk q, ← w.own) ue, rw (← de, eq-eqb d desk q) he)

  -- a controller
  pub out_to_controller : (d ≡ desk → ⊥) → {u : List ℕ} → u ≡ words (let_out (state t) r v state_released) →
      (u ≡ words (gone (state t) r)) × (g ≡ ledger_out (state t) g m r)
  unfolding gone ledger_out
  out_to_controller q ue = (rw (← de, ne_eqb d desk q, ← w.own) ue, rw (← de, ne_eqb d desk q))

-- R has read the mask k of the own vector of the message in record r
pub record Read (t : List ℕ) (r k : ℕ) : Type 0 where
  pub mask_is : k ≡ mask (own_vector (state t) r)

pub read : (t : List ℕ) (r k : ℕ) (v : Vector) → v ≡ own_vector (state t) r → k ≡ mask v → Read t r k
read t r k v ve ke = record { mask_is = rw (← ve) ke }

-- R on it, of message m; b says whether it may go
module _ {t : List ℕ} {r k : ℕ} (x : Read t r k) {b : Bool} (be : b ≡ may_go (state t) r k) (g : List ℕ) (m : ℕ) where
  -- it may not: no word changes
  pub held : not b ≡ true → length t ≡ table_words → out_both (Held m k) t g ≡ written_both (release house (state t) g m r)
  unfolding release
  held h l = rw (← x.mask_is, ← be, h) (ap (λ t. out_both (Held m k) t g) (words_state t l))

  -- it may; f says whether the ledger has no room for its entry
  module _ (h : not b ≡ false) {f : Bool} (fe : f ≡ (for_desk (state t) r && (last_entry ≤? count_of g))) where
    pub used_up : f ≡ true → length t ≡ table_words → out_both (Refused LEDGER_USED_UP) t g ≡ written_both (release house (state t) g m r)
    unfolding release
    used_up q l = rw (← x.mask_is, ← be, h, ← fe, q) (ap (λ t. out_both (Refused LEDGER_USED_UP) t g) (words_state t l))

    pub released : f ≡ false → {u w : List ℕ} → u ≡ words (gone (state t) r) → w ≡ ledger_out (state t) g m r →
        out_both (Released m k) u w ≡ written_both (release house (state t) g m r)
    unfolding release
    released q ue we = rw (← x.mask_is, ← be, h, ← fe, q, ue, we)

-- a ledger of another length is not sound
another_length : (g : List ℕ) → (length g ≡ ledger_words house → ⊥) → ledger_ok house g ≡ false
unfolding ledger_ok all_of
another_length g ne = rw (ne_eqb (length g) (ledger_words house) ne)

-- R m, whose record r was found
module _ (t g : List ℕ) (m r : ℕ) (q : r ≡ record_of (state t) m) where
  -- refused by the ledger's length
  pub ledger_refused : length t ≡ table_words → (length g ≡ ledger_words house → ⊥) → out_both (Refused LEDGER) t g ≡ written_both (step_release house (state t) g m)
  unfolding step_release
  ledger_refused l ne = rw (← q) (refused_both _ t g LEDGER _ l (hit _ LEDGER _ (ap not (another_length g ne))) (λ z. omega arith))

  -- the ledger is of its length, h as an array: refused, or done
  module _ (h : List ℕ) (same : h ≡ g) where
    pub release_refused : (found : Result Unit Refusal) (refusal : Refusal) → length t ≡ table_words →
        refusal_of found ≡ first_of (release_refusals house (state t) h r) → found ≡ Err refusal →
        out_both (Refused (number refusal)) t h ≡ written_both (step_release house (state t) g m)
    unfolding step_release
    release_refused found refusal l e w = rw (← same, ← q) (turned_away_both _ t h _ found refusal l e w)

    pub release_done : (a : Answer) (u w : List ℕ) → 0 ≡ first_of (release_refusals house (state t) h r) →
        out_both a u w ≡ written_both (release house (state t) h m r) → out_both a u w ≡ written_both (step_release house (state t) g m)
    unfolding step_release
    release_done a u w e p = rw (← same, ← q) (granted_both _ (state t) h _ a u w 0 e refl p)
