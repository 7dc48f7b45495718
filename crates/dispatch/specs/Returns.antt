-- What the functions of a call count on, and what each return shows.
use Rattle.std.specs.Prelude.{◌≡◌, true, false, List, ℕ, ◌+◌, ◌%◌, ◌≤◌, ◌<◌, length, None}
use Rattle.std.proofs.Math.Path.{sym}
use Rattle.std.specs.Array.{IsWholeChunk}
use Rattle.std.proofs.Common.{ap, ◌∙◌, arith, eq-eqb, ne_eqb}
use Rattle.table.specs.Field.{Size, Served, Receiver}
use Rattle.table.specs.Change.{put}
use Rattle.table.specs.Layout.{controllers, messages, table_words}
use Rattle.table.specs.Words.{state, words}
use Rattle.table.proofs.Words.{words_state, then_put}
use Rattle.table.specs.Numbering.{used, message_of}
use Rattle.rules.specs.Limits.{house}
use Rattle.rules.specs.Refusal.{LENGTH, FORM}
use Rattle.rules.specs.Form.{state_released, in_form}
use Rattle.rules.specs.Steps.{comes_of, deliver}
use Rattle.rules.specs.Dispatch.{dispatched}
use Rattle.rules.specs.Step.{Out, out, written, out_both, dispatch_on, lent, dispatch, step_call}
use Rattle.rules.specs.declared.Answer.{Answer}
use Rattle.rules.specs.declared.Answer.TheVariants.{Idle, Refused}
use Rattle.rules.specs.declared.Prospect.{Prospect}
use Rattle.laws.specs.Facts.{form, released_lt}
use Rattle.laws.specs.Allowed.{MessageAllowed}
use Rattle.laws.specs.Answering.{Lent, left_beside}
use Rattle.dispatch.specs.Round.{Round, from_lt}
use Rattle.dispatch.specs.Searching.{Serves, Chosen}

-- the round of a call, where n controllers are there and s was served last
pub some_size : {t : List ℕ} {n : ℕ} → Lent t → n ≡ state t Size → 1 ≤ n
some_size {t} l e = omega (arith, (form house (state t) l.good).size_pos)

pub call_round : {t : List ℕ} {n s : ℕ} → Lent t → n ≡ state t Size → s ≡ state t Served → Round (state t) ((s + 1) % n) n
call_round {t} {n} l ne se = record { size_is = ne; size_pos = some_size l ne; from_is = ap (λ s. (s + 1) % n) se }

-- a record in use is one of the table's
pub record_low : {t : List ℕ} {r : ℕ} → Lent t → r < used (state t) → r < messages
record_low {t} l h = omega (arith, (form house (state t) l.good).used_le)

-- the receiver c of a released message has a turn
pub has_turn : {t : List ℕ} {r from n c : ℕ} → Lent t → MessageAllowed (state t) r state_released → Round (state t) from n → c ≡ state t (Receiver r) →
    (from < n) × (c < n) × (n ≤ controllers)
has_turn {t} {r} l a w ce =
    let f = form house (state t) l.good in
    (from_lt w, omega (arith, released_lt f r a.record_used a.state_is, w.size_is), omega (arith, f.size_le, w.size_is))

-- nobody is served
pub call_none : {t : List ℕ} → Lent t → Chosen (state t) None → out Idle t ≡ written (dispatched house (state t))
call_none {t} l w = rw w (ap (out Idle) (words_state t l.long))

-- p has come of message m, in record r, and its receiver c was put
pub call_served : (t : List ℕ) {u y : List ℕ} {m r c : ℕ} {p : Prospect} {a : Answer} → Serves (state t) r p → c ≡ state t (Receiver r) → m ≡ message_of (state t) r →
    out a u ≡ written (comes_of (state t) m r p) → y ≡ words (put (state u) Served c) → out a y ≡ written (dispatched house (state t))
unfolding deliver
call_served t {u} {y} {m} {r} {c} {p} {a} w ce me o ye =
    let left : y ≡ words (put (comes_of (state t) m r p).left Served c) = then_put (comes_of (state t) m r p).left Served c (ap (λ (x : Out). x.table) o) ye in
    rw (w.call_is, ← ce, ← me, ← w.comes_is) (λ d. out (ap (λ (x : Out). x.answer) o d) (left d))

-- "1 length is not 15,152"; "2 table not in form"; and neither: the slice t, as the array u
pub too_short : (t g : List ℕ) → (length t ≡ table_words → ⊥) → out_both (Refused LENGTH) t g ≡ step_call t g dispatch
unfolding step_call lent
too_short t g ne = rw (ne_eqb (length t) table_words ne)

module _ (t g u : List ℕ) (whole : IsWholeChunk t u table_words) where
  pub out_of_form : in_form house (state u) ≡ false → out_both (Refused FORM) u g ≡ step_call t g dispatch
  unfolding step_call lent dispatch_on
  out_of_form e =
      rw (eq-eqb (length t) table_words whole.long, ← whole.same, e) (ap (λ u. out_both (Refused FORM) u g) (words_state u (ap length whole.same ∙ whole.long)))

  pub answered : (a : Answer) (y : List ℕ) → in_form house (state u) ≡ true → out a y ≡ written (dispatched house (state u)) → out_both a y g ≡ step_call t g dispatch
  unfolding step_call lent dispatch_on
  answered a y f e = left_beside a y g _ e ∙ sym (rw (eq-eqb (length t) table_words whole.long, ← whole.same, f))
