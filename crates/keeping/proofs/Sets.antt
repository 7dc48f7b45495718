-- Sets, on states and on tables: a set keeps the form of both buffers, which R gives it (`set_ind`), is never refused for them, and looks only
-- at words of the table and at the ledger.
use Rattle.std.specs.Prelude.{◌≡◌, true, List, ◌≢◌, length}
use Rattle.std.proofs.Math.Path.{refl, ap, ap₂}
use Rattle.std.proofs.Common.{sym, ◌∙◌, subst, arith, ◌==◌}
use Rattle.std.proofs.Math.Bool.{not, cond}
use Prim.Native.Nat.{ℕ, zero, suc, ◌+◌, ◌≤◌, ◌<◌}
use Rattle.std.specs.Int.Count.{ones}
use borrow.Author.Tests.{eq-eqb, not-false, ltb-false}
use Rattle.base.specs.Choice.{◌≤?◌, ◌<?◌, cond_ind}
use Rattle.base.specs.Ranges.{anyb_same}
use Rattle.base.specs.Cases.{first_of}
use Rattle.table.specs.Field.{State, Degree, MessageState, Sender}
use Rattle.table.specs.Layout.{controllers, table_words}
use Rattle.table.specs.Words.{state, words, Agree}
use Rattle.table.proofs.Words.{length_words, word_at}
use Rattle.table.specs.Numbering.{used}
use Rattle.table.proofs.Numbering.{used_agree, record_agree}
use Rattle.rules.specs.Limits.{Limits, house}
use Rattle.rules.specs.Refusal.{LENGTH, FORM, LEDGER, MESSAGE, SAME_CONTROLLER, STATE, SENDERS}
use Rattle.rules.specs.Form.{state_held, for_desk, in_form}
use Rattle.rules.specs.Ledger.{count_of, ledger_ok}
use Rattle.rules.specs.Steps.{AfterBoth, own_vector, ledger_out, step_release}
use Rattle.rules.specs.Sets.{nth, record_in, some_absent, some_not_held, sender_of, many_senders, set_refusals, full, some_full, union, some_for_desk, set_may_go, desks, out_to, ledger_to, release_all, step_set}
use Rattle.rules.specs.Step.{perform, written_both, lent, set_on, release_set, step_call}
use Rattle.rules.specs.declared.Answer.TheVariants.{Refused, SetReleased, SetHeld}
use Rattle.rules.specs.declared.Command.TheVariants.{Release}
use Rattle.laws.specs.Facts.{Fitting, Form, form, house_fits}
use Rattle.laws.specs.Agree.{state_same}
use Rattle.laws.specs.Answering.{Lent}
use Rattle.laws.specs.Chain.{Releasable, releasable_there}
use Rattle.laws.specs.Releasing.{degree_agree, desk_agree, own_agree, agree_gone, ledger_out_agree}
use Rattle.laws.specs.Bits.{bits_same}
use Rattle.laws.specs.Sets.{SetAllowed, set_allowed, all_here, outs_numbers}
use Rattle.laws.specs.Together.{Goes}
use Rattle.laws.proofs.Together.{on_the_way, set_ind}
use Rattle.keeping.proofs.Steps.{performed, form_kept}
use Rattle.keeping.proofs.Kept.{in_form_same, lent_words}
use Rattle.keeping.proofs.Unrefused.{Sound, ledger_kept, Let, let_refusing_both, past_first, buffers_fit}
use Rattle.keeping.proofs.StepSame.{SameBoth, same_refuse, same_beside, same_written, same_cond, same_first, same_refusing_both}

-- THE FORM
-- both buffers in form
pub record BothForm (L : Limits) (σ : State) (g : List ℕ) : Type 0 where
  pub table : in_form L σ ≡ true
  pub ledger : ledger_ok L g ≡ true

-- R keeps that
release_kept : (L : Limits) → Fitting L → (τ : State) (h : List ℕ) (m : ℕ) → BothForm L τ h → BothForm L (step_release L τ h m).left (step_release L τ h m).ledger
unfolding perform
release_kept L fit τ h m q =
    let e = performed L τ h q.table (Release m) in
    record {
      table = ap (λ (o : AfterBoth). in_form L o.left) (sym e) ∙ form_kept L fit τ h (Release m) q.table;
      ledger = ap (λ (o : AfterBoth). ledger_ok L o.ledger) (sym e) ∙ ledger_kept L τ h (Release m) q.ledger;
    }

pub set_kept : (L : Limits) → Fitting L → (σ : State) (g l : List ℕ) → BothForm L σ g → BothForm L (set_on L σ g l).left (set_on L σ g l).ledger
unfolding set_on
set_kept L fit σ g l b =
    cond_ind (λ (o : AfterBoth). BothForm L o.left o.ledger) (not (in_form L σ)) (λ _. b)
    (λ _. set_ind L (BothForm L) σ g l b (λ τ h m names q _. release_kept L fit τ h m q))

-- on the way of a set that goes, too
pub kept_on_the_way : (L : Limits) → Fitting L → (σ : State) (g l : List ℕ) → in_form L σ ≡ true → Goes L σ g l → (n : ℕ) → n ≤ length l → BothForm L (out_to σ l n) (ledger_to σ g l n)
kept_on_the_way L fit σ g l e w =
    on_the_way w (BothForm L) (record { table = e; ledger = w.allowed.sound }) (λ τ h m names q _. release_kept L fit τ h m q)

-- STATES WITH THE SAME WORDS
module _ (σ τ : State) (e : Agree σ τ) (f : Form house σ) (g l : List ℕ) where
  records : (i : ℕ) → record_in σ l i ≡ record_in τ l i
  records i = record_agree σ τ e (nth l i) f.used_le

  -- where all messages are there
  module _ (here : (i : ℕ) → i < length l → record_in σ l i < used σ) where
    may : (i : ℕ) → i < length l → Releasable σ (record_in σ l i)
    may i h = releasable_there f (here i h)

    senders_same : (i : ℕ) → i < length l → sender_of σ (nth l i) ≡ sender_of τ (nth l i)
    senders_same i h = e (Sender (record_in σ l i)) (omega (arith, here i h, f.used_le), omega arith) ∙ ap (λ r. τ (Sender r)) (records i)

    desk_same : (i : ℕ) → i < length l → for_desk σ (record_in σ l i) ≡ for_desk τ (record_in τ l i)
    desk_same i h = desk_agree σ τ e (record_in σ l i) (may i h) ∙ ap (for_desk τ) (records i)

    own_same : (i : ℕ) → i < length l → own_vector σ (record_in σ l i) ≡ own_vector τ (record_in τ l i)
    own_same i h = own_agree σ τ e (record_in σ l i) (may i h) ∙ ap (own_vector τ) (records i)

    held_same : some_not_held σ l ≡ some_not_held τ l
    unfolding some_not_held
    held_same =
        anyb_same (length l) _ _
        (λ i h. ap (λ x. not (x == state_held)) (state_same σ τ e (record_in σ l i) (omega (arith, here i h, f.used_le)) ∙ ap (λ r. τ (MessageState r)) (records i)))

    many_same : many_senders σ l ≡ many_senders τ l
    unfolding many_senders
    many_same = anyb_same (length l) _ _ (λ i h. λ d. not (senders_same i h d == senders_same 0 (omega arith) d))

    union_same : union σ l ≡ union τ l
    unfolding union some_full
    union_same = bits_same controllers _ _ (λ c _. anyb_same (length l) _ _ (λ i h. ap (λ v. full v c) (own_same i h)))

    some_same : some_for_desk σ l ≡ some_for_desk τ l
    unfolding some_for_desk
    some_same = anyb_same (length l) _ _ desk_same

    desks_same : (n : ℕ) → n ≤ length l → desks σ l n ≡ desks τ l n
    unfolding desks
    desks_same zero h = refl
    desks_same (suc n) h = ap₂ (λ k b. k + cond b 1 0) (desks_same n (omega arith)) (desk_same n (omega arith))

    ledgers_same : (n : ℕ) → n ≤ length l → ledger_to σ g l n ≡ ledger_to τ g l n
    unfolding ledger_to
    ledgers_same zero h = refl
    ledgers_same (suc n) h =
        ledger_out_agree σ τ e (record_in σ l n) (may n h) (ledger_to σ g l n) (nth l n)
        ∙ ap₂ (λ k r. ledger_out τ k (nth l n) r) (ledgers_same n (omega arith)) (records n)

  absent_same : some_absent σ l ≡ some_absent τ l
  unfolding some_absent
  absent_same = anyb_same (length l) _ _ (λ i h. λ d. used_agree σ τ e d ≤? records i d)

  refusals_same : first_of (set_refusals house σ g l) ≡ first_of (set_refusals house τ g l)
  refusals_same =
      same_first LEDGER _ _ refl
      (λ _. same_first MESSAGE _ _ absent_same
      (λ z. let here = all_here σ l z in
      same_first SAME_CONTROLLER _ _ refl (λ _. same_first STATE _ _ (held_same here) (λ _. same_first SENDERS _ _ (many_same here) (λ _. refl)))))

  -- the messages go out alike
  outs_same : in_form house σ ≡ true → Goes house σ g l → (n : ℕ) → n ≤ length l → Agree (out_to σ l n) (out_to τ l n)
  unfolding out_to
  outs_same good w zero h = e
  outs_same good w (suc n) h =
      let on = form house (out_to σ l n) (kept_on_the_way house house_fits σ g l good w n (omega arith)).table in
      rw (← records n)
      (agree_gone (out_to σ l n) (out_to τ l n) (outs_same good w n (omega arith)) (record_in σ l n) (releasable_there on (omega (arith, w.allowed.here n h, (outs_numbers σ l n).used_same))))

  same_all : in_form house σ ≡ true → SetAllowed house σ g l → SameBoth (release_all house σ g l) (release_all house τ g l)
  unfolding release_all set_may_go
  same_all good a =
      let u = union_same a.here in
      let some = some_same a.here in
      let first = a.some in
      let k = degree_agree σ τ e (record_in σ l 0) (may a.here 0 first) ∙ ap (λ r. τ (Degree (τ (Sender r)))) (records 0) in
      same_cond SameBoth (λ d. not (cond (some d) (u d == 0) (ones (u d) ≤? k d))) (λ _. record { answer_is = ap SetHeld u; left_is = e; ledger_is = refl })
      (λ may. same_cond SameBoth (ap (λ n. house.entries <? count_of g + n) (desks_same a.here (length l) (omega arith))) (λ _. same_beside g (same_refuse σ τ e refl))
      (λ room. let w : Goes house σ g l = record { allowed = a; may = not-false _ may; room = ltb-false _ _ room } in
      record { answer_is = ap SetReleased u; left_is = outs_same good w (length l) (omega arith); ledger_is = ledgers_same a.here (length l) (omega arith) }))

-- a set on states with the same words, beside one ledger
pub same_set : (σ τ : State) → Agree σ τ → (g l : List ℕ) → SameBoth (set_on house σ g l) (set_on house τ g l)
unfolding set_on step_set
same_set σ τ e g l =
    same_cond SameBoth (ap not (in_form_same σ τ e)) (λ _. same_beside g (same_refuse σ τ e refl))
    (λ z. let good = not-false (in_form house σ) z in
    let f = form house σ good in
    same_refusing_both σ τ e g _ _ (refusals_same σ τ e f g l) (λ q. same_all σ τ e f g l good (set_allowed house σ g l q)))

-- TABLES
-- The call on the table of a state, beside a ledger, is the call on that state.
pub set_words : (σ : State) (g l : List ℕ) → step_call (words σ) g (release_set l) ≡ written_both (set_on house σ g l)
unfolding step_call lent
set_words σ g l = rw (eq-eqb (length (words σ)) table_words (length_words σ)) (same_written (same_set (state (words σ)) σ (word_at σ) g l))

-- on a lent table it is the call on its state
pub set_is : (t g l : List ℕ) → Lent t → step_call t g (release_set l) ≡ written_both (set_on house (state t) g l)
unfolding step_call lent
set_is t g l h = rw (eq-eqb (length t) table_words h.long)

-- it leaves both buffers in form
pub sound_set : (t g l : List ℕ) → Sound t g → let o = step_call t g (release_set l) in Sound o.table o.ledger
sound_set t g l s =
    let k = set_kept house house_fits (state t) g l (record { table = s.table.good; ledger = s.ledger }) in
    subst (λ o. Sound o.table o.ledger) (sym (set_is t g l s.table)) (record { table = lent_words _ k.table; ledger = k.ledger })

-- and is not refused for one of them
pub sound_let_set : (t g l : List ℕ) (number : ℕ) → Sound t g → (step_call t g (release_set l)).answer ≡ Refused number → (number ≢ LENGTH) × (number ≢ FORM) × (number ≢ LEDGER)
unfolding set_on step_set release_all
sound_let_set t g l number s q =
    let σ = state t in
    let all : Let house σ g (release_all house σ g l).answer =
    cond_ind (λ (o : AfterBoth). Let house σ g o.answer) (not (set_may_go σ l (union σ l))) (λ _. refl)
    (λ _. cond_ind (λ (o : AfterBoth). Let house σ g o.answer) (house.entries <? count_of g + desks σ l (length l)) (λ _. refl) (λ _. refl)) in
    let through : Let house σ g (set_on house σ g l).answer =
    rw s.table.good (let_refusing_both house σ g _ _ (past_first _ LEDGER _ (ap not s.ledger) refl) all) in
    buffers_fit (ap (λ o. o.answer) (sym (set_is t g l s.table)) ∙ q) through
