-- What each return of a set has to show.
use Rattle.std.specs.Prelude.{◌≡◌, refl, Bool, true, false, not, cond, ◌||◌, List, ℕ, zero, suc, ◌+◌, ◌≤◌, ◌<◌, length, ◌==◌, Result, Err}
use Rattle.std.proofs.Common.{sym, ap, ◌∙◌, arith}
use Rattle.std.proofs.Math.Bool.{or-true, or-false}
use Rattle.std.specs.Array.{IsWholeChunk}
use Rattle.std.specs.Int.Count.{ones}
use borrow.Author.Tests.{eq-eqb, ne_eqb, lt-ltb, le-ltb}
use Rattle.base.specs.Choice.{◌≤?◌, ◌<?◌, fails}
use Rattle.base.specs.Ranges.{anyb}
use Rattle.base.specs.Cases.{first_of, hit}
use Rattle.table.specs.Field.{State, Degree}
use Rattle.table.specs.Layout.{table_words}
use Rattle.table.specs.Words.{state, words}
use Rattle.table.proofs.Words.{words_state}
use Rattle.rules.specs.Limits.{house, last_entry}
use Rattle.rules.specs.Refusal.{LENGTH, FORM, LEDGER, LEDGER_USED_UP}
use Rattle.rules.specs.Refused.{number, refusal_of}
use Rattle.rules.specs.Form.{for_desk, in_form}
use Rattle.rules.specs.Ledger.{ledger_words, count_of}
use Rattle.rules.specs.Sets.{nth, record_in, sender_of, set_refusals, union, some_for_desk, set_may_go, desks, out_to, ledger_to, release_all, step_set}
use Rattle.rules.specs.Step.{OutBoth, out_both, written_both, lent, set_on, release_set, step_call}
use Rattle.rules.specs.declared.Answer.{Answer}
use Rattle.rules.specs.declared.Answer.TheVariants.{Refused, SetReleased, SetHeld}
use Rattle.rules.specs.declared.refusal.Refusal.{Refusal}
use Rattle.laws.specs.Ledger.{ledger_form}
use Rattle.laws.specs.Answering.{refused_both, turned_away_both, granted_both}

-- 1 and 2, and a table that these let pass: the slice t, as the array u
pub too_short : (t g l : List ℕ) → (length t ≡ table_words → ⊥) → out_both (Refused LENGTH) t g ≡ step_call t g (release_set l)
unfolding step_call lent
too_short t g l ne = rw (ne_eqb (length t) table_words ne)

module _ (t g l u : List ℕ) (whole : IsWholeChunk t u table_words) where
  pub out_of_form : in_form house (state u) ≡ false → out_both (Refused FORM) u g ≡ step_call t g (release_set l)
  unfolding step_call lent set_on
  out_of_form e = rw (eq-eqb (length t) table_words whole.long, ← whole.same, e) (ap (λ u. out_both (Refused FORM) u g) (words_state u (ap length whole.same ∙ whole.long)))

  pub answered : (o : OutBoth) → in_form house (state u) ≡ true → o ≡ written_both (step_set house (state u) g l) → o ≡ step_call t g (release_set l)
  unfolding step_call lent set_on
  answered o f e = e ∙ sym (rw (eq-eqb (length t) table_words whole.long, ← whole.same, f))

-- 14, where the ledger is of another length
pub ledger_refused : (t g l : List ℕ) → length t ≡ table_words → (length g ≡ ledger_words house → ⊥) → out_both (Refused LEDGER) t g ≡ written_both (step_set house (state t) g l)
unfolding step_set
ledger_refused t g l long ne = refused_both _ t g LEDGER _ long (hit _ LEDGER _ (ap not (fails _ (λ e. ne (ledger_form house g e).long)))) (λ z. omega arith)

-- it has its length, as the array h: 14, 4, 6, 7, 15, or none of them
module _ (t g l h : List ℕ) (same : h ≡ g) where
  pub set_refused : (found : Result Unit Refusal) (refusal : Refusal) → length t ≡ table_words → refusal_of found ≡ first_of (set_refusals house (state t) h l) →
      found ≡ Err refusal → out_both (Refused (number refusal)) t h ≡ written_both (step_set house (state t) g l)
  unfolding step_set
  set_refused found refusal long e was = rw (← same) (turned_away_both _ t h _ found refusal long e was)

  pub set_granted : (a : Answer) (u w : List ℕ) → 0 ≡ first_of (set_refusals house (state t) h l) → out_both a u w ≡ written_both (release_all house (state t) h l) →
      out_both a u w ≡ written_both (step_set house (state t) g l)
  unfolding step_set
  set_granted a u w e p = rw (← same) (granted_both _ (state t) h _ a u w 0 e refl p)

-- some are for the desk just where their count is not 0
positive : (b c : Bool) (n : ℕ) → b ≡ (0 <? n) → (b || c) ≡ (0 <? n + cond c 1 0)
positive b true n e = or-true b ∙ sym (lt-ltb 0 (n + 1) (omega arith))
positive b false n e = let z : n ≡ n + 0 = omega arith in or-false b ∙ e ∙ ap (λ k. 0 <? k) z

desk_counted : (σ : State) (l : List ℕ) (n : ℕ) → anyb n (λ (i : ℕ). for_desk σ (record_in σ l i)) ≡ (0 <? desks σ l n)
unfolding desks anyb
desk_counted σ l zero = refl
desk_counted σ l (suc n) = positive _ (for_desk σ (record_in σ l n)) (desks σ l n) (desk_counted σ l n)

some_counted : (σ : State) (l : List ℕ) → some_for_desk σ l ≡ (0 <? desks σ l (length l))
unfolding some_for_desk
some_counted σ l = desk_counted σ l (length l)

-- whether the set may go with the union k, where n are for the desk
module _ (σ : State) (l : List ℕ) (k n : ℕ) (ne : n ≡ desks σ l (length l)) where
  pub goes_by_desk : 0 < n → (k == 0) ≡ set_may_go σ l k
  unfolding set_may_go
  goes_by_desk h = rw (some_counted σ l, ← ne, lt-ltb 0 n h)

  pub goes_by_degree : (s d : ℕ) (b : Bool) → s ≡ sender_of σ (nth l 0) → d ≡ σ (Degree s) → b ≡ (ones k ≤? d) → n ≤ 0 → b ≡ set_may_go σ l k
  unfolding set_may_go
  goes_by_degree s d b se de be h = rw (some_counted σ l, ← ne, le-ltb 0 n h, ← se, ← de) be

-- the code has found the union k, how many are for the desk, and whether the set may go
pub record Found (t l : List ℕ) (k n : ℕ) (b : Bool) : Type 0 where
  pub union_is : k ≡ union (state t) l
  pub desks_are : n ≡ desks (state t) l (length l)
  pub goes : b ≡ set_may_go (state t) l k

module _ {t l : List ℕ} {k n : ℕ} {b : Bool} (f : Found t l k n b) (g : List ℕ) where
  pub held : not b ≡ true → length t ≡ table_words → out_both (SetHeld k) t g ≡ written_both (release_all house (state t) g l)
  unfolding release_all
  held h long = rw (← f.union_is, ← f.goes, h) (ap (λ t. out_both (SetHeld k) t g) (words_state t long))

  -- it may; the ledger has c entries
  module _ (h : not b ≡ false) {c : ℕ} (ce : c ≡ count_of g) where
    pub used_up : last_entry < c + n → length t ≡ table_words → out_both (Refused LEDGER_USED_UP) t g ≡ written_both (release_all house (state t) g l)
    unfolding release_all
    used_up p long =
        rw (← f.union_is, ← f.goes, h, ← ce, ← f.desks_are, lt-ltb last_entry (c + n) p) (ap (λ t. out_both (Refused LEDGER_USED_UP) t g) (words_state t long))

    pub all_go : c + n ≤ last_entry → {u y : List ℕ} → u ≡ words (out_to (state t) l (length l)) → y ≡ ledger_to (state t) g l (length l) →
        out_both (SetReleased k) u y ≡ written_both (release_all house (state t) g l)
    unfolding release_all
    all_go p ue ye = rw (← f.union_is, ← f.goes, h, ← ce, ← f.desks_are, le-ltb last_entry (c + n) p, ue, ye)
