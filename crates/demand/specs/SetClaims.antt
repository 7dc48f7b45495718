-- What a tester looks for of sets, each claim under the sentence that it answers (W5). Demand 3, the ledger and the form speak of lists with sets
-- in them, and are in Claims.antt; lists in which sets go out are in crates/instances/specs/Reels.antt.
use Rattle.std.specs.Prelude.{◌≡◌, Bool, not, ◌&&◌, List, [], ◌∷◌, ◌≢◌, ℕ, suc, ◌+◌, ◌≤◌, ◌<◌, length, ◌==◌}
use Rattle.std.proofs.Math.Path.{refl, ap}
use Rattle.std.proofs.Common.{sym, ap₂, ◌∙◌, arith, eq-eqb, eqb-true, le-ltb, lt-ltb, le-leb}
use Rattle.std.proofs.Math.Bool.{true, false, cond}
use Rattle.std.specs.Int.Count.{ones}
use Rattle.std.proofs.lemmas.Bool.{lt-leb}
use Rattle.base.specs.Choice.{◌≤?◌, ◌<?◌, le?}
use Rattle.base.specs.Ranges.{anyb}
use Rattle.base.specs.Cases.{first_of}
use Rattle.table.specs.Field.{State, Degree, MessageState, Sender, desk}
use Rattle.table.specs.Layout.{table_words}
use Rattle.table.specs.Words.{state, words}
use Rattle.table.proofs.Words.{agree_words}
use Rattle.table.specs.Numbering.{record_of}
use Rattle.table.proofs.Numbering.{used_agree, record_agree}
use Rattle.rules.specs.Limits.{Limits, house}
use Rattle.rules.specs.Refusal.{LENGTH, FORM, LEDGER_USED_UP}
use Rattle.rules.specs.Report.{report}
use Rattle.rules.specs.Vector.{mask}
use Rattle.rules.specs.Form.{state_released, state_published, for_desk, in_form}
use Rattle.rules.specs.Ledger.{count_of}
use Rattle.rules.specs.Steps.{AfterBoth, after_both, beside, refuse, refusing_both, own_vector, let_out, state_out, gone, ledger_out, may_go, release_refusals, release, step_release}
use Rattle.rules.specs.Sets.{nth, record_in, some_absent, named_before, named_twice, some_not_held, many_senders, set_refusals, some_for_desk, set_may_go, desks, out_to, ledger_to, release_all, step_set}
use Rattle.rules.specs.Step.{perform, step_on, OutBoth, out_both, written_both, lent, step, set_on, release_set, step_call}
use Rattle.rules.specs.declared.Answer.{Answer}
use Rattle.rules.specs.declared.Answer.TheVariants.{Released, Held, Refused, SetReleased, SetHeld}
use Rattle.rules.specs.declared.Command.TheVariants.{Release}
use Rattle.history.specs.History.{answers, value_at}
use Rattle.laws.specs.Facts.{form}
use Rattle.laws.specs.Allowed.{release_allowed}
use Rattle.laws.specs.Ledger.{ledger_form}
use Rattle.laws.specs.Sets.{outs_numbers, outs_receiver, outs_state, own_stays}
use Rattle.laws.proofs.Together.{own_mask, union_none, union_one, stays_named}
use Rattle.calls.specs.Sets.{set_goes, set_holds, not_gone_keeps, SetIn, refused, held, goes, set_in}

-- ALL OR NONE, on every table, beside every ledger and for every list.
-- "otherwise all stay held and no word changes": a set that isn't released changes no word of either buffer.
pub set_not_released_changes_no_word : (t g l : List ℕ) → let o = step_call t g (release_set l) in
    ((mask : ℕ) → o.answer ≢ SetReleased mask) → (o.table ≡ t) × (o.ledger ≡ g)
set_not_released_changes_no_word = not_gone_keeps

-- "all are released": of one that is no message is left held; each has the state released, or published where it is for the desk.
pub released_set_leaves_none_held : (t g l : List ℕ) (mask : ℕ) → (step_call t g (release_set l)).answer ≡ SetReleased mask → (i : ℕ) → i < length l →
    let τ = state (step_call t g (release_set l)).table in
    let m = nth l i in
    τ (MessageState (record_of τ m)) ≡ cond (for_desk (state t) (record_of (state t) m)) state_published state_released
released_set_leaves_none_held t g l mask e i h = go (set_in t g l) e
  where
    σ : State
    σ = state t

    go : {o : OutBoth} → SetIn t g l o → o.answer ≡ SetReleased mask → let τ = state o.table in
        τ (MessageState (record_of τ (nth l i))) ≡ cond (for_desk σ (record_in σ l i)) state_published state_released
    go (refused number) q = absurd (let z : ◌≡◌ {A = ℕ} 0 1 = cc in omega arith)
    go (held table w) q = absurd (let z : ◌≡◌ {A = ℕ} 0 1 = cc in omega arith)
    go (goes w) q =
        let ρ = out_to σ l (length l) in
        let τ = state (words ρ) in
        let agreed = agree_words ρ refl in
        let few = (form house σ w.table.good).used_le in
        let count = (outs_numbers σ l (length l)).used_same in
        let here = w.all.allowed.here i h in
        let same : record_of τ (nth l i) ≡ record_in σ l i = record_agree τ ρ agreed (nth l i) (omega (arith, used_agree τ ρ agreed)) ∙ (outs_numbers σ l (length l)).record_same (nth l i) in
        ap (λ r. τ (MessageState r)) same ∙ agreed (MessageState (record_in σ l i)) (omega (arith, here, few), omega arith)
        ∙ outs_state σ l w.all.allowed.apart (length l) i h (omega arith)

-- "each with its own filtered vector": the i-th goes out with the vector that filtering leaves of it in the table that was lent, though others have
-- gone before it.
pub each_with_its_own_filtered_vector : (t g l : List ℕ) (mask : ℕ) → (step_call t g (release_set l)).answer ≡ SetReleased mask → (i : ℕ) → i < length l →
    let σ = state t in
    let r = record_in σ l i in
    out_to σ l (suc i) ≡ let_out (out_to σ l i) r (own_vector σ r) (state_out σ r)
unfolding out_to gone
each_with_its_own_filtered_vector t g l mask e i h =
    let σ = state t in
    let r = record_in σ l i in
    let w = (set_goes t g l mask e).0.all in
    let own = own_stays σ l i r (λ j p. w.allowed.apart i j p h) in
    ap₂ (let_out (out_to σ l i) r) own (ap (λ x. cond (x == desk) state_published state_released) (outs_receiver σ l i r))

-- A SET OF ONE is R but for the name of the answer, on every table and beside every ledger.
abbrev pub as_set : Answer → Answer
as_set a = cond (answers a (Released 0 0)) (SetReleased (value_at a 1)) (cond (answers a (Held 0 0)) (SetHeld (value_at a 1)) a)

abbrev as_set_both : AfterBoth → AfterBoth
as_set_both o = after_both (as_set o.answer) o.left o.ledger

module _ (L : Limits) (σ : State) (g : List ℕ) (m : ℕ) where
  abbrev r : ℕ
  r = record_of σ m

  one_refusals : first_of (set_refusals L σ g (m ∷ [])) ≡ first_of (release_refusals L σ g r)
  unfolding some_absent named_twice named_before some_not_held many_senders anyb first_of
  one_refusals = rw (eq-eqb (σ (Sender r)) (σ (Sender r)) refl) refl

  -- 18 by the one that is for the desk, or by none
  one_room : count_of g ≤ L.entries → (b : Bool) → (L.entries <? count_of g + (0 + cond b 1 0)) ≡ (b && (L.entries ≤? count_of g))
  one_room few true =
      le? L.entries (count_of g) (λ q. lt-ltb L.entries (count_of g + 1) (omega arith) ∙ sym (le-leb L.entries (count_of g) q))
      (λ q. le-ltb L.entries (count_of g + 1) (omega arith) ∙ sym (lt-leb L.entries (count_of g) q))
  one_room few false = le-ltb L.entries (count_of g + 0) (omega arith)

  one_all : count_of g ≤ L.entries → release_all L σ g (m ∷ []) ≡ as_set_both (release L σ g m r)
  unfolding release_all release set_may_go may_go some_for_desk desks out_to ledger_to anyb answers report value_at
  one_all few =
      let names = mask (own_vector σ r) in
      (λ d. cond (not (cond (for_desk σ r) (union_one σ m d == 0) (ones (union_one σ m d) ≤? σ (Degree (σ (Sender r)))))) (after_both (SetHeld (union_one σ m d)) σ g)
      (cond (one_room few (for_desk σ r) d) (beside (refuse LEDGER_USED_UP σ) g) (after_both (SetReleased (union_one σ m d)) (gone σ r) (ledger_out σ g m r))))
      ∙ chosen (may_go σ r names) (for_desk σ r && (L.entries ≤? count_of g)) names
    where
      chosen : (may full : Bool) (names : ℕ) →
          cond (not may) (after_both (SetHeld names) σ g) (cond full (beside (refuse LEDGER_USED_UP σ) g) (after_both (SetReleased names) (gone σ r) (ledger_out σ g m r)))
          ≡ as_set_both (cond (not may) (after_both (Held m names) σ g) (cond full (beside (refuse LEDGER_USED_UP σ) g) (after_both (Released m names) (gone σ r) (ledger_out σ g m r))))
      chosen false full names = refl
      chosen true true names = refl
      chosen true false names = refl

  one_step : step_set L σ g (m ∷ []) ≡ as_set_both (step_release L σ g m)
  unfolding step_set step_release refusing_both answers report value_at
  one_step =
      ap (λ n. cond (n == 0) (release_all L σ g (m ∷ [])) (beside (refuse n σ) g)) one_refusals
      ∙ by (first_of (release_refusals L σ g r)) (first_of (release_refusals L σ g r) == 0)
      (λ e. one_all (ledger_form L g (release_allowed L σ g r (sym (eqb-true _ 0 e))).1).count_le)
    where
      by : (n : ℕ) (b : Bool) → (b ≡ true → release_all L σ g (m ∷ []) ≡ as_set_both (release L σ g m r)) →
          cond b (release_all L σ g (m ∷ [])) (beside (refuse n σ) g) ≡ as_set_both (cond b (release L σ g m r) (beside (refuse n σ) g))
      by n true h = h refl
      by n false h = refl

pub a_set_of_one_is_R : (t g : List ℕ) (m : ℕ) → let o = step t g (Release m) in
    step_call t g (release_set (m ∷ [])) ≡ out_both (as_set o.answer) o.table o.ledger
unfolding step_call step lent set_on step_on perform answers report value_at
a_set_of_one_is_R t g m =
    let σ = state t in
    by (length t == table_words) (in_form house σ) (ap written_both (one_step house σ g m))
  where
    σ : State
    σ = state t

    as_set_lem : OutBoth → OutBoth
    as_set_lem o = out_both (as_set o.answer) o.table o.ledger

    by : (b f : Bool) → written_both (step_set house σ g (m ∷ [])) ≡ as_set_lem (written_both (step_release house σ g m)) →
        cond b (written_both (cond (not f) (beside (refuse FORM σ) g) (step_set house σ g (m ∷ [])))) (out_both (Refused LENGTH) t g)
        ≡ as_set_lem (cond b (written_both (cond (true && not f) (beside (refuse FORM σ) g) (step_release house σ g m))) (out_both (Refused LENGTH) t g))
    by true true e = e
    by true false e = refl
    by false f e = refl

-- NO LONGER HELD THAN ITS MESSAGES: what R would let out with nobody named, message by message, a set doesn't hold back.
pub set_of_unnamed_is_not_held : (t g l : List ℕ) → ((i : ℕ) → i < length l → (step t g (Release (nth l i))).answer ≡ Released (nth l i) 0) →
    (mask : ℕ) → (step_call t g (release_set l)).answer ≢ SetHeld mask
unfolding answers report value_at
set_of_unnamed_is_not_held t g l unnamed mask e =
    let (table, stays, is) = set_holds t g l mask e in
    stays_named stays (union_none (state t) l none)
  where
    none : (i : ℕ) → i < length l → own_mask (state t) l i ≡ 0
    none i h =
        let m = nth l i in
        let one : (step_call t g (release_set (m ∷ []))).answer ≡ SetReleased 0 = ap (λ o. o.answer) (a_set_of_one_is_R t g m) ∙ ap as_set (unnamed i h) in
        sym (union_one (state t) m) ∙ (set_goes t g (m ∷ []) 0 one).1
