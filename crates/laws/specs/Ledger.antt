-- A ledger that is in form: a blank one, and one with an entry more.
use Rattle.std.specs.Prelude.{◌≡◌, true, List, [], ◌∷◌, length, set, ◌==◌}
use Rattle.std.proofs.Common.{sym, ◌∙◌, length-set, get_or-set_same}
use Rattle.std.proofs.Math.Path.{ap}
use Prim.Native.Nat.{ℕ, zero, ◌+◌, ◌-◌, ◌≤◌, ◌<◌}
use native.Mathlib.Omega.{arith}
use Rattle.std.proofs.Math.ListN.{get_or, get_or-replicate, length-replicate}
use Rattle.std.proofs.Math.Seq.{get_or-set_other}
use borrow.Author.Tests.{eq-eqb, le-leb, eqb-true, leb-true}
use Rattle.base.specs.Ranges.{allb_get, allb_all}
use Rattle.base.specs.Cases.{all_of, passed}
use Rattle.base.specs.Splice.{splice, length_splice, splice_above}
use Rattle.rules.specs.Limits.{Limits}
use Rattle.rules.specs.Form.{zeros}
use Rattle.rules.specs.Ledger.{count_at, entry_at, ledger_words, count_of, ledger_ok, appended, blank_ledger}

module _ (L : Limits) where
  -- its length, its count, and zeros past the count
  pub record LedgerForm (g : List ℕ) : Type 0 where
    pub long : length g ≡ ledger_words L
    pub count_le : count_of g ≤ L.entries
    pub unused : (i : ℕ) → entry_at (count_of g) ≤ i → i < ledger_words L → get_or g i 0 ≡ 0

  pub ledger_form : (g : List ℕ) → ledger_ok L g ≡ true → LedgerForm g
  unfolding ledger_ok zeros
  ledger_form g e =
      let w = passed _ e in
      record {
        long = eqb-true _ _ (search w);
        count_le = leb-true _ _ (search w);
        unused = λ i l u. let next = entry_at (count_of g) in
            let q : next + (i - next) ≡ i = omega arith in
            ap (λ j. get_or g j 0) (sym q) ∙ eqb-true _ _ (allb_get (λ (k : ℕ). get_or g (next + k) 0 == 0) (ledger_words L - next) (i - next) (search w) (omega arith));
      }

  -- and back
  pub ledger_ok_lem : (g : List ℕ) → LedgerForm g → ledger_ok L g ≡ true
  unfolding ledger_ok zeros all_of
  ledger_ok_lem g w =
      let long = eq-eqb _ _ w.long in
      let count = le-leb _ _ w.count_le in
      let rest = allb_all (λ (k : ℕ). get_or g (entry_at (count_of g) + k) 0 == 0) (ledger_words L - entry_at (count_of g)) (λ k l. eq-eqb _ 0 (w.unused (entry_at (count_of g) + k) (omega arith) (omega arith))) in
      λ d. all_of (long d ∷ count d ∷ rest d ∷ [])

  -- a blank one
  pub blank_sound : ledger_ok L (blank_ledger L) ≡ true
  unfolding blank_ledger
  blank_sound =
      let at : (i : ℕ) → i < ledger_words L → get_or (blank_ledger L) i 0 ≡ 0 = λ i l. get_or-replicate (ledger_words L) i zero zero l in
      ledger_ok_lem _ (record { long = length-replicate (ledger_words L) zero; count_le = omega (arith, at count_at (omega arith)); unused = λ i _ l. at i l })

  -- "Publishing appends one pair", where there is room for it
  pub appended_sound : (g : List ℕ) (m payload : ℕ) → ledger_ok L g ≡ true → count_of g < L.entries → ledger_ok L (appended g (m ∷ payload ∷ [])) ≡ true
  unfolding appended
  appended_sound g m payload e room = ledger_ok_lem _ (record {
    long = size;
    count_le = omega (arith, count);
    unused = λ i l u.
        get_or-set_other spliced count_at i (count_of g + 1) 0 (omega arith) ∙ splice_above at i g (m ∷ payload ∷ []) (omega (arith, w.long)) (omega (arith, count)) ∙ w.unused i (omega (arith, count)) u;
  })
    where
      w : LedgerForm g
      w = ledger_form g e

      at : ℕ
      at = entry_at (count_of g)

      spliced : List ℕ
      spliced = splice g at (m ∷ payload ∷ [])

      same : length spliced ≡ length g
      same = length_splice at g (m ∷ payload ∷ []) (omega (arith, w.long))

      size : length (set spliced count_at (count_of g + 1)) ≡ ledger_words L
      size = length-set spliced count_at (count_of g + 1) ∙ same ∙ w.long

      count : count_of (set spliced count_at (count_of g + 1)) ≡ count_of g + 1
      count = get_or-set_same spliced count_at (count_of g + 1) 0 (omega (arith, same, w.long))
