-- The ledger that some citations give: its words, and one citation more.
use Rattle.std.specs.Prelude.{◌≡◌, refl, set}
use Rattle.std.proofs.Math.Path.{sym}
use Rattle.std.proofs.Common.{ap, ◌∙◌, arith, ext_get_or, get_or-append-add}
use mathlib.Core.List.{List, [], ◌∷◌, ◌++◌, map, flatten}
use Prim.Native.Nat.{ℕ, zero, suc, ◌+◌, ◌-◌, ◌*◌, ◌≤◌, ◌<◌}
use Rattle.std.proofs.Math.ListN.{length, get_or, length-set, length-append, get_or-append, get_or-eq_default}
use Rattle.std.proofs.lemmas.List.{get_or-replicate, length-replicate}
use Rattle.std.proofs.Math.Seq.{get_or-set_same, get_or-set_other}
use Rattle.base.specs.Choice.{le?}
use Rattle.base.specs.Lists.{length_tab, get_d_tab}
use Rattle.base.specs.Splice.{splice, length_splice, splice_below, splice_in, splice_above}
use Rattle.rules.specs.Limits.{house, last_entry}
use Rattle.rules.specs.Ledger.{count_at, entry_words, entry_at, ledger_words, count_of, message_word, payload_word, cited_message, cited_payload, appended, blank_ledger}
use Rattle.history.specs.Citations.{Citation, pair_of, ledger_of}

-- the words of the entries, one after the other
abbrev entry_words_of : List Citation → List ℕ
entry_words_of cs = flatten (map pair_of cs)

length_entries : (cs : List Citation) → length (entry_words_of cs) ≡ entry_words * length cs
unfolding flatten
length_entries [] = refl
length_entries (c ∷ cs) = length-append (pair_of c) (entry_words_of cs) ∙ omega (arith, length_entries cs)

entries_more : (cs : List Citation) (c : Citation) → entry_words_of (cs ++ c ∷ []) ≡ entry_words_of cs ++ pair_of c
unfolding flatten
entries_more [] c = refl
entries_more (d ∷ cs) c = ap (λ l. pair_of d ++ l) (entries_more cs c)

length_ledger : (cs : List Citation) → length (ledger_of cs) ≡ ledger_words house
unfolding ledger_of
length_ledger cs = length_tab (ledger_words house) _

ledger_at_lem : (cs : List Citation) (i : ℕ) → i < ledger_words house → get_or (ledger_of cs) i 0 ≡ get_or (length cs ∷ entry_words_of cs) i 0
unfolding ledger_of
ledger_at_lem cs i l = get_d_tab (ledger_words house) _ i 0 l

pub count_ledger : (cs : List Citation) → count_of (ledger_of cs) ≡ length cs
count_ledger cs = ledger_at_lem cs count_at (omega arith)

-- a word of an entry
entry_at_lem : (cs : List Citation) (j : ℕ) → suc j < ledger_words house → get_or (ledger_of cs) (suc j) 0 ≡ get_or (entry_words_of cs) j 0
entry_at_lem cs j l = ledger_at_lem cs (suc j) l

-- citation j of a list
abbrev pub citation_at : List Citation → ℕ → Citation
citation_at cs j = get_or cs j (record { message = 0; payload = 0 })

-- word k of its entry
entry_word : (cs : List Citation) (j k : ℕ) → j < length cs → k < entry_words → get_or (entry_words_of cs) (entry_words * j + k) 0 ≡ get_or (pair_of (citation_at cs j)) k 0
unfolding flatten
entry_word [] j k l w = absurd (omega arith)
entry_word (c ∷ cs) zero k l w =
    let at : entry_words * zero + k ≡ k = omega arith in
    ap (λ i. get_or (entry_words_of (c ∷ cs)) i 0) at ∙ get_or-append (pair_of c) (entry_words_of cs) 0 k (omega arith)
entry_word (c ∷ cs) (suc j) k l w =
    let at : entry_words * suc j + k ≡ length (pair_of c) + (entry_words * j + k) = omega arith in
    ap (λ i. get_or (entry_words_of (c ∷ cs)) i 0) at ∙ get_or-append-add (pair_of c) (entry_words_of cs) (entry_words * j + k) 0 ∙ entry_word cs j k (omega arith) w

ledger_word : (cs : List Citation) (j k : ℕ) → length cs ≤ last_entry → j < length cs → k < entry_words → get_or (ledger_of cs) (entry_at j + k) 0 ≡ get_or (pair_of (citation_at cs j)) k 0
ledger_word cs j k few l w =
    let at : entry_at j + k ≡ suc (entry_words * j + k) = omega arith in
    ap (λ i. get_or (ledger_of cs) i 0) at ∙ entry_at_lem cs (entry_words * j + k) (omega arith) ∙ entry_word cs j k l w

-- so entry j says citation j
pub message_cited : (cs : List Citation) (j : ℕ) → length cs ≤ last_entry → j < length cs → cited_message (ledger_of cs) j ≡ (citation_at cs j).message
message_cited cs j few l = ledger_word cs j message_word few l (omega arith)

pub payload_cited : (cs : List Citation) (j : ℕ) → length cs ≤ last_entry → j < length cs → cited_payload (ledger_of cs) j ≡ (citation_at cs j).payload
payload_cited cs j few l = ledger_word cs j payload_word few l (omega arith)

-- with none, all words are 0
pub ledger_none : blank_ledger house ≡ ledger_of []
unfolding blank_ledger flatten
ledger_none =
    let n = length-replicate {A = ℕ} (ledger_words house) 0 in
    ext_get_or 0 _ _ (n ∙ sym (length_ledger [])) (λ i l. get_or-replicate (ledger_words house) i 0 0 (omega arith) ∙ sym (ledger_at_lem [] i (omega arith) ∙ none i))
  where
    none : (i : ℕ) → get_or (length {A = Citation} [] ∷ entry_words_of []) i 0 ≡ 0
    none zero = refl
    none (suc i) = refl

-- "Publishing appends one pair": one citation more
module _ (cs : List Citation) (c : Citation) (room : length cs < last_entry) where
  -- where its entry begins
  abbrev at : ℕ
  at = entry_at (length cs)

  abbrev spliced : List ℕ
  spliced = splice (ledger_of cs) at (pair_of c)

  -- a word of an entry, before the new one, in it, and behind it
  spliced_at : (j : ℕ) → suc j < ledger_words house → get_or spliced (suc j) 0 ≡ get_or (ledger_of (cs ++ c ∷ [])) (suc j) 0
  spliced_at j l =
      let n = length_entries cs in
      let long = length_ledger cs in
      let new = entry_at_lem (cs ++ c ∷ []) j l ∙ ap (λ w. get_or w j 0) (entries_more cs c) in
      le? (suc j + 1) at
      (λ u. splice_below at (suc j) (ledger_of cs) (pair_of c) (omega arith) (omega arith) ∙ entry_at_lem cs j l ∙ sym (new ∙ get_or-append (entry_words_of cs) (pair_of c) 0 j (omega arith)))
      (λ u. let k = suc j - at in
      let i : suc j ≡ at + k = omega arith in
      let p : j ≡ length (entry_words_of cs) + k = omega arith in
      let here = new ∙ ap (λ j. get_or (entry_words_of cs ++ pair_of c) j 0) p ∙ get_or-append-add (entry_words_of cs) (pair_of c) k 0 in
      le? (k + 1) entry_words
      (λ v. ap (λ i. get_or spliced i 0) i ∙ splice_in at k (ledger_of cs) (pair_of c) (omega arith) (omega arith) ∙ sym here)
      (λ v. splice_above at (suc j) (ledger_of cs) (pair_of c) (omega arith) (omega arith) ∙ entry_at_lem cs j l
      ∙ get_or-eq_default (entry_words_of cs) 0 {n = j} (omega arith) ∙ sym (here ∙ get_or-eq_default (pair_of c) 0 {n = k} (omega arith))))

  pub ledger_more : appended (ledger_of cs) (pair_of c) ≡ ledger_of (cs ++ c ∷ [])
  unfolding appended
  ledger_more =
      let long = length_ledger cs in
      let same = length_splice at (ledger_of cs) (pair_of c) (omega arith) in
      rw (count_ledger cs)
      (ext_get_or 0 _ _ (length-set spliced count_at (length cs + 1) ∙ same ∙ long ∙ sym (length_ledger (cs ++ c ∷ []))) (words_of same))
    where
      words_of : length spliced ≡ length (ledger_of cs) → (i : ℕ) → i < length (set spliced count_at (length cs + 1)) → get_or (set spliced count_at (length cs + 1)) i 0 ≡ get_or (ledger_of (cs ++ c ∷ [])) i 0
      words_of same zero l =
          let long = length_ledger cs in
          get_or-set_same spliced count_at (length cs + 1) 0 (omega arith) ∙ sym (count_ledger (cs ++ c ∷ []) ∙ length-append cs (c ∷ []))
      words_of same (suc j) l =
          let long = length_ledger cs in
          get_or-set_other spliced count_at (suc j) (length cs + 1) 0 (omega arith) ∙ spliced_at j (omega (arith, length-set spliced count_at (length cs + 1)))
