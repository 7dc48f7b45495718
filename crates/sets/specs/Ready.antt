-- What the code of a set counts on: its messages may be taken by R, and none of its refusals applies.
use Rattle.std.specs.Prelude.{◌≡◌, refl, Bool, true, false, ◌||◌, List, ℕ, ◌≤◌, ◌<◌, length}
use Rattle.std.proofs.Common.{ap, ap₂}
use Rattle.base.specs.Cases.{first_of, cleared}
use Rattle.table.specs.Field.{State}
use Rattle.table.specs.Layout.{messages, table_words}
use Rattle.table.specs.Words.{state}
use Rattle.table.specs.Numbering.{used, record_of}
use Rattle.rules.specs.Limits.{house}
use Rattle.rules.specs.Sets.{nth, some_absent, set_refusals}
use Rattle.laws.specs.Facts.{form}
use Rattle.laws.specs.Answering.{Lent}
use Rattle.laws.specs.Chain.{Releasable, releasable_there}
use Rattle.laws.specs.Sets.{SetAllowed, set_allowed, all_here}

-- R may take the record of message m
abbrev pub Ready : State → ℕ → Type 0
Ready σ m = Releasable σ (record_of σ m)

-- and those of all messages of a list
pub record Listed (t l : List ℕ) : Type 0 where
  pub long : length t ≡ table_words
  pub used_le : used (state t) ≤ messages
  pub ready : (i : ℕ) → i < length l → Ready (state t) (nth l i)

-- 4 doesn't apply
pub listed : (t l : List ℕ) → Lent t → some_absent (state t) l ≡ false → Listed t l
listed t l h e =
    let f = form house (state t) h.good in
    record { long = h.long; used_le = f.used_le; ready = λ i p. releasable_there f (all_here (state t) l e i p) }

-- no refusal applies
pub record Passed (t g l : List ℕ) : Type 0 where
  pub listed : Listed t l
  pub allowed : SetAllowed house (state t) g l

pub passed : (t g l : List ℕ) → Lent t → 0 ≡ first_of (set_refusals house (state t) g l) → Passed t g l
passed t g l h e = let w = cleared _ refl e in record { listed = listed t l h (search w); allowed = set_allowed house (state t) g l e }

-- one of two tests passes, or the second decides
pub or_first : (a b : Bool) → a ≡ true → (a || b) ≡ true
or_first a b e = ap (λ x. x || b) e

pub or_second : (a b x : Bool) → a ≡ false → b ≡ x → (a || b) ≡ x
or_second a b x e q = ap₂ (λ x y. x || y) e q
