-- What code leaves that writes an entry into the ledger, and then the count.
use Rattle.std.specs.Prelude.{◌≡◌, List, ◌++◌, ℕ, ◌+◌, ◌-◌, length, set, take, drop}
use Rattle.std.proofs.Common.{ap, arith}
use Rattle.base.specs.Splice.{splice_of}
use Rattle.rules.specs.Ledger.{count_at, entry_at, count_of, appended}

-- n entries stood in the ledger; the words of the next, from word a to word b, were lent and came back as the entry
pub writes_entry : (g ys entry : List ℕ) (n a b : ℕ) → n ≡ count_of g → a ≡ entry_at n → b ≡ a + length entry → ys ≡ entry →
    set (take a g ++ (ys ++ drop (b - a) (drop a g))) count_at (n + 1) ≡ appended g entry
unfolding appended
writes_entry g ys entry n a b e q l y = rw (← e, ← q) (ap (λ g. set g count_at (n + 1)) (splice_of a (b - a) g ys entry y (omega arith)))
