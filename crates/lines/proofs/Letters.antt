-- W4: "New steps get a line in `house` only where a request names the letter." It names none for the gap: no letter
-- asks for it, and no line does.
use Rattle.std.specs.Prelude.{◌≡◌, refl, Bool, true, false, cond, Option, Some, None, List, [], ◌∷◌, map, ℕ, length, get_or}
use Rattle.std.proofs.Common.{sym, ap, ◌∙◌, true≢false, ◌==◌}
use Prim.Native.Char.{code}
use Rattle.base.specs.Choice.{◌≤?◌, cond_ind}
use Rattle.rules.specs.declared.Command.{Command}
use Rattle.rules.specs.declared.Command.TheVariants.{Open, SetDegree, Send, Release, Deliver, Log, Checkpoint, Tell, Crash, Hear, SetGap}
use Rattle.lines.specs.Lines.{longest_line, step_of, numbers_of, with_numbers, command, fields, value_of, are_numbers, asked, parse}

-- the steps that have a letter
abbrev pub has_letter : Command → Bool
has_letter (Open n k) = true
has_letter (SetDegree c k) = true
has_letter (Send s r p) = true
has_letter (Release m) = true
has_letter (Deliver m) = true
has_letter (Log c q) = true
has_letter (Checkpoint c) = true
has_letter (Tell a b) = true
has_letter (Crash c) = true
has_letter (Hear b a i) = true
has_letter (SetGap q) = false

-- what is asked, if anything, is one of them
abbrev lettered : Option Command → Bool
lettered (Some x) = has_letter x
lettered None = true

record Lettered (p : Option Command) : Type 0 where
  is : lettered p ≡ true

one_of : (u : Bool) {p r : Option Command} → Lettered p → Lettered r → Lettered (cond u p r)
one_of u f g = cond_ind Lettered u (λ e. f) (λ e. g)

-- by a letter
letter_has : (letter a b c : ℕ) → Lettered (step_of letter a b c)
unfolding step_of
letter_has letter a b c =
    one_of (letter == code "O") (record { is = refl })
    (one_of (letter == code "K") (record { is = refl })
    (one_of (letter == code "S") (record { is = refl })
    (one_of (letter == code "R") (record { is = refl })
    (one_of (letter == code "D") (record { is = refl })
    (one_of (letter == code "L") (record { is = refl })
    (one_of (letter == code "C") (record { is = refl })
    (one_of (letter == code "T") (record { is = refl })
    (one_of (letter == code "X") (record { is = refl })
    (one_of (letter == code "H") (record { is = refl }) (record { is = refl }))))))))))

-- by a line
numbered_has : (n : ℕ) (p : Option Command) → Lettered p → Lettered (with_numbers n p)
unfolding with_numbers
numbered_has n (Some x) e = one_of (numbers_of x == n) e (record { is = refl })
numbered_has n None e = e

asked_has : (fs : List (List ℕ)) → Lettered (asked fs)
unfolding asked command
asked_has [] = record { is = refl }
asked_has ([] ∷ ws) = record { is = refl }
asked_has ((l ∷ []) ∷ ws) =
    let ns = map value_of ws in
    one_of (are_numbers ws) (numbered_has (length ns) _ (letter_has l (get_or ns 0 0) (get_or ns 1 0) (get_or ns 2 0))) (record { is = refl })
asked_has ((l ∷ b ∷ w) ∷ ws) = record { is = refl }

-- so neither asks for the gap
not_gap : (p : Option Command) (q : ℕ) → Lettered p → p ≡ Some (SetGap q) → ⊥
not_gap p q h e = true≢false (sym h.is ∙ ap lettered e)

pub no_letter : (letter a b c q : ℕ) → step_of letter a b c ≡ Some (SetGap q) → ⊥
no_letter letter a b c q = not_gap _ q (letter_has letter a b c)

pub no_line : (line : List ℕ) (q : ℕ) → parse line ≡ Some (SetGap q) → ⊥
unfolding parse
no_line line q = not_gap _ q (one_of (length line ≤? longest_line) (asked_has (fields line)) (record { is = refl }))
