-- The program writes what `house_writes` says, wherever its input is cut into reads. What it has written at any time,
-- even where a write broke off, is a first part of that.
use Rattle.std.specs.Prelude.{◌≡◌, refl, ℕ, take, drop}
use Rattle.std.proofs.Common.{sym, ap, ◌∙◌, take-append-drop}
use mathlib.Core.List.{List, [], ◌∷◌, ◌++◌, append_assoc, append-nil, foldl-append, flatten}
use Rattle.rules.specs.Bytes.{bytes}
use Rattle.lines.specs.Lines.{step_of, with_numbers, command, fields, are_numbers, asked, parse, spaced, line_of, bad_line}
use Rattle.lines.specs.Program.{lines_of, reply_to, reply, replies, house_writes}
use Rattle.session.specs.Taking.{Session, begun, taken, taken_all, finished, paid}
use Rattle.session.proofs.Cutting.{owed_paid, owed_in_all}

-- what is written for these reads, each of some bytes (`served` is `taken_all` then): after each what is owed then
unfoldable pub written_for : Session → List (List ℕ) → List ℕ
written_for s [] = []
written_for s (r ∷ reads) = (taken_all s r).owed ++ written_for (paid (taken_all s r)) reads

-- what is written for these reads and the end of the input, a read without bytes (`served` is `finished` then)
unfoldable pub written_in_all : Session → List (List ℕ) → List ℕ
written_in_all s [] = (finished s).owed
written_in_all s (r ∷ reads) = (taken_all s r).owed ++ written_in_all (paid (taken_all s r)) reads

-- one list begins another
pub record FirstPart (part whole : List ℕ) : Type 0 where
  pub more : List ℕ
  pub splits : whole ≡ part ++ more

in_all : (reads : List (List ℕ)) (s : Session) → written_in_all s reads ≡ (finished (taken_all s (flatten reads))).owed
unfolding written_in_all flatten
in_all [] s = refl
in_all (r ∷ reads) s =
    ap (λ (x : List ℕ). (taken_all s r).owed ++ x) (in_all reads (paid (taken_all s r)))
    ∙ owed_paid (taken_all s r) (flatten reads)
    ∙ ap (λ (u : Session). (finished u).owed) (sym (foldl-append taken s r (flatten reads)))

-- Wherever the input is cut into reads, what is written is what the definition says.
pub whole : (reads : List (List ℕ)) → written_in_all begun reads ≡ house_writes (flatten reads)
whole reads = in_all reads begun ∙ owed_in_all (flatten reads)

and_then : (reads : List (List ℕ)) (last : List ℕ) (s : Session) → FirstPart (written_for s reads) (written_in_all s (reads ++ last ∷ []))
unfolding written_for written_in_all
and_then [] last s = record { more = written_in_all s (last ∷ []); splits = refl }
and_then (r ∷ reads) last s =
    let f = and_then reads last (paid (taken_all s r)) in
    let now : List ℕ = (taken_all s r).owed in
    record { more = f.more; splits = ap (λ (x : List ℕ). now ++ x) f.splits ∙ sym (append_assoc now (written_for (paid (taken_all s r)) reads) f.more) }

flatten_then : (reads : List (List ℕ)) (last : List ℕ) → flatten (reads ++ last ∷ []) ≡ flatten reads ++ last
unfolding flatten
flatten_then [] last = append-nil last
flatten_then (r ∷ reads) last = ap (λ (x : List ℕ). r ++ x) (flatten_then reads last) ∙ sym (append_assoc r (flatten reads) last)

-- Whatever is still to be read, and wherever the writing broke off, at byte k, what came out is a first part of what
-- the definition says.
pub first_part : (reads : List (List ℕ)) (rest : List ℕ) (k : ℕ) → FirstPart (take k (written_for begun reads)) (house_writes (flatten reads ++ rest))
first_part reads rest k =
    let f = and_then reads rest begun in
    let w : List ℕ = written_for begun reads in
    record {
      more = drop k w ++ f.more;
      splits =
          sym (whole (reads ++ rest ∷ []) ∙ ap house_writes (flatten_then reads rest))
          ∙ f.splits
          ∙ ap (λ (x : List ℕ). x ++ f.more) (sym (take-append-drop k w))
          ∙ append_assoc (take k w) (drop k w) f.more;
    }

-- Two lines and a last one without line feed; and the same read in three parts.
lines_cut : lines_of (bytes "ab\n\nc") ≡ bytes "ab" ∷ [] ∷ bytes "c" ∷ []
unfolding lines_of
lines_cut = refl

three_lines : house_writes (bytes "ab\n\nc") ≡ bytes "bad\nbad\nbad\n"
unfolding house_writes lines_of replies reply reply_to parse fields asked are_numbers command with_numbers step_of bad_line line_of spaced
three_lines = refl

in_three_reads : written_in_all begun (bytes "a" ∷ bytes "b\n\nc" ∷ [] ∷ []) ≡ bytes "bad\nbad\nbad\n"
unfolding flatten
in_three_reads = whole (bytes "a" ∷ bytes "b\n\nc" ∷ [] ∷ []) ∙ three_lines
