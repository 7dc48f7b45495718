-- Laws of what a line asks, field by field; and of the code that reads its fields in their order.
use Rattle.std.specs.Prelude.{◌≡◌, refl, Bool, true, false, cond, Option, Some, None, ◌&&◌, List, [], ◌∷◌, ◌++◌, map, ℕ, ◌+◌, ◌≤◌, ◌<◌, length, get_or, set, take, drop, replicate, ◌==◌}
use Rattle.std.specs.List.{slice_split, onto_first}
use Rattle.std.specs.Fn.{CalledAt}
use Rattle.std.specs.Slice.Iter.{split_rest, split_done, split_callee, split_steps}
use Rattle.std.specs.declared.slice.Split.{Split}
use denote.Ref.{Bor}
use denote.Param.Members.{Mut}
use Rattle.std.proofs.Math.Path.{sym, ap}
use Rattle.std.proofs.Common.{◌∙◌, append_assoc, append-nil, add-one, arith, length-append, length-set, drop_of_length-le, drop-cons, get_or-take, get_or-set_other, length-take-le, take-suc-set, ne_eqb, le-leb, length-drop, ap₂, subst}
use Rattle.std.proofs.lemmas.Bool.{lt-leb}
use Rattle.std.proofs.lemmas.List.{get_or-replicate, length-map}
use Rattle.std.proofs.Math.ListN.{get_or-eq_default}
use Rattle.std.specs.Iterator.{AlwaysYields}
use Rattle.std.proofs.lemmas.Iterator.{YieldsList}
use Rattle.std.proofs.lemmas.Iterator.Splits.{YieldsList-from_slice_split}
use Rattle.base.specs.Choice.{le?}
use Rattle.rules.specs.declared.Command.{Command}
use Rattle.rules.specs.declared.Command.TheVariants.{Open, SetDegree, Send, Release, Deliver, Log, Checkpoint, Tell, Crash, Hear, SetGap}
use Rattle.lines.specs.Lines.{space, longest_line, step_of, numbers_of, most_numbers, with_numbers, command, first_more, fields, value_of, is_number, are_numbers, asked, parse}
use Rattle.parsing.specs.Parts.{number}

-- a line cut at its spaces, in the words of the library
fields_split : (l : List ℕ) → slice_split (λ b. b == space) l ≡ fields l
unfolding fields
fields_split [] = refl
fields_split (b ∷ l) = cut_in (b == space) b (fields_split l)
  where
    more_in : (b : ℕ) (fs : List (List ℕ)) → onto_first b fs ≡ first_more b fs
    more_in b [] = refl
    more_in b (f ∷ fs) = refl

    cut_in : (u : Bool) (b : ℕ) {fs gs : List (List ℕ)} → fs ≡ gs → cond u ([] ∷ fs) (onto_first b fs) ≡ cond u ([] ∷ gs) (first_more b gs)
    cut_in true b e = ap (λ (fs : List (List ℕ)). [] ∷ fs) e
    cut_in false b {fs} e = more_in b fs ∙ ap (λ (fs : List (List ℕ)). first_more b fs) e

-- A reader of a line cut at its spaces has taken the first field, x, and the others are left.
pub record First (w : List ℕ) {F : Type 0} (g : Mut F (Bor ℕ × Unit {0}) Bool) (t : Split ℕ F) (x : List ℕ) : Type 0 where
  pub is : fields w ≡ x ∷ drop 1 (fields w)
  pub others : YieldsList (split_steps g) (λ y. y.now) t (drop 1 (fields w))

pub first_field : {w : List ℕ} {F : Type 0} {g : Mut F (Bor ℕ × Unit {0}) Bool} {f : F} (s : Split ℕ F) {t : Split ℕ F} {r : Option (Bor (List ℕ))} {x : Bor (List ℕ)} → split_steps g s r t → r ≡ Some x →
    split_rest s ≡ w → split_done s ≡ false → split_callee s ≡ f → ((y : ℕ) (b : Bool) (q : F) → CalledAt g f y b q → (q ≡ f) × (b ≡ (y == space))) → First w g t x.now
first_field {w} {g = g} s {t = t} {x = x} k q rest done callee tests =
    let e = YieldsList-from_slice_split g (λ b. b == space) w rest done callee tests in
    let h = first_in (fields w) (subst (AlwaysYields (split_steps g) (λ y. y.now) s) (fields_split w) e.runs) (subst (λ r. split_steps g s r t) q k) in
    record { is = h.0; others = record { runs = h.1 } }
  where
    first_in : (fs : List (List ℕ)) → AlwaysYields (split_steps g) (λ y. y.now) s fs → split_steps g s (Some x) t →
        (fs ≡ x.now ∷ drop 1 fs) × AlwaysYields (split_steps g) (λ y. y.now) t (drop 1 fs)
    first_in [] e k = absurd (e x t k)
    first_in (f ∷ fs) e k = let h = e.1 x t k in (ap (λ (g : List ℕ). g ∷ fs) (sym h.0), h.1)

-- field n behind the letter
pub record Field (s : List ℕ) (n : ℕ) (w : List ℕ) : Type 0 where
  pub inside : n < length (drop 1 (fields s))
  pub is : w ≡ get_or (drop 1 (fields s)) n w

-- a field taken behind m others
pub field_at : {s w : List ℕ} (n : ℕ) {m : ℕ} → n ≡ m → (m < length (drop 1 (fields s))) × (w ≡ get_or (drop 1 (fields s)) m w) → Field s n w
field_at {s} {w} n e h = record { inside = omega arith; is = h.1 ∙ ap (λ (k : ℕ). get_or (drop 1 (fields s)) k w) (sym e) }

-- no step has more numbers than S and H
numbers_most : (x : Command) → numbers_of x ≤ most_numbers
numbers_most (Open n k) = omega arith
numbers_most (SetDegree c k) = omega arith
numbers_most (Send s r p) = omega arith
numbers_most (Release m) = omega arith
numbers_most (Deliver m) = omega arith
numbers_most (Log c q) = omega arith
numbers_most (Checkpoint c) = omega arith
numbers_most (Tell a b) = omega arith
numbers_most (Crash c) = omega arith
numbers_most (Hear b a i) = omega arith
numbers_most (SetGap q) = omega arith

-- so nothing is asked with more
with_many : (n : ℕ) (p : Option Command) → most_numbers < n → with_numbers n p ≡ None
unfolding with_numbers
with_many n (Some x) h = rw (ne_eqb (numbers_of x) n (λ e. omega (arith, numbers_most x)))
with_many n None h = refl

command_many : (b : ℕ) (vs : List ℕ) → most_numbers < length vs → command b vs ≡ None
unfolding command
command_many b vs h = with_many (length vs) _ h

-- what a letter asks with the values of vs and those of further fields
abbrev pub asks_with : ℕ → List ℕ → List (List ℕ) → Option Command
asks_with b vs ws = cond (are_numbers ws) (command b (vs ++ map value_of ws)) None

-- a further field that is a number gives its value
asks_more : (b v : ℕ) (vs w : List ℕ) (ws : List (List ℕ)) → number w ≡ Some v → asks_with b vs (w ∷ ws) ≡ asks_with b (vs ++ v ∷ []) ws
unfolding are_numbers number
asks_more b v vs w ws h = more_in (is_number w) h
  where
    more_in : (u : Bool) → cond u (Some (value_of w)) None ≡ Some v → cond (u && are_numbers ws) (command b (vs ++ value_of w ∷ map value_of ws)) None ≡ asks_with b (vs ++ v ∷ []) ws
    more_in true e =
        let z : value_of w ≡ v = cc in
        ap (λ (us : List ℕ). cond (are_numbers ws) (command b us) None) (ap (λ (n : ℕ). vs ++ n ∷ map value_of ws) z ∙ sym (append_assoc vs (v ∷ []) (map value_of ws)))
    more_in false e = cc

-- a further field that is no number
asks_none : (b : ℕ) (vs w : List ℕ) (ws : List (List ℕ)) → number w ≡ None → asks_with b vs (w ∷ ws) ≡ None
unfolding are_numbers number
asks_none b vs w ws h = none_in (is_number w) h
  where
    none_in : (u : Bool) → cond u (Some (value_of w)) None ≡ None → cond (u && are_numbers ws) (command b (vs ++ value_of w ∷ map value_of ws)) None ≡ None
    none_in true e = cc
    none_in false e = refl

-- more fields than a step has numbers
asks_many : (b : ℕ) (vs : List ℕ) (ws : List (List ℕ)) → most_numbers < length vs + length ws → asks_with b vs ws ≡ None
asks_many b vs ws h = cond_else (are_numbers ws) (command_many b (vs ++ map value_of ws) (simp (length-append, length-map) (omega arith)))
  where
    cond_else : {A : Type 0} (u : Bool) {a b : A} → a ≡ b → cond u a b ≡ b
    cond_else true e = e
    cond_else false e = refl

-- a line that is too long
pub line_over : (s : List ℕ) → longest_line < length s → None ≡ parse s
unfolding parse
line_over s h = sym (rw (lt-leb (length s) longest_line h))

-- a line whose first field is no letter
pub line_none : (s w : List ℕ) → length s ≤ longest_line → fields s ≡ w ∷ drop 1 (fields s) → (length w ≡ 1 → ⊥) → None ≡ parse s
unfolding parse asked
line_none s w l e d = sym (rw (le-leb (length s) longest_line l) (ap asked e ∙ none_in w (drop 1 (fields s)) d))
  where
    none_in : (w : List ℕ) (ws : List (List ℕ)) → (length w ≡ 1 → ⊥) → asked (w ∷ ws) ≡ None
    none_in [] ws d = refl
    none_in (l ∷ []) ws d = absurd (d refl)
    none_in (l ∷ b ∷ w) ws d = refl

-- A reader of a line whose letter is b has read n fields behind it. Their numbers are the first n of ns, and the others
-- are 0.
pub record Line (s : List ℕ) (b : ℕ) (ns : List ℕ) (n : ℕ) : Type 0 where
  pub asks : parse s ≡ asks_with b (take n ns) (drop n (drop 1 (fields s)))
  pub few : n ≤ most_numbers
  pub room : length ns ≡ most_numbers
  pub zeros : (k : ℕ) → n ≤ k → get_or ns k 0 ≡ 0

-- at its letter
pub line_start : (s w : List ℕ) → length s ≤ longest_line → fields s ≡ w ∷ drop 1 (fields s) → length w ≡ 1 → Line s (get_or w 0 0) (replicate most_numbers 0) 0
unfolding parse asked
line_start s [] l e d = absurd (omega arith)
line_start s (b ∷ []) l e d = record {
  asks = rw (le-leb (length s) longest_line l) (ap asked e);
  few = omega arith;
  room = refl;
  zeros = λ k h. le? most_numbers k (λ m. get_or-eq_default (replicate most_numbers 0) 0 {n = k} m) (λ l. get_or-replicate most_numbers k 0 0 l);
}
line_start s (b ∷ x ∷ w) l e d = absurd (omega arith)

module _ {s ns : List ℕ} {b n : ℕ} (r : Line s b ns n) where
  -- how many numbers were read
  read_size : length (take n ns) ≡ n
  read_size = length-take-le n ns (omega (arith, r.few, r.room))

  -- the fields behind them
  left_more : {w : List ℕ} → Field s n w → drop n (drop 1 (fields s)) ≡ w ∷ drop (n + 1) (drop 1 (fields s))
  left_more {w} h = drop-cons (drop 1 (fields s)) n w h.inside ∙ ap₂ (λ (x : List ℕ) (k : ℕ). x ∷ drop k (drop 1 (fields s))) (sym h.is) (sym (add-one n))

  -- one number more
  pub line_more : {w : List ℕ} {v : ℕ} → Field s n w → number w ≡ Some v → n < most_numbers → Line s b (set ns n v) (n + 1)
  line_more {w} {v} h e l =
      let q : take n ns ++ v ∷ [] ≡ take (n + 1) (set ns n v) = sym (ap (λ (k : ℕ). take k (set ns n v)) (add-one n) ∙ take-suc-set ns n v (omega (arith, r.room))) in
      record {
        asks = r.asks ∙ ap (asks_with b (take n ns)) (left_more h) ∙ asks_more b v (take n ns) w _ e ∙ ap (λ (vs : List ℕ). asks_with b vs (drop (n + 1) (drop 1 (fields s)))) q;
        few = omega arith;
        room = length-set ns n v ∙ r.room;
        zeros = λ k m. get_or-set_other ns n k v 0 (omega arith) ∙ r.zeros k (omega arith);
      }

  -- a field is no number
  pub line_broken : {w : List ℕ} → Field s n w → number w ≡ None → None ≡ parse s
  line_broken {w} h e = sym (r.asks ∙ ap (asks_with b (take n ns)) (left_more h) ∙ asks_none b (take n ns) w _ e)

  -- there are more than a step can have
  pub line_long : {w : List ℕ} → Field s n w → most_numbers ≤ n → None ≡ parse s
  line_long h m = sym (r.asks ∙ asks_many b (take n ns) (drop n (drop 1 (fields s))) (omega (arith, h.inside, read_size, length-drop n (drop 1 (fields s)))))

  -- the numbers read, and zeros
  number_read : (k : ℕ) → get_or (take n ns) k 0 ≡ get_or ns k 0
  number_read k = le? n k (λ m. get_or-eq_default (take n ns) 0 {n = k} (omega (arith, read_size)) ∙ sym (r.zeros k m)) (λ l. get_or-take n ns k 0 l)

  -- no field is left
  pub line_end : n ≡ length (drop 1 (fields s)) → with_numbers n (step_of b (get_or ns 0 0) (get_or ns 1 0) (get_or ns 2 0)) ≡ parse s
  unfolding command are_numbers
  line_end e =
      sym (r.asks
      ∙ ap (asks_with b (take n ns)) (drop_of_length-le (drop 1 (fields s)) {i = n} (omega arith))
      ∙ ap (command b) (append-nil (take n ns))
      ∙ rw (read_size, number_read 0, number_read 1, number_read 2))
