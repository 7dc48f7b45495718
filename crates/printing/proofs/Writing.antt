-- Laws of bytes written one after the other, of the digits of a number, and of the code that writes a line. `o` is the
-- list that is written to, as it was at first, and `u` as it is then.
use Rattle.std.specs.Prelude.{◌≡◌, refl, List, [], ◌∷◌, ◌++◌, ℕ, zero, suc, ◌+◌, ◌-◌, ◌*◌, ◌/◌, ◌%◌, ◌≤◌, ◌<◌, ◌^◌, length, get_or, set, take, drop}
use Rattle.std.proofs.Common.{sym, ap, ap₂, ◌∙◌, subst, append_assoc, append-nil, pow-suc, add-one, arith, length-append, length-drop, length-set, take-append-drop, drop-drop, take-suc, take_all, length-take-le, take_at, drop_at, lt-ltb, le-ltb}
use Rattle.std.proofs.lemmas.List.{set_split, take-set-le, drop-set-add}
use Rattle.base.specs.Choice.{◌<?◌, cond_ind, le?}
use Rattle.base.specs.Splice.{splice, length_splice}
use Rattle.lines.specs.Lines.{space, line_feed, zero_digit, most_digits, largest, radix, decimal_in, decimal, spaced, line_of}
use Rattle.printing.specs.Parts.{number_room, Written}

-- nothing written
splice_none : (o : List ℕ) (a : ℕ) → o ≡ splice o a []
unfolding splice
splice_none o a = sym (take-append-drop a o)

-- one byte stored
splice_one : (o : List ℕ) (a x : ℕ) → a < length o → set o a x ≡ splice o a (x ∷ [])
unfolding splice
splice_one o a x h = set_split o a x h ∙ ap (λ (l : List ℕ). take a o ++ x ∷ l) (ap (λ (k : ℕ). drop k o) (sym (add-one a)) ∙ sym (drop-drop 1 a o))

-- bytes written behind others
splice_more : (o r q : List ℕ) (a b : ℕ) → b ≡ a + length r → b ≤ length o → splice (splice o a r) b q ≡ splice o a (r ++ q)
unfolding splice
splice_more o r q a b e h =
    let d : List ℕ = drop (length r) (drop a o) in
    let n : length (take a o ++ r) ≡ b = length-append (take a o) r ∙ ap (λ (k : ℕ). k + length r) (length-take-le a o (omega arith)) ∙ sym e in
    let z : take a o ++ (r ++ d) ≡ (take a o ++ r) ++ d = sym (append_assoc (take a o) r d) in
    let u : take b (take a o ++ (r ++ d)) ≡ take a o ++ r = ap (take b) z ∙ take_at (take a o ++ r) d b n in
    let v : drop b (take a o ++ (r ++ d)) ≡ d = ap (drop b) z ∙ drop_at (take a o ++ r) d b n in
    let w : drop (length q) d ≡ drop (length (r ++ q)) (drop a o) = drop-drop (length q) (length r) (drop a o) ∙ ap (λ (k : ℕ). drop k (drop a o)) (sym (length-append r q)) in
    ap₂ (λ (x y : List ℕ). x ++ (q ++ drop (length q) y)) u v
    ∙ append_assoc (take a o) r (q ++ drop (length q) d)
    ∙ ap (λ (x : List ℕ). take a o ++ x) (sym (append_assoc r q (drop (length q) d)))
    ∙ ap (λ (x : List ℕ). take a o ++ ((r ++ q) ++ x)) w

-- a byte stored behind bytes that are yet to be written
splice_set : (o r : List ℕ) (a x : ℕ) → a + length r < length o → splice (set o (a + length r) x) a r ≡ splice o a (r ++ x ∷ [])
unfolding splice
splice_set o r a x h =
    let n : ℕ = length r in
    let l : n < length (drop a o) = simp length-drop (omega arith) in
    let u : take a (set o (a + n) x) ≡ take a o = take-set-le a o (a + n) x (omega arith) in
    let m : drop a (set o (a + n) x) ≡ take n (drop a o) ++ x ∷ drop (suc n) (drop a o) = drop-set-add a o n x ∙ set_split (drop a o) n x l in
    let f : length (take n (drop a o)) ≡ n = length-take-le n (drop a o) (omega arith) in
    let v : drop n (drop a (set o (a + n) x)) ≡ x ∷ drop (suc n) (drop a o) = ap (drop n) m ∙ drop_at (take n (drop a o)) (x ∷ drop (suc n) (drop a o)) n f in
    let k : suc n ≡ length (r ++ x ∷ []) = sym (length-append r (x ∷ []) ∙ add-one n) in
    ap₂ (λ (p q : List ℕ). p ++ (r ++ q)) u v
    ∙ ap (λ (q : List ℕ). take a o ++ q) (sym (append_assoc r (x ∷ []) (drop (suc n) (drop a o))) ∙ ap (λ (j : ℕ). (r ++ x ∷ []) ++ drop j (drop a o)) k)

-- what was written behind other bytes
pub written_more : {o r u q w : List ℕ} {a m n : ℕ} → Written o a r u m → Written u m q w n → m ≤ length o → Written o a (r ++ q) w n
written_more {o} {r} {u} {q} {w} {a} {m} {n} f g h = record {
  stands = g.stands ∙ ap (λ (l : List ℕ). splice l m q) f.stands ∙ splice_more o r q a m f.ends h;
  ends = g.ends ∙ ap (λ (k : ℕ). k + length q) f.ends ∙ omega (arith, length-append r q);
}

-- the number of bytes stays
pub written_length : {o r u : List ℕ} {a m : ℕ} → Written o a r u m → m ≤ length o → length u ≡ length o
written_length {o} {r} {u} {a} {m} f h = ap length f.stands ∙ length_splice a o r (omega (arith, f.ends))

-- what stands up to its end
pub written_take : {o r u : List ℕ} {a m : ℕ} → Written o a r u m → a ≤ length o → take m u ≡ take a o ++ r
unfolding splice
written_take {o} {r} {u} {a} {m} f h =
    ap₂ take f.ends (f.stands ∙ sym (append_assoc (take a o) r (drop (length r) (drop a o))))
    ∙ take_at (take a o ++ r) (drop (length r) (drop a o)) (a + length r) (length-append (take a o) r ∙ ap (λ (k : ℕ). k + length r) (length-take-le a o h))

-- what stands behind it is as before
pub written_drop : {o r u : List ℕ} {a m : ℕ} → Written o a r u m → a ≤ length o → drop m u ≡ drop m o
unfolding splice
written_drop {o} {r} {u} {a} {m} f h =
    ap₂ drop f.ends (f.stands ∙ sym (append_assoc (take a o) r (drop (length r) (drop a o))))
    ∙ drop_at (take a o ++ r) (drop (length r) (drop a o)) (a + length r) (length-append (take a o) r ∙ ap (λ (k : ℕ). k + length r) (length-take-le a o h))
    ∙ drop-drop (length r) a o
    ∙ ap (λ (k : ℕ). drop k o) (sym f.ends)

-- nothing written
pub written_none : (o : List ℕ) (a : ℕ) → Written o a [] o a
written_none o a = record { stands = splice_none o a; ends = omega arith }

-- one byte written
written_one : (o : List ℕ) (a x : ℕ) → a < length o → Written o a (x ∷ []) (set o a x) (a + 1)
written_one o a x h = record { stands = splice_one o a x h; ends = refl }

-- a number of one digit
decimal_in_one : (d n : ℕ) → n < radix → decimal_in (suc d) n ≡ (zero_digit + n) ∷ []
unfolding decimal_in
decimal_in_one d n h = rw (lt-ltb n radix h)

-- the last digit stands behind the others
decimal_in_more : (d n : ℕ) → radix ≤ n → decimal_in (suc d) n ≡ decimal_in d (n / radix) ++ (zero_digit + n % radix) ∷ []
unfolding decimal_in
decimal_in_more d n h = rw (le-ltb n radix h)

-- more digits than a number has change nothing
decimal_in_enough : (d n : ℕ) → n < radix ^ suc d → decimal_in (suc (suc d)) n ≡ decimal_in (suc d) n
decimal_in_enough zero n h = decimal_in_one 1 n h ∙ sym (decimal_in_one 0 n h)
decimal_in_enough (suc d) n h =
    le? radix n
    (λ l.
    let p : n < radix ^ suc d * radix = subst (λ (k : ℕ). n < k) (pow-suc radix (suc d)) h in
    decimal_in_more (suc (suc d)) n l
    ∙ ap (λ (x : List ℕ). x ++ (zero_digit + n % radix) ∷ []) (decimal_in_enough d (n / radix) (omega arith))
    ∙ sym (decimal_in_more (suc d) n l))
    (λ l. decimal_in_one (suc (suc d)) n l ∙ sym (decimal_in_one (suc d) n l))

-- a number of one digit, in decimal
decimal_one : (n : ℕ) → n < radix → decimal n ≡ (zero_digit + n) ∷ []
decimal_one n h = decimal_in_one (most_digits - 1) n h

-- a number of more digits, in decimal: the last one stands behind the others
decimal_more : (n : ℕ) → radix ≤ n → n ≤ largest → decimal n ≡ decimal (n / radix) ++ (zero_digit + n % radix) ∷ []
decimal_more n h l =
    decimal_in_more (most_digits - 1) n h
    ∙ ap (λ (x : List ℕ). x ++ (zero_digit + n % radix) ∷ []) (sym (decimal_in_enough (most_digits - 2) (n / radix) (omega arith)))

-- there are at most as many digits as are asked for
decimal_in_most : (d n : ℕ) → length (decimal_in d n) ≤ d
unfolding decimal_in
decimal_in_most zero n = omega arith
decimal_in_most (suc d) n =
    cond_ind (λ (l : List ℕ). length l ≤ suc d) (n <? radix) (λ e. omega arith)
    (λ e. omega (arith, decimal_in_most d (n / radix), length-append (decimal_in d (n / radix)) ((zero_digit + n % radix) ∷ [])))

-- there is a digit
decimal_in_least : (d n : ℕ) → 1 ≤ length (decimal_in (suc d) n)
unfolding decimal_in
decimal_in_least d n =
    cond_ind (λ (l : List ℕ). 1 ≤ length l) (n <? radix) (λ e. omega arith)
    (λ e. omega (arith, length-append (decimal_in d (n / radix)) ((zero_digit + n % radix) ∷ [])))

-- how many digits a number has
pub decimal_size : (n : ℕ) → (1 ≤ length (decimal n)) × (length (decimal n) ≤ most_digits)
decimal_size n = (decimal_in_least (most_digits - 1) n, decimal_in_most most_digits n)

-- one digit less
decimal_less : (n : ℕ) → radix ≤ n → n ≤ largest → length (decimal n) ≡ length (decimal (n / radix)) + 1
decimal_less n h l = ap length (decimal_more n h l) ∙ length-append (decimal (n / radix)) ((zero_digit + n % radix) ∷ [])

-- a count of the digits of v: n of them, with those of rest less one yet to come
pub record Counting (v rest n : ℕ) : Type 0 where
  pub small : rest ≤ largest
  pub count : length (decimal v) + 1 ≡ n + length (decimal rest)

-- one digit counted
pub counting_more : {v rest n : ℕ} → Counting v rest n → radix ≤ rest → Counting v (rest / radix) (n + 1)
counting_more {v} {rest} {n} r h = record { small = omega (arith, r.small); count = omega (arith, r.count, decimal_less rest h r.small) }

-- all digits counted
pub counting_end : {v rest n : ℕ} → Counting v rest n → rest < radix → n ≡ length (decimal v)
counting_end {v} {rest} {n} r h = omega (arith, r.count, ap length (decimal_one rest h))

-- the digits of v behind `at` in o, stored from the last one: those of rest are yet to come, the last of them at i
pub record Storing (o : List ℕ) (at v rest i : ℕ) (u : List ℕ) : Type 0 where
  pub small : rest ≤ largest
  pub place : i ≡ at + length (decimal rest)
  pub size : length u ≡ length o
  pub bytes : splice u (at + 1) (decimal rest) ≡ splice o (at + 1) (decimal v)

-- no digit stored yet
pub storing_start : (o : List ℕ) (at v n : ℕ) → v ≤ largest → n ≡ length (decimal v) → Storing o at v v (at + n) o
storing_start o at v n h e = record { small = h; place = omega arith; size = refl; bytes = refl }

module _ {o u : List ℕ} {at v rest i : ℕ} (r : Storing o at v rest i u) (room : at + number_room ≤ length o) where
  -- the place of the digit is there, behind `at`
  pub storing_place : (at < i) × (i < length u)
  storing_place = (omega (arith, r.place, decimal_size rest), omega (arith, r.place, r.size, decimal_size rest))

  -- one digit stored
  pub storing_more : radix ≤ rest → Storing o at v (rest / radix) (i - 1) (set u i (zero_digit + rest % radix))
  storing_more h =
      let n : length (decimal rest) ≡ length (decimal (rest / radix)) + 1 = decimal_less rest h r.small in
      let e : i ≡ at + 1 + length (decimal (rest / radix)) = omega (arith, r.place) in
      record {
        small = omega (arith, r.small);
        place = omega arith;
        size = length-set u i (zero_digit + rest % radix) ∙ r.size;
        bytes =
            ap (λ (k : ℕ). splice (set u k (zero_digit + rest % radix)) (at + 1) (decimal (rest / radix))) e
            ∙ splice_set u (decimal (rest / radix)) (at + 1) (zero_digit + rest % radix) (omega (arith, storing_place))
            ∙ ap (splice u (at + 1)) (sym (decimal_more rest h r.small))
            ∙ r.bytes;
      }

  -- the first digit is the last one stored
  pub storing_end : rest < radix → set u i (zero_digit + rest) ≡ splice o (at + 1) (decimal v)
  storing_end h =
      let e : i ≡ at + 1 = r.place ∙ ap (λ (w : List ℕ). at + length w) (decimal_one rest h) in
      ap (λ (k : ℕ). set u k (zero_digit + rest)) e
      ∙ splice_one u (at + 1) (zero_digit + rest) (omega (arith, storing_place))
      ∙ ap (splice u (at + 1)) (sym (decimal_one rest h))
      ∙ r.bytes

-- a space and the digits behind it
pub number_written : {o u : List ℕ} {at r : ℕ} (v : ℕ) → at + number_room ≤ length o → r ≡ at + (1 + length (decimal v)) → u ≡ splice (set o at space) (at + 1) (decimal v) →
    Written o at (space ∷ decimal v) u r
number_written {o} {u} {at} {r} v h e q =
    written_more (written_one o at space (omega arith)) (record { stands = q; ends = omega arith }) (omega arith)

-- one value more behind others
spaced_snoc : (vs : List ℕ) (v : ℕ) → spaced (vs ++ v ∷ []) ≡ spaced vs ++ (space ∷ decimal v)
unfolding spaced
spaced_snoc [] v = ap (λ (l : List ℕ). space ∷ l) (append-nil (decimal v))
spaced_snoc (x ∷ vs) v =
    ap (λ (l : List ℕ). space ∷ (decimal x ++ l)) (spaced_snoc vs v) ∙ ap (λ (l : List ℕ). space ∷ l) (sym (append_assoc (decimal x) (spaced vs) (space ∷ decimal v)))

-- one value more of a list
spaced_more : (vs : List ℕ) (i : ℕ) → i < length vs → spaced (take i vs) ++ (space ∷ decimal (get_or vs i 0)) ≡ spaced (take (i + 1) vs)
spaced_more vs i h = sym (ap (λ (k : ℕ). spaced (take k vs)) (add-one i) ∙ ap spaced (take-suc vs i 0 h) ∙ spaced_snoc (take i vs) (get_or vs i 0))

-- the room of the values
spaced_size : (vs : List ℕ) → length (spaced vs) ≤ number_room * length vs
unfolding spaced
spaced_size [] = omega arith
spaced_size (v ∷ vs) = omega (arith, length-append (decimal v) (spaced vs), decimal_size v, spaced_size vs)

-- how long a line can be
pub line_size : (w vs : List ℕ) → length (line_of w vs) ≤ length w + number_room * length vs + 1
unfolding line_of
line_size w vs = omega (arith, length-append w (spaced vs ++ line_feed ∷ []), length-append (spaced vs) (line_feed ∷ []), spaced_size vs)

-- the first i values stand from `at` on, and end at `end`
pub record Listing (o : List ℕ) (at : ℕ) (vs : List ℕ) (i : ℕ) (u : List ℕ) (end : ℕ) : Type 0 where
  pub bound : i ≤ length vs
  pub written : Written o at (spaced (take i vs)) u end

-- no value written yet
pub listing_start : (o : List ℕ) (at : ℕ) (vs : List ℕ) → Listing o at vs 0 o at
unfolding spaced
listing_start o at vs = record { bound = omega arith; written = written_none o at }

module _ {o vs u : List ℕ} {at i end : ℕ} (r : Listing o at vs i u end) (room : at + number_room * length vs + 1 ≤ length o) where
  -- where the values written so far end, at the latest
  listing_place : end ≤ at + number_room * i
  listing_place = omega (arith, r.written.ends, spaced_size (take i vs), length-take-le i vs r.bound)

  -- the number of bytes stays
  pub listing_length : length u ≡ length o
  listing_length = written_length r.written (omega (arith, r.bound, listing_place))

  -- there is room behind them, for the others and a line feed
  pub listing_room : end + number_room * (length vs - i) + 1 ≤ length u
  listing_room = omega (arith, r.bound, listing_place, listing_length)

  -- one value written
  pub listing_more : {w : List ℕ} {e : ℕ} → Written u end (space ∷ decimal (get_or vs i 0)) w e → i < length vs → Listing o at vs (i + 1) w e
  listing_more {w} {e} f h = record {
    bound = omega arith;
    written = subst (λ (b : List ℕ). Written o at b w e) (spaced_more vs i h) (written_more r.written f (omega (arith, listing_room, listing_length)));
  }

  -- all values written
  pub listing_end : length vs ≤ i → Written o at (spaced vs) u end
  listing_end h = subst (λ (l : List ℕ). Written o at (spaced l) u end) (take_all i vs h) r.written

-- a word that begins a line
module _ {o w u : List ℕ} {at m : ℕ} (n : ℕ) (f : Written o at w u m) (room : at + (length w + n + 1) ≤ length o) where
  -- the number of bytes stays
  pub word_length : length u ≡ length o
  word_length = written_length f (omega (arith, f.ends))

  -- there is room behind it
  pub behind_word : m + n + 1 ≤ length u
  behind_word = omega (arith, f.ends, word_length)

-- a word, its values and the line feed
pub line_written : {o w u vs out : List ℕ} {at m i e : ℕ} → Written o at w u m → at + (length w + number_room * length vs + 1) ≤ length o → Listing u m vs i out e → length vs ≤ i →
    Written o at (line_of w vs) (set out e line_feed) (e + 1)
unfolding line_of
line_written {o} {w} {u} {vs} {out} {at} {m} {i} {e} f room r h =
    let q : m + number_room * length vs + 1 ≤ length u = behind_word (number_room * length vs) f room in
    let p : e + 1 ≤ length out = omega (arith, listing_room r q) in
    let n : length out ≡ length u = listing_length r q in
    written_more f (written_more (listing_end r q h) (written_one out e line_feed (omega arith)) (omega arith)) (omega (arith, word_length (number_room * length vs) f room))
