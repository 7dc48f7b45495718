-- Laws of the number that a field is, and of the code that reads it digit by digit.
use Rattle.std.specs.Prelude.{◌≡◌, cond, Option, Some, None, Result, Ok, Err, OkIff, ◌&&◌, List, ◌∷◌, ℕ, suc, ◌+◌, ◌-◌, ◌*◌, ◌≤◌, ◌<◌, ◌^◌, length, get_or, drop}
use Rattle.std.specs.Result.{result_ok}
use Rattle.std.proofs.Common.{sym, ap, ◌∙◌, pow-suc, add-one, arith, drop-cons, drop_of_length-le, le-leb}
use Rattle.std.proofs.Math.Bool.{and-false}
use Rattle.std.proofs.Math.Nat.{pow-le-pow_right}
use Rattle.std.proofs.lemmas.Bool.{lt-leb}
use Rattle.base.specs.Choice.{◌≤?◌, le?}
use Rattle.lines.specs.Lines.{zero_digit, nine_digit, most_digits, largest, radix, digits, value_from, is_number}
use Rattle.parsing.specs.Parts.{number}

-- what a reader of digits finds that has the value v before the digits w
abbrev pub number_on : ℕ → List ℕ → Option ℕ
number_on v w = cond (digits w && (value_from v w ≤? largest)) (Some (value_from v w)) None

-- a value that is put into 32 bits, if it fits
value_fits : {E : Type 0} (v : ℕ) (t : Result ℕ E) → OkIff t (v < suc largest) v → result_ok t ≡ cond (v ≤? largest) (Some v) None
value_fits v (Ok x) f = rw (le-leb v largest (omega (arith, f.0))) (ap (λ (n : ℕ). Some n) f.1)
value_fits v (Err e) f = rw (lt-leb v largest (omega (arith, f)))

-- at the front of a field that is not empty and not too long
number_start : (w : List ℕ) → 1 ≤ length w → length w ≤ most_digits → number w ≡ number_on 0 w
unfolding number is_number
number_start w h l = rw (le-leb 1 (length w) h, le-leb (length w) most_digits l)

-- a field that is empty or too long
pub number_out : (w : List ℕ) → (1 ≤ length w → length w ≤ most_digits → ⊥) → None ≡ number w
unfolding number is_number
number_out w h =
    le? 1 (length w)
    (λ l. sym (rw (lt-leb (length w) most_digits (omega (arith, h l)), and-false)))
    (λ l. sym (rw (lt-leb 1 (length w) l)))

-- one digit more
on_more : (v b : ℕ) (w : List ℕ) → zero_digit ≤ b → b ≤ nine_digit → number_on v (b ∷ w) ≡ number_on (v * radix + (b - zero_digit)) w
unfolding digits value_from
on_more v b w h l = rw (le-leb zero_digit b h, le-leb b nine_digit l)

-- a reader of the field w has come to i with the value v
pub record Reader (w : List ℕ) (v i : ℕ) : Type 0 where
  pub small : v < radix ^ i
  pub finds : number w ≡ number_on v (drop i w)

-- before the first digit
pub reader_start : (w : List ℕ) → 1 ≤ length w → length w ≤ most_digits → Reader w 0 0
reader_start w h l = record { small = omega arith; finds = number_start w h l }

module _ {w : List ℕ} {v i : ℕ} (r : Reader w v i) where
  -- a value read so far leaves room for one digit more
  pub reader_room : i ≤ most_digits → v < radix ^ most_digits
  reader_room l = omega (arith, r.small, pow-le-pow_right {n = radix} (omega arith) {i = i} {j = most_digits} l)

  -- one digit more
  pub reader_more : i < length w → zero_digit ≤ get_or w i 0 → get_or w i 0 ≤ nine_digit → Reader w (v * radix + (get_or w i 0 - zero_digit)) (i + 1)
  reader_more h p q = record {
    small = rw (add-one, pow-suc) (omega (arith, r.small));
    finds = r.finds ∙ ap (number_on v) (drop-cons w i 0 h) ∙ on_more v (get_or w i 0) (drop (suc i) w) p q ∙ rw (← add-one i);
  }

  -- a byte that is no digit
  pub reader_fails : i < length w → (zero_digit ≤ get_or w i 0 → get_or w i 0 ≤ nine_digit → ⊥) → None ≡ number w
  unfolding digits
  reader_fails h d =
      sym (r.finds ∙ ap (number_on v) (drop-cons w i 0 h)
      ∙ le? zero_digit (get_or w i 0)
      (λ p. rw (lt-leb (get_or w i 0) nine_digit (omega (arith, d p)), and-false))
      (λ p. rw (lt-leb zero_digit (get_or w i 0) p)))

  -- all digits are read, and the value is put into 32 bits, if it fits
  pub reader_end : {E : Type 0} (t : Result ℕ E) → OkIff t (v < suc largest) v → length w ≤ i → result_ok t ≡ number w
  unfolding digits value_from
  reader_end t f h = value_fits v t f ∙ sym (r.finds ∙ ap (number_on v) (drop_of_length-le w {i = i} h))
