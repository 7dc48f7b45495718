-- What the code of a run has to show.
use Rattle.std.specs.Prelude.{◌≡◌, Bool, true, false, Some, List, [], ◌∷◌, ◌++◌, ℕ, zero, suc, ◌+◌, ◌*◌, ◌/◌, ◌%◌, ◌<◌, ◌≤◌, set, drop, get_or}
use Rattle.std.specs.List.{concat}
use Rattle.std.specs.Simd.{first_chunks}
use Rattle.std.proofs.lemmas.List.{get_or_append_left, get_or-append_right}
use Rattle.lines.specs.Lines.{step_of}
use Rattle.std.proofs.Math.Path.{refl, sym, ap}
use Rattle.std.proofs.Common.{◌∙◌, append_assoc, append-nil, add-one, arith, length-append, length-take, length-drop, take-append-drop, drop_of_length-le, take_at, take_all, eq-eqb, ne_eqb, eqb-true, ◌==◌}
use Rattle.std.proofs.Math.ListN.{length, take}
use Rattle.base.specs.Choice.{and_left, and_right}
use Rattle.base.specs.Ranges.{allb}
use Rattle.table.specs.Layout.{table_words}
use Rattle.table.specs.Words.{state}
use Rattle.rules.specs.Limits.{house}
use Rattle.rules.specs.Form.{in_form}
use Rattle.rules.specs.Report.{report}
use Rattle.rules.specs.Step.{out_both, step}
use Rattle.rules.specs.declared.Answer.{Answer}
use Rattle.rules.specs.declared.Command.{Command}
use Rattle.reporting.specs.Values.{value_words}
use Rattle.run.specs.Call.{unknown_letter, wrong_values, Returned, returned, taken, call, step_taken, letter_taken}
use Rattle.run.specs.Run.{step_words, answer_words, no_values, step_word, asked_by, known, call_by, ran_all, one_more, ran_to, lengths_fit, run}
use Rattle.run.specs.Running.{form_of, in_answer}

module _ (t : List ℕ) where
  pub form_short : (length t ≡ table_words → ⊥) → false ≡ form_of t
  unfolding form_of
  form_short ne = sym (rw (ne_eqb (length t) table_words ne))

  pub form_long : length t ≡ table_words → form_of t ≡ in_form house (state t)
  unfolding form_of
  form_long e = rw (eq-eqb (length t) table_words e)

-- a step was done; its number was stored in the first of the answer's words, and its values came back in the others,
-- which were lent
pub step_done : (t g v d : List ℕ) (x : Command) (k : ℕ) {u h ys : List ℕ} {y : Answer} {number : ℕ} → length d ≡ k + 1 → out_both y u h ≡ step t g x →
    number ≡ (report y).number → ys ≡ value_words y → returned ran_all u h (take 1 (set d 0 number) ++ (ys ++ drop k (drop 1 (set d 0 number)))) ≡ in_answer (taken t g v (Some x))
step_done t g v d x k {u} {h} {ys} {number = number} l s n m = ap (returned ran_all u h) (stored d l) ∙ ap in_answer (step_taken t g v x s n m)
  where
    stored : (d : List ℕ) → length d ≡ k + 1 → take 1 (set d 0 number) ++ (ys ++ drop k (drop 1 (set d 0 number))) ≡ number ∷ ys
    stored [] l = absurd (omega arith)
    stored (a ∷ d) l = ap (λ (r : List ℕ). number ∷ (ys ++ r)) (drop_of_length-le d {i = k} (omega arith)) ∙ ap (λ (r : List ℕ). number ∷ r) (append-nil ys)

-- the step by itself that a letter asks for
pub step_called : (t g steps : List ℕ) (i : ℕ) (x : Command) → asked_by steps i ≡ Some x → taken t g no_values (Some x) ≡ call_by t g steps i
step_called t g steps i x q = letter_taken t g no_values _ _ _ _ _ refl q refl

-- the words of a list of steps, of n steps that are cut from it
whole_chunks : (n : ℕ) (xs : List ℕ) → n * step_words ≡ length xs → concat (first_chunks step_words n xs) ≡ xs
whole_chunks zero [] e = refl
whole_chunks zero (x ∷ xs) e = absurd (omega arith)
whole_chunks (suc n) xs e = ap (λ (r : List ℕ). take step_words xs ++ r) (whole_chunks n (drop step_words xs) (simp length-drop (omega arith))) ∙ take-append-drop step_words xs

-- words of steps that stand one behind another, each of them whole
module _ (steps : List (List ℕ)) where
  abbrev Whole : Type 0
  Whole = (j : ℕ) → j < length steps → length (get_or steps j []) ≡ step_words

word_in : (steps : List (List ℕ)) (i k : ℕ) → Whole steps → i < length steps → k < step_words → step_word (concat steps) i k ≡ step_word (get_or steps i []) 0 k
word_in [] i k whole l m = absurd (omega arith)
word_in (s ∷ steps) zero k whole l m = get_or_append_left s (concat steps) 0 (0 * step_words + k) (omega (arith, whole 0 (omega arith)))
word_in (s ∷ steps) (suc i) k whole l m =
    get_or-append_right s (concat steps) step_words (suc i * step_words + k) 0 (whole 0 (omega arith)) (omega arith)
    ∙ ap (λ (j : ℕ). get_or (concat steps) j 0) (omega arith)
    ∙ word_in steps i k (λ j h. whole (suc j) (omega arith)) (omega arith) m

module _ (steps : List (List ℕ)) (i : ℕ) (whole : Whole steps) (l : i < length steps) where
  word : (k : ℕ) → k < step_words → step_word (concat steps) i k ≡ step_word (get_or steps i []) 0 k
  word k = word_in steps i k whole l

  pub asked_in : asked_by (concat steps) i ≡ asked_by (get_or steps i []) 0
  asked_in = λ d. step_of (word 0 (omega arith) d) (word 1 (omega arith) d) (word 2 (omega arith) d) (word 3 (omega arith) d)

  pub called_in : (t g : List ℕ) → call_by t g (concat steps) i ≡ call_by t g (get_or steps i []) 0
  called_in t g = λ d. call t g no_values (word 0 (omega arith) d) (word 1 (omega arith) d) (word 2 (omega arith) d) (word 3 (omega arith) d) (word 4 (omega arith) d)

-- the words of answer i came back: they stand behind those of the answers before it, whatever follows
behind : (i : ℕ) (answers d rest : List ℕ) → (i + 1) * answer_words ≤ length answers → length d ≡ answer_words →
    take ((i + 1) * answer_words) (take (i * answer_words) answers ++ (d ++ rest)) ≡ take (i * answer_words) answers ++ d
behind i answers d rest l e =
    let before = take (i * answer_words) answers in
    let long : length (before ++ d) ≡ (i + 1) * answer_words = simp (length-append, length-take) (omega arith) in
    ap (take ((i + 1) * answer_words)) (sym (append_assoc before d rest)) ∙ take_at (before ++ d) rest _ long

module _ (steps : List ℕ) (i : ℕ) where
  -- step i was taken, and its answer's words came back
  pub step_answered : (t g answers rest : List ℕ) {u h d : List ℕ} → (i + 1) * answer_words ≤ length answers → length d ≡ answer_words → returned ran_all u h d ≡ in_answer (call_by t g steps i) →
      returned ran_all u h (take ((i + 1) * answer_words) (take (i * answer_words) answers ++ (d ++ rest))) ≡ one_more steps (returned ran_all t g (take (i * answer_words) answers)) i
  unfolding one_more
  step_answered t g answers rest {u} {h} {d} l long e =
      ap (returned ran_all u h) (behind i answers d rest l long) ∙ ap (λ (r : Returned). returned ran_all r.table r.ledger (take (i * answer_words) answers ++ r.values)) e

  -- after i steps, one more
  pub ran_more : (t g : List ℕ) {s u : Returned} → s ≡ ran_to t g steps i → u ≡ one_more steps s i → u ≡ ran_to t g steps (i + 1)
  unfolding ran_to
  ran_more t g e q = q ∙ ap (λ (s : Returned). one_more steps s i) e ∙ sym (ap (ran_to t g steps) (add-one i))

-- before the first step, and after the last
pub ran_none : (t g steps : List ℕ) → returned ran_all t g [] ≡ ran_to t g steps 0
unfolding ran_to
ran_none t g steps = refl

pub ran_end : (t g steps answers : List ℕ) (n i : ℕ) {u h : List ℕ} → i ≤ n → n ≤ i → n * answer_words ≡ length answers → returned ran_all u h (take (i * answer_words) answers) ≡ ran_to t g steps i →
    returned ran_all u h answers ≡ ran_to t g steps n
ran_end t g steps answers n i {u} {h} p q l e =
    let same : i ≡ n = omega arith in
    ap (returned ran_all u h) (sym (take_all (i * answer_words) answers (omega arith))) ∙ e ∙ ap (ran_to t g steps) same

-- lengths that fit are those of n steps and n answers
pub fitted : (steps answers : ℕ) → lengths_fit steps answers ≡ true → (steps / step_words * step_words ≡ steps) × (steps / step_words * answer_words ≡ answers)
fitted steps answers e =
    let both = and_right (steps % step_words == 0) _ e in
    let steps_whole : steps % step_words ≡ 0 = eqb-true _ _ (and_left (steps % step_words == 0) _ e) in
    let whole : answers % answer_words ≡ 0 = eqb-true _ _ (and_left (answers % answer_words == 0) _ both) in
    let same : steps / step_words ≡ answers / answer_words = eqb-true _ _ (and_right (answers % answer_words == 0) _ both) in
    (omega arith, omega arith)

-- what is cut into steps, where the lengths fit, are all the words
pub all_words : (steps : List ℕ) (answers : ℕ) {parts : List (List ℕ)} → lengths_fit (length steps) answers ≡ true → parts ≡ first_chunks step_words (length steps / step_words) steps → concat parts ≡ steps
all_words steps answers e q = ap concat q ∙ whole_chunks _ steps (fitted _ _ e).0

-- the three ends of a run
module _ (t g steps answers : List ℕ) where
  abbrev letters : Bool
  letters = allb (length steps / step_words) (λ (i : ℕ). known (asked_by steps i))

  pub wrong_lengths : lengths_fit (length steps) (length answers) ≡ false → returned wrong_values t g answers ≡ run t g steps answers
  unfolding run
  wrong_lengths e = sym (rw e)

  pub unknown_letter_lem : lengths_fit (length steps) (length answers) ≡ true → letters ≡ false → returned unknown_letter t g answers ≡ run t g steps answers
  unfolding run
  unknown_letter_lem e q = sym (rw (e, q))

  pub all_ran : {r : Returned} → lengths_fit (length steps) (length answers) ≡ true → letters ≡ true → r ≡ ran_to t g steps (length steps / step_words) → r ≡ run t g steps answers
  unfolding run
  all_ran e q h = h ∙ sym (rw (e, q))
