-- A call of the C interface that asks for a step by its letter: which step it is, what it returns, and what stands in
-- the three buffers after it.
use Rattle.std.specs.Prelude.{◌≡◌, cond, Option, Some, None, List, ℕ, length, ◌==◌}
use Rattle.std.proofs.Math.Path.{sym}
use Rattle.std.proofs.Common.{ap, ◌∙◌, eq-eqb, ne_eqb}
use Rattle.rules.specs.Report.{report}
use Rattle.rules.specs.Step.{OutBoth, out_both, step}
use Rattle.rules.specs.declared.Answer.{Answer}
use Rattle.rules.specs.declared.Command.{Command}
use Rattle.reporting.specs.Values.{value_room, value_words}
use Rattle.lines.specs.Lines.{step_of}

-- what a call returns that is no answer: out of the way of the numbers that answers have
abbrev pub unknown_letter : ℕ
unknown_letter = 100

abbrev pub wrong_values : ℕ
wrong_values = 101

pub record Returned : Type 0 where
  pub number : ℕ
  pub table : List ℕ
  pub ledger : List ℕ
  pub values : List ℕ

abbrev pub returned : ℕ → List ℕ → List ℕ → List ℕ → Returned
returned r t g v = record { number = r; table = t; ledger = g; values = v }

-- an answer's number and values, and the buffers that are left
unfoldable pub reported : OutBoth → Returned
reported o = returned (report o.answer).number o.table o.ledger (value_words o.answer)

-- the step that a letter asks for; an unknown one changes nothing
unfoldable pub taken : List ℕ → List ℕ → List ℕ → Option Command → Returned
taken t g v (Some x) = reported (step t g x)
taken t g v None = returned unknown_letter t g v

-- neither does a value buffer of another length, which is looked at first; else the call returns r
unfoldable pub handled : List ℕ → List ℕ → List ℕ → Returned → Returned
handled t g v r = cond (length v == value_room) r (returned wrong_values t g v)

-- a step by its letter; none has a fourth number d
unfoldable pub call : List ℕ → List ℕ → List ℕ → ℕ → ℕ → ℕ → ℕ → ℕ → Returned
call t g v letter a b c d = handled t g v (taken t g v (step_of letter a b c))

-- what an answer that was given has to show
pub answer_given : (o : OutBoth) {u h w : List ℕ} {y : Answer} {r : ℕ} → out_both y u h ≡ o → r ≡ (report y).number → w ≡ value_words y → returned r u h w ≡ reported o
unfolding reported
answer_given o {u} {h} {w} {y} {r} s n m = (λ d. returned (n d) u h (m d)) ∙ ap reported s

-- the same of a step that was taken
pub step_taken : (t g v : List ℕ) (x : Command) {u h w : List ℕ} {y : Answer} {r : ℕ} → out_both y u h ≡ step t g x → r ≡ (report y).number → w ≡ value_words y →
    returned r u h w ≡ taken t g v (Some x)
unfolding taken
step_taken t g v x = answer_given (step t g x)

-- what a call has to show: the buffer has another length, or what it asks for was done
module _ (t g v : List ℕ) (r : Returned) where
  pub wrong_values_lem : (length v ≡ value_room → ⊥) → returned wrong_values t g v ≡ handled t g v r
  unfolding handled
  wrong_values_lem ne = rw (ne_eqb (length v) value_room ne)

  pub right_values : {q : Returned} → length v ≡ value_room → q ≡ r → q ≡ handled t g v r
  unfolding handled
  right_values e h = h ∙ sym (rw (eq-eqb (length v) value_room e))

-- the letter asks for p
pub letter_taken : (t g v : List ℕ) (l a b c d : ℕ) {p : Option Command} {r : Returned} → length v ≡ value_room → step_of l a b c ≡ p → r ≡ taken t g v p → r ≡ call t g v l a b c d
unfolding call
letter_taken t g v l a b c d e q h = right_values t g v _ e h ∙ sym (ap (λ p. handled t g v (taken t g v p)) q)
