-- Whether the table that a step leaves is in form, from whether the one that it found is.
use Rattle.std.specs.Prelude.{◌≡◌, refl, Bool, true, false, List, ℕ, length, ◌==◌}
use Rattle.std.proofs.Common.{sym, ap, ◌∙◌, subst, true≢false, eq-eqb}
use Rattle.base.specs.Choice.{cond_ind}
use Rattle.base.specs.Cases.{first_of}
use Rattle.table.specs.Layout.{table_words}
use Rattle.table.specs.Words.{state}
use Rattle.table.proofs.Words.{words_state}
use Rattle.rules.specs.Limits.{house}
use Rattle.rules.specs.Form.{in_form}
use Rattle.rules.specs.Steps.{AfterBoth, refusing_both, open_refusals, step_open}
use Rattle.rules.specs.Step.{OutBoth, out_both, written_both, looks_at_form, perform, step_on, lent, step}
use Rattle.rules.specs.declared.Answer.{Answer}
use Rattle.rules.specs.declared.Answer.TheVariants.{Done, Sent, Released, Held, Delivered, Dropped, Waits, Crashed, Heard, Rolled, Refused, SetReleased, SetHeld, Idle}
use Rattle.rules.specs.declared.Command.{Command}
use Rattle.rules.specs.declared.Command.TheVariants.{Open, SetDegree, Send, Release, Deliver, Log, Checkpoint, Tell, Crash, Hear, SetGap}
use Rattle.laws.specs.Answering.{Lent, LentFor}
use Rattle.keeping.proofs.Kept.{kept, opened}

-- an answer `done`
abbrev pub is_done : Answer → Bool
is_done Done = true
is_done (Sent m) = false
is_done (Released m mask) = false
is_done (Held m mask) = false
is_done (Delivered m i x) = false
is_done (Dropped m owner i) = false
is_done (Waits m) = false
is_done (Crashed c i k lost replayed) = false
is_done (Heard c) = false
is_done (Rolled c k undone replayed owner i) = false
is_done (Refused number) = false
is_done (SetReleased mask) = false
is_done (SetHeld mask) = false
is_done Idle = false

-- a lent table of its length, of which b says whether it is in form
abbrev pub FormKnown : List ℕ → Bool → Type 0
FormKnown t b = (length t ≡ table_words) × (b ≡ in_form house (state t))

-- a table in form is one for every step
pub lent_for : (t : List ℕ) (x : Command) → Lent t → LentFor t x
lent_for t x h = record { long = h.long; good = λ _. h.good }

-- and so is any table for one that doesn't look at the form
pub lent_unseen : (t : List ℕ) (x : Command) → length t ≡ table_words → looks_at_form x ≡ false → LentFor t x
lent_unseen t x l e = record { long = l; good = λ q. absurd (true≢false (sym q ∙ e)) }

-- every step leaves a table in form in form
pub kept_by : (t g : List ℕ) (x : Command) {a : Answer} {w h : List ℕ} → Lent t → out_both a w h ≡ step t g x → Lent w
kept_by t g x l e = subst Lent (sym (ap (λ (o : OutBoth). o.table) e)) (kept t g x l)

-- an opening is done, or refused, and then the table is as it was
data Opening (t : List ℕ) (o : OutBoth) : Type 0 where
  done : o.answer ≡ Done → Opening t o
  refused : is_done o.answer ≡ false → o.table ≡ t → Opening t o

opening : (t g : List ℕ) (n k : ℕ) → length t ≡ table_words → Opening t (step t g (Open n k))
unfolding step lent step_on perform step_open refusing_both
opening t g n k l =
    rw (eq-eqb (length t) table_words l)
    (cond_ind (λ (o : AfterBoth). Opening t (written_both o)) (first_of (open_refusals house g n k) == 0) (λ _. done refl) (λ _. refused refl (sym (words_state t l))))

-- so it leaves a table in form where it is done, and there alone if it didn't find one
opens : (t g : List ℕ) (n k : ℕ) → FormKnown t false → FormKnown (step t g (Open n k)).table (is_done (step t g (Open n k)).answer)
opens t g n k f =
    elim (opening t g n k f.0) [
      | done e ↦ let o = opened t g n k f.0 e in (o.long, ap is_done e ∙ sym o.good)
      | refused e s ↦ (ap length s ∙ f.0, e ∙ f.1 ∙ sym (ap (λ (u : List ℕ). in_form house (state u)) s))
    ]

-- the same of every step that doesn't look at the form: the opening is the only one
pub carried : (t g : List ℕ) (x : Command) {a : Answer} {w h : List ℕ} → FormKnown t false → looks_at_form x ≡ false → out_both a w h ≡ step t g x → FormKnown w (is_done a)
carried t g (Open n k) f _ e = subst (λ (o : OutBoth). FormKnown o.table (is_done o.answer)) (sym e) (opens t g n k f)
carried t g (SetDegree c k) f e _ = absurd (true≢false e)
carried t g (Send sender receiver payload) f e _ = absurd (true≢false e)
carried t g (Release m) f e _ = absurd (true≢false e)
carried t g (Deliver m) f e _ = absurd (true≢false e)
carried t g (Log c q) f e _ = absurd (true≢false e)
carried t g (Checkpoint c) f e _ = absurd (true≢false e)
carried t g (Tell owner holder) f e _ = absurd (true≢false e)
carried t g (Crash c) f e _ = absurd (true≢false e)
carried t g (Hear hearer owner i) f e _ = absurd (true≢false e)
carried t g (SetGap q) f e _ = absurd (true≢false e)
