-- What each function leaves, from what it has read and what its calls have left.
use Rattle.std.specs.Prelude.{◌≡◌, List, ◌++◌, ℕ, ◌+◌, ◌-◌, ◌≤◌, ◌<◌, max, length, take, drop}
use Rattle.std.proofs.Common.{◌∙◌, arith, le-leb}
use Rattle.std.proofs.lemmas.Bool.{lt-leb}
use Rattle.base.specs.Cases.{none, hit, skip}
use Rattle.base.specs.Lists.{length_tab}
use Rattle.table.specs.Field.{Known, Size}
use Rattle.table.specs.Layout.{controllers, incarnations, table_words, position}
use Rattle.table.specs.Words.{state, words}
use Rattle.table.proofs.Words.{words_state, fits_known, lent_part}
use Rattle.rules.specs.Shared.{checkpointed}
use Rattle.rules.specs.Refusal.{CONTROLLER}
use Rattle.rules.specs.Steps.{checkpoint_refusals, step_checkpoint, told_row, told}
use Rattle.rules.specs.Step.{out, written}
use Rattle.rules.specs.declared.Answer.TheVariants.{Done, Refused}
use Rattle.laws.specs.Answering.{refused, granted, leaves}

-- T: the holder's row of the owner, from word a to word b, was lent and came back as what it is told
pub writes_told : (t ys row : List ℕ) (owner holder a b : ℕ) → length t ≡ table_words → owner < controllers → holder < controllers → row ≡ told_row (state t) owner holder →
    a ≡ position (Known holder owner 0) → b ≡ a + incarnations → ys ≡ row → take a t ++ (ys ++ drop (b - a) (drop a t)) ≡ words (told (state t) owner holder)
unfolding told told_row
writes_told t ys row owner holder a b l ol hl r p q e =
    let n = length_tab incarnations (λ (i : ℕ). max (state t (Known holder owner i)) (state t (Known owner owner i))) in
    rw p (lent_part (state t) (Known holder owner 0) 0 b t ys (told_row (state t) owner holder) (words_state t l) (e ∙ r) (omega arith)
    (fits_known holder owner (told_row (state t) owner holder) hl ol (omega arith)))

-- C: refused, or done; n is the size that was read
pub checkpoint_refused : (t : List ℕ) (c n : ℕ) → length t ≡ table_words → n ≡ state t Size → n ≤ c → out (Refused CONTROLLER) t ≡ written (step_checkpoint (state t) c)
unfolding step_checkpoint
checkpoint_refused t c n l e h = refused (checkpoint_refusals (state t) c) t CONTROLLER _ l (hit _ _ _ (le-leb (state t Size) c (omega arith))) (omega arith)

pub checkpoint_done : (t u : List ℕ) (c n : ℕ) → n ≡ state t Size → c < n → u ≡ words (checkpointed (state t) c) → out Done u ≡ written (step_checkpoint (state t) c)
unfolding step_checkpoint
checkpoint_done t u c n e h q = granted (checkpoint_refusals (state t) c) (state t) _ Done u (skip _ _ _ _ (lt-leb (state t Size) c (omega arith)) none) (leaves Done u _ q)
