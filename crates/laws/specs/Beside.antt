-- The steps that don't look at the ledger: they answer and leave the same beside every one, and leave it as it is.
use Rattle.std.specs.Prelude.{◌≡◌, refl, Bool, true, false, not, cond, ◌&&◌, List, ℕ, length, ◌==◌}
use Rattle.std.proofs.Common.{ap, ◌∙◌, true≢false}
use Rattle.table.specs.Field.{State}
use Rattle.table.specs.Layout.{table_words}
use Rattle.table.specs.Words.{state}
use Rattle.rules.specs.Limits.{house}
use Rattle.rules.specs.Refusal.{LENGTH, FORM}
use Rattle.rules.specs.Form.{in_form}
use Rattle.rules.specs.Steps.{After, refuse, beside, step_degree, step_send, step_deliver, step_log, step_checkpoint, step_tell, step_crash, step_hear, step_gap}
use Rattle.rules.specs.Step.{OutBoth, out_both, written_both, perform, looks_at_form, step_on, lent, step}
use Rattle.rules.specs.declared.Answer.{Answer}
use Rattle.rules.specs.declared.Answer.TheVariants.{Refused}
use Rattle.rules.specs.declared.Command.{Command}
use Rattle.rules.specs.declared.Command.TheVariants.{Open, SetDegree, Send, Release, Deliver, Log, Checkpoint, Tell, Crash, Hear, SetGap}

-- all but the opening and the release
abbrev pub looks_at_ledger : Command → Bool
looks_at_ledger (Open n k) = true
looks_at_ledger (SetDegree c k) = false
looks_at_ledger (Send sender receiver payload) = false
looks_at_ledger (Release m) = true
looks_at_ledger (Deliver m) = false
looks_at_ledger (Log c q) = false
looks_at_ledger (Checkpoint c) = false
looks_at_ledger (Tell owner holder) = false
looks_at_ledger (Crash c) = false
looks_at_ledger (Hear hearer owner i) = false
looks_at_ledger (SetGap q) = false

-- what such a step does on a state, whatever ledger lies beside it
record Alone (x : Command) : Type 0 where
  does : State → After
  performs : (σ : State) (g : List ℕ) → perform house σ g x ≡ beside (does σ) g

alone : (x : Command) → looks_at_ledger x ≡ false → Alone x
unfolding perform
alone (Open n k) e = absurd (true≢false e)
alone (SetDegree c k) e = record { does = λ σ. step_degree σ c k; performs = λ σ g. refl }
alone (Send sender receiver payload) e = record { does = λ σ. step_send house σ sender receiver payload; performs = λ σ g. refl }
alone (Release m) e = absurd (true≢false e)
alone (Deliver m) e = record { does = λ σ. step_deliver house σ m; performs = λ σ g. refl }
alone (Log c q) e = record { does = λ σ. step_log σ c q; performs = λ σ g. refl }
alone (Checkpoint c) e = record { does = λ σ. step_checkpoint σ c; performs = λ σ g. refl }
alone (Tell owner holder) e = record { does = λ σ. step_tell σ owner holder; performs = λ σ g. refl }
alone (Crash c) e = record { does = λ σ. step_crash house σ c; performs = λ σ g. refl }
alone (Hear hearer owner i) e = record { does = λ σ. step_hear σ hearer owner i; performs = λ σ g. refl }
alone (SetGap q) e = record { does = λ σ. step_gap σ q; performs = λ σ g. refl }

-- done beside one ledger, it is done beside any other
pub beside_any : (t k l g : List ℕ) (x : Command) (a : Answer) (u : List ℕ) → looks_at_ledger x ≡ false → out_both a u l ≡ step t k x → out_both a u g ≡ step t g x
unfolding step lent step_on
beside_any t k l g x a u n e =
    ap with e
    ∙ rw (f.performs (state t) k, f.performs (state t) g) (same (length t == table_words) (looks_at_form x && not (in_form house (state t))))
  where
    f : Alone x
    f = alone x n

    with : OutBoth → OutBoth
    with o = out_both o.answer o.table g

    left : List ℕ → Bool → Bool → OutBoth
    left h b d = cond b (written_both (cond d (beside (refuse FORM (state t)) h) (beside (f.does (state t)) h))) (out_both (Refused LENGTH) t h)

    same : (b d : Bool) → with (left k b d) ≡ left g b d
    same true true = refl
    same true false = refl
    same false d = refl
