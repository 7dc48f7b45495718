-- A second checkpoint finds a table in form, nothing to log, and its flag: it leaves the words that it found, and the ledger.
use Rattle.std.specs.Prelude.{◌≡◌, refl, false, not, List, ℕ, ◌-◌, ◌==◌}
use Rattle.std.proofs.Common.{sym, ◌∙◌, arith, eqb-true, eq-eqb, le-ltb}
use Rattle.std.proofs.Math.Path.{ap}
use Rattle.std.proofs.lemmas.Bool.{lt-leb, not-false}
use Rattle.base.specs.Choice.{◌<?◌, cond_ind}
use Rattle.base.specs.Cases.{first_of}
use Rattle.table.specs.Field.{State, Size, LiveCount, StableCount, Flag, same}
use Rattle.table.specs.Change.{put, put_same}
use Rattle.table.specs.Words.{Agree}
use Rattle.table.proofs.Words.{put_again}
use Rattle.rules.specs.Limits.{house}
use Rattle.rules.specs.Form.{in_form}
use Rattle.rules.specs.Shared.{newest_place, logged, logged_to, checkpointed}
use Rattle.rules.specs.Steps.{After, refusing, AfterBoth, beside, checkpoint_refusals, step_checkpoint}
use Rattle.rules.specs.Step.{perform, step_on}
use Rattle.rules.specs.declared.Command.TheVariants.{Checkpoint}
use Rattle.laws.specs.Facts.{house_fits}
use Rattle.laws.specs.Allowed.{checkpoint_allowed}
use Rattle.keeping.proofs.Logging.{kept_checkpointed}
use Rattle.keeping.proofs.StepSame.{SameBoth, same_refl}

module _ (σ : State) (c : ℕ) where
  -- after a checkpoint: the size and the live count, and nothing is left to log
  record Logged (τ : State) : Type 0 where
    size_is : τ Size ≡ σ Size
    live_is : τ (LiveCount c) ≡ σ (LiveCount c)
    none_left : (τ (StableCount c) <? τ (LiveCount c)) ≡ false

  all_logged : Logged (logged_to σ c (σ (LiveCount c)))
  unfolding logged_to logged put same
  all_logged =
      cond_ind Logged (σ (StableCount c) <? σ (LiveCount c))
      (λ z. record { size_is = refl; live_is = refl; none_left = rw (eq-eqb c c refl) (le-ltb (σ (LiveCount c)) (σ (LiveCount c)) (omega arith)) })
      (λ z. record { size_is = refl; live_is = refl; none_left = z })

  checkpoint_logged : Logged (checkpointed σ c)
  unfolding checkpointed put same
  checkpoint_logged = let a = all_logged in record { size_is = a.size_is; live_is = a.live_is; none_left = a.none_left }

  -- and the newest place has its flag
  checkpoint_flag : checkpointed σ c (Flag c (newest_place (checkpointed σ c) c)) ≡ 1
  unfolding checkpointed
  checkpoint_flag = ap (λ live. checkpointed σ c (Flag c (live - 1))) checkpoint_logged.live_is ∙ put_same _ (Flag c (newest_place σ c)) 1

-- where nothing is left to log and the flag is there, a checkpoint changes no word
checkpoint_idle : (σ : State) (c : ℕ) → (σ (StableCount c) <? σ (LiveCount c)) ≡ false → σ (Flag c (newest_place σ c)) ≡ 1 → Agree (checkpointed σ c) σ
unfolding checkpointed logged_to
checkpoint_idle σ c z flag = rw z (λ f v. sym (put_again σ (Flag c (newest_place σ c)) 1 (sym flag) f v))

-- A step on what a checkpoint step left: the same answer, the same words and the same ledger.
pub checkpoint_twice : (σ : State) (g : List ℕ) (c : ℕ) → let o = step_on house σ g (Checkpoint c) in SameBoth (step_on house o.left o.ledger (Checkpoint c)) o
unfolding step_on perform step_checkpoint refusing first_of
checkpoint_twice σ g c =
    cond_ind (λ (o : AfterBoth). SameBoth (step_on house o.left o.ledger (Checkpoint c)) o) (not (in_form house σ))
    (λ z. rw z (same_refl _))
    (λ z. let e = not-false (in_form house σ) z in
    cond_ind (λ (o : After). SameBoth (step_on house o.left g (Checkpoint c)) (beside o g)) (first_of (checkpoint_refusals σ c) == 0)
    (λ q. let h = checkpoint_allowed σ c (sym (eqb-true (first_of (checkpoint_refusals σ c)) 0 q)) in
    let a = checkpoint_logged σ c in
    rw (kept_checkpointed house house_fits σ c h e, lt-leb (checkpointed σ c Size) c (omega (arith, a.size_is)))
    (record { answer_is = refl; left_is = checkpoint_idle (checkpointed σ c) c a.none_left (checkpoint_flag σ c); ledger_is = refl }))
    (λ q. rw (e, q) (same_refl _)))
