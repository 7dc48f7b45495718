-- A step keeps W4's ceiling: each live number stands less than the largest Q set so far above the latest flagged one up to it.
use Rattle.std.specs.Prelude.{refl, ℕ, ◌≤◌, ◌<◌}
use Rattle.std.proofs.Common.{sym, arith}
use Rattle.std.proofs.Math.Path.{subst}
use Rattle.rules.specs.declared.Answer.{Answer}
use Rattle.rules.specs.declared.Command.{Command}
use Rattle.history.specs.History.{History}
use Rattle.model.specs.Model.{Model, put_controller, put_message, degree_controller, log_controller, gap_model, tell_controller, end_controller, note_controller, send_message, release_message}
use Rattle.model.proofs.Invariant.{Inv}
use Rattle.model.specs.Close.{Close}
use Rattle.model.proofs.Close.{carries_begun, carries_anew, logged_flagged, close_controllers, close_same, close_checkpointed, close_capped}
use Rattle.calls.specs.Made.{NoDoneOpening}
use Rattle.image.specs.Outcome.{Outcome, refused, opened, degree_set_lem, sent, released, held, dropped, waits, delivered, logged, checkpointed, told, crashed, heard, rolled, gap_set_lem}

-- a step keeps the numbers less than M above the latest flagged ones, where Q is not 0 after it and was at most M before
pub outcome_close : {n M : ℕ} {μ : Model} {x : Command} {a : Answer} {j : ℕ} {μ' : Model} {h : History} → Outcome n μ x a j μ' → NoDoneOpening x a →
    Inv n μ h → 1 ≤ μ'.gap → μ.gap ≤ M → Close n M μ → Close n M μ'
unfolding put_controller put_message degree_controller log_controller gap_model tell_controller end_controller note_controller send_message release_message
outcome_close (refused x number) o v on within close = close
outcome_close (opened j k p q r) o v on within close = absurd (o j k refl refl)
outcome_close (degree_set_lem c k p q) o v on within close = close_same close c p _ refl refl
outcome_close (sent s r payload p q ne) o v on within close = close_controllers refl close
outcome_close (released m mask l w) o v on within close = close_controllers refl close
outcome_close (held m mask) o v on within close = close
outcome_close (dropped m owner p l w z) o v on within close = close
outcome_close (waits m) o v on within close = close
outcome_close {n} (delivered m c e d) o v on within close =
    close_capped close c (subst (λ b. b < n) (sym e) d.to_below) _ (carries_begun c _ _) on within
outcome_close (logged c q below pos fits) o v on within close = close_same close c below _ refl refl
outcome_close (checkpointed c l) o v on within close = close_checkpointed close c l
outcome_close (told a b p q ne) o v on within close = close_same close b q _ refl refl
outcome_close (crashed c lost l) o v on within close =
    close_capped close c l _ (carries_anew c _ _ (v.controller_ok_lem c l).shape.stable_le refl) on within
outcome_close (heard b a i f w) o v on within close = close_same close b f.hearer_below _ refl refl
outcome_close (rolled b a i j undone f w) o v on within close =
    close_capped close b f.hearer_below _ (carries_anew b _ j (omega (arith, w.below)) (logged_flagged b _ j)) on within
outcome_close (gap_set_lem q l) o v on within close = close_controllers refl close
