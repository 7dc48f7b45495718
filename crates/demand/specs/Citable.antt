-- How a step keeps a fact of citations.
use Rattle.std.proofs.Math.Path.{◌≡◌, refl, subst}
use Rattle.std.proofs.Common.{sym}
use Rattle.std.specs.Prelude.{ℕ}
use Rattle.rules.specs.Report.{report}
use Rattle.rules.specs.declared.Answer.{Answer}
use Rattle.rules.specs.declared.Answer.TheVariants.{Sent, Released}
use Rattle.rules.specs.declared.Command.{Command}
use Rattle.rules.specs.declared.Command.TheVariants.{Send, Release}
use Rattle.history.specs.History.{answers, value_at}
use Rattle.history.specs.Citations.{Citations, sent_with, let_out_to, cited_step}
use Rattle.model.specs.Model.{Model}
use Rattle.calls.specs.Made.{NoDoneOpening}
use Rattle.image.specs.Outcome as O
use Rattle.image.specs.Outcome.{Outcome}
use Rattle.testers.specs.Citing.{cited_refused}

-- What holds of citations holds after a step that is no done opening, if it does after a send and after a release that lets its message out.
pub cited_ind : {n : ℕ} {μ : Model} {x : Command} {a : Answer} {j : ℕ} {μ' : Model} (P : Citations → Type 0) (q : Citations) → Outcome n μ x a j μ' → NoDoneOpening x a → P q →
    ((s r p m : ℕ) → x ≡ Send s r p → a ≡ Sent m → P (sent_with q m r p)) →
    ((m mask : ℕ) → x ≡ Release m → a ≡ Released m mask → P (let_out_to q m)) → P (cited_step x a q)
unfolding cited_step answers value_at report
cited_ind P q (O.refused x number) o w sends outs = subst P (sym (cited_refused x number q)) w
cited_ind P q (O.opened j k a b c) o w sends outs = absurd (o j k refl refl)
cited_ind P q (O.degree_set_lem c k a b) o w sends outs = w
cited_ind P q (O.sent s r p a b ne) o w sends outs = sends s r p _ refl refl
cited_ind P q (O.released m mask a b) o w sends outs = outs m mask refl refl
cited_ind P q (O.held m mask) o w sends outs = w
cited_ind P q (O.dropped m owner a b c d) o w sends outs = w
cited_ind P q (O.waits m) o w sends outs = w
cited_ind P q (O.delivered m c a b) o w sends outs = w
cited_ind P q (O.logged c n a b d) o w sends outs = w
cited_ind P q (O.checkpointed c a) o w sends outs = w
cited_ind P q (O.told b c d e ne) o w sends outs = w
cited_ind P q (O.crashed c lost a) o w sends outs = w
cited_ind P q (O.heard b c i a d) o w sends outs = w
cited_ind P q (O.rolled b c i y undone a d) o w sends outs = w
cited_ind P q (O.gap_set_lem n a) o w sends outs = w
