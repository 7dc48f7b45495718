-- R, by its cases: what goes to a controller leaves the ledger, what goes to the desk has its entry there. And it looks only at words of the
-- table.
use Rattle.std.specs.Prelude.{◌≡◌, Bool, not, ◌&&◌, List, [], ◌∷◌, ℕ, ◌≤◌, ◌<◌, ◌==◌}
use Rattle.std.proofs.Math.Path.{refl}
use Rattle.std.proofs.Common.{sym, ap, ◌∙◌, true≢false, arith}
use Rattle.std.proofs.Math.Bool.{true, false, cond}
use borrow.Author.Tests.{leb-true, leb-false, not-true, not-false}
use Rattle.base.specs.Choice.{◌≤?◌, cond_ind}
use Rattle.table.specs.Field.{State, OfMessage, Degree, MessageState, Sender, Receiver, Payload, desk, message_head}
use Rattle.table.specs.Words.{Agree}
use Rattle.table.proofs.Words.{agree_put_to, agree_values}
use Rattle.rules.specs.Limits.{Limits}
use Rattle.rules.specs.Refusal.{LEDGER_USED_UP}
use Rattle.rules.specs.Vector.{Vector, message_vector, flat, filtered, mask}
use Rattle.rules.specs.Form.{state_released, state_published, for_desk}
use Rattle.rules.specs.Ledger.{count_of, entry_of, appended}
use Rattle.rules.specs.Steps.{AfterBoth, after_both, beside, refuse, own_vector, let_out, gone, ledger_out, may_go, release}
use Rattle.rules.specs.declared.Answer.TheVariants.{Released, Held}
use Rattle.laws.specs.Agree.{message_vector_same, filtered_same}
use Rattle.laws.specs.Chain.{Releasable}

-- the message m, in record r
module _ (L : Limits) (σ : State) (g : List ℕ) (m r : ℕ) where
  -- its filtered vector, and whom that names
  abbrev v : Vector
  v = own_vector σ r

  abbrev names : ℕ
  names = mask (own_vector σ r)

  -- what has gone out has gone to a controller or to the desk
  pub gone_ind : (P : State → List ℕ → Type 0) → (for_desk σ r ≡ false → P (let_out σ r v state_released) g) →
      (for_desk σ r ≡ true → P (let_out σ r v state_published) (appended g (entry_of σ m r))) → P (gone σ r) (ledger_out σ g m r)
  unfolding gone ledger_out
  gone_ind P to_controller to_desk_lem = go (for_desk σ r) to_controller to_desk_lem
    where
      go : (b : Bool) → (b ≡ false → P (let_out σ r v state_released) g) → (b ≡ true → P (let_out σ r v state_published) (appended g (entry_of σ m r))) →
          P (let_out σ r v (cond b state_published state_released)) (cond b (appended g (entry_of σ m r)) g)
      go true out pub_out = pub_out refl
      go false out pub_out = out refl

  -- held; no room for its entry; gone out
  release_ind : (P : AfterBoth → Type 0) → (may_go σ r names ≡ false → P (after_both (Held m names) σ g)) →
      (for_desk σ r ≡ true → L.entries ≤ count_of g → P (beside (refuse LEDGER_USED_UP σ) g)) →
      (may_go σ r names ≡ true → (for_desk σ r ≡ true → count_of g < L.entries) → P (after_both (Released m names) (gone σ r) (ledger_out σ g m r))) → P (release L σ g m r)
  unfolding release
  release_ind P held full goes =
      cond_ind P (not (may_go σ r names)) (λ e. held (not-true (may_go σ r names) e)) (λ e. go (for_desk σ r) full (goes (not-false (may_go σ r names) e)))
    where
      go : (b : Bool) → (b ≡ true → L.entries ≤ count_of g → P (beside (refuse LEDGER_USED_UP σ) g)) →
          ((b ≡ true → count_of g < L.entries) → P (after_both (Released m names) (gone σ r) (ledger_out σ g m r))) →
          P (cond (b && (L.entries ≤? count_of g)) (beside (refuse LEDGER_USED_UP σ) g) (after_both (Released m names) (gone σ r) (ledger_out σ g m r)))
      go true full goes = cond_ind P (L.entries ≤? count_of g) (λ q. full refl (leb-true L.entries (count_of g) q)) (λ q. goes (λ _. leb-false L.entries (count_of g) q))
      go false full goes = goes (λ e. absurd (true≢false (sym e)))

  -- both together: held; let out to a controller; no room; published
  pub release_cases : (P : AfterBoth → Type 0) → (may_go σ r names ≡ false → P (after_both (Held m names) σ g)) →
      (may_go σ r names ≡ true → for_desk σ r ≡ false → P (after_both (Released m names) (let_out σ r v state_released) g)) →
      (for_desk σ r ≡ true → L.entries ≤ count_of g → P (beside (refuse LEDGER_USED_UP σ) g)) →
      (may_go σ r names ≡ true → for_desk σ r ≡ true → count_of g < L.entries →
      P (after_both (Released m names) (let_out σ r v state_published) (appended g (entry_of σ m r)))) → P (release L σ g m r)
  release_cases P held let_out_lem full publish =
      release_ind P held full
      (λ may room. gone_ind (λ τ h. P (after_both (Released m names) τ h)) (let_out_lem may) (λ d. publish may d (room d)))

-- A message that R may take goes out alike on states with the same words.
module _ (σ τ : State) (e : Agree σ τ) (r : ℕ) (w : Releasable σ r) where
  sender_agree : σ (Sender r) ≡ τ (Sender r)
  sender_agree = e (Sender r) (w.record_lt, omega arith)

  pub degree_agree : σ (Degree (σ (Sender r))) ≡ τ (Degree (τ (Sender r)))
  degree_agree = e (Degree (σ (Sender r))) (w.sender_lt, omega arith) ∙ ap (λ s. τ (Degree s)) sender_agree

  pub desk_agree : for_desk σ r ≡ for_desk τ r
  desk_agree = ap (λ x. x == desk) (e (Receiver r) (w.record_lt, omega arith))

  pub own_agree : own_vector σ r ≡ own_vector τ r
  unfolding own_vector
  own_agree =
      filtered_same σ τ e (σ (Sender r)) (message_vector σ r) w.sender_lt w.near
      ∙ (λ d. filtered τ (sender_agree d) (message_vector_same σ τ e r w.record_lt d))

  pub agree_gone : Agree (gone σ r) (gone τ r)
  unfolding gone let_out
  agree_gone =
      agree_put_to _ _ {f = MessageState r} refl (ap (λ b. cond b state_published state_released) desk_agree) (agree_values σ τ (OfMessage r 0) message_head (ap flat own_agree) e)

  pub ledger_out_agree : (g : List ℕ) (m : ℕ) → ledger_out σ g m r ≡ ledger_out τ g m r
  unfolding ledger_out
  ledger_out_agree g m d = cond (desk_agree d) (appended g (m ∷ e (Payload r) (w.record_lt, omega arith) d ∷ [])) g
