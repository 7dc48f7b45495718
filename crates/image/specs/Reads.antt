-- What the model of a state says, word by word.
use Rattle.std.specs.Prelude.{◌≡◌, refl, ℕ, ◌≤◌, ◌<◌, ◌==◌}
use Rattle.std.proofs.Common.{sym, ◌∙◌, subst}
use Rattle.std.proofs.Math.Path.{ap}
use Rattle.std.proofs.Math.Bool.{false}
use Rattle.table.specs.Field.{State, Known, End, Gap, Degree, Incarnation, StableCount, Flag, Sender, Receiver, SendingIncarnation, SendingNumber}
use Rattle.table.specs.Layout.{controllers, incarnations}
use Rattle.table.specs.Numbering.{number_of, last_live, place_of, used, last_given, record_of}
use Rattle.table.proofs.Numbering.{present_given}
use Rattle.rules.specs.Vector.{place_vector, message_vector}
use Rattle.history.specs.History.{interval}
use Rattle.model.specs.Model.{Controller, Message}
use Rattle.image.specs.Functions.{within_in, rows_in}
use Rattle.image.specs.Image.{vec_of, controller_by, model_message, image, controller_is, vec_at, message_at_lem}

-- the messages sent
pub sent_is : (σ : State) → (image σ).sent ≡ last_given σ
unfolding image
sent_is σ = refl

-- one that is there was sent
pub present_sent : (σ : State) (m : ℕ) → record_of σ m < used σ → m ≤ (image σ).sent
present_sent σ m l = subst (λ n. m ≤ n) (sym (sent_is σ)) (present_given σ m l)

-- the gap
pub gap_is : (σ : State) → (image σ).gap ≡ σ Gap
unfolding image
gap_is σ = refl

module _ (σ : State) (c : ℕ) (cl : c < controllers) where
  -- the degree of controller c
  pub degree_is : ((image σ).controller c).degree ≡ σ (Degree c)
  unfolding controller_by
  degree_is = ap (λ (k : Controller). k.degree) (controller_is σ c cl)

  -- its incarnation
  pub incarnation_is : ((image σ).controller c).incarnation ≡ σ (Incarnation c)
  unfolding controller_by
  incarnation_is = ap (λ (k : Controller). k.incarnation) (controller_is σ c cl)

  -- its highest live number
  pub live_is : ((image σ).controller c).live ≡ last_live σ c
  unfolding controller_by
  live_is = ap (λ (k : Controller). k.live) (controller_is σ c cl)

  -- its highest stable number
  pub stable_is : ((image σ).controller c).stable ≡ number_of σ c (σ (StableCount c))
  unfolding controller_by
  stable_is = ap (λ (k : Controller). k.stable) (controller_is σ c cl)

  -- its known words
  pub known_is : (owner i : ℕ) → owner < controllers → i < incarnations → ((image σ).controller c).known owner i ≡ σ (Known c owner i)
  unfolding controller_by
  known_is owner i ol il = ap (λ (k : Controller). k.known owner i) (controller_is σ c cl) ∙ rows_in (λ owner i. σ (Known c owner i)) owner i ol il

  -- its end words
  pub ends_is : (owner i : ℕ) → owner < controllers → i < incarnations → ((image σ).controller c).ends owner i ≡ σ (End c owner i)
  unfolding controller_by
  ends_is owner i ol il = ap (λ (k : Controller). k.ends owner i) (controller_is σ c cl) ∙ rows_in (λ owner i. σ (End c owner i)) owner i ol il

  -- the vector of number x, live
  pub vec_is : (x : ℕ) → 1 ≤ x → x ≤ last_live σ c → ((image σ).controller c).vec x ≡ vec_of (place_vector σ c (place_of σ c x))
  vec_is x p q = ap (λ (k : Controller). k.vec x) (controller_is σ c cl) ∙ vec_at σ c x p q

  -- whether number x, live, is flagged
  pub flag_is : (x : ℕ) → 1 ≤ x → x ≤ last_live σ c → ((image σ).controller c).flagged x ≡ (σ (Flag c (place_of σ c x)) == 1)
  unfolding controller_by
  flag_is x p q = ap (λ (k : Controller). k.flagged x) (controller_is σ c cl) ∙ within_in _ false (λ x. σ (Flag c (place_of σ c x)) == 1) x p q

module _ (σ : State) (m : ℕ) (l : record_of σ m < used σ) where
  abbrev r : ℕ
  r = record_of σ m

  -- the receiver of message m
  pub to_is : ((image σ).message m).to ≡ σ (Receiver r)
  unfolding model_message
  to_is = ap (λ (g : Message). g.to) (message_at_lem σ m l)

  -- its sending interval
  pub from_is : ((image σ).message m).from ≡ interval (σ (Sender r)) (σ (SendingIncarnation r)) (σ (SendingNumber r))
  unfolding model_message
  from_is = ap (λ (g : Message). g.from) (message_at_lem σ m l)

  -- its vector
  pub message_vec_is : ((image σ).message m).vec ≡ vec_of (message_vector σ r)
  unfolding model_message
  message_vec_is = ap (λ (g : Message). g.vec) (message_at_lem σ m l)
