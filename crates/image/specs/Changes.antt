-- What is read after a change: the word that was written, and the words of other controllers. Changes that the model does not
-- show.
use Rattle.std.specs.Prelude.{◌≡◌, refl, List, ℕ, ◌+◌, ◌<◌}
use Rattle.std.proofs.Common.{arith}
use Rattle.table.specs.Field.{Field, State, Known, End, MessageState, same, word_of}
use Rattle.table.specs.Change.{put, put_ind, put_same, put_other, put_part, part_ind, clear_places, clear_ind, put_states, states_ind}
use Rattle.table.specs.Layout.{controllers, incarnations}
use Rattle.rules.specs.Vector.{place_vector}
use Rattle.model.specs.Model.{changed_at₂}
use Rattle.model.proofs.Tests.{changed_at₂_ind}
use Rattle.image.specs.Functions.{in_rows, rows_changed}
use Rattle.image.specs.Image.{controller_by, image, Away, Elsewhere, same_controller}

-- no change at all
pub nothing_else : (c : ℕ) (σ : State) → Elsewhere c σ σ
nothing_else c σ g a = refl

-- a word of controller c put
pub away_put : (c : ℕ) (σ τ : State) (f : Field) (x : ℕ) → (Away c f → ⊥) → Elsewhere c σ τ → Elsewhere c σ (put τ f x)
away_put c σ τ f x n h = put_ind (λ g y. Away c g → y ≡ σ g) τ f x (λ a. absurd (n a)) (λ g _. h g)

-- a part of its words put
pub away_part : (c : ℕ) (σ τ : State) (f : Field) (k : ℕ) (r : List ℕ) → ((i : ℕ) → Away c (word_of f i) → ⊥) → Elsewhere c σ τ → Elsewhere c σ (put_part τ f k r)
away_part c σ τ f k r n h = part_ind (λ g y. Away c g → y ≡ σ g) τ f k r (λ i _ a. absurd (n (k + i) a)) (λ g _. h g)

-- its places cleared
pub away_clear : (c : ℕ) (σ τ : State) (p q : ℕ) → Elsewhere c σ τ → Elsewhere c σ (clear_places τ c p q)
away_clear c σ τ p q h = clear_ind (λ g y. Away c g → y ≡ σ g) τ c p q (λ x k l u a. absurd (a refl)) (λ g _. h g)

-- states of messages put
away_states : (c : ℕ) (σ τ : State) (s : ℕ → ℕ) → Elsewhere c σ τ → Elsewhere c σ (put_states τ s)
away_states c σ τ s h = states_ind (λ g y. Away c g → y ≡ σ g) τ s (λ r a. absurd (a refl)) (λ g _. h g)

-- a known word, and an end word, put in the holder's rows
pub known_put : (σ : State) (holder owner i v : ℕ) → owner < controllers → i < incarnations →
    in_rows (λ b j. put σ (Known holder owner i) v (Known holder b j)) ≡ changed_at₂ (in_rows (λ b j. σ (Known holder b j))) owner i v
known_put σ holder owner i v ol il =
    rows_changed _ _ owner i v ol il
    (changed_at₂_ind (λ b j y. put σ (Known holder owner i) v (Known holder b j) ≡ y) (λ b j. σ (Known holder b j)) owner i v (put_same σ (Known holder owner i) v)
    (λ b j ne. put_other σ (Known holder owner i) (Known holder b j) v (λ e. ne (cc) (cc))))

-- an end word put
pub end_put : (σ : State) (holder owner i v : ℕ) → owner < controllers → i < incarnations →
    in_rows (λ b j. put σ (End holder owner i) v (End holder b j)) ≡ changed_at₂ (in_rows (λ b j. σ (End holder b j))) owner i v
end_put σ holder owner i v ol il =
    rows_changed _ _ owner i v ol il
    (changed_at₂_ind (λ b j y. put σ (End holder owner i) v (End holder b j) ≡ y) (λ b j. σ (End holder b j)) owner i v (put_same σ (End holder owner i) v)
    (λ b j ne. put_other σ (End holder owner i) (End holder b j) v (λ e. ne (cc) (cc))))

-- states of messages are not in the model: put, they leave it
pub image_states : (σ : State) (s : ℕ → ℕ) → image (put_states σ s) ≡ image σ
unfolding controller_by place_vector put_states
image_states σ s = same_controller σ (put_states σ s) 0 (omega arith) refl (away_states 0 σ σ s (nothing_else 0 σ))

-- one message's state put
pub image_state : (σ : State) (r x : ℕ) → image (put σ (MessageState r) x) ≡ image σ
unfolding controller_by place_vector put same
image_state σ r x = same_controller σ (put σ (MessageState r) x) 0 (omega arith) refl (away_put 0 σ σ (MessageState r) x (λ a. a refl) (nothing_else 0 σ))
