-- What a set that goes tells of each of its messages, in terms of the model.
use Rattle.std.proofs.Common.{sym, ◌∙◌, eq-eqb}
use Rattle.std.specs.Prelude.{List, ℕ, ◌<◌, length}
use Rattle.std.specs.Int.Count.{ones}
use Rattle.table.specs.Field.{State, Receiver, desk}
use Rattle.rules.specs.Limits.{Limits}
use Rattle.rules.specs.Sets.{nth, record_in, union}
use Rattle.laws.specs.Facts.{Form}
use Rattle.laws.specs.Together.{Goes}
use Rattle.laws.proofs.Together.{own_named, own_may, union_few, desk_nobody}
use Rattle.model.proofs.Steps.{LetUnder}
use Rattle.image.specs.Image.{image}
use Rattle.image.specs.Reads.{to_is}
use Rattle.image.proofs.Stepped.{within_degree, release_found}

-- it may go by itself, the union names all whom it names, and no more than its sender's degree; and nobody where it is for the desk
pub set_found : {L : Limits} {σ : State} {g l : List ℕ} → Form L σ → Goes L σ g l → (i : ℕ) → i < length l → LetUnder (image σ) (nth l i) (union σ l)
set_found {σ = σ} {l = l} f w i h =
    let here = w.allowed.here i h in
    let o = release_found σ f (nth l i) here (own_may w i h) in
    record {
      pos = o.pos;
      sent = o.sent;
      within = within_degree σ f (nth l i) here (ones (union σ l)) (union_few w i h);
      covers = λ a e. own_named σ l i a h (o.names a ∙ e);
      desk_none = λ e. desk_nobody w i h (eq-eqb (σ (Receiver (record_in σ l i))) desk (sym (to_is σ (nth l i) here) ∙ e));
    }
