-- Of the controllers that a held release names all but K need be asked.
use Rattle.std.specs.Prelude.{◌≡◌, Bool, true, false, List, ◌≢◌, ◌⊎◌, ℕ, ◌≤◌, ◌<◌}
use Rattle.std.proofs.Math.Path.{refl}
use Rattle.table.specs.Field.{desk}
use Rattle.table.specs.Layout.{controllers}
use Rattle.rules.specs.Step.{Call}
use Rattle.history.specs.History.{History}
use Rattle.history.specs.Demand.{named, FromOpening, end}
use Rattle.history.specs.Progress.{HeldIn, HasHeard}
use Rattle.history.specs.Asked.{Asked, held_without, was_asked, GoesOutWithin, NotHeld}
use Rattle.base.specs.Ranges.{count}
use Rattle.paper.specs.Whenever.{either, held_there, all_but}

module _ (t g : List ℕ) (n k : ℕ) (l : List Call) (O : FromOpening t g n k l) (m : ℕ) where
  -- the history at the end of the list, and the sender of message m
  abbrev h : History
  h = end t g n k l

  abbrev sender : ℕ
  sender = (h.sending m).owner

  -- By the mask: of the controllers that a held release of m names all but K need be asked.
  pub mask_all_but_K : (mask : ℕ) → HeldIn t g n k l m mask → HasHeard t g n k l sender → h.receiver m ≢ desk → (left : ℕ → Bool) → count controllers left ≤ h.degree sender →
      ((c : ℕ) → c < n → named mask c ≡ true → left c ≡ false → Asked t g n k l m sender c) → NotHeld t g n k l m ⊎ GoesOutWithin t g n k l m left
  mask_all_but_K mask held heard away left few asked =
      all_but t g n k l O m (held_there t g n k l O m mask held) heard away left few (λ c below e. either (named mask c) (λ d. was_asked (asked c below d e))
      (λ d. held_without mask held d refl))
