-- D, by its cases: dropped; it waits; no place is left; an interval begins.
use Rattle.std.specs.Prelude.{◌≡◌, true, false, ℕ}
use Rattle.base.specs.Choice.{cond_ind}
use Rattle.table.specs.Field.{State, MessageState, Receiver}
use Rattle.table.specs.Change.{put}
use Rattle.rules.specs.Limits.{Limits}
use Rattle.rules.specs.Refusal.{PLACES_USED_UP}
use Rattle.rules.specs.Vector.{Vector, incarnation, pair_of, message_vector, condemned, condemning, conflict, merged}
use Rattle.rules.specs.Form.{state_dropped}
use Rattle.rules.specs.Steps.{After, after, refuse, interval_begins, chain_full, ours, theirs, prospect, comes_of, deliver}
use Rattle.rules.specs.declared.Answer.TheVariants.{Dropped, Waits}
use Rattle.rules.specs.declared.Prospect.{Prospect}
use Rattle.rules.specs.declared.Prospect.TheVariants.{WouldDrop, WouldWait, NoPlaceLeft, WouldBegin}

-- the message in record r, its receiver, its vector, and who condemns it, if anybody does
module _ (L : Limits) (σ : State) (r : ℕ) where
  abbrev c : ℕ
  c = σ (Receiver r)

  abbrev v : Vector
  v = message_vector σ r

  abbrev blamed : ℕ
  blamed = condemning σ c v

  -- what would come of its delivery
  pub prospect_cases : (P : Prospect → Type 0) → (condemned σ c v ≡ true → P (WouldDrop blamed (incarnation (pair_of v blamed)))) →
      (conflict c (ours σ c) (theirs σ c r) ≡ true → P WouldWait) → (chain_full L σ c ≡ true → P NoPlaceLeft) →
      (condemned σ c v ≡ false → conflict c (ours σ c) (theirs σ c r) ≡ false → chain_full L σ c ≡ false → P WouldBegin) → P (prospect L σ r)
  unfolding prospect
  prospect_cases P drops waits full begins =
      cond_ind P (condemned σ c v) drops (λ spared. cond_ind P (conflict c (ours σ c) (theirs σ c r)) waits (λ agree. cond_ind P (chain_full L σ c) full (begins spared agree)))

  -- and what comes of it, where it is message m
  pub deliver_cases : (m : ℕ) (P : After → Type 0) →
      (condemned σ c v ≡ true → P (after (Dropped m blamed (incarnation (pair_of v blamed))) (put σ (MessageState r) state_dropped))) →
      (conflict c (ours σ c) (theirs σ c r) ≡ true → P (after (Waits m) σ)) → (chain_full L σ c ≡ true → P (refuse PLACES_USED_UP σ)) →
      (condemned σ c v ≡ false → conflict c (ours σ c) (theirs σ c r) ≡ false → chain_full L σ c ≡ false →
      P (interval_begins σ c m r (merged (ours σ c) (theirs σ c r)))) → P (deliver L σ m r)
  unfolding deliver comes_of
  deliver_cases m P = prospect_cases (λ q. P (comes_of σ m r q))
