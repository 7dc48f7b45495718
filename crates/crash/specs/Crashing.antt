-- What X counts on, and what it leaves.
use Rattle.std.specs.Prelude.{◌≡◌, refl, Bool, true, false, List, ℕ, ◌-◌, ◌≤◌, ◌<◌, length}
use Rattle.std.proofs.Common.{sym, ◌∙◌, subst, arith, le-leb}
use Rattle.std.proofs.Math.Path.{ap}
use Rattle.std.proofs.lemmas.Bool.{lt-leb}
use Rattle.base.specs.Cases.{Case, first_of, none, hit, skip}
use Rattle.table.specs.Field.{State, End, Size, Incarnation, LiveCount, StableCount}
use Rattle.table.specs.Change.{put}
use Rattle.table.specs.Layout.{controllers, places, table_words}
use Rattle.table.specs.Words.{state, words}
use Rattle.table.specs.Numbering.{number_of, last_live}
use Rattle.rules.specs.Limits.{house, last_incarnation, last_number}
use Rattle.rules.specs.Refusal.{CONTROLLER, PLACES_USED_UP, INCARNATIONS_USED_UP}
use Rattle.rules.specs.Shared.{removed, replayed}
use Rattle.rules.specs.Steps.{no_controller, no_place, crash_full, crash_refusals, crashed, step_crash}
use Rattle.rules.specs.Step.{out, written}
use Rattle.rules.specs.declared.Answer.TheVariants.{Crashed}
use Rattle.laws.specs.Facts.{form, controller_form, house_fits}
use Rattle.laws.specs.Allowed.{crash_allowed, room_left}
use Rattle.laws.specs.Answering.{Lent, granted}
use Rattle.laws.specs.Chain.{Chain, chain_of_lem, Starts, starts_put, starts_words}
use Rattle.laws.specs.Kept.{then_removed}

-- The code has read n, how many controllers there are, k, the stable count, whether a place is left after that, and i,
-- the incarnation: which refusal applies.
module _ (t : List ℕ) (c n : ℕ) (en : n ≡ state t Size) where
  abbrev cases : List Case
  cases = crash_refusals house (state t) c

  pub crash_unknown : n ≤ c → CONTROLLER ≡ first_of cases
  crash_unknown l = hit _ _ _ (le-leb (state t Size) c (omega arith))

  module _ (l : c < n) where
    known : no_controller (state t) c ≡ false
    known = lt-leb (state t Size) c (omega arith)

    chain : Lent t → Chain (state t) c
    chain w = chain_of_lem t c w (omega arith)

    pub crash_named : Lent t → c < controllers
    crash_named w = (chain w).named

    pub crash_numbers : Lent t → last_live (state t) c ≤ last_number
    crash_numbers w = (chain w).numbers_le

    module _ (k : ℕ) (ek : k ≡ state t (StableCount c)) where
      pub crash_places : Lent t → k ≤ places
      crash_places w = omega (arith, (chain w).live_le, (controller_form (form house (state t) w.good) c (omega arith)).stable_le)

      module _ (full : Bool) (ef : full ≡ no_place house (state t) c k) where
        is_full : full ≡ crash_full house (state t) c
        is_full = ef ∙ ap (no_place house (state t) c) ek

        pub crash_full_lem : full ≡ true → PLACES_USED_UP ≡ first_of cases
        crash_full_lem m = skip _ _ _ _ known (hit _ _ _ (sym is_full ∙ m))

        module _ (m : full ≡ false) (i : ℕ) (ei : i ≡ state t (Incarnation c)) where
          left : crash_full house (state t) c ≡ false
          left = sym is_full ∙ m

          pub crash_late : last_incarnation ≤ i → INCARNATIONS_USED_UP ≡ first_of cases
          crash_late h = skip _ _ _ _ known (skip _ _ _ _ left (hit _ _ _ (le-leb last_incarnation (state t (Incarnation c)) (omega arith))))

          pub crash_free : i < last_incarnation → 0 ≡ first_of cases
          crash_free h = skip _ _ _ _ known (skip _ _ _ _ left (skip _ _ _ _ (lt-leb last_incarnation (state t (Incarnation c)) (omega arith)) none))

-- a crash that none of its refusals stops
pub record Crashes (t : List ℕ) (c : ℕ) : Type 0 where
  pub free : 0 ≡ first_of (crash_refusals house (state t) c)
  pub long : length t ≡ table_words
  pub starts : Starts (state t) c (state t (StableCount c))

pub crashes : (t : List ℕ) (c : ℕ) → Lent t → 0 ≡ first_of (crash_refusals house (state t) c) → Crashes t c
crashes t c l e =
    let a = crash_allowed house (state t) c e in
    let k = controller_form (form house (state t) l.good) c a.controller_lt in
    record {
      free = e;
      long = l.long;
      starts = record { chain = chain_of_lem t c l a.controller_lt; kept = k.stable_pos; room = room_left house (state t) (form house (state t) l.good) house_fits c _ a.place_left; below = k.stable_le; left = a.incarnation_lt };
    }

-- The code has read k, the stable count, i, the incarnation, and x, the kept number. t₁ has the end word.
module _ (t t₁ : List ℕ) (c k i x : ℕ) (s : Starts (state t) c (state t (StableCount c))) (ek : k ≡ state t (StableCount c))
    (e₁ : t₁ ≡ words (put (state t) (End c c i) x)) where
  abbrev ended : State
  ended = put (state t) (End c c i) x

  ended_starts : Starts ended c k
  ended_starts = starts_put _ c k (End c c i) x refl (subst (Starts (state t) c) (sym ek) s)

  pub lost_starts : Starts (state t₁) c k
  lost_starts = starts_words ended c k e₁ ended_starts

  pub lost_words : (t₂ : List ℕ) → i ≡ state t (Incarnation c) → x ≡ number_of (state t) c k → t₂ ≡ words (removed (state t₁) c k) → t₂ ≡ words (crashed (state t) c)
  unfolding crashed
  lost_words t₂ ei ex e₂ =
      let n = ex ∙ ap (number_of (state t) c) ek in
      then_removed ended c k ended_starts e₁ e₂ ∙ (λ d. words (removed (put (state t) (End c c (ei d)) (n d)) c (ek d)))

-- answer and words are those of the step
pub crash_done : (t u : List ℕ) (c i live k x again : ℕ) → Crashes t c → i ≡ state t (Incarnation c) → live ≡ state t (LiveCount c) → k ≡ state t (StableCount c) →
    x ≡ number_of (state t) c k → again ≡ replayed (state t) c k → u ≡ words (crashed (state t) c) →
    out (Crashed c i x (live - k) again) u ≡ written (step_crash house (state t) c)
unfolding step_crash
crash_done t u c i live k x again w ei el ek ex ea e =
    let n = ex ∙ ap (number_of (state t) c) ek in
    let a = ea ∙ ap (replayed (state t) c) ek in
    granted _ _ _ _ _ w.free (λ d. out (Crashed c (ei d) (n d) (el d - ek d) (a d)) (e d))
