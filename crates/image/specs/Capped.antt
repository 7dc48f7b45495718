-- Flags and how much is replayed, a checkpoint, and W4's ceiling, as the model has them.
use Rattle.std.specs.Prelude.{◌≡◌, Bool, true, false, ◌&&◌, ◌≢◌, ◌==◌}
use Rattle.std.proofs.Math.Path.{refl, ap, ap₂}
use Rattle.std.proofs.Common.{sym, ◌∙◌, arith}
use Rattle.std.proofs.Math.Bool.{not, cond}
use Prim.Native.Nat.{ℕ, zero, suc, ◌+◌, ◌-◌, ◌≤◌, ◌<◌}
use Rattle.std.proofs.Math.Numerals.{add-one}
use Rattle.base.specs.Choice.{◌≤?◌, ◌<?◌, cond_ind}
use Rattle.table.specs.Field.{State, OfPlace, Incarnation, LiveCount, StableCount, Flag, PairIncarnation, PairNumber, same, word, second}
use Rattle.table.specs.Change.{put, put_same, put_other}
use Rattle.table.specs.Layout.{controllers}
use Rattle.table.specs.Numbering.{number_of, place_of}
use Rattle.table.proofs.Numbering.{number_from_lem, place_of_number, number_of_place, place_of_count}
use Rattle.rules.specs.Limits.{last_incarnation}
use Rattle.rules.specs.Vector.{place_vector}
use Rattle.rules.specs.Shared.{newest_place, logged, logged_to, checkpointed, latest_flagged, replayed, forced, capped}
use Rattle.model.specs.Model.{Controller, put_controller, logged_controller, flag_controller, checkpoint_controller, latest, above_latest, forced_model, cap_model}
use Rattle.laws.specs.Numbers.{numbers_logged_to}
use Rattle.laws.specs.Records.{place_vector_of}
use Rattle.image.specs.Functions.{within, within_last}
use Rattle.image.specs.Image.{no_vec, vec_of, controller_by, image, controller_path, one_controller, then_controller}
use Rattle.image.specs.Changes.{nothing_else, away_put}
use Rattle.image.specs.Reads.{live_is, gap_is, flag_is}
use Rattle.image.specs.Controllers.{image_logged_to}
use Rattle.image.specs.Tests.{Fresh, fresh_kept}

-- a controller of the house, its incarnation and its live count: what logging and a checkpoint count on, whatever the limits
pub record Counted (σ : State) (c : ℕ) : Type 0 where
  pub named : c < controllers
  pub incarnation_le : σ (Incarnation c) ≤ last_incarnation
  pub live_pos : 1 ≤ σ (LiveCount c)

-- C: "flag the newest place"
image_flag : (σ : State) (c : ℕ) → c < controllers → 1 ≤ σ (LiveCount c) → number_of σ c 1 ≡ 1 →
    image (put σ (Flag c (newest_place σ c)) 1) ≡ put_controller (image σ) c (flag_controller ((image σ).controller c))
unfolding controller_by flag_controller put same
image_flag σ c cl l1 first =
    one_controller σ (put σ (Flag c p) 1) c flag_controller cl
    (controller_path refl refl refl refl refl refl refl (λ d. within x no_vec (λ y. vec_of (vector (place_of σ c y) d)))
    (within_last x false (λ y. σ (Flag c (place_of σ c y)) == 1) (λ y. put σ (Flag c p) 1 (Flag c (place_of σ c y)) == 1) true (omega (arith, number_from_lem σ c live, number_from_lem σ c 1))
    (ap (λ q. put σ (Flag c p) 1 (Flag c q) == 1) (place_of_count σ c live l1) ∙ ap (λ y. y == 1) (put_same σ (Flag c p) 1))
    (λ y q l. ap (λ y. y == 1) (put_other σ (Flag c p) (Flag c (place_of σ c y)) 1 (λ e. other y q l (ap second e))))))
    (away_put c σ σ (Flag c p) 1 (λ a. a refl) (nothing_else c σ))
  where
    live : ℕ
    live = σ (LiveCount c)

    p : ℕ
    p = newest_place σ c

    x : ℕ
    x = number_of σ c live

    stays : (q k : ℕ) → k ≢ word (Flag c p) → put σ (Flag c p) 1 (OfPlace c q k) ≡ σ (OfPlace c q k)
    stays q k ne = put_other σ (Flag c p) (OfPlace c q k) 1 (λ e. ne (ap word e))

    vector : (q : ℕ) → place_vector (put σ (Flag c p) 1) c q ≡ place_vector σ c q
    vector q =
        place_vector_of (put σ (Flag c p) 1) σ c q
        (λ owner _. (stays q (word (PairIncarnation c q owner)) (omega arith), stays q (word (PairNumber c q owner)) (omega arith)))

    other : (y : ℕ) → 1 ≤ y → y < x → place_of σ c y ≢ p
    other y q l e =
        let back = number_of_place σ c y (omega (arith, first)) in
        let top : number_of σ c (place_of σ c y + 1) ≡ x = ap (number_of σ c) (let h : place_of σ c y + 1 ≡ live = omega arith in h) in
        omega arith

module _ (σ : State) (c : ℕ) (w : Counted σ c) (z : Fresh σ) where
  -- the controller, and its live count
  abbrev k : Controller
  k = (image σ).controller c

  abbrev live : ℕ
  live = σ (LiveCount c)

  -- the latest checkpoint, and how much is replayed from it
  latest_is : (j : ℕ) → j ≤ live → latest_flagged σ c j ≡ latest k.flagged j
  unfolding latest_flagged latest
  latest_is zero l = refl
  latest_is (suc p) l =
      let x : number_of σ c (p + 1) ≡ suc p = z.count c (p + 1) w.named ∙ add-one p in
      let here = z.count c live w.named in
      let place = ap (place_of σ c) (sym x) ∙ place_of_number σ c p in
      let flag = flag_is σ c w.named (suc p) (omega arith) (omega arith) ∙ ap (λ q. σ (Flag c q) == 1) place in
      λ d. cond (sym flag d) (x d) (latest_is p (omega arith) d)

  pub replayed_is : (j : ℕ) → j ≤ live → replayed σ c j ≡ above_latest k (number_of σ c j)
  unfolding replayed
  replayed_is j l = ap (λ y. number_of σ c j - y) (latest_is j l ∙ ap (latest k.flagged) (sym (z.count c j w.named)))

  -- whether the newest interval is to be checkpointed as it begins
  forced_is : forced σ c ≡ forced_model (image σ) c
  unfolding forced forced_model
  forced_is = ap₂ (λ q y. not (q == 0) && (q ≤? y)) (sym (gap_is σ)) (replayed_is live (omega arith) ∙ ap (above_latest k) (sym (live_is σ c w.named)))

-- logging leaves the counts
live_logged : (σ : State) (c k : ℕ) → logged_to σ c k (LiveCount c) ≡ σ (LiveCount c)
unfolding logged_to logged put same
live_logged σ c k = cond_ind (λ (τ : State). τ (LiveCount c) ≡ σ (LiveCount c)) (σ (StableCount c) <? k) (λ e. refl) (λ e. refl)

counted_logged : (σ : State) (c k : ℕ) → Counted σ c → Counted (logged_to σ c k) c
unfolding logged_to logged put same
counted_logged σ c k w =
    cond_ind (λ τ. Counted τ c) (σ (StableCount c) <? k) (λ e. record { named = w.named; incarnation_le = w.incarnation_le; live_pos = w.live_pos }) (λ e. w)

-- C: "log all not yet stable, if any, as by L; flag the newest place"
pub image_checkpointed : (σ : State) (c : ℕ) → Counted σ c → Fresh σ → image (checkpointed σ c) ≡ put_controller (image σ) c (checkpoint_controller c ((image σ).controller c))
unfolding checkpointed
image_checkpointed σ c w z =
    let live = σ (LiveCount c) in
    let τ = logged_to σ c live in
    let k = (image σ).controller c in
    ap (λ p. image (put τ (Flag c p) 1)) (ap (λ n. n - 1) (sym (live_logged σ c live)))
    ∙ image_flag τ c w.named (counted_logged σ c live w).live_pos ((fresh_kept σ τ (numbers_logged_to σ c live) z).count c 1 w.named)
    ∙ then_controller (image σ) (image τ) c (logged_controller c k (number_of σ c live)) flag_controller (image_logged_to σ c live w.named (omega (arith, w.incarnation_le)))
    ∙ ap (λ x. put_controller (image σ) c (flag_controller (logged_controller c k x))) (sym (live_is σ c w.named))

-- W4: an interval that has just begun "is checkpointed as it begins", where it must be
pub image_capped : (σ : State) (c : ℕ) → Counted σ c → Fresh σ → image (capped σ c) ≡ cap_model (image σ) c
unfolding capped cap_model
image_capped σ c w z = split (forced σ c) ∙ ap (λ b. cond b (put_controller (image σ) c (checkpoint_controller c ((image σ).controller c))) (image σ)) (forced_is σ c w z)
  where
    split : (b : Bool) → image (cond b (checkpointed σ c) σ) ≡ cond b (put_controller (image σ) c (checkpoint_controller c ((image σ).controller c))) (image σ)
    split true = image_checkpointed σ c w z
    split false = refl
