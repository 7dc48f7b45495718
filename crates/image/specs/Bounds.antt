-- A step on a state in form leaves no live count above the places of the table, and no more records in use than it has. So all that the
-- model sees of what is left stands in its table.
use Rattle.std.specs.Prelude.{◌≡◌, refl, Bool, true, List, ◌⊎◌, ◌==◌}
use Rattle.std.proofs.Math.Path.{sym, ap, fun_ext}
use Rattle.std.proofs.Common.{◌∙◌, inl, inr, le-ltb}
use Rattle.std.proofs.Math.Bool.{false, cond}
use Prim.Native.Nat.{ℕ, ◌+◌, ◌≤◌, ◌<◌}
use native.Mathlib.Omega.{arith}
use Rattle.base.specs.Choice.{◌<?◌, cond_ind, le?}
use Rattle.base.specs.Cases.{first_of}
use Rattle.table.specs.Field.{State, Known, End, Size, Gap, Degree, Incarnation, LiveCount, StableCount, PlaceIncarnation, Flag, Sender, Receiver, SendingIncarnation, SendingNumber, word}
use Rattle.table.specs.Layout.{controllers, places, messages}
use Rattle.table.specs.Words.{Agree}
use Rattle.table.specs.Numbering.{number_of, last_live, place_of, used, record_of}
use Rattle.table.proofs.Numbering.{number_from_lem, place_lt, none_used, number_same, used_agree, last_agree, record_agree}
use Rattle.rules.specs.Limits.{house}
use Rattle.rules.specs.Form.{in_form}
use Rattle.rules.specs.Steps.{AfterBoth, refusing_both, open_house, open_refusals, step_open}
use Rattle.rules.specs.Step.{perform, step_on}
use Rattle.rules.specs.declared.Command.{Command}
use Rattle.rules.specs.declared.Command.TheVariants.{Open, SetDegree, Send, Release, Deliver, Log, Checkpoint, Tell, Crash, Hear, SetGap}
use Rattle.history.specs.History.{interval}
use Rattle.model.specs.Model.{absent_controller}
use Rattle.laws.specs.Facts.{Form, form, controller_form, no_controller_lem, house_fits}
use Rattle.keeping.proofs.Steps.{form_kept}
use Rattle.laws.specs.Agree.{place_vector_same, message_vector_same}
use Rattle.image.specs.Functions.{rows_same, within, within_same}
use Rattle.image.specs.Image.{no_vec, vec_of, place_vec, controller_by, model_controller, model_message, image, message_kept, controller_path, model_path, renumbered}

-- live counts and records in use, within the table
pub record Bounded (σ : State) : Type 0 where
  pub live_le : (c : ℕ) → c < controllers → σ (LiveCount c) ≤ places
  pub used_le : used σ ≤ messages

-- The model looks at no place and no record past them, so that states with the same words have one model.
module _ (σ τ : State) (e : Agree σ τ) (b : Bounded σ) where
  -- the place of a live number is in the table
  place_in : (c x : ℕ) → c < controllers → x ≤ last_live σ c → place_of σ c x < places
  place_in c x cl q =
      let live = σ (LiveCount c) in
      let top = b.live_le c cl in
      le? 1 live (λ l. let p = place_lt σ c live x l q in omega arith)
      (λ l. let p = place_lt σ c 1 x (omega arith) (omega (arith, number_from_lem σ c live, number_from_lem σ c 1)) in omega arith)

  -- a controller
  controller_same : (c : ℕ) → c < controllers → model_controller τ c ≡ model_controller σ c
  unfolding controller_by
  controller_same c cl =
      let x : ℕ = last_live σ c in
      let live : number_of σ c (τ (LiveCount c)) ≡ x = ap (number_of σ c) (sym (e (LiveCount c) (cl, omega arith))) in
      renumbered σ τ c (λ k. sym (number_same σ τ e c k cl))
      ∙ controller_path (sym (e (Degree c) (cl, omega arith))) (sym (e (Incarnation c) (cl, omega arith))) live (ap (number_of σ c) (sym (e (StableCount c) (cl, omega arith))))
      (fun_ext (λ owner. fun_ext (λ i. rows_same _ _ owner i (λ ol il. sym (e (Known c owner i) (cl, ol, il))))))
      (fun_ext (λ owner. fun_ext (λ i. rows_same _ _ owner i (λ ol il. sym (e (End c owner i) (cl, ol, il))))))
      (ap (λ n. within n 0 (λ y. τ (PlaceIncarnation c (place_of σ c y)))) live
      ∙ within_same x 0 _ _ (λ y p q. sym (e (PlaceIncarnation c (place_of σ c y)) (cl, place_in c y cl q, omega arith))))
      (ap (λ n. within n no_vec (λ y. place_vec τ c (place_of σ c y))) live
      ∙ within_same x no_vec _ _ (λ y p q. ap vec_of (sym (place_vector_same σ τ e c (place_of σ c y) cl (place_in c y cl q)))))
      (ap (λ n. within n false (λ y. τ (Flag c (place_of σ c y)) == 1)) live
      ∙ within_same x false _ _ (λ y p q. ap (λ z. z == 1) (sym (e (Flag c (place_of σ c y)) (cl, place_in c y cl q, omega arith)))))

  -- a message
  message_same : (r : ℕ) → r < messages → model_message τ r ≡ model_message σ r
  unfolding model_message
  message_same r rl =
      λ d. record {
        to = sym (e (Receiver r) (rl, omega arith)) d;
        from = interval (sym (e (Sender r) (rl, omega arith)) d) (sym (e (SendingIncarnation r) (rl, omega arith)) d) (sym (e (SendingNumber r) (rl, omega arith)) d);
        vec = vec_of (sym (message_vector_same σ τ e r rl) d);
      }

  -- the whole
  pub image_same : image τ ≡ image σ
  unfolding image
  image_same =
      let count = used_agree σ τ e in
      let room = b.used_le in
      model_path (fun_ext (λ c. le? (c + 1) controllers (λ l. ap (λ k. cond (c <? controllers) k absent_controller) (controller_same c (omega arith)))
      (λ l. rw (le-ltb c controllers (omega arith)))))
      (sym (last_agree σ τ e))
      (fun_ext (λ m. let same = record_agree σ τ e m room in
      message_kept σ τ m (λ l. (omega arith, ap (model_message τ) (sym same) ∙ message_same (record_of σ m) (omega arith))) (λ l. omega arith)))
      (sym (e Gap (omega arith)))

-- a house in form is bounded: of the controllers from n on every word is 0
pub bounded_form : (σ : State) → Form house σ → Bounded σ
bounded_form σ f =
    record {
      live_le = λ c cl.
          le? (c + 1) (σ Size) (λ l. (controller_form f c (omega arith)).live_le) (λ l. omega (arith, no_controller_lem f c (word (LiveCount c)) cl (omega arith) (omega arith)));
      used_le = f.used_le;
    }

-- a house just opened is
pub bounded_opened : (n k : ℕ) → Bounded (open_house n k)
unfolding open_house
bounded_opened n k =
    record {
      live_le = λ c cl. cond_ind (λ x. x ≤ places) (c <? n) (λ e. omega arith) (λ e. omega arith);
      used_le = omega (arith, none_used (open_house n k) refl);
    }

-- every step on a state in form leaves one in form; a state that isn't is left as it was, unless an opening is done
pub step_bounded : (σ : State) (g : List ℕ) (x : Command) → ((step_on house σ g x).left ≡ σ) ⊎ Bounded (step_on house σ g x).left
unfolding step_on perform step_open refusing_both
step_bounded σ g x = go (in_form house σ) refl
  where
    unformed : in_form house σ ≡ false → (x : Command) → ((step_on house σ g x).left ≡ σ) ⊎ Bounded (step_on house σ g x).left
    unformed e (Open n k) =
        cond_ind (λ (o : AfterBoth). (o.left ≡ σ) ⊎ Bounded o.left) (first_of (open_refusals house g n k) == 0) (λ _. inr (bounded_opened n k)) (λ _. inl refl)
    unformed e (SetDegree c k) = rw e (inl refl)
    unformed e (Send sender receiver payload) = rw e (inl refl)
    unformed e (Release m) = rw e (inl refl)
    unformed e (Deliver m) = rw e (inl refl)
    unformed e (Log c q) = rw e (inl refl)
    unformed e (Checkpoint c) = rw e (inl refl)
    unformed e (Tell owner holder) = rw e (inl refl)
    unformed e (Crash c) = rw e (inl refl)
    unformed e (Hear hearer owner i) = rw e (inl refl)
    unformed e (SetGap q) = rw e (inl refl)

    go : (b : Bool) → in_form house σ ≡ b → ((step_on house σ g x).left ≡ σ) ⊎ Bounded (step_on house σ g x).left
    go true e = inr (bounded_form _ (form house _ (form_kept house house_fits σ g x e)))
    go false e = unformed e x
