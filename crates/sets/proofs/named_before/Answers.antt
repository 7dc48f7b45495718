use Rattle.base.specs.Ranges.{anyb}
use Rattle.rules.specs.Sets.{nth, named_before}
use Rattle.std.specs.List.{list_any}
use Rattle.std.proofs.lemmas.List.Folds.{list_any_more}
use Rattle.std.proofs.Common.{◌≡◌, refl, sym, ap, ◌∙◌, Bool, ◌||◌, ◌==◌, List, ℕ, zero, suc, ◌≤◌, length, take, add-one, arith}
use Rattle.sets.proofs.named_before.Goals as goal

-- some of the first n words passes
taken : (p : ℕ → Bool) (l : List ℕ) (n : ℕ) → n ≤ length l → list_any p (take n l) ≡ anyb n (λ (j : ℕ). p (nth l j))
unfolding anyb
taken p l zero h = refl
taken p l (suc n) h =
    ap (λ (k : ℕ). list_any p (take k l)) (sym (add-one n)) ∙ list_any_more p l n 0 (omega arith)
    ∙ ap (λ (b : Bool). b || p (nth l n)) (taken p l n (omega arith))

pub returns : goal.returns
unfolding named_before
returns c = c.contains.ensures.value ∙ taken (λ (m : ℕ). m == nth c.args.list.now c.args.i) _ _ (omega arith)
