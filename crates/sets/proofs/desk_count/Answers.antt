use mir.Val.{bool_byte}
use Rattle.rules.specs.Sets.{desks}
use Rattle.sets.specs.Desks.{desks_more, desks_fit}
use Rattle.std.proofs.Common.{◌≡◌, refl, ap, ◌∙◌, Bool, true, false, ℕ, cond, arith}
use Rattle.sets.proofs.desk_count.Goals as goal

-- a yes counts 1
counted : (b d : Bool) (x : ℕ) → x ≡ bool_byte b → b ≡ d → x ≡ cond d 1 0
counted true d x e q = e ∙ ap (λ (b : Bool). cond {A = ℕ} b 1 0) q
counted false d x e q = e ∙ ap (λ (b : Bool). cond {A = ℕ} b 1 0) q

pub loop-m-init : goal.loop-m-init
unfolding desks
loop-m-init c = refl

pub overflow_add-n : goal.overflow_add-n
overflow_add-n c = omega (arith, desks_fit _ _ _ _ _ c.loop-m.invariant (counted _ _ _ c.from-n.ensures c.for_desk.ensures), c.requires.1)

pub loop-m-preserved : goal.loop-m-preserved
loop-m-preserved c = desks_more _ _ _ _ _ c.loop-m.invariant (counted _ _ _ c.from-n.ensures c.for_desk.ensures)
