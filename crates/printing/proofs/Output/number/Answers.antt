use Rattle.printing.proofs.Writing.{storing_start, storing_place, storing_more, storing_end, number_written, decimal_size}
use Rattle.std.proofs.Common.{refl, arith, length-set}
use Rattle.printing.proofs.Output.number.Goals as goal

pub overflow_add-last : goal.overflow_add-last
overflow_add-last c = omega (arith, c.requires, decimal_size c.args.v)

pub loop-rest-init : goal.loop-rest-init
loop-rest-init c = record { stored = storing_start _ _ _ _ (omega arith) c.digit_count.ensures; same_reference = refl }

pub bounds-self-i : goal.bounds-self-i
bounds-self-i c = (storing_place c.loop-rest.invariant.stored (simp length-set c.requires)).1

pub overflow_sub-i : goal.overflow_sub-i
overflow_sub-i c = omega (arith, storing_place c.loop-rest.invariant.stored (simp length-set c.requires))

pub loop-rest-preserved : goal.loop-rest-preserved
loop-rest-preserved c =
    let inv = c.loop-rest.invariant in
    record { stored = storing_more inv.stored (simp length-set c.requires) c.loop-rest-test.true; same_reference = inv.same_reference }

pub bounds-self-i-2 : goal.bounds-self-i-2
bounds-self-i-2 c = (storing_place c.loop-rest.invariant.stored (simp length-set c.requires)).1

pub overflow_add-self-3 : goal.overflow_add-self-3
overflow_add-self-3 c = omega (arith, c.requires, decimal_size c.args.v)

pub invariant_of-self-2 : goal.invariant_of-self-2
invariant_of-self-2 c =
    let size = c.loop-rest.invariant.stored.size in
    record { fits = simp length-set (omega (arith, c.requires, decimal_size c.args.v, size, length-set c.args.self.now.bytes.now c.args.self.now.end 32)) }

pub returns-clause-written : goal.returns-clause-written
returns-clause-written c =
    number_written _ c.requires (omega arith) (storing_end c.loop-rest.invariant.stored (simp length-set c.requires) c.loop-rest-test.false)
