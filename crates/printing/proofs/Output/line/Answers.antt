use Rattle.printing.proofs.Writing.{listing_start, listing_room, listing_more, behind_word, line_written}
use Rattle.std.proofs.Common.{refl, ◌∙◌, length-set, arith}
use Rattle.printing.proofs.Output.line.Goals as goal

pub loop-value-init : goal.loop-value-init
loop-value-init c = record { listed = listing_start _ _ _; same_reference = refl }

pub number-requires : goal.number-requires
number-requires c = omega (arith, listing_room c.loop-value.invariant.listed (behind_word _ c.word.ensures.written c.requires))

pub loop-value-preserved : goal.loop-value-preserved
loop-value-preserved c =
    let inv = c.loop-value.invariant in
    record {
      listed = listing_more inv.listed (behind_word _ c.word.ensures.written c.requires) c.number.ensures.written c.loop-value-test.true;
      same_reference = c.number.ensures.same_reference ∙ inv.same_reference;
    }

pub bounds-self-self : goal.bounds-self-self
bounds-self-self c = omega (arith, listing_room c.loop-value.invariant.listed (behind_word _ c.word.ensures.written c.requires))

pub invariant_of-self : goal.invariant_of-self
invariant_of-self c =
    record { fits = simp length-set (omega (arith, listing_room c.loop-value.invariant.listed (behind_word _ c.word.ensures.written c.requires))) }

pub returns-clause-written : goal.returns-clause-written
returns-clause-written c = line_written c.word.ensures.written c.requires c.loop-value.invariant.listed c.loop-value-test.false
