-- The search goes round as the definition does (call_round): nobody is served (call_none), or the one that was found.
use Rattle.std.proofs.Common.{arith, mod-lt}
use Rattle.rules.specs.Limits.{house}
use Rattle.laws.specs.Facts.{form}
use Rattle.dispatch.specs.Returns.{some_size, call_round, call_none}
use Rattle.dispatch.proofs.dispatch_formed.Goals as goal

pub nonzero_rem-from : goal.nonzero_rem-from
nonzero_rem-from c = omega (arith, some_size c.requires c.size-n.ensures)

pub invariant_of-search : goal.invariant_of-search
invariant_of-search c =
    record {
      from_lt = mod-lt _ (some_size c.requires c.size-n.ensures);
      n_le = omega (arith, (form house _ c.requires.good).size_le, c.size-n.ensures);
    }

pub search-requires : goal.search-requires
search-requires c = (c.requires, call_round c.requires c.size-n.ensures c.served.ensures)

pub returns-in_default : goal.returns-in_default
returns-in_default c = call_none c.requires c.in_default.ensures
