-- An empty pair conflicts with none (conflict_empty); else the place's pair is near, and is filtered.
use Rattle.vector.specs.Conflict.{conflict_empty, pair_conflict}
use Rattle.rules.specs.Vector.{incarnation}
use Rattle.table.specs.Layout.{incarnations}
use Rattle.table.specs.Words.{state}
use Rattle.std.proofs.Common.{◌<◌, sym, subst, rules}
use Rattle.vector.proofs.place_pair_conflict.Goals as goal

pub returns-then-q-eq0 : goal.returns-then-q-eq0
returns-then-q-eq0 c = conflict_empty _ _ _ _ c.if-q-eq0.true

pub filter_pair-ours-requires : goal.filter_pair-ours-requires
filter_pair-ours-requires c = (search rules, search rules, subst (λ p. incarnation p < incarnations) (sym c.place_pair.ensures) (c.requires.3 _ c.requires.2))

pub returns : goal.returns
returns c =
    let a = c.args in
    pair_conflict (state a.t.now) a.c a.p a.owner _ _ _ _ c.place_pair.ensures c.filter_pair-ours.ensures c.conflict_pair.ensures
