-- The tests are those of the refusals, in their order; past each of them the rest decides.
use Rattle.base.specs.Cases.{hit, skip, none}
use Rattle.sets.specs.Ready.{Listed, listed, or_first, or_second}
use Rattle.laws.specs.Sets.{some_named}
use Rattle.std.proofs.Common.{sym, ◌∙◌}
use Rattle.sets.proofs.check_set.Goals as goal
use Rattle.sets.proofs.check_set.Goals.{Else-some_absent}

-- all are there
all_listed : (c : Else-some_absent) → Listed c.args.t.now c.args.list.now
all_listed c = listed _ _ c.requires (sym c.some_absent.ensures ∙ c.if-some_absent.false)

pub returns-then-not-is_sound : goal.returns-then-not-is_sound
returns-then-not-is_sound c =
    hit _ _ _ (rw (← c.is_sound.ensures, c.if-not-is_sound.true))

pub returns-then-some_absent : goal.returns-then-some_absent
returns-then-some_absent c =
    skip _ _ _ _ (rw (← c.is_sound.ensures, c.if-not-is_sound.false))
    (hit _ _ _ (sym c.some_absent.ensures ∙ c.if-some_absent.true))

pub returns-then-list : goal.returns-then-list
returns-then-list c =
    skip _ _ _ _ (rw (← c.is_sound.ensures, c.if-not-is_sound.false))
    (skip _ _ _ _ (sym c.some_absent.ensures ∙ c.if-some_absent.false)
    (hit _ _ _ (or_first _ _ c.if-list.true)))

pub returns-then-named_twice : goal.returns-then-named_twice
returns-then-named_twice c =
    skip _ _ _ _ (rw (← c.is_sound.ensures, c.if-not-is_sound.false))
    (skip _ _ _ _ (sym c.some_absent.ensures ∙ c.if-some_absent.false)
    (hit _ _ _ (or_second _ _ _ c.if-list.false (sym c.named_twice.ensures ∙ c.if-named_twice.true))))

pub some_not_held-requires : goal.some_not_held-requires
some_not_held-requires c = all_listed (goal.at.some_not_held-requires c).Else-some_absent

pub returns-then-some_not_held : goal.returns-then-some_not_held
returns-then-some_not_held c =
    skip _ _ _ _ (rw (← c.is_sound.ensures, c.if-not-is_sound.false))
    (skip _ _ _ _ (sym c.some_absent.ensures ∙ c.if-some_absent.false)
    (skip _ _ _ _ (or_second _ _ _ c.if-list.false (sym c.named_twice.ensures ∙ c.if-named_twice.false))
    (hit _ _ _ (sym c.some_not_held.ensures ∙ c.if-some_not_held.true))))

pub many_senders-requires : goal.many_senders-requires
many_senders-requires c = (all_listed (goal.at.many_senders-requires c).Else-some_absent, some_named c.args.list.now c.if-list.false)

pub returns-then-many_senders : goal.returns-then-many_senders
returns-then-many_senders c =
    skip _ _ _ _ (rw (← c.is_sound.ensures, c.if-not-is_sound.false))
    (skip _ _ _ _ (sym c.some_absent.ensures ∙ c.if-some_absent.false)
    (skip _ _ _ _ (or_second _ _ _ c.if-list.false (sym c.named_twice.ensures ∙ c.if-named_twice.false))
    (skip _ _ _ _ (sym c.some_not_held.ensures ∙ c.if-some_not_held.false)
    (hit _ _ _ (sym c.many_senders.ensures ∙ c.if-many_senders.true)))))

pub returns : goal.returns
returns c =
    skip _ _ _ _ (rw (← c.is_sound.ensures, c.if-not-is_sound.false))
    (skip _ _ _ _ (sym c.some_absent.ensures ∙ c.if-some_absent.false)
    (skip _ _ _ _ (or_second _ _ _ c.if-list.false (sym c.named_twice.ensures ∙ c.if-named_twice.false))
    (skip _ _ _ _ (sym c.some_not_held.ensures ∙ c.if-some_not_held.false)
    (skip _ _ _ _ (sym c.many_senders.ensures ∙ c.if-many_senders.false)
    (none)))))
