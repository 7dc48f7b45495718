-- The tests are those of the definition, in its order.
use Rattle.std.proofs.Common.{rules}
use Rattle.hearing.specs.Hearing.{hear_unknown, hearer_named, owner_named, hear_beyond, hear_unended, hear_again, hear_free}
use Rattle.hearing.proofs.check_hear.Goals as goal

pub returns-then-n-hearer : goal.returns-then-n-hearer
returns-then-n-hearer c = search hear_unknown

pub returns-then-i-gt-LAST_INCARNATION : goal.returns-then-i-gt-LAST_INCARNATION
returns-then-i-gt-LAST_INCARNATION c = search hear_beyond

pub end-requires : goal.end-requires
end-requires c = (search owner_named, search owner_named, search rules)

pub returns-then-end-eq0 : goal.returns-then-end-eq0
returns-then-end-eq0 c = search hear_unended

pub end-requires-2 : goal.end-requires-2
end-requires-2 c = (search hearer_named, search owner_named, search rules)

pub returns-then-end-ne0 : goal.returns-then-end-ne0
returns-then-end-ne0 c = search hear_again

pub returns : goal.returns
returns c = search hear_free
