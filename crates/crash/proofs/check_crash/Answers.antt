-- The tests are those of the definition, in its order.
use Rattle.std.proofs.Common.{rules}
use Rattle.crash.specs.Crashing.{crash_unknown, crash_named, crash_numbers, crash_places, crash_full_lem, crash_late, crash_free}
use Rattle.crash.proofs.check_crash.Goals as goal

pub returns-then-size-c : goal.returns-then-size-c
returns-then-size-c c = search crash_unknown

pub stable_count-requires : goal.stable_count-requires
stable_count-requires c = search (rules, crash_named)

pub no_place-requires : goal.no_place-requires
no_place-requires c = search (rules, crash_named, crash_places, crash_numbers)

pub returns-then-no_place : goal.returns-then-no_place
returns-then-no_place c = search crash_full_lem

pub incarnation-requires : goal.incarnation-requires
incarnation-requires c = search (rules, crash_named)

pub returns-then-incarnation-ge-LAST_INCARNATION : goal.returns-then-incarnation-ge-LAST_INCARNATION
returns-then-incarnation-ge-LAST_INCARNATION c = search crash_late

pub returns : goal.returns
returns c = search crash_free
