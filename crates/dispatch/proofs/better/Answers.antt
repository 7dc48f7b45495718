-- A test that fails leaves the candidate (best_later, best_waits); where both pass there is a new one (best_new).
use Rattle.std.proofs.Common.{arith}
use Rattle.rules.specs.Limits.{house}
use Rattle.laws.specs.Facts.{form}
use Rattle.laws.specs.Chain.{taken_there}
use Rattle.dispatch.specs.Searching.{best_later, best_waits, best_new}
use Rattle.dispatch.specs.Returns.{has_turn}
use Rattle.dispatch.proofs.better.Goals as goal

pub of-i-requires : goal.of-i-requires
of-i-requires c = let a = c.requires in (has_turn a.0 a.2 a.1 c.receiver.ensures).1

pub returns-then-ahead_of-i : goal.returns-then-ahead_of-i
returns-then-ahead_of-i c =
    let a = c.requires in
    best_later a.3 a.1 c.receiver.ensures c.of-i.ensures (omega (arith, c.if-ahead_of-i.true, c.ahead_of.ensures))

pub prospect-p-requires : goal.prospect-p-requires
prospect-p-requires c = let a = c.requires in taken_there (form house _ a.0.good) a.2

pub returns-then-not-goes : goal.returns-then-not-goes
returns-then-not-goes c =
    let a = c.requires in
    best_waits a.3 a.1 c.receiver.ensures c.of-i.ensures _ c.prospect-p.ensures _ c.goes.ensures c.if-not-goes.true

pub returns : goal.returns
returns c =
    let a = c.requires in
    best_new a.3 a.1 c.receiver.ensures c.of-i.ensures _ c.prospect-p.ensures _ c.goes.ensures a.2
    (omega (arith, c.if-ahead_of-i.false, c.ahead_of.ensures)) c.if-not-goes.false
