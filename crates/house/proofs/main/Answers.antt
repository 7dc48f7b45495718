use Rattle.std.proofs.Common.{rules, ◌≡◌, sym, ◌∙◌, take, length, length-take-le}
use Rattle.session.proofs.Buffers.{reached_first, first_unformed, reached_next}
use Rattle.house.proofs.main.Goals as goal

pub new-house-requires : goal.new-house-requires
new-house-requires c = first_unformed

pub loop-init : goal.loop-init
loop-init c = record { reached = reached_first c.new-house.ensures.begun; bytes_long = search rules; out_long = search rules }

pub loop-preserved : goal.loop-preserved
loop-preserved c =
    let long : length (take c.in-Some.n c.read_in.new.bytes) ≡ c.in-Some.n = length-take-le _ _ (rw c.in-Some.is at c.read_in.ensures) in
    record {
      reached = reached_next (take c.in-Some.n c.read_in.new.bytes) c.loop.invariant.reached (λ z. c.if-n-eq0.false (sym long ∙ z)) c.serve-owed.ensures.answers;
      bytes_long = search rules;
      out_long = search rules;
    }
