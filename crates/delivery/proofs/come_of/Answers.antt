-- Each arm leaves what the definition has for its prospect (comes).
use Rattle.table.proofs.Words.{words_state}
use Rattle.rules.specs.Steps.{comes_of}
use Rattle.std.proofs.Common.{ap}
use Rattle.rules.specs.Step.{out}
use Rattle.delivery.specs.Delivers.{comes}
use Rattle.delivery.proofs.come_of.Goals as goal

pub returns-in-WouldDrop : goal.returns-in-WouldDrop
unfolding comes_of
returns-in-WouldDrop c = comes _ _ _ _ _ c.in-WouldDrop.is _ _ (ap (out _) c.set_message_state.ensures)

pub returns-in-WouldWait : goal.returns-in-WouldWait
unfolding comes_of
returns-in-WouldWait c = comes _ _ _ _ _ c.in-WouldWait.is _ _ (ap (out _) (words_state c.args.t.now c.told-t))

pub returns-in-NoPlaceLeft : goal.returns-in-NoPlaceLeft
unfolding comes_of
returns-in-NoPlaceLeft c = comes _ _ _ _ _ c.in-NoPlaceLeft.is _ _ (ap (out _) (words_state c.args.t.now c.told-t))
