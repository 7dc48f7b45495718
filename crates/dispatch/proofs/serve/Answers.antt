-- What comes of the message, and then the word of the controller served last, is what the call leaves (call_served).
use Rattle.dispatch.specs.Returns.{call_served}
use Rattle.dispatch.proofs.serve.Goals as goal

pub returns : goal.returns
returns c = call_served c.args.t.now c.requires c.receiver-c.ensures c.message_of-m.ensures c.come_of-a.ensures c.set_served.ensures
