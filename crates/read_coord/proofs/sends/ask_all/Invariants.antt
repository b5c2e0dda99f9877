use Rattle.std.proofs.Common.{◌≡◌, take}
use Rattle.peer_messages.specs.declared.message.Body.TheVariants.{Read}
use Rattle.peer_messages.specs.Settings.{up_of}
use Rattle.node_steps.specs.Effects.{send_to}
use Rattle.read_coord.proofs.sends.ask_all.Given as goal

abbrev pub invariant-loop-node : goal.invariant-loop-node
invariant-loop-node l = l.sends.items ≡ send_to l.request (Read l.query) (up_of l.down (take l.node-index l.nodes))
