use Rattle.std.proofs.Common.{◌≡◌, take}
use Rattle.peer_messages.specs.declared.message.Body.TheVariants.{Write}
use Rattle.peer_messages.specs.Settings.{up_of}
use Rattle.node_steps.specs.Effects.{send_to}
use Rattle.write_coord.proofs.write_to_all.Given as goal

abbrev pub invariant-loop-node : goal.invariant-loop-node
invariant-loop-node l = l.sends.items ≡ send_to l.request (Write l.mutation) (up_of l.down (take l.node-index l.nodes))
