use Rattle.std.proofs.Common.{◌≡◌, take}
use Rattle.peer_messages.specs.declared.message.Body.TheVariants.{Mend}
use Rattle.node_steps.specs.Effects.{send_to}
use Rattle.read_coord.specs.Keeping.{mend_with}
use Rattle.read_coord.proofs.sends.mend_all.Given as goal

abbrev pub invariant-loop-node : goal.invariant-loop-node
invariant-loop-node l = l.sends.items ≡ send_to l.request (Mend (mend_with l.partition l.merged)) (take l.node-index l.nodes)
