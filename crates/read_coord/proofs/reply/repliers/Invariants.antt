use Rattle.std.proofs.Common.{◌≡◌, take, map}
use Rattle.node_steps.specs.Reads.{replied_from}
use Rattle.read_coord.proofs.reply.repliers.Given as goal

abbrev pub invariant-loop-reply : goal.invariant-loop-reply
invariant-loop-reply l = l.nodes ≡ map replied_from (take l.reply-index l.replies)
