use denote.Param.Send.{sendable}
use Rattle.wired_node.proofs.Sent.{crosses}
use Rattle.wired_node.proofs.crossing.crosses_threads.Goals as goal

pub is_sent-requires-send-T : goal.is_sent-requires-send-T
is_sent-requires-send-T g c κs = search (crosses, sendable) depth 20

pub is_sent-requires-2-send-T : goal.is_sent-requires-2-send-T
is_sent-requires-2-send-T g c κs within = let sent = c.type_bounds.send-R in search (crosses, sendable) depth 20

pub is_sent-requires-3-send-T : goal.is_sent-requires-3-send-T
is_sent-requires-3-send-T g c κs within = let sent = c.type_bounds.send-R in search (crosses, sendable) depth 20

pub is_shared-requires-sync-T : goal.is_shared-requires-sync-T
is_shared-requires-sync-T g c κs within = let sent = c.type_bounds.send-R in search (crosses, sendable) depth 20
