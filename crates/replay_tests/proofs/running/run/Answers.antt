use denote.Param.Send.{sendable}
use Rattle.wired_node.proofs.Sent.{crosses}
use Rattle.replay_tests.proofs.running.run.Goals as goal

pub run_nodes-ran-requires-send-N : goal.run_nodes-ran-requires-send-N
run_nodes-ran-requires-send-N g c κs within = let sent = c.type_bounds.send-R in search (crosses, sendable) depth 20

pub run_nodes-ran-requires-send-N-Entry : goal.run_nodes-ran-requires-send-N-Entry
run_nodes-ran-requires-send-N-Entry g c κs within = search (crosses, sendable) depth 20
