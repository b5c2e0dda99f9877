use Rattle.std.proofs.Common.{ℕ, ◌*◌, sym, ◌∙◌, arith}
use denote.Param.Send.{sendable}
use Rattle.cs_doors.specs.Lending.{HasLent}
use Rattle.served_doors.specs.Ledger.{ledger}
use Rattle.served_doors.specs.Opening.{IsFresh}
use Rattle.served_stores.specs.Shown.{shown}
use Rattle.wired_node.proofs.Sent.{crosses}
use Rattle.served_cluster.specs.Kinds.{DoorKind, ReplicaKind, StreamKind, kind_of_door, kind_of_replica, kind_of_streams}
use Rattle.served_cluster.proofs.Moves.{can_told, have_jobs, long_told}
use Rattle.served_cluster.proofs.Nodes.{all_run}
use Rattle.served_cluster.proofs.Said.{serves_run}
use Rattle.served_cluster.proofs.serving.serve_open.Given.{Over}
use Rattle.served_cluster.proofs.serving.serve_open.Goals as goal

abbrev replica : (g : Over) → ReplicaKind g.row.R.Denot
replica g = kind_of_replica g.R.Disk.Store.is_honest g.R.Replica.stands_for g.R.Replica.durable g.R.Replica.is_whole g.R.Replica.log_end g.R.Replica.since_flush g.R.Replica.disk g.R.Disk.Store.disk g.R.Disk.Store.faults

abbrev door : (g : Over) → DoorKind g.row.L-Door.Denot g.row.L-Door-Link.Denot
door g = kind_of_door g.L.Door.Door.given g.L.Door.Door.returned g.L.Door.Door.faults g.L.Door.Link.Link.remaining g.L.Door.Link.Link.written g.L.Door.Link.Link.faults

abbrev streams : (g : Over) → StreamKind g.row.S.Denot g.row.T.Denot
streams g = kind_of_streams g.S.Source.remaining g.S.Source.faults g.T.Sink.contents g.T.Sink.faults

pub put_together-requires-clause-runs : goal.put_together-requires-clause-runs
put_together-requires-clause-runs g c =
    all_run (replica g) c.args.nodes.items (shown g.D.Stores.holds g.D.Stores.faults g.D.Stores.taken g.D.Stores.is_out c.args.stores.now) c.requires.out

pub run_nodes-ran-requires-send-N : goal.run_nodes-ran-requires-send-N
run_nodes-ran-requires-send-N g c κs within = let sent = c.type_bounds.send-R in search (crosses, sendable) depth 20

pub run_nodes-ran-requires-send-N-Entry : goal.run_nodes-ran-requires-send-N-Entry
run_nodes-ran-requires-send-N-Entry g c κs within = search (crosses, sendable) depth 20

pub run_nodes-ran-requires-clause-count : goal.run_nodes-ran-requires-clause-count
run_nodes-ran-requires-clause-count g c κs within =
    let long = sym c.args.of_nodes.ok.0 ∙ c.requires.count ∙ c.args.nodes.ok.0 in
    have_jobs c.args.nodes.items c.args.of_nodes.items c.in-Ok.parts.items c.in-Ok.ensures long
    (IsFresh g.L.Door.Door.given g.L.Door.Door.returned g.L.Door.Door.faults) c.requires.open_doors

pub finish-requires-clause-can : goal.finish-requires-clause-can
finish-requires-clause-can g c =
    let long = sym c.args.of_nodes.ok.0 ∙ c.requires.count ∙ c.args.nodes.ok.0 in
    let few = c.requires.few in let ok = c.args.nodes.ok.0 in
    can_told (replica g) (door g) g.C.Clock.gives (streams g) c.args.host.now c.args.desk (g.P.Spawner.faults c.args.spawner.now) (g.P.Spawner.faults c.run_nodes-ran.new.spawner)
    c.args.nodes.items c.args.of_nodes.items c.in-Ok.parts.items c.in-Ok.ensures long c.requires.open_doors c.run_nodes-ran.result c.run_nodes-ran.result.nodes
    c.runs_move_links.ensures c.links_stay_whole.ensures (omega (arith, few, ok)) c.run_nodes-ran.ensures.ran

pub finish-requires-clause-lent : goal.finish-requires-clause-lent
finish-requires-clause-lent g c =
    let long = sym c.args.of_nodes.ok.0 ∙ c.requires.count ∙ c.args.nodes.ok.0 in
    long_told (replica g) (door g) g.C.Clock.gives (streams g) c.args.host.now c.args.desk (g.P.Spawner.faults c.args.spawner.now) (g.P.Spawner.faults c.run_nodes-ran.new.spawner)
    c.args.nodes.items c.args.of_nodes.items c.in-Ok.parts.items c.in-Ok.ensures long c.requires.open_doors c.run_nodes-ran.result
    (λ (n : ℕ). HasLent (n * 16) (g.L.Doors.given c.args.doors.now) (g.L.Doors.returned c.args.doors.now)) c.run_nodes-ran.result.nodes c.run_nodes-ran.ensures.ran c.requires.lent

pub returns-in-Ok : goal.returns-in-Ok
returns-in-Ok g c =
    let show = shown g.D.Stores.holds g.D.Stores.faults g.D.Stores.taken g.D.Stores.is_out in
    let book = ledger g.L.Doors.given g.L.Doors.returned g.L.Doors.faults in
    let long = sym c.args.of_nodes.ok.0 ∙ c.requires.count ∙ c.args.nodes.ok.0 in
    serves_run (replica g) (door g) g.C.Clock.gives (streams g) c.args.host.now c.args.desk (g.P.Spawner.faults c.args.spawner.now) (g.P.Spawner.faults c.run_nodes-ran.new.spawner)
    c.args.nodes.items c.args.of_nodes.items c.in-Ok.parts.items c.in-Ok.ensures long c.requires.open_doors c.run_nodes-ran.result
    (show c.args.stores.now) (show c.finish.new.stores) (book c.args.doors.now) (book c.finish.new.doors) c.finish.result
    c.requires.out c.failures_are_counted.ensures c.finish.ensures.source c.finish.ensures.sink c.run_nodes-ran.ensures.counted
    c.run_nodes-ran.result.nodes c.run_nodes-ran.ensures.ran c.run_nodes-ran.ensures.lost c.finish.ensures.lost c.finish.ensures.back
