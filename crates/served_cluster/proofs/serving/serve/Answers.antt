use Rattle.std.proofs.Common.{◌≡◌, ℕ, ◌+◌, None, Some, sym, subst, ◌∙◌, arith}
use Rattle.std.specs.Prelude.{◌↔◌}
use Rattle.cs_base.specs.Faults.{HasRisen}
use Rattle.cs_doors.specs.Lending.{HasLent}
use Rattle.served_doors.specs.Ledger.{ledger}
use Rattle.served_stores.specs.Shown.{shown}
use Rattle.served_cluster.specs.Giving.{AreBackBut}
use Rattle.served_cluster.specs.Kinds.{DoorKind, ReplicaKind, StreamKind, kind_of_door, kind_of_replica, kind_of_streams}
use Rattle.served_cluster.proofs.Nodes.{loaded_home, loaded_served, taken_out}
use Rattle.served_cluster.proofs.serving.serve.Given.{Over}
use Rattle.served_cluster.proofs.serving.serve.Goals as goal

abbrev replica : (g : Over) → ReplicaKind g.row.R.Denot
replica g = kind_of_replica g.R.Disk.Store.is_honest g.R.Replica.stands_for g.R.Replica.durable g.R.Replica.is_whole g.R.Replica.log_end g.R.Replica.since_flush g.R.Replica.disk g.R.Disk.Store.disk g.R.Disk.Store.faults

abbrev door : (g : Over) → DoorKind g.row.L-Door.Denot g.row.L-Door-Link.Denot
door g = kind_of_door g.L.Door.Door.given g.L.Door.Door.returned g.L.Door.Door.faults g.L.Door.Link.Link.remaining g.L.Door.Link.Link.written g.L.Door.Link.Link.faults

abbrev streams : (g : Over) → StreamKind g.row.S.Denot g.row.T.Denot
streams g = kind_of_streams g.S.Source.remaining g.S.Source.faults g.T.Sink.contents g.T.Sink.faults

pub serve_nodes-requires-clause-out : goal.serve_nodes-requires-clause-out
serve_nodes-requires-clause-out g c κs within =
    let show = shown g.D.Stores.holds g.D.Stores.faults g.D.Stores.taken g.D.Stores.is_out in
    taken_out (replica g) c.args.setting.now c.in-Ok.nodes.items (show c.args.stores.now) (show c.load_nodes.new.stores) c.in-Ok.ensures.taken

pub returns-in-Ok-clause-closed : goal.returns-in-Ok-clause-closed
returns-in-Ok-clause-closed g c is =
    let show = shown g.D.Stores.holds g.D.Stores.faults g.D.Stores.taken g.D.Stores.is_out in
    let book = ledger g.L.Doors.given g.L.Doors.returned g.L.Doors.faults in
    let starts = g.P.Spawner.faults c.args.spawner.now in
    let starts' = g.P.Spawner.faults c.serve_nodes.new.spawner in
    loaded_served (replica g) (door g) g.C.Clock.gives (streams g) c.args.host.now c.args.desk (HasRisen starts starts') starts starts' c.in-Ok.nodes.items c.serve_nodes.result
    c.args.setting.now (show c.args.stores.now) (show c.load_nodes.new.stores) (show c.serve_nodes.new.stores) (sym c.in-Ok.nodes.ok.0 ∙ c.in-Ok.ensures.count) c.in-Ok.ensures.taken
    c.load_nodes.ensures.others c.load_nodes.ensures.later
    (AreBackBut 0 (book c.args.doors.now) (book c.serve_nodes.new.doors)) (g.L.Doors.faults c.args.doors.now) (g.L.Doors.faults c.serve_nodes.new.doors) c.serve_nodes.ensures
    None (c.serve_nodes.ensures.closed is)

pub returns-in-Ok-clause-full : goal.returns-in-Ok-clause-full
returns-in-Ok-clause-full g c n is =
    let show = shown g.D.Stores.holds g.D.Stores.faults g.D.Stores.taken g.D.Stores.is_out in
    let book = ledger g.L.Doors.given g.L.Doors.returned g.L.Doors.faults in
    let starts = g.P.Spawner.faults c.args.spawner.now in
    let starts' = g.P.Spawner.faults c.serve_nodes.new.spawner in
    loaded_served (replica g) (door g) g.C.Clock.gives (streams g) c.args.host.now c.args.desk (HasRisen starts starts') starts starts' c.in-Ok.nodes.items c.serve_nodes.result
    c.args.setting.now (show c.args.stores.now) (show c.load_nodes.new.stores) (show c.serve_nodes.new.stores) (sym c.in-Ok.nodes.ok.0 ∙ c.in-Ok.ensures.count) c.in-Ok.ensures.taken
    c.load_nodes.ensures.others c.load_nodes.ensures.later
    (AreBackBut 0 (book c.args.doors.now) (book c.serve_nodes.new.doors)) (g.L.Doors.faults c.args.doors.now) (g.L.Doors.faults c.serve_nodes.new.doors) c.serve_nodes.ensures
    (Some n) (c.serve_nodes.ensures.full n is)

pub returns-in-Ok-clause-stores_home : goal.returns-in-Ok-clause-stores_home
returns-in-Ok-clause-stores_home g c all n =
    let show = shown g.D.Stores.holds g.D.Stores.faults g.D.Stores.taken g.D.Stores.is_out in
    let book = ledger g.L.Doors.given g.L.Doors.returned g.L.Doors.faults in
    let starts = g.P.Spawner.faults c.args.spawner.now in
    let starts' = g.P.Spawner.faults c.serve_nodes.new.spawner in
    loaded_home (replica g) (door g) g.C.Clock.gives (streams g) c.args.host.now c.args.desk (HasRisen starts starts') starts starts' c.in-Ok.nodes.items c.serve_nodes.result
    c.args.setting.now (show c.args.stores.now) (show c.load_nodes.new.stores) (show c.serve_nodes.new.stores) (sym c.in-Ok.nodes.ok.0 ∙ c.in-Ok.ensures.count) c.in-Ok.ensures.taken
    c.load_nodes.ensures.others c.load_nodes.ensures.later
    (AreBackBut 0 (book c.args.doors.now) (book c.serve_nodes.new.doors)) (g.L.Doors.faults c.args.doors.now) (g.L.Doors.faults c.serve_nodes.new.doors) c.serve_nodes.ensures
    all n

pub returns-in-Ok-clause-doors_home : goal.returns-in-Ok-clause-doors_home
returns-in-Ok-clause-doors_home g c all k =
    subst (λ (j : ℕ). HasLent j (g.L.Doors.given c.args.doors.now) (g.L.Doors.returned c.args.doors.now) ↔ HasLent k (g.L.Doors.given c.serve_nodes.new.doors) (g.L.Doors.returned c.serve_nodes.new.doors))
    (let e : k + 0 ≡ k = omega arith in e) (c.serve_nodes.ensures.doors_home all k)
