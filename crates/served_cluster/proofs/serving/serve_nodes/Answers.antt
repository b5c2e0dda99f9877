use Rattle.std.proofs.Common.{◌≡◌, ℕ, ◌+◌, ◌*◌, Err, length, sym, ap, subst, ◌∙◌, arith}
use Rattle.cs_base.specs.Faults.{HasRisen}
use Rattle.cs_doors.specs.Lending.{HasLent}
use Rattle.served_doors.specs.Ledger.{GivesMore, ledger}
use Rattle.served_doors.specs.Opening.{IsFresh}
use Rattle.served_stores.specs.Shown.{shown}
use Rattle.served_cluster.specs.Ends.{IsOfNoConsole}
use Rattle.served_cluster.specs.Kinds.{DoorKind, ReplicaKind, StreamKind, kind_of_door, kind_of_replica, kind_of_streams}
use Rattle.served_cluster.proofs.Nodes.{serves_open, serves_shut}
use Rattle.served_cluster.proofs.Said.{untouched_back}
use Rattle.served_cluster.proofs.Told.{doors_apart}
use Rattle.served_cluster.proofs.serving.serve_nodes.Given.{Over}
use Rattle.served_cluster.proofs.serving.serve_nodes.Goals as goal

abbrev replica : (g : Over) → ReplicaKind g.row.R.Denot
replica g = kind_of_replica g.R.Disk.Store.is_honest g.R.Replica.stands_for g.R.Replica.durable g.R.Replica.is_whole g.R.Replica.log_end g.R.Replica.since_flush g.R.Replica.disk g.R.Disk.Store.disk g.R.Disk.Store.faults

abbrev door : (g : Over) → DoorKind g.row.L-Door.Denot g.row.L-Door-Link.Denot
door g = kind_of_door g.L.Door.Door.given g.L.Door.Door.returned g.L.Door.Door.faults g.L.Door.Link.Link.remaining g.L.Door.Link.Link.written g.L.Door.Link.Link.faults

abbrev streams : (g : Over) → StreamKind g.row.S.Denot g.row.T.Denot
streams g = kind_of_streams g.S.Source.remaining g.S.Source.faults g.T.Sink.contents g.T.Sink.faults

pub serve_open-requires-clause-lent : goal.serve_open-requires-clause-lent
serve_open-requires-clause-lent g c κs within =
    let count = c.requires.count ∙ c.args.nodes.ok.0 in
    subst (λ (n : ℕ). HasLent n (g.L.Doors.given c.open_doors.new.doors) (g.L.Doors.returned c.open_doors.new.doors))
    (let e : 0 + c.args.count * 16 ≡ length c.args.nodes.items * 16 = omega (arith, count) in e)
    (c.in-Ok.ensures.lent 0 (g.met.L.Doors.lends c.args.doors.now))

pub returns-in-Ok : goal.returns-in-Ok
returns-in-Ok g c =
    let show = shown g.D.Stores.holds g.D.Stores.faults g.D.Stores.taken g.D.Stores.is_out in
    let book = ledger g.L.Doors.given g.L.Doors.returned g.L.Doors.faults in
    let count = c.requires.count ∙ c.args.nodes.ok.0 in
    let starts = g.P.Spawner.faults c.args.spawner.now in
    let starts' = g.P.Spawner.faults c.serve_open.new.spawner in
    serves_open (replica g) (door g) g.C.Clock.gives (streams g) c.args.host.now c.args.desk (HasRisen starts starts') starts starts' c.args.nodes.items c.serve_open.result
    (show c.args.stores.now) (show c.serve_open.new.stores) (book c.args.doors.now) (book c.serve_open.new.doors) (book c.open_doors.new.doors) c.in-Ok.of_nodes.items
    (sym c.in-Ok.of_nodes.ok.0 ∙ c.in-Ok.ensures.count ∙ count) c.in-Ok.ensures.open
    (subst (λ (n : ℕ). GivesMore (n * 16) (book c.args.doors.now) (book c.open_doors.new.doors)) count c.in-Ok.ensures.gives)
    c.serve_open.ensures

pub returns-in-Err : goal.returns-in-Err
returns-in-Err g c =
    let show = shown g.D.Stores.holds g.D.Stores.faults g.D.Stores.taken g.D.Stores.is_out in
    let book = ledger g.L.Doors.given g.L.Doors.returned g.L.Doors.faults in
    let ok = c.args.nodes.ok.0 in
    let starts = g.P.Spawner.faults c.args.spawner.now in
    let told = c.untouched.ensures.end ∙ c.end_of_doors.ensures in
    serves_shut (replica g) (door g) g.C.Clock.gives (streams g) c.args.host.now c.args.desk (HasRisen starts starts) starts starts c.args.nodes.items c.untouched.result
    (show c.args.stores.now) (show c.release_nodes.new.stores) (book c.args.doors.now) (book c.open_doors.new.doors) c.in-Err.fault
    (IsFresh g.L.Door.Door.given g.L.Door.Door.returned g.L.Door.Door.faults) c.args.count 16
    told c.release_nodes.ensures.back (λ n le. c.release_nodes.ensures.others n (omega (arith, le, ok))) (omega arith)
    (untouched_back g.row.L-Door.Denot (replica g) g.C.Clock.gives (streams g) c.args.host.now c.args.desk c.untouched.result c.untouched.ensures.source c.untouched.ensures.sink
    (subst IsOfNoConsole (sym told) (doors_apart c.in-Err.fault)))
    (λ e. c.in-Err.ensures.failed (ap Err e)) (λ e. c.in-Err.ensures.cause (ap Err e)) (λ e. ap book (c.in-Err.ensures.no_memory (ap Err e)))
