use Rattle.served_cluster.specs.Kinds.{kind_of_replica}
use Rattle.served_cluster.proofs.Parts.{parts_told}
use Rattle.served_cluster.proofs.giving.part_all.Goals as goal

pub returns : goal.returns
returns g c =
    let r = kind_of_replica g.R.Disk.Store.is_honest g.R.Replica.stands_for g.R.Replica.durable g.R.Replica.is_whole g.R.Replica.log_end g.R.Replica.since_flush g.R.Replica.disk g.R.Disk.Store.disk g.R.Disk.Store.faults in
    parts_told r c.args.left.items c.in_ok-aparts.aparts.items c.part.result c.in_ok-aparts.ensures c.part.ensures
