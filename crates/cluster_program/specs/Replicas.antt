-- The replicas of served nodes.
use Rattle.std.specs.Prelude.{ℕ, ◌+◌}
use Rattle.cs_store.specs.Disk.{Disk}
use Rattle.list_replica.specs.Memtables.{kept_in}
use Rattle.list_replica.specs.Standing.{StandsFor}
use Rattle.list_replica.specs.Wholeness.{IsWhole}
use Rattle.list_replica.specs.declared.on_log.ListReplica.{ListReplica}
use Rattle.served_cluster.specs.Kinds.{ReplicaKind, kind_of_replica}

-- what a node keeps is in one log of its store
abbrev pub list_kind : {K : Type 0} → Type 0 → (K → Disk) → (K → ℕ) → ReplicaKind (ListReplica K)
list_kind is_honest disk faults = kind_of_replica
    is_honest
    StandsFor
    (λ r. kept_in r.memtable)
    (λ r. IsWhole is_honest (disk r.store) r.log r.memtable r.since_flush)
    (λ r. r.log.place.gate + 1)
    (λ r. r.since_flush)
    (λ r. r.store)
    disk
    faults
