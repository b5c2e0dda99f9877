-- What stores in memory show.
use Rattle.std.specs.Prelude.{ℕ, Bool, List, [], Option, None, Some, is_none, slice_index_or}
use Rattle.cs_store.specs.declared.mem.MemStore.{MemStore}
use Rattle.cs_store.specs.declared.mem_stores.MemStores.{MemStores}
use Rattle.cs_store.specs.Lent.{lent_at}
use Rattle.cs_store.specs.Mem.{disk_of}

-- what a read of a file gives, where the store is there
abbrev pub seen_in : Option MemStore → ℕ → List ℕ
seen_in None k = []
seen_in (Some s) k = (disk_of s).seen k

abbrev pub holds_of : MemStores → ℕ → ℕ → List ℕ
holds_of s n k = seen_in (slice_index_or s.stores.items n None) k

abbrev pub faults_of : MemStores → ℕ → ℕ
faults_of s n = (lent_at s.nodes n).faults

abbrev pub taken_of : MemStores → ℕ → ℕ
taken_of s n = (lent_at s.nodes n).taken

abbrev pub is_out : MemStores → ℕ → Bool
is_out s n = is_none (slice_index_or s.stores.items n None)
