-- Contents in memory, and the entries that they come from.
use Rattle.std.specs.Prelude.{◌↔◌, List, Contains}
use Rattle.std.specs.BTreeMap.{IsOrdered}
use Rattle.changes.specs.Order.{partition_cmp}
use Rattle.row_change.specs.declared.entry.LogItem.{LogItem}
use Rattle.durable_state.specs.State.{Stored, Durable}
use Rattle.list_replica.specs.declared.memtable.Memtable.{Memtable}
use Rattle.list_replica.specs.Keeping.{Entered, kept_by}
use Rattle.list_replica.specs.Staging.{IsStaging, AreReady}
use Rattle.list_replica.specs.Stores.{all_of}

abbrev pub committed : Memtable → List Entered
committed m = m.committed.items

abbrev pub kept_in : Memtable → Durable
kept_in m = kept_by m.committed.items

-- it holds what its entries make
pub record IsSound (m : Memtable) : Type 0 where
  pub ordered : IsOrdered partition_cmp m.contents
  pub content : (x : Stored) → Contains (all_of m.contents.entries) x ↔ Contains (kept_by m.committed.items).content x

-- the changes of the items can be taken in without memory
pub record HasStaged (m : Memtable) (items : List LogItem) : Type 0 where
  pub staging : IsStaging items m.staged.items
  pub ready : AreReady m.contents m.staged.items
