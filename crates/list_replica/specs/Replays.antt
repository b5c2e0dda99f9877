-- What the entries so far made, in the memory of a load.
use Rattle.std.specs.Prelude.{◌≡◌, ◌↔◌, ℕ, List, Contains}
use Rattle.std.specs.BTreeMap.{get, IsOrdered}
use Rattle.changes.specs.declared.Partition.{Partition}
use Rattle.changes.specs.Order.{partition_cmp}
use Rattle.row_change.specs.declared.entry.LogItem.{LogItem}
use Rattle.row_change.specs.declared.entry.Mark as mark
use Rattle.durable_state.specs.State.{Stored, Durable, row_at, last_of}
use Rattle.durable_state.specs.Taking.{HasOneArrival}
use Rattle.durable_state.specs.Keeping.{TakesItem, Commits}
use Rattle.list_replica.specs.declared.replay.Replay.{Replay}
use Rattle.list_replica.specs.Keeping.{Entered}
use Rattle.list_replica.specs.Numbers.{number_at}
use Rattle.list_replica.specs.Stores.{all_of}

-- this is kept
pub record Shows (r : Replay) (d : Durable) : Type 0 where
  pub ordered : IsOrdered partition_cmp r.contents
  pub content : (x : Stored) → Contains (all_of r.contents.entries) x ↔ Contains d.content x
  pub one : HasOneArrival (all_of r.contents.entries)
  pub ceiling : r.ceiling ≡ d.ceiling
  pub rows : (p : Partition) → get partition_cmp r.rows p ≡ row_at d.rows p
  pub hints : r.hints.items ≡ d.hints
  pub numbers : (peer : ℕ) → number_at r.numbers peer ≡ last_of d.numbers peer
  pub marks : (m : mark.Mark) → Contains r.marks.items m ↔ Contains d.marks m

-- an item is taken in, whatever was kept
abbrev pub ShowsItem : LogItem → Replay → Replay → Type 0
ShowsItem item old new = (d d' : Durable) → Shows old d → TakesItem item d d' → Shows new d'

-- items are taken in, one after another
abbrev pub ShowsItems : List LogItem → Replay → Replay → Type 0
ShowsItems items old new = (d d' : Durable) → Shows old d → Commits items d d' → Shows new d'

abbrev pub replayed : Replay → List Entered
replayed r = r.committed.items
