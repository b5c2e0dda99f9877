-- Contents in memory hold what their entries make.
use Rattle.std.proofs.Common.{◌≡◌, ◌↔◌, ℕ, List, [], ◌∷◌, ◌++◌, Contains, sym, subst}
use Rattle.std.specs.BTreeMap.{IsOrdered}
use Rattle.changes.specs.Order.{partition_cmp}
use Rattle.changes.specs.declared.Partition.{Partition}
use Rattle.row_change.specs.declared.entry.LogEntry.{LogEntry}
use Rattle.row_change.specs.declared.entry.LogItem.{LogItem}
use Rattle.durable_state.specs.State.{Stored, formatted}
use Rattle.replica.specs.Kept.{ArriveAllAt, PurgeNothing}
use Rattle.replica.specs.Lengths.{AllStaySmall, IsFirstTooLarge}
use Rattle.list_replica.specs.declared.memtable.Memtable.{Memtable}
use Rattle.list_replica.specs.declared.staging.Staged.{Staged}
use Rattle.list_replica.specs.Keeping.{Entered, kept_by}
use Rattle.list_replica.specs.Memtables.{kept_in, IsSound}
use Rattle.list_replica.specs.Staging.{Map, IsStaging, AllStayWithin, IsFirstPast, AllCome}
use Rattle.list_replica.specs.Stores.{all_of}
use Rattle.list_replica.proofs.Coming.{shown_after}
use Rattle.list_replica.proofs.Growing.{Shown, stay_small, first_too_large}
use Rattle.list_replica.proofs.Keeping.{kept_more}
use Rattle.list_replica.specs.Laws.{arrive_kept}

-- where the same is stored
pub sound_still : (m n : Memtable) → IsSound m → IsOrdered partition_cmp n.contents → all_of n.contents.entries ≡ all_of m.contents.entries → n.committed.items ≡ m.committed.items → IsSound n
sound_still m n sound ordered same entries = record {
  ordered = ordered;
  content = λ x.
      subst (λ (es : List Entered). Contains (all_of n.contents.entries) x ↔ Contains (kept_by es).content x) (sym entries)
      (subst (λ (l : List Stored). Contains l x ↔ Contains (kept_by m.committed.items).content x) (sym same) (sound.content x));
}

-- where the changes of an entry came
pub sound_after : (m n : Memtable) (entry : LogEntry) (at : ℕ) (staged : List Staged) → IsSound m → IsOrdered partition_cmp n.contents → n.committed.items ≡ m.committed.items ++ (entry, tt) ∷ [] → PurgeNothing entry.items → ArriveAllAt at entry.items
    → IsStaging entry.items staged → AllCome at m.contents n.contents staged → IsSound n
sound_after m n entry at staged sound ordered entries calm all staging come = record {
  ordered = ordered;
  content = subst (λ (es : List Entered). Shown n.contents (kept_by es)) (sym entries)
      (shown_after m.contents n.contents at (kept_by m.committed.items) (kept_by (m.committed.items ++ (entry, tt) ∷ [])) entry.items staged sound.ordered ordered sound.content (arrive_kept m.committed.items) calm all staging come
      (kept_more m.committed.items (entry, tt) formatted));
}

-- ---- lengths, by what was staged of an entry's slice

-- the same is stored
shown_still : (m : Memtable) (contents : Map) → IsSound m → all_of contents.entries ≡ all_of m.contents.entries → Shown contents (kept_in m)
shown_still m contents sound same x = subst (λ (l : List Stored). Contains l x ↔ Contains (kept_in m).content x) (sym same) (sound.content x)

pub sound_stays_small : (m : Memtable) (contents : Map) (items : List LogItem) (staged staged' : List Staged) (items' : List LogItem) → staged' ≡ staged → items' ≡ items → IsSound m → IsOrdered partition_cmp contents
    → all_of contents.entries ≡ all_of m.contents.entries → PurgeNothing items → IsStaging items' staged → AllStayWithin contents staged' items' → AllStaySmall items items (kept_in m)
sound_stays_small m contents items staged staged' items' e f sound ordered same calm staging within =
    stay_small contents (kept_in m) items staged ordered (shown_still m contents sound same) calm (subst (λ (l : List LogItem). IsStaging l staged) f staging)
    (subst (λ (l : List LogItem). AllStayWithin contents staged l) f (subst (λ (l : List Staged). AllStayWithin contents l items') e within))

pub sound_first_too_large : (m : Memtable) (contents : Map) (items : List LogItem) (staged staged' : List Staged) (items' : List LogItem) (p : Partition) → staged' ≡ staged → items' ≡ items → IsSound m → IsOrdered partition_cmp contents
    → all_of contents.entries ≡ all_of m.contents.entries → PurgeNothing items → IsStaging items' staged → IsFirstPast contents staged' items' p → IsFirstTooLarge items (kept_in m) p
sound_first_too_large m contents items staged staged' items' p e f sound ordered same calm staging first =
    first_too_large contents (kept_in m) items staged p ordered (shown_still m contents sound same) calm (subst (λ (l : List LogItem). IsStaging l staged) f staging)
    (subst (λ (l : List LogItem). IsFirstPast contents staged l p) f (subst (λ (l : List Staged). IsFirstPast contents l items' p) e first))
