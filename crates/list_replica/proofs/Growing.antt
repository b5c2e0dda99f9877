-- What is held of partitions behind an entry, told before it is committed.
use Rattle.std.proofs.Common.{◌↔◌, inl, inr, List, Contains, sym, subst}
use Rattle.cs_base.proofs.Members.{contains_map, contains_from_map}
use Rattle.std.specs.BTreeMap.{IsOrdered}
use Rattle.changes.specs.declared.Change.{Change}
use Rattle.changes.specs.declared.Held.{Held}
use Rattle.changes.specs.declared.Partition.{Partition}
use Rattle.changes.specs.Contents.{Either, IsContent, IsMergeOf}
use Rattle.changes.specs.Order.{partition_cmp}
use Rattle.change_laws.proofs.Contents.{IsContent-same, Either_swap}
use Rattle.row_change.specs.declared.entry.LogItem.{LogItem}
use Rattle.durable_state.specs.State.{Stored, Durable, change_of, changes_of, Holds}
use Rattle.durable_state.specs.Taking.{IsHeldOf, InOne}
use Rattle.durable_state.specs.Keeping.{Commits}
use Rattle.durable_state.proofs.Together.{content_under}
use Rattle.replica.specs.Kept.{PurgeNothing}
use Rattle.replica.specs.Lengths.{StaysSmall, GrowsTooLarge, AllStaySmall, IsFirstTooLarge}
use Rattle.list_replica.specs.Stores.{all_of}
use Rattle.list_replica.specs.Staging.{Map, mutations, held_at, IsStaging, StaysWithin, GrowsPast, AllStayWithin, IsFirstPast}
use Rattle.list_replica.specs.declared.staging.Staged.{Staged}
use Rattle.list_replica.proofs.Items.{each_taken, grown, touched_of}
use Rattle.list_replica.proofs.Looking.{holds_from, holds_to}

-- the contents are all that is held
abbrev pub Shown : Map → Durable → Type 0
Shown contents d = (x : Stored) → Contains (all_of contents.entries) x ↔ Contains d.content x

pub held_as : (a b : List Stored) (p : Partition) (x : Held) → ((y : Stored) → Contains a y → Contains b y) → Holds (changes_of a) p x → Holds (changes_of b) p x
held_as a b p x to h = let y = contains_from_map change_of a _ h in subst (λ (z : Change). Contains (changes_of b) z) y.2 (contains_map change_of b y.0 (to y.0 y.1))

pub held_to : (contents : Map) (d : Durable) (p : Partition) (x : Held) → IsOrdered partition_cmp contents → Shown contents d → Holds (changes_of d.content) p x → Contains (held_at contents p) x
held_to contents d p x ordered shown h = holds_to contents p x ordered (held_as d.content (all_of contents.entries) p x (λ y. (shown y).1) h)

pub held_from : (contents : Map) (d : Durable) (p : Partition) (x : Held) → Shown contents d → Contains (held_at contents p) x → Holds (changes_of d.content) p x
held_from contents d p x shown k = held_as (all_of contents.entries) d.content p x (λ y. (shown y).0) (holds_from contents p x k)

-- what stands for what is held and what comes
record Before (contents : Map) (d : Durable) (items : List LogItem) (staged : List Staged) : Type 0 where
  ordered : IsOrdered partition_cmp contents
  shown : Shown contents d
  no_purges : PurgeNothing items
  staging : IsStaging items staged

merged_after : (contents : Map) (d : Durable) (items : List LogItem) (staged : List Staged) → Before contents d items staged → (s : Staged) → Contains staged s
    → (after : Durable) (part : List Held) → Commits items d after → IsHeldOf (changes_of after.content) s.partition part → IsMergeOf part (held_at contents s.partition) s.changes
merged_after contents d items staged b s there after part commits held =
    let p = s.partition in
    let came : Held → Type 0 = InOne (mutations items) p in
    let whole : IsContent part (Either (Holds (changes_of d.content) p) came) =
    grown (mutations items) (changes_of d.content) (changes_of after.content) (each_taken items d after b.no_purges commits) p part (b.staging.within s there) held in
    let turned : IsContent part (Either came (Contains (held_at contents p))) =
    IsContent-same part (Either (Holds (changes_of d.content) p) came) (Either came (Contains (held_at contents p)))
    (λ x u. elim u [ inl h ↦ inr (held_to contents d p x b.ordered b.shown h) | inr k ↦ inl k ])
    (λ x u. elim u [ inl k ↦ inr k | inr k ↦ inl (held_from contents d p x b.shown k) ])
    whole in
    IsContent-same part (Either (Contains s.changes) (Contains (held_at contents p))) (Either (Contains (held_at contents p)) (Contains s.changes))
    (Either_swap (Contains s.changes) (Contains (held_at contents p))) (Either_swap (Contains (held_at contents p)) (Contains s.changes))
    (content_under came (Contains (held_at contents p)) s.changes part (b.staging.content s there) turned)

small : (contents : Map) (d : Durable) (items : List LogItem) (staged : List Staged) → Before contents d items staged → (p : Partition) → StaysWithin contents staged p → StaysSmall items d p
small contents d items staged b p w after part commits list =
    w.within part
    (merged_after contents d items staged b w.changes w.there after part commits (subst (λ (q : Partition). IsHeldOf (changes_of after.content) q part) (sym w.of) list.0))
    list.1

large : (contents : Map) (d : Durable) (items : List LogItem) (staged : List Staged) → Before contents d items staged → (p : Partition) → GrowsPast contents staged p → GrowsTooLarge items d p
large contents d items staged b p w after part commits list =
    w.past part
    (merged_after contents d items staged b w.changes w.there after part commits (subst (λ (q : Partition). IsHeldOf (changes_of after.content) q part) (sym w.of) list.0))
    list.1

all_small : (contents : Map) (d : Durable) (items some : List LogItem) (staged : List Staged) → Before contents d items staged → AllStayWithin contents staged some → AllStaySmall some items d
all_small contents d items some staged b within p of = small contents d items staged b p (within p (touched_of some p of))

pub stay_small : (contents : Map) (d : Durable) (items : List LogItem) (staged : List Staged) → IsOrdered partition_cmp contents → Shown contents d → PurgeNothing items → IsStaging items staged
    → AllStayWithin contents staged items → AllStaySmall items items d
stay_small contents d items staged ordered shown calm staging within =
    all_small contents d items items staged (record { ordered = ordered; shown = shown; no_purges = calm; staging = staging }) within

pub first_too_large : (contents : Map) (d : Durable) (items : List LogItem) (staged : List Staged) (p : Partition) → IsOrdered partition_cmp contents → Shown contents d → PurgeNothing items → IsStaging items staged
    → IsFirstPast contents staged items p → IsFirstTooLarge items d p
first_too_large contents d items staged p ordered shown calm staging f =
    let b : Before contents d items staged = record { ordered = ordered; shown = shown; no_purges = calm; staging = staging } in
    record {
      front = f.front;
      arrival = f.arrival;
      mutation = f.mutation;
      rest = f.rest;
      split = f.split;
      of = f.of;
      large = large contents d items staged b p f.past;
      first = all_small contents d items f.front staged b f.first;
    }
