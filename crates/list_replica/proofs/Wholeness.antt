-- The replica stands on its disk through its calls.
use Rattle.std.proofs.Common.{◌≡◌, ◌↔◌, Contains, ℕ, ◌≤◌, Option, None, List, [], ◌∷◌, ◌++◌, sym, ◌∙◌, subst}
use Rattle.std.specs.Prelude.{IfSome, IsTrue}
use Rattle.cs_base.specs.declared.range.Range.{Range}
use Rattle.cs_base.specs.Ring.{in_range}
use Rattle.changes.specs.declared.Bound.{Bound}
use Rattle.changes.specs.declared.Held.{Held}
use Rattle.changes.specs.declared.Partition.{Partition}
use Rattle.changes.specs.Queries.{MeetsBounds}
use Rattle.cs_store.specs.Disk.{Disk, IsSettled, Stays, SameFiles, Passes, LeavesOnly}
use Rattle.commit_log.specs.Format.{ReadsEntries, Adds, IsBeforeOrAfter, ReadsAlike}
use Rattle.commit_log.specs.Place.{LogPlace}
use Rattle.commit_log.proofs.Readings.{one_way}
use Rattle.gate_log.specs.Place.{IsAtRest}
use Rattle.row_change.specs.declared.entry.LogEntry.{LogEntry}
use Rattle.durable_state.specs.State.{Durable, IsSameKept, formatted, changes_of, Holds}
use Rattle.durable_state.specs.Keeping.{Commits, IsWithOrWithout}
use Rattle.replica.specs.Finding.{AlwaysLeaves, IsSafe}
use Rattle.replica.proofs.Fronts.{leaves_still}
use Rattle.list_replica.specs.declared.memtable.Memtable.{Memtable}
use Rattle.list_replica.specs.Keeping.{Entered, entries_of, kept_by}
use Rattle.list_replica.specs.Memtables.{committed, kept_in, IsSound}
use Rattle.list_replica.specs.Staging.{Map}
use Rattle.list_replica.specs.Standing.{StandsFor}
use Rattle.list_replica.specs.Stores.{all_of}
use Rattle.list_replica.specs.Wholeness.{IsOnDisk, IsWhole}
use Rattle.list_replica.proofs.Keeping.{kept_more, entries_push}
use Rattle.list_replica.specs.Laws.{stands_kept, whole_is_safe}
use Rattle.list_replica.proofs.Growing.{Shown, held_as}
use Rattle.list_replica.proofs.Standing.{append_leaves, load_leaves, reserve_leaves}

-- ---- nothing is committed

-- other contents that hold the same
pub whole_as : (honest : Type 0) (disk : Disk) (log : LogPlace) (table table' : Memtable) (added : Option ℕ) → IsWhole honest disk log table added → IsSound table' → committed table' ≡ committed table → IsWhole honest disk log table' added
whole_as honest disk log table table' added w sound same = record {
  file = w.file;
  on_disk = λ h. subst (λ (es : List Entered). IsOnDisk disk log.place.gate (entries_of es)) (sym same) (w.on_disk h);
  sound = sound;
  added = w.added;
}

on_reserved : (disk disk' : Disk) (gate gate' : ℕ) (entries : List LogEntry) → IsOnDisk disk gate entries → gate' ≡ gate → SameFiles disk disk' → ((k : ℕ) → IsSettled k disk → IsSettled k disk') → IsOnDisk disk' gate' entries
on_reserved disk disk' gate gate' entries on same files settled = record {
  reads = subst (λ (l : List ℕ). ReadsEntries entries l) (sym (files 0)) on.reads;
  at_rest = subst (λ (n : ℕ). IsAtRest n (disk'.seen 0)) (sym same) (subst (λ (l : List ℕ). IsAtRest gate l) (sym (files 0)) on.at_rest);
  settled = settled 0 on.settled;
}

-- memory was taken
pub whole_reserved : (honest : Type 0) (disk disk' : Disk) (log log' : LogPlace) (table : Memtable) (added : Option ℕ) → IsWhole honest disk log table added → log'.place.file ≡ log.place.file → log'.place.gate ≡ log.place.gate
    → (honest → SameFiles disk disk') → (honest → (k : ℕ) → IsSettled k disk → IsSettled k disk') → IsWhole honest disk' log' table added
whole_reserved honest disk disk' log log' table added w file gate files settled = record {
  file = file ∙ w.file;
  on_disk = λ h. on_reserved disk disk' log.place.gate log'.place.gate (entries_of (committed table)) (w.on_disk h) gate (files h) (settled h);
  sound = w.sound;
  added = subst (λ (n : ℕ). IfSome added (λ m. m ≤ n)) (sym gate) w.added;
}

-- another store with the same disk
pub whole_on_same : (honest : Type 0) (disk disk' : Disk) (log : LogPlace) (table : Memtable) (added : Option ℕ) → disk' ≡ disk → IsWhole honest disk log table added → IsWhole honest disk' log table added
whole_on_same honest disk disk' log table added same whole = subst (λ (d : Disk). IsWhole honest d log table added) (sym same) whole

pub leaves_same : (honest : Type 0) (disk : Disk) (log : LogPlace) (table : Memtable) (added : Option ℕ) → honest → IsWhole honest disk log table added → AlwaysLeaves StandsFor (IsSameKept (kept_in table)) disk disk
leaves_same honest disk log table added h w = leaves_still StandsFor (kept_in table) disk (whole_is_safe honest disk log table added h w)

pub leaves_reserved : (honest : Type 0) (disk disk' : Disk) (log : LogPlace) (table : Memtable) (added : Option ℕ) → honest → IsWhole honest disk log table added → (honest → Passes log.place.file Stays disk disk')
    → AlwaysLeaves StandsFor (IsSameKept (kept_in table)) disk disk'
leaves_reserved honest disk disk' log table added h w passes =
    let on = w.on_disk h in
    reserve_leaves disk disk' (kept_in table) (stands_kept (committed table) disk.seen on.reads) on.settled (subst (λ (f : ℕ). Passes f Stays disk disk') w.file (passes h))

-- ---- an entry is committed

-- where the log stands
pub rests : (honest : Type 0) (disk : Disk) (log : LogPlace) (table : Memtable) (added : Option ℕ) → IsWhole honest disk log table added → honest → IsAtRest log.place.gate (disk.seen log.place.file)
rests honest disk log table added w h = subst (λ (f : ℕ). IsAtRest log.place.gate (disk.seen f)) (sym w.file) (w.on_disk h).at_rest

pub is_settled : (honest : Type 0) (disk : Disk) (log : LogPlace) (table : Memtable) (added : Option ℕ) → IsWhole honest disk log table added → honest → IsSettled log.place.file disk
is_settled honest disk log table added w h = subst (λ (f : ℕ). IsSettled f disk) (sym w.file) (w.on_disk h).settled

pub on_appended : (disk disk' : Disk) (f gate gate' : ℕ) (es : List Entered) (entry : LogEntry) → f ≡ 0 → IsOnDisk disk gate (entries_of es) → Adds entry (disk.seen f) (disk'.seen f) → IsAtRest gate' (disk'.seen f) → IsSettled f disk'
    → IsOnDisk disk' gate' (entries_of (es ++ (entry, tt) ∷ []))
on_appended disk disk' f gate gate' es entry zero on adds rest settled = record {
  reads = subst (λ (l : List LogEntry). ReadsEntries l (disk'.seen 0)) (sym (entries_push es (entry, tt))) (subst (λ (k : ℕ). Adds entry (disk.seen k) (disk'.seen k)) zero adds (entries_of es) on.reads);
  at_rest = subst (λ (k : ℕ). IsAtRest gate' (disk'.seen k)) zero rest;
  settled = subst (λ (k : ℕ). IsSettled k disk') zero settled;
}

-- at any moment of an append
pub leaves_appended : (honest : Type 0) (disk disk' : Disk) (log : LogPlace) (table : Memtable) (added : Option ℕ) (entry : LogEntry) → honest → IsWhole honest disk log table added
    → (honest → LeavesOnly log.place.file (IsBeforeOrAfter entry (disk.seen log.place.file)) disk disk') → AlwaysLeaves StandsFor (IsWithOrWithout entry.items (kept_in table)) disk disk'
leaves_appended honest disk disk' log table added entry h w only =
    append_leaves entry disk disk' (kept_in table) (stands_kept (committed table) disk.seen (w.on_disk h).reads)
    (subst (λ (f : ℕ). LeavesOnly f (IsBeforeOrAfter entry (disk.seen f)) disk disk') w.file (only h))

pub whole_appended : (honest : Type 0) (disk disk' : Disk) (log log' : LogPlace) (table table' : Memtable) (added added' : Option ℕ) (entry : LogEntry) → IsWhole honest disk log table added → log'.place.file ≡ log.place.file
    → (honest → Adds entry (disk.seen log.place.file) (disk'.seen log.place.file)) → (honest → IsAtRest log'.place.gate (disk'.seen log.place.file)) → (honest → IsSettled log.place.file disk') → IsSound table'
    → committed table' ≡ committed table ++ (entry, tt) ∷ [] → IfSome added' (λ n. n ≤ log'.place.gate) → IsWhole honest disk' log' table' added'
whole_appended honest disk disk' log log' table table' added added' entry w file adds rest settled sound came within = record {
  file = file ∙ w.file;
  on_disk = λ h.
      subst (λ (es : List Entered). IsOnDisk disk' log'.place.gate (entries_of es)) (sym came)
      (on_appended disk disk' log.place.file log.place.gate log'.place.gate (committed table) entry w.file (w.on_disk h) (adds h) (rest h) (settled h));
  sound = sound;
  added = within;
}

pub safe_appended : (honest : Type 0) (disk disk' : Disk) (log log' : LogPlace) (table table' : Memtable) (added : Option ℕ) (entry : LogEntry) → honest → IsWhole honest disk log table added → log'.place.file ≡ log.place.file
    → (honest → Adds entry (disk.seen log.place.file) (disk'.seen log.place.file)) → (honest → IsAtRest log'.place.gate (disk'.seen log.place.file)) → (honest → IsSettled log.place.file disk') → IsSound table'
    → committed table' ≡ committed table ++ (entry, tt) ∷ [] → IsSafe StandsFor (kept_in table') disk'
safe_appended honest disk disk' log log' table table' added entry h w file adds rest settled sound came =
    whole_is_safe honest disk' log' table' None h (whole_appended honest disk disk' log log' table table' added None entry w file adds rest settled sound came tt)

pub keeps_appended : (table table' : Memtable) (entry : LogEntry) → committed table' ≡ committed table ++ (entry, tt) ∷ [] → Commits entry.items (kept_in table) (kept_in table')
keeps_appended table table' entry came = subst (λ (es : List Entered). Commits entry.items (kept_in table) (kept_by es)) (sym came) (kept_more (committed table) (entry, tt) formatted)

-- ---- a load

pub stands_loaded : (es : List Entered) (entries : List LogEntry) (files : ℕ → List ℕ) (f : ℕ) → f ≡ 0 → entries_of es ≡ entries → ReadsEntries entries (files f) → StandsFor files (kept_by es)
stands_loaded es entries files f zero same reads =
    stands_kept es files (subst (λ (l : List LogEntry). ReadsEntries l (files 0)) (sym same) (subst (λ (k : ℕ). ReadsEntries entries (files k)) zero reads))

pub leaves_loaded : (old new : Disk) (f : ℕ) → f ≡ 0 → LeavesOnly f (ReadsAlike (old.seen f)) old new → (d : Durable) → StandsFor old.seen d → AlwaysLeaves StandsFor (IsSameKept d) old new
leaves_loaded old new f zero only d stands = load_leaves one_way old new d stands (subst (λ (k : ℕ). LeavesOnly k (ReadsAlike (old.seen k)) old new) zero only)

pub whole_loaded : (honest : Type 0) (disk' : Disk) (log : LogPlace) (table : Memtable) (entries : List LogEntry) (f : ℕ) → f ≡ 0 → log.place.file ≡ f → (honest → ReadsEntries entries (disk'.seen f)) → (honest → IsAtRest log.place.gate (disk'.seen f))
    → (honest → IsSettled f disk') → IsSound table → entries_of (committed table) ≡ entries → IsWhole honest disk' log table None
whole_loaded honest disk' log table entries f zero file reads rest settled sound same = record {
  file = file ∙ zero;
  on_disk = λ h. record {
    reads = subst (λ (l : List LogEntry). ReadsEntries l (disk'.seen 0)) (sym same) (subst (λ (k : ℕ). ReadsEntries entries (disk'.seen k)) zero (reads h));
    at_rest = subst (λ (k : ℕ). IsAtRest log.place.gate (disk'.seen k)) zero (rest h);
    settled = subst (λ (k : ℕ). IsSettled k disk') zero (settled h);
  };
  sound = sound;
  added = tt;
}

-- ---- what is read

pub listed_as : (contents shown : Map) (d : Durable) (range : Range) (ps : List Partition) → shown ≡ contents → Shown contents d
    → ((p : Partition) → Contains ps p ↔ (((x : Held) × Holds (changes_of (all_of shown.entries)) p x) × IsTrue (in_range range p.token)))
    → (p : Partition) → Contains ps p ↔ (((x : Held) × Holds (changes_of d.content) p x) × IsTrue (in_range range p.token))
listed_as contents shown d range ps e holds has p =
    let same : Shown shown d = subst (λ (m : Map). Shown m d) (sym e) holds in (
      λ k. let h = (has p).0 k in ((h.0.0, held_as (all_of shown.entries) d.content p h.0.0 (λ y. (same y).0) h.0.1), h.1),
      λ h. (has p).1 ((h.0.0, held_as d.content (all_of shown.entries) p h.0.0 (λ y. (same y).1) h.0.1), h.1),
    )

pub between_as : (contents shown : Map) (d : Durable) (p : Partition) (from upto : Bound) (part : List Held) → shown ≡ contents → Shown contents d
    → ((x : Held) → Contains part x ↔ (Holds (changes_of (all_of shown.entries)) p x × MeetsBounds from upto x.place)) → (x : Held) → Contains part x ↔ (Holds (changes_of d.content) p x × MeetsBounds from upto x.place)
between_as contents shown d p from upto part e holds has x =
    let same : Shown shown d = subst (λ (m : Map). Shown m d) (sym e) holds in (
      λ k. let h = (has x).0 k in (held_as (all_of shown.entries) d.content p x (λ y. (same y).0) h.0, h.1),
      λ h. (has x).1 (held_as d.content (all_of shown.entries) p x (λ y. (same y).1) h.0, h.1),
    )
