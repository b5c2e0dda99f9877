-- Calls of a replica one after another, and what a crash at any moment of them leaves.
use Rattle.std.specs.Prelude.{◌≡◌, ℕ, List, [], ◌∷◌, ◌++◌}
use Rattle.cs_store.specs.Disk.{Disk}
use Rattle.row_change.specs.declared.entry.LogItem.{LogItem}
use Rattle.durable_state.specs.State.{Durable, IsSameKept}
use Rattle.durable_state.specs.Keeping.{Commits, IsWithOrWithout}
use Rattle.replica.specs.Finding.{AlwaysLeaves, IsSafe}

-- entries one after another
abbrev pub CommitEach : List (List LogItem) → Durable → Durable → Type 0
CommitEach [] d d' = d' ≡ d
CommitEach (entry ∷ entries) d d' = (mid : Durable) × Commits entry d mid × CommitEach entries mid d'

-- what these entries make of what was kept, and then some of the others, from the first one on
pub record IsAfterFront (done others : List (List LogItem)) (before d : Durable) : Type 0 where
  pub front : List (List LogItem)
  pub rest : List (List LogItem)
  pub split : others ≡ front ++ rest
  pub after : Durable
  pub made : CommitEach (done ++ front) before after
  pub same : IsSameKept after d

-- a call that changes nothing of what is kept
pub record Looked {R : Type 0} (stands_for : (ℕ → List ℕ) → Durable → Type 0) (disk : R → Disk) (durable : R → Durable) (old new : R) : Type 0 where
  pub same : durable new ≡ durable old
  pub leaves : AlwaysLeaves stands_for (IsSameKept (durable old)) (disk old) (disk new)

-- a commit that was answered Ok
pub record Committed {R : Type 0} (stands_for : (ℕ → List ℕ) → Durable → Type 0) (disk : R → Disk) (durable : R → Durable) (entry : List LogItem) (old new : R) : Type 0 where
  pub keeps : Commits entry (durable old) (durable new)
  pub safe : IsSafe stands_for (durable new) (disk new)
  pub leaves : AlwaysLeaves stands_for (IsWithOrWithout entry (durable old)) (disk old) (disk new)

-- by calls one after another a replica committed these entries, each answered Ok
pub data Calls {R : Type 0} (stands_for : (ℕ → List ℕ) → Durable → Type 0) (disk : R → Disk) (durable : R → Durable) (first : R) : List (List LogItem) → R → Type 0 where
  none : Calls stands_for disk durable first [] first
  looks : (entries : List (List LogItem)) (r s : R) → Calls stands_for disk durable first entries r → Looked stands_for disk durable r s → Calls stands_for disk durable first entries s
  commits : (entries : List (List LogItem)) (entry : List LogItem) (r s : R)
      → Calls stands_for disk durable first entries r → Committed stands_for disk durable entry r s → Calls stands_for disk durable first (entries ++ entry ∷ []) s

-- A replica committed the entries of `done` and then, from m on, those of `more`, and then tried one entry more, whatever was
-- answered. A crash at any moment from m on leaves what `done` and some front of the others make of what was kept at first.
abbrev pub CrashesLeaveAFront : {R : Type 0} → ((ℕ → List ℕ) → Durable → Type 0) → (R → Disk) → (R → Durable) → Type 0
CrashesLeaveAFront {R} stands_for disk durable =
    (first m last end : R) (done more : List (List LogItem)) (entry : List LogItem)
    → IsSafe stands_for (durable first) (disk first)
    → Calls stands_for disk durable first done m → Calls stands_for disk durable m more last
    → AlwaysLeaves stands_for (IsWithOrWithout entry (durable last)) (disk last) (disk end)
    → AlwaysLeaves stands_for (IsAfterFront done (more ++ entry ∷ []) (durable first)) (disk m) (disk end)
