-- What the calls of a store do to its files, and what a crash may do between two syncs: the disk of SQLite's "Atomic
-- Commit", section 2, with its powersafe overwrite. Writes may be lost, torn or reordered until a sync, and bytes outside
-- a written range stay.
use Rattle.std.specs.Prelude.{◌≡◌, ◌≢◌, ◌↔◌, ℕ, ◌+◌, ◌<◌, ◌≤◌, min, max, List, ◌++◌, length, take, drop}

-- The files of a store, by their numbers: what a read of each gives, the moment, as a number that doesn't fall, and
-- what a crash at a moment might have left of a file: by the moment and then the file. At the disk's own moment that
-- is what a crash may leave now.
pub record Disk : Type 1 where
  pub seen : ℕ → List ℕ
  pub moment : ℕ
  pub left : ℕ → ℕ → List ℕ → Type 0

-- a file with these bytes written at an offset
abbrev pub overwritten : List ℕ → ℕ → List ℕ → List ℕ
overwritten old at bytes = take at old ++ bytes ++ drop (at + length bytes) old

-- After a write of n bytes at `at` that a crash cut short: the length is the old or the new one or between, the range
-- and all past the old end are any bytes, and the others are as they were.
pub record Torn (at n : ℕ) (old new : List ℕ) : Type 0 where
  pub no_shorter : length old ≤ length new
  pub no_longer : length new ≤ max (length old) (at + n)
  pub before : take (min at (length old)) new ≡ take at old
  pub after : drop (at + n) (take (length old) new) ≡ drop (at + n) old

-- After a cut to n that a crash cut short: the length is the old or the new one or between, and the bytes below the
-- new one are as they were.
pub record Cut (n : ℕ) (old new : List ℕ) : Type 0 where
  pub no_shorter : min n (length old) ≤ length new
  pub no_longer : length new ≤ length old
  pub before : take (min n (length old)) new ≡ take n old

-- A call that changes nothing.
abbrev pub Stays : List ℕ → List ℕ → Type 0
Stays old new = new ≡ old

-- a crash leaves this and nothing else
abbrev pub Only : List ℕ → (List ℕ → Type 0) → Type 0
Only file outcomes = (c : List ℕ) → outcomes c → c ≡ file

-- what a crash at this moment may leave of a file
abbrev pub may_leave : Disk → ℕ → List ℕ → Type 0
may_leave disk = disk.left disk.moment

-- what a crash at this moment leaves of file f is what a read gives
abbrev pub IsSettled : ℕ → Disk → Type 0
IsSettled f disk = Only (disk.seen f) (may_leave disk f)

-- A crash at a moment might have left these files, all at once: each is one that it might have left, since files are
-- torn independently of each other.
abbrev pub IsImage : Disk → ℕ → (ℕ → List ℕ) → Type 0
IsImage disk t files = (k : ℕ) → disk.left t k (files k)

-- what a read gives is among what a crash may leave: a process that dies leaves what it had written
abbrev pub MayStay : Disk → Type 0
MayStay disk = IsImage disk disk.moment disk.seen

-- each file is as it was
abbrev pub SameFiles : Disk → Disk → Type 0
SameFiles old new = (k : ℕ) → new.seen k ≡ old.seen k

-- file f is this, and each other one is as it was
pub record Changes (f : ℕ) (bytes : List ℕ) (old new : Disk) : Type 0 where
  pub file : new.seen f ≡ bytes
  pub others : (k : ℕ) → k ≢ f → new.seen k ≡ old.seen k

-- what a crash might have left at the moments up to the old one stays
pub record GoesOn (old new : Disk) : Type 0 where
  pub later : old.moment ≤ new.moment
  pub kept : (t k : ℕ) (c : List ℕ) → t ≤ old.moment → new.left t k c ↔ old.left t k c

-- Time goes on by a call on file f. At each moment since, a crash might leave in f what a step makes of what it might
-- have left before the call, and in each other file what it might have left then.
pub record Passes (f : ℕ) (step : List ℕ → List ℕ → Type 0) (old new : Disk) : Type 0 where
  pub on : GoesOn old new
  pub file : (t : ℕ) (c : List ℕ) → old.moment < t → t ≤ new.moment → new.left t f c → (d : List ℕ) × may_leave old f d × step d c
  pub others : (t k : ℕ) (c : List ℕ) → k ≢ f → old.moment < t → t ≤ new.moment → new.left t k c → may_leave old k c

-- A crash at any moment from the one disk to the other leaves a file f that has P, and each other file as a crash
-- might have left it at first.
pub record LeavesOnly (f : ℕ) (P : List ℕ → Type 0) (old new : Disk) : Type 0 where
  pub on : GoesOn old new
  pub file : (t : ℕ) (c : List ℕ) → old.moment ≤ t → t ≤ new.moment → new.left t f c → P c
  pub others : (t k : ℕ) (c : List ℕ) → k ≢ f → old.moment ≤ t → t ≤ new.moment → new.left t k c → may_leave old k c

-- A crash at any moment from the one disk to the other leaves files that have P, all at once.
pub record LeavesAll (P : (ℕ → List ℕ) → Type 0) (old new : Disk) : Type 0 where
  pub on : GoesOn old new
  pub files : (t : ℕ) (files : ℕ → List ℕ) → old.moment ≤ t → t ≤ new.moment → IsImage new t files → P files
