-- What a store in memory shows.
use Rattle.std.specs.Prelude.{◌≡◌, ℕ, ◌≤◌, Bool, true, false, length, Option, None, Some, Result, Ok, Err}
use Rattle.cs_base.specs.declared.failed.Failed.{Failed}
use Rattle.cs_store.specs.declared.mem.MemStore.{MemStore}
use Rattle.cs_store.specs.declared.mem_file.Outcome.{Outcome}
use Rattle.cs_store.specs.declared.plan.Plan.{Plan}
use Rattle.cs_store.specs.Calls.{Call}
use Rattle.cs_store.specs.Disk.{Disk, IsSettled, MayStay}
use Rattle.cs_store.specs.Images.{Images, pending, done, settled, untouched, Becomes}
use Rattle.cs_store.specs.Past.{file_at, image_at, disk_at, kept_stays}
use Rattle.cs_store.specs.Plan.{begin_of, plan_after, stopped_after, IsBehind, behind_fewer}

-- a file, by what each outcome of a crash would leave of it
abbrev pub images_of : MemStore → ℕ → Images
images_of s = image_at s.files.items

abbrev pub disk_of : MemStore → Disk
disk_of s = disk_at s.past.items s.files.items

-- up to which length writes to a file take no memory
abbrev pub room_at : MemStore → ℕ → ℕ
room_at s k = (file_at s.files.items k).room

abbrev pub faults_of : MemStore → ℕ
faults_of s = s.faults

-- how many counted calls there were
abbrev pub calls_of : MemStore → ℕ
calls_of s = length s.calls.items

-- the next fault to come
abbrev pub plan_of : MemStore → Option Plan
plan_of s = s.plan

abbrev pub is_stopped : MemStore → Bool
is_stopped s = s.is_stopped

-- what a crash leaves of each file is what a read gives
abbrev pub IsAllSettled : MemStore → Type 0
IsAllSettled s = (k : ℕ) → IsSettled k (disk_of s)

-- it runs, and no fault is to come
abbrev pub IsSure : MemStore → Type 0
IsSure s = (s.plan ≡ None) × (s.is_stopped ≡ false)

-- it runs, and no fault is to come at the next n calls
abbrev pub spares : MemStore → ℕ → Type 0
spares s n = (s.is_stopped ≡ false) × IsBehind n s.plan

-- the files are the same, and all that a crash might leave or have left of them
abbrev pub IsSameDisk : MemStore → MemStore → Type 0
IsSameDisk old new = (new.files ≡ old.files) × (new.past ≡ old.past)

-- What a call on file f does, by how it begins. One that fails does nothing. One at which the node stops leaves of the
-- files what the outcome says, once the call's effect is pending: a sync has not settled.
abbrev pub ActsBy : Result (Option Outcome) Failed → ℕ → Call → (ℕ → Images) → (ℕ → Images) → Bool → Type 0
ActsBy (Err e) f call old new answer = (answer ≡ false) × Becomes f untouched untouched old new
ActsBy (Ok None) f call old new answer = (answer ≡ true) × Becomes f (done call) untouched old new
ActsBy (Ok (Some outcome)) f call old new answer = (answer ≡ false) × Becomes f (λ file. settled outcome (pending call file)) (settled outcome) old new

-- a call on file f that answered: it is the one that the plan says, and the plan goes on
pub record Acts (f : ℕ) (call : Call) (old new : MemStore) (answer : Bool) : Type 0 where
  pub files : ActsBy (begin_of (is_stopped old) (plan_of old)) f call (images_of old) (images_of new) answer
  pub plan : plan_of new ≡ plan_after (is_stopped old) (plan_of old)
  pub stopped : is_stopped new ≡ stopped_after (is_stopped old) (plan_of old)

-- how a call ends: it goes through, or the node stops with an outcome
abbrev pub EndsBy : Option Outcome → (ℕ → Images) → (ℕ → Images) → Bool → Type 0
EndsBy None old new answer = (answer ≡ true) × ((k : ℕ) → new k ≡ old k)
EndsBy (Some outcome) old new answer = (answer ≡ false) × ((k : ℕ) → new k ≡ settled outcome (old k))

-- a process that dies leaves what it had written
pub mem_may_stay : (s : MemStore) → Unit {0} → MayStay (disk_of s)
mem_may_stay s honest k = kept_stays s.past.items s.files.items k

pub mem_spares_fewer : (s : MemStore) (m n : ℕ) → n ≤ m → spares s m → spares s n
mem_spares_fewer s m n le it = (it.0, behind_fewer s.plan m n le it.1)
