-- The open requests of a node, as a step changes them: what it began is put in before it is kept, and the rest behind it.
use Rattle.std.specs.Prelude.{◌≡◌, ◌≤◌, if◌then◌else◌, ℕ, Bool, true, false, Option, None, List}
use Rattle.std.specs.List.{AllByRecursion}
use Rattle.std.specs.Map.{remove_entry}
use Rattle.std.specs.BTreeMap.{insert_entry, is_at, IsOrdered}
use Rattle.cs_base.specs.declared.ids.ReqId.{ReqId}
use Rattle.cs_base.specs.Requests.{request_cmp}
use Rattle.peer_messages.specs.declared.setting.Setting.{Setting}
use Rattle.node_steps.specs.State.{Batch, OpenWrite, OpenRead}
use Rattle.node_steps.specs.Effects.{open_at}
use Rattle.node_steps.specs.Requests.{unanswered_writes}
use Rattle.node_core.specs.declared.base.Base.{Base}
use Rattle.node_core.specs.declared.opening.Began.{Began}
use Rattle.node_core.specs.declared.slot.Slot.{Slot}
use Rattle.node_core.specs.declared.slot.Slot.TheVariants.{Untouched, New, Old, Gone}
use Rattle.node_core.specs.declared.work.Work.{Work}
use Rattle.node_core.specs.Slots.{IsNew}
use Rattle.node_core.specs.Working.{with_slot, left_open, down_with, batches_with}

-- ---- of one kind

-- with what the step began
abbrev pub with_begun : {A : Type 0} → ReqId → Slot A → List (ReqId × A) → List (ReqId × A)
with_begun {A} id Untouched xs = xs
with_begun {A} id (New a) xs = insert_entry request_cmp xs id a
with_begun {A} id (Old a) xs = xs
with_begun {A} id Gone xs = xs

-- without it, where there is something
abbrev pub without_begun : {A : Type 0} → ReqId → Bool → List (ReqId × A) → List (ReqId × A)
without_begun {A} id began xs = if began then remove_entry (is_at (request_cmp id)) xs else xs

-- with what it made of one that was open before
abbrev pub with_rest : {A : Type 0} → ReqId → Slot A → List (ReqId × A) → List (ReqId × A)
with_rest {A} id Untouched xs = xs
with_rest {A} id (New a) xs = xs
with_rest {A} id (Old a) xs = with_slot id (Old a) xs
with_rest {A} id Gone xs = with_slot id Gone xs

-- what began was not open
abbrev pub MayPut : {A : Type 0} → ReqId → List (ReqId × A) → Slot A → Type 0
MayPut {A} id xs slot = IsNew slot → open_at xs id ≡ None

-- whether it began one, and what is left in its slot when that is put in
abbrev pub LeavesRest : {A : Type 0} → Slot A → Bool → Slot A → Type 0
LeavesRest {A} Untouched began rest = (began ≡ false) × (rest ≡ Untouched)
LeavesRest {A} (New a) began rest = (began ≡ true) × (rest ≡ Untouched)
LeavesRest {A} (Old a) began rest = (began ≡ false) × (rest ≡ Old a)
LeavesRest {A} Gone began rest = (began ≡ false) × (rest ≡ Gone)

-- ---- of a node

-- what a node has in memory, with its open requests in order
pub record Known : Type 0 where
  pub setting : Setting
  pub me : ℕ
  pub down : List ℕ
  pub batches : List Batch
  pub writes : List (ReqId × OpenWrite)
  pub reads : List (ReqId × OpenRead)

abbrev pub known_of : Base → Known
known_of b = record { setting = b.setting; me = b.me; down = b.down; batches = b.batches; writes = b.writes.entries; reads = b.reads.entries }

-- open requests stand by id, and the node knows how many writes wait for an answer
pub record AreOrdered (b : Base) : Type 0 where
  pub writes : IsOrdered request_cmp b.writes
  pub reads : IsOrdered request_cmp b.reads
  pub unanswered : b.unanswered ≡ unanswered_writes b.writes.entries

-- what the step began is put in, and the rest is left
pub record IsBegunAs (id : ReqId) (w : Slot OpenWrite) (r : Slot OpenRead) (b : Base) (began : Began) (w' : Slot OpenWrite) (r' : Slot OpenRead) (b' : Base) : Type 0 where
  pub known : known_of b' ≡ record (known_of b) { writes = with_begun id w b.writes.entries; reads = with_begun id r b.reads.entries }
  pub write : LeavesRest w began.write w'
  pub read : LeavesRest r began.read r'

-- what the step ended is taken out, and the rest is put in, with the nodes that are taken for dead and the batches
pub record Rest : Type 0 where
  pub request : ReqId
  pub ended_writes : List ReqId
  pub ended_reads : List ReqId
  pub write : Slot OpenWrite
  pub read : Slot OpenRead
  pub marked : Option (List ℕ)
  pub batches : Option (List Batch)

abbrev pub rest_of : Work → Rest
rest_of w = record { request = w.request; ended_writes = w.ended_writes; ended_reads = w.ended_reads; write = w.write; read = w.read; marked = w.marked; batches = w.batches }

abbrev pub known_with : Rest → Base → Known
known_with r b = record (known_of b) {
  down = down_with r.marked b.down;
  batches = batches_with r.batches b.batches;
  writes = with_rest r.request r.write (left_open r.ended_writes b.writes.entries);
  reads = with_rest r.request r.read (left_open r.ended_reads b.reads.entries);
}

-- what the step began is taken out again
abbrev pub known_without : ReqId → Began → Base → Known
known_without id began b = record (known_of b) { writes = without_begun id began.write b.writes.entries; reads = without_begun id began.read b.reads.entries }

-- each of the open requests began by this time
abbrev pub BeganBy : {A : Type 0} → ℕ → List (ReqId × A) → Type 0
BeganBy {A} time xs = AllByRecursion (λ (x : ReqId × A). x.0.time ≤ time) xs
