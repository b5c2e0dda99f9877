-- A node inside a step: what its step has made so far, beside what the node had before.
use Rattle.std.specs.Prelude.{◌≡◌, ◌<◌, ◌+◌, ℕ, Option, Some, None, List, [], ◌∷◌, ◌++◌, ◌==◌, length, map, filter}
use Rattle.std.specs.List.{AllByRecursion}
use Rattle.std.specs.Map.{set_value, remove_entry}
use Rattle.std.specs.BTreeMap.{insert_entry, is_at}
use Rattle.cs_base.specs.declared.ids.ReqId.{ReqId}
use Rattle.cs_base.specs.Requests.{request_cmp}
use Rattle.stored_changes.specs.Spelling.{MutationFits}
use Rattle.row_change.specs.declared.entry.LogItem.{LogItem}
use Rattle.row_change.specs.declared.entry.LogItem.TheVariants.{Data, Paxos, HintAdd, HintGone, Ceiling, Mark, Purge}
use Rattle.peer_messages.specs.declared.message.Body.{Body}
use Rattle.peer_messages.specs.declared.message.Body.TheVariants.{Write, WriteAck, Read, ReadReply, Mend, MendAck, Hint, HintAck}
use Rattle.peer_messages.specs.declared.outcome.Outbound.{Outbound}
use Rattle.durable_state.specs.State.{Durable}
use Rattle.node_steps.specs.State.{NodeState, Batch, OpenWrite}
use Rattle.node_steps.specs.Effects.{Effects, open_at}
use Rattle.node_steps.specs.Hints.{KeptHints}
use Rattle.node_steps.specs.Requests.{unanswered_writes}
use Rattle.node_steps.specs.Acts.{Act, Incoming, Hears, request_at}
use Rattle.node_steps.specs.Steps.{messages_of}
use Rattle.node_steps.specs.Leading.{Forgotten, state_under, keeping}
use Rattle.node_core.specs.declared.base.Base.{Base}
use Rattle.node_core.specs.declared.slot.Slot.{Slot}
use Rattle.node_core.specs.declared.slot.Slot.TheVariants.{Untouched, New, Old, Gone}
use Rattle.node_core.specs.declared.work.Work.{Work}
use Rattle.node_core.specs.declared.work.Given.{Given}
use Rattle.node_core.specs.Slots.{IsNew}

-- ---- the request that the step is about

-- the open requests, with what the step made of this one
abbrev pub with_slot : {A : Type 0} → ReqId → Slot A → List (ReqId × A) → List (ReqId × A)
with_slot {A} id Untouched xs = xs
with_slot {A} id (New a) xs = insert_entry request_cmp xs id a
with_slot {A} id (Old a) xs = set_value (is_at (request_cmp id)) xs a
with_slot {A} id Gone xs = remove_entry (is_at (request_cmp id)) xs

-- a request that is new was not open, and one that moved was
abbrev pub IsSlotOf : {A : Type 0} → ReqId → List (ReqId × A) → Slot A → Type 0
IsSlotOf {A} id xs Untouched = Unit {0}
IsSlotOf {A} id xs (New a) = open_at xs id ≡ None
IsSlotOf {A} id xs (Old a) = (b : A) × (open_at xs id ≡ Some b)
IsSlotOf {A} id xs Gone = Unit {0}

-- ---- requests whose deadline came

-- the open requests, without those that ended
abbrev pub left_open : {A : Type 0} → List ReqId → List (ReqId × A) → List (ReqId × A)
left_open {A} [] xs = xs
left_open {A} (id ∷ ids) xs = left_open ids (remove_entry (is_at (request_cmp id)) xs)

-- ---- the state

abbrev pub down_with : Option (List ℕ) → List ℕ → List ℕ
down_with None down = down
down_with (Some marked) down = marked

abbrev pub batches_with : Option (List Batch) → List Batch → List Batch
batches_with None batches = batches
batches_with (Some new) batches = new

-- what the step has made of what the node forgets at a stop
abbrev pub forgotten_in : Base → Work → Forgotten
forgotten_in b w = record {
  time = w.time;
  risen = w.time;
  down = down_with w.marked b.down;
  batches = batches_with w.batches b.batches;
  writes = with_slot w.request w.write (left_open w.ended_writes b.writes.entries);
  reads = with_slot w.request w.read (left_open w.ended_reads b.reads.entries);
}

-- the node's state inside the step, where d is what the changes taken in so far make of what it kept, and these hints are kept
abbrev pub state_at : Base → KeptHints → Durable → Work → NodeState
state_at b k d w = state_under w.ceiling (forgotten_in b w) (keeping k d)

abbrev pub effects_given : Given → Effects
effects_given g = record { sends = g.sends; entries = g.entries }

-- ---- what the node hears of its own

abbrev pub own_act : ℕ → Outbound → Act
own_act me x = Hears (record { from = me; born = x.born; request = x.request; body = x.body })

abbrev pub own_acts : ℕ → List Outbound → List Act
own_acts me xs = map (own_act me) xs

-- what goes to the node itself
abbrev pub own_sent : ℕ → List Outbound → List Outbound
own_sent me xs = filter (λ x. x.upto == me) xs

-- these were sent to other nodes, or wait at the node itself
pub record IsSent (me : ℕ) (xs : List Outbound) (w w' : Work) : Type 0 where
  pub queue : w'.queue.items ≡ w.queue.items ++ own_sent me xs
  pub messages : w'.messages ≡ w.messages ++ messages_of me w.time xs
  pub rest : w' ≡ record w { queue = w'.queue; messages = w'.messages }

-- a body that comes to a node, its own ones too
abbrev pub Heard : Type 0
Heard = Incoming

abbrev pub heard_act : Heard → Act
heard_act h = Hears (record { from = h.from; born = h.born; request = h.request; body = h.body })

-- how many further moves may come of a body at the node itself, with its own
abbrev pub weight_of : Body → ℕ
weight_of (Write m) = 2
weight_of WriteAck = 1
weight_of (Read q) = 4
weight_of (ReadReply content) = 3
weight_of (Mend m) = 2
weight_of MendAck = 1
weight_of (Hint number m) = 2
weight_of (HintAck number) = 1

abbrev pub weight : List Outbound → ℕ
weight [] = 0
weight (x ∷ xs) = weight_of x.body + weight xs

-- ---- what a step may keep. A merge is tested where it is heard

abbrev pub BodyFits : Body → Type 0
BodyFits (Write m) = MutationFits m
BodyFits WriteAck = Unit {0}
BodyFits (Read q) = Unit {0}
BodyFits (ReadReply content) = Unit {0}
BodyFits (Mend m) = Unit {0}
BodyFits MendAck = Unit {0}
BodyFits (Hint number m) = MutationFits m
BodyFits (HintAck number) = Unit {0}

-- it is of a client's request, and not of a hint: no node sends itself one
abbrev pub IsPlain : Body → Type 0
IsPlain (Write m) = Unit {0}
IsPlain WriteAck = Unit {0}
IsPlain (Read q) = Unit {0}
IsPlain (ReadReply content) = Unit {0}
IsPlain (Mend m) = Unit {0}
IsPlain MendAck = Unit {0}
IsPlain (Hint number m) = ⊥
IsPlain (HintAck number) = ⊥

-- changes that can be written, and that came at this time
abbrev pub IsDataAt : ℕ → LogItem → Type 0
IsDataAt time (Data arrival m) = (arrival ≡ time) × MutationFits m
IsDataAt time (Paxos p row) = ⊥
IsDataAt time (HintAdd h) = ⊥
IsDataAt time (HintGone peer number) = ⊥
IsDataAt time (Ceiling t) = ⊥
IsDataAt time (Mark m) = ⊥
IsDataAt time (Purge x) = ⊥

-- a hint that comes, and that can be written
abbrev pub IsMade : LogItem → Type 0
IsMade (Data arrival m) = ⊥
IsMade (Paxos p row) = ⊥
IsMade (HintAdd h) = MutationFits h.mutation
IsMade (HintGone peer number) = ⊥
IsMade (Ceiling t) = ⊥
IsMade (Mark m) = ⊥
IsMade (Purge x) = ⊥

-- a hint that goes
abbrev pub IsGone : LogItem → Type 0
IsGone (Data arrival m) = ⊥
IsGone (Paxos p row) = ⊥
IsGone (HintAdd h) = ⊥
IsGone (HintGone peer number) = Unit {0}
IsGone (Ceiling t) = ⊥
IsGone (Mark m) = ⊥
IsGone (Purge x) = ⊥

pub record IsOwn (me : ℕ) (id : ReqId) (x : Outbound) : Type 0 where
  pub upto : x.upto ≡ me
  pub request : x.request ≡ id
  pub fits : BodyFits x.body
  pub plain : IsPlain x.body

-- what began in the step is the node's own, and began at its time
pub record IsEarly (me : ℕ) (w : Work) : Type 0 where
  pub write : IsNew w.write → w.request ≡ request_at me w.time
  pub read : IsNew w.read → w.request ≡ request_at me w.time

abbrev pub EndedBefore : ℕ → List ReqId → Type 0
EndedBefore time ids = AllByRecursion (λ (id : ReqId). id.time < time) ids

abbrev pub FitsWrite : Slot OpenWrite → Type 0
FitsWrite Untouched = Unit {0}
FitsWrite (New w) = MutationFits w.mutation
FitsWrite (Old w) = MutationFits w.mutation
FitsWrite Gone = Unit {0}

abbrev pub FitWrites : List (ReqId × OpenWrite) → Type 0
FitWrites xs = AllByRecursion (λ (x : ReqId × OpenWrite). MutationFits x.1.mutation) xs

-- what the step ended began before it, and it knows how many requests are left
pub record IsCounted (b : Base) (w : Work) : Type 0 where
  pub writes : EndedBefore w.time w.ended_writes
  pub reads : EndedBefore w.time w.ended_reads
  pub unanswered : w.unanswered ≡ unanswered_writes (left_open w.ended_writes b.writes.entries)
  pub open_reads : w.open_reads ≡ length (left_open w.ended_reads b.reads.entries)

-- what the step made is of one request, and can be kept
pub record IsSound (b : Base) (w : Work) : Type 0 where
  pub write : IsSlotOf w.request (left_open w.ended_writes b.writes.entries) w.write
  pub read : IsSlotOf w.request (left_open w.ended_reads b.reads.entries) w.read
  pub queue : AllByRecursion (IsOwn b.me w.request) w.queue.items
  pub taken : AllByRecursion (IsDataAt w.time) w.taken
  pub made : AllByRecursion IsMade w.made
  pub gone : AllByRecursion IsGone w.gone
  pub early : IsEarly b.me w
  pub fits : FitWrites (with_slot w.request w.write (left_open w.ended_writes b.writes.entries))
  pub counted : IsCounted b w
