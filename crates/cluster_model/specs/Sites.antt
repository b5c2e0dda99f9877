-- The nodes of a cluster as they are kept, and what comes of an event at one of them.
use Rattle.std.specs.Prelude.{◌≡◌, ◌⊎◌, ℕ, ◌≤◌, Bool, true, false, Option, Some, None, List, [], slice_get, slice_set, Result, Ok, Err}
use Rattle.std.specs.declared.alloc.AllocError.{AllocError}
use Rattle.changes.specs.declared.Partition.{Partition}
use Rattle.cs_store.specs.declared.mem.MemStore.{MemStore}
use Rattle.cs_store.specs.Disk.{IsImage}
use Rattle.cs_store.specs.Mem.{disk_of, plan_of, IsAllSettled}
use Rattle.peer_messages.specs.declared.event.Event.{Event}
use Rattle.peer_messages.specs.declared.event.What.{What}
use Rattle.peer_messages.specs.declared.chronicle.Invalid.TheVariants.{PartitionTooLarge}
use Rattle.peer_messages.specs.declared.chronicle.Refusal.{Refusal}
use Rattle.peer_messages.specs.declared.chronicle.Refusal.TheVariants.{Overloaded, Invalid, Down as IsDown}
use Rattle.peer_messages.specs.declared.outcome.Outputs.{Outputs}
use Rattle.peer_messages.specs.declared.setting.Setting.{Setting}
use Rattle.peer_messages.specs.Settings.{up_of}
use Rattle.durable_state.specs.State.{Durable, IsSameKept}
use Rattle.node_steps.specs.State.{loaded}
use Rattle.node_steps.specs.Acts.{Deed}
use Rattle.node_steps.specs.Steps.{risen_time, end_of_time}
use Rattle.node_steps.specs.Stops.{remains, remains_in, CutStep, MayBeLeft}
use Rattle.replica.specs.Finding.{StandFor}
use Rattle.replica.specs.Kept.{IsKeptOf}
use Rattle.node_core.specs.declared.node.Node.{Node}
use Rattle.node_core.specs.declared.outcome.Lost.{Lost}
use Rattle.node_core.specs.Nodes.{state_with, Steps, HasNoRoom, IsTooLarge}
use Rattle.cluster_model.specs.Takes.{event_at}
use Rattle.cluster_model.specs.Faults.{NeverFails, is_failure, planned}
use Rattle.cluster_model.specs.declared.told.Told.{Told}
use Rattle.cluster_model.specs.declared.seat.Part.{Part}
use Rattle.cluster_model.specs.declared.seat.Part.TheVariants.{Runs, Rests, Lent}
use Rattle.cluster_model.specs.declared.seat.Seat.{Seat}
use Rattle.cluster_model.specs.declared.seat.Woken.{Woken}
use Rattle.cluster_model.specs.declared.seat.Woken.TheVariants.{Up, Failed, NoMemory}
use Rattle.cluster_model.specs.declared.turn.Turn.{Turn}
use Rattle.cluster_model.specs.declared.turn.Turn.TheVariants.{Stepped, Stopped, Refused, NoNode}

-- What a kind of replica says of itself: what files stand for, what it keeps, its store, and whether it is whole
pub record Keeper (R : Type 0) : Type 1 where
  pub stands_for : (ℕ → List ℕ) → Durable → Type 0
  pub durable : R → Durable
  pub disk : R → MemStore
  pub is_whole : R → Type 0

abbrev pub keeper : {R : Type 0} → ((ℕ → List ℕ) → Durable → Type 0) → (R → Durable) → (R → MemStore) → (R → Type 0) → Keeper R
keeper stands_for durable disk is_whole = record { stands_for = stands_for; durable = durable; disk = disk; is_whole = is_whole }

-- ---- stores

-- a store whose node crashed
pub record Crashed (old new : MemStore) : Type 0 where
  pub settled : IsAllSettled new
  pub sure : NeverFails new
  pub left : IsImage (disk_of old) (disk_of old).moment (disk_of new).seen

-- a store of a node that is down, which has this
pub record HasLeft {R : Type 0} (m : Keeper R) (left : Durable) (s : MemStore) : Type 0 where
  pub settled : IsAllSettled s
  pub sure : NeverFails s
  pub stands : StandFor m.stands_for (IsSameKept left) (disk_of s).seen

-- ---- nodes

-- it may take an event
pub record IsReady {R : Type 0} (m : Keeper R) (n : Node R MemStore) : Type 0 where
  pub runs : n.core.runs ≡ true
  pub whole : m.is_whole n.replica
  pub tied : IsKeptOf (m.durable n.replica) n.core.kept

abbrev pub MayTake : {R : Type 0} → Keeper R → Part R → Type 0
MayTake m (Runs n) = IsReady m n
MayTake m (Rests s) = Unit {0}
MayTake m Lent = Unit {0}

-- nothing has happened to it
pub record Stays {R : Type 0} (m : Keeper R) (n n' : Node R MemStore) : Type 0 where
  pub core : n'.core ≡ n.core
  pub kept : m.durable n'.replica ≡ m.durable n.replica
  pub ready : IsReady m n'
  pub sure : NeverFails (m.disk n.replica) → NeverFails (m.disk n'.replica)

-- it has stepped, and takes these nodes for alive
pub record HasStepped {R : Type 0} (m : Keeper R) (all : List ℕ) (n : Node R MemStore) (e : Event) (o : Outputs) (alive : List ℕ) (n' : Node R MemStore) : Type 0 where
  pub early : risen_time n.core.time e ≤ end_of_time
  pub steps : Steps n.core (m.durable n.replica) e o n'.core (m.durable n'.replica)
  pub up : alive ≡ up_of n'.core.down all
  pub ready : IsReady m n'
  pub sure : NeverFails (m.disk n.replica) → NeverFails (m.disk n'.replica)

-- it stopped in the event, and this store is left of it
pub record HasHalted {R : Type 0} (m : Keeper R) (n : Node R MemStore) (told : List Told) (e : Event) (l : Lost) (failed : Bool) (s : MemStore) : Type 0 where
  pub deeds : List Deed
  pub cut : CutStep n.core.setting n.core.me (state_with n.core (m.durable n.replica)) e deeds
  pub entries : remains l.started l.entries ≡ remains_in n.core.me (state_with n.core (m.durable n.replica)) e deeds
  pub stands : StandFor m.stands_for (MayBeLeft n.core.setting n.core.me (state_with n.core (m.durable n.replica)) e (remains l.started l.entries)) (disk_of s).seen
  pub settled : IsAllSettled s
  pub sure : NeverFails s
  pub cause : NeverFails (m.disk n.replica) → ⊥
  pub stopped : Bool
  pub by : failed ≡ is_failure told stopped

-- why it takes no step
abbrev pub Refuses : {R : Type 0} → Keeper R → Node R MemStore → Event → Refusal → Type 0
Refuses m n e refusal =
    ((refusal ≡ Overloaded) × ((log_end : ℕ) × HasNoRoom n.core (m.durable n.replica) log_end e))
    ⊎ ((refusal ≡ Invalid PartitionTooLarge) × ((p : Partition) × IsTooLarge n.core (m.durable n.replica) e p))

-- ---- turns

-- a node, its clock, and what its store was told
abbrev pub IsSeat : {R : Type 0} → Part R → ℕ → List Told → Seat R → Type 0
IsSeat part clock told seat = (seat.part ≡ part) × (seat.clock ≡ clock) × (seat.told.items ≡ told)

abbrev pub TurnsUp : {R : Type 0} → Keeper R → List ℕ → Seat R → Node R MemStore → Event → Turn → Seat R → Type 0
TurnsUp {R} m all seat n e (Stepped o alive) seat' = (n' : Node R MemStore) × IsSeat (Runs n') seat.clock seat.told.items seat' × HasStepped m all n e o alive n'
TurnsUp {R} m all seat n e (Stopped l failed) seat' = (s : MemStore) × IsSeat (Rests s) seat.clock [] seat' × HasHalted m n seat.told.items e l failed s
TurnsUp {R} m all seat n e (Refused refusal) seat' = (n' : Node R MemStore) × IsSeat (Runs n') seat.clock seat.told.items seat' × Stays m n n' × Refuses m n e refusal
TurnsUp {R} m all seat n e NoNode seat' = ⊥

abbrev pub TurnsBy : {R : Type 0} → Keeper R → List ℕ → Seat R → Part R → Event → Turn → Seat R → Type 0
TurnsBy m all seat (Runs n) e turn seat' = TurnsUp m all seat n e turn seat'
TurnsBy m all seat (Rests s) e turn seat' = (turn ≡ Refused IsDown) × (seat' ≡ seat)
TurnsBy m all seat Lent e turn seat' = (turn ≡ Refused IsDown) × (seat' ≡ seat)

-- of a cluster of these nodes
abbrev pub Turns : {R : Type 0} → Keeper R → List ℕ → Seat R → Event → Turn → Seat R → Type 0
Turns m all seat e turn seat' = TurnsBy m all seat seat.part e turn seat'

-- nothing has happened at it
abbrev pub StaysBy : {R : Type 0} → Keeper R → Seat R → Part R → Seat R → Type 0
StaysBy {R} m seat (Runs n) seat' = (n' : Node R MemStore) × IsSeat (Runs n') seat.clock seat.told.items seat' × Stays m n n'
StaysBy m seat (Rests s) seat' = seat' ≡ seat
StaysBy m seat Lent seat' = seat' ≡ seat

abbrev pub StaysAt : {R : Type 0} → Keeper R → Seat R → Seat R → Type 0
StaysAt m seat seat' = StaysBy m seat seat.part seat'

-- at node k
abbrev pub AtSeat : {R : Type 0} → (Seat R → Seat R → Type 0) → Type 0 → List (Seat R) → ℕ → Option (Seat R) → List (Seat R) → Type 0
AtSeat {R} Becomes Otherwise seats k None seats' = Otherwise × (seats' ≡ seats)
AtSeat {R} Becomes Otherwise seats k (Some seat) seats' = (seat' : Seat R) × Becomes seat seat' × (seats' ≡ slice_set seats k seat')

abbrev pub TurnsAt : {R : Type 0} → Keeper R → List ℕ → List (Seat R) → ℕ → What → Turn → List (Seat R) → Type 0
TurnsAt {R} m all seats k what turn seats' = AtSeat (λ (seat seat' : Seat R). Turns m all seat (event_at seat.clock what) turn seat') (turn ≡ NoNode) seats k (slice_get seats k) seats'

-- ---- stops and loads

abbrev pub StopsBy : {R : Type 0} → Keeper R → Part R → Part R → Type 0
StopsBy {R} m (Runs n) part' = (s : MemStore) × (part' ≡ Rests s) × Crashed (m.disk n.replica) s
StopsBy m (Rests s) part' = part' ≡ Rests s
StopsBy m Lent part' = part' ≡ Lent

-- a fault was told to its store, and else nothing has happened
abbrev pub TellsBy : {R : Type 0} → Keeper R → Told → Part R → Part R → Type 0
TellsBy {R} m fault (Runs n) part' =
    (n' : Node R MemStore) × (part' ≡ Runs n') × (n'.core ≡ n.core) × (m.durable n'.replica ≡ m.durable n.replica) × (m.is_whole n.replica → m.is_whole n'.replica)
    × (plan_of (m.disk n'.replica) ≡ planned fault (plan_of (m.disk n.replica)))
TellsBy m fault (Rests s) part' = part' ≡ Rests s
TellsBy m fault Lent part' = part' ≡ Lent

-- a node that was loaded from a store
pub record IsLoaded {R : Type 0} (m : Keeper R) (c : Setting) (k : ℕ) (s : MemStore) (n : Node R MemStore) : Type 0 where
  pub found : m.stands_for (disk_of s).seen (m.durable n.replica)
  pub state : state_with n.core (m.durable n.replica) ≡ loaded (m.durable n.replica)
  pub setting : n.core.setting ≡ c
  pub me : n.core.me ≡ k
  pub ready : IsReady m n

-- what a restart makes of the store of a node that is down
abbrev pub StillLeft : {R : Type 0} → Keeper R → MemStore → MemStore → Type 0
StillLeft m s s' = (left : Durable) → HasLeft m left s → HasLeft m left s'

-- a node that is down has something that was left
abbrev pub MayWake : {R : Type 0} → Keeper R → Part R → Type 0
MayWake m (Runs n) = Unit {0}
MayWake m (Rests s) = (left : Durable) × HasLeft m left s
MayWake m Lent = Unit {0}

-- what comes of a load
abbrev pub Loads : {R : Type 0} → Keeper R → Setting → ℕ → List Told → MemStore → Woken R → Type 0
Loads m c k told s (Up n) = IsLoaded m c k s n × (told ≡ [] → NeverFails (m.disk n.replica))
Loads m c k told s (Failed s') = StillLeft m s s' × (told ≡ [] → ⊥)
Loads m c k told s (NoMemory s') = StillLeft m s s'

abbrev pub Puts : {R : Type 0} → Seat R → Woken R → Result Bool AllocError → Seat R → Type 0
Puts seat (Up n) (Ok ok) seat' = (ok ≡ true) × IsSeat (Runs n) seat.clock seat.told.items seat'
Puts seat (Up n) (Err e) seat' = ⊥
Puts seat (Failed s) (Ok ok) seat' = (ok ≡ false) × IsSeat (Rests s) seat.clock [] seat'
Puts seat (Failed s) (Err e) seat' = ⊥
Puts seat (NoMemory s) (Ok ok) seat' = ⊥
Puts seat (NoMemory s) (Err e) seat' = IsSeat (Rests s) seat.clock seat.told.items seat'

abbrev pub WakesBy : {R : Type 0} → Keeper R → Setting → ℕ → Seat R → Part R → Bool → Seat R → Type 0
WakesBy m c k seat (Runs n) ok seat' = (ok ≡ true) × (seat' ≡ seat)
WakesBy {R} m c k seat (Rests s) true seat' =
    (n : Node R MemStore) × IsSeat (Runs n) seat.clock seat.told.items seat' × IsLoaded m c k s n × (seat.told.items ≡ [] → NeverFails (m.disk n.replica))
WakesBy m c k seat (Rests s) false seat' = (s' : MemStore) × IsSeat (Rests s') seat.clock [] seat' × StillLeft m s s' × (seat.told.items ≡ [] → ⊥)
WakesBy m c k seat Lent ok seat' = (ok ≡ true) × (seat' ≡ seat)

-- a store was asked, and nothing came of it
abbrev pub SleepsBy : {R : Type 0} → Keeper R → Seat R → Part R → Seat R → Type 0
SleepsBy m seat (Runs n) seat' = seat' ≡ seat
SleepsBy m seat (Rests s) seat' = (s' : MemStore) × IsSeat (Rests s') seat.clock seat.told.items seat' × StillLeft m s s'
SleepsBy m seat Lent seat' = seat' ≡ seat

-- the clock of node k was this
abbrev pub ClockWas : {R : Type 0} → List (Seat R) → ℕ → Option ℕ → Type 0
ClockWas {R} seats k None = slice_get seats k ≡ None
ClockWas {R} seats k (Some micros) = (seat : Seat R) × (slice_get seats k ≡ Some seat) × (seat.clock ≡ micros)
