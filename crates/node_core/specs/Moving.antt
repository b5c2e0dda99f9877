-- The moves of a step, one after another, as its code makes them.
use Rattle.std.specs.Prelude.{◌≡◌, ◌≤◌, ◌<◌, ℕ, Bool, true, false, Option, Some, None, List, [], ◌∷◌, ◌++◌, map, filter, flat_map, Contains}
use Rattle.std.specs.List.{AllByRecursion}
use Rattle.std.specs.BTreeMap.{IsOrdered}
use Rattle.cs_base.specs.declared.ids.ReqId.{ReqId}
use Rattle.cs_base.specs.Requests.{request_cmp}
use Rattle.changes.specs.declared.Change.{Change}
use Rattle.changes.specs.declared.Held.{Held}
use Rattle.changes.specs.declared.Mutation.{Mutation}
use Rattle.changes.specs.declared.Query.{Query}
use Rattle.cs_store.specs.Disk.{Disk}
use Rattle.stored_changes.specs.Spelling.{MutationFits}
use Rattle.row_change.specs.declared.entry.Hint as hint
use Rattle.row_change.specs.declared.entry.LogItem.{LogItem}
use Rattle.row_change.specs.declared.entry.LogItem.TheVariants.{Data}
use Rattle.peer_messages.specs.declared.chronicle.Entry.{Entry}
use Rattle.peer_messages.specs.declared.event.Ask.{Ask}
use Rattle.peer_messages.specs.declared.event.What.{What}
use Rattle.peer_messages.specs.declared.event.What.TheVariants.{Client, Deliver, Alive, Collect, Flush, Tick}
use Rattle.peer_messages.specs.declared.message.Body.{Body}
use Rattle.peer_messages.specs.declared.message.Body.TheVariants.{Write, WriteAck, Read, ReadReply, Mend, MendAck, Hint, HintAck}
use Rattle.peer_messages.specs.declared.outcome.Outbound.{Outbound}
use Rattle.peer_messages.specs.Settings.{marked}
use Rattle.durable_state.specs.State.{Durable, changes_of}
use Rattle.durable_state.specs.Taking.{TakesIn}
use Rattle.durable_state.specs.Keeping.{Commits}
use Rattle.node_steps.specs.Fitting.{write_fits}
use Rattle.node_steps.specs.State.{NodeState, OpenWrite, OpenRead, loaded}
use Rattle.node_steps.specs.Effects.{Effects}
use Rattle.node_steps.specs.Hints.{KeptHints}
use Rattle.node_steps.specs.Leading.{Making, MovesOn}
use Rattle.node_steps.specs.Replicas.{IsAnswerTo, IsReplyTo, replies as replies_to}
use Rattle.node_steps.specs.Requests.{unanswered_writes}
use Rattle.node_steps.specs.Acts.{Act, Rises, Hears, Asks, Marks, DeadlineComes, HintExpires, Deed, Chain, request_at}
use Rattle.node_steps.specs.Steps.{messages_of, entries_of}
use Rattle.node_steps.specs.Keeping.{Gone, data_by, add_item, gone_item}
use Rattle.node_steps.specs.Stops.{is_entered_at_stop}
use Rattle.hint_store.specs.Staged.{IsSameHints}
use Rattle.replica.specs.Calls.{Looked}
use Rattle.node_core.specs.declared.base.Base.{Base}
use Rattle.node_core.specs.declared.due.DueKey.{DueKey}
use Rattle.node_core.specs.declared.hearing.Asker.{Asker}
use Rattle.node_core.specs.declared.work.Given.{Given}
use Rattle.node_core.specs.declared.work.Work.{Work}
use Rattle.node_core.specs.Asking.{IsUnmoved}
use Rattle.node_core.specs.Due.{AreDueKeys, AreOwn, act_by}
use Rattle.node_core.specs.Hearing.{AckMoves, ReplyMoves, MendMoves}
use Rattle.node_core.specs.Hinting.{Stage, at, SendsFirst, HearsHintAck}
use Rattle.node_core.specs.Leading.{Leads}
use Rattle.node_core.specs.Working.{Heard, forgotten_in, left_open, effects_given, own_acts, heard_act, own_sent, weight_of, weight, IsOwn, IsPlain, IsDataAt, IsSent, IsSound, FitWrites}

-- what a move makes, with what it gives
abbrev pub making_of : List LogItem → List hint.Hint → List Gone → Given → Making
making_of taken made gone g = record { taken = taken; made = made; gone = gone; sent = g.sends; told = g.entries }

-- One move, from where these hints are kept: what it makes
pub record Moved (b : Base) (d : Durable) (k : KeptHints) (x : Stage) (a : Act) (g : Given) (x' : Stage) : Type 0 where
  pub kept : KeptHints
  pub same : IsSameHints kept x'.hints
  pub taken : List LogItem
  pub made : List hint.Hint
  pub gone : List Gone
  pub takes : x'.work.taken ≡ x.work.taken ++ taken
  pub makes : x'.work.made ≡ x.work.made ++ map add_item made
  pub loses : x'.work.gone ≡ x.work.gone ++ map gone_item gone
  pub brings : data_by b.setting x.work.time a ≡ taken
  pub moves : MovesOn b.setting b.me (loaded d) x.work.ceiling x.work.taken k (forgotten_in b x.work) a (making_of taken made gone g) kept (forgotten_in b x'.work)

-- By one move the node goes from what the step made so far to x', and this is given. Whatever the changes make of d, the move is
-- one from the state that those before it make
abbrev pub MovesTo : Base → Durable → Stage → Act → Given → Stage → Type 0
MovesTo b d x a g x' = (k : KeptHints) → IsSameHints k x.hints → Moved b d k x a g x'

-- what a move leaves as it was: what came before it, and what waits
pub record GoesOn (w w' : Work) : Type 0 where
  pub time : w'.time ≡ w.time
  pub ceiling : w'.ceiling ≡ w.ceiling
  pub request : w'.request ≡ w.request
  pub queue : w'.queue.items ≡ w.queue.items
  pub messages : w'.messages ≡ w.messages
  pub entries : w'.entries ≡ w.entries

-- From s, with these matters, a chain of moves has come to what the step made, whatever the changes taken in make of d.
-- The node has yet to hear `pending`
pub record HasCome (b : Base) (d : Durable) (s : NodeState) (matters left : List Act) (pending : List Outbound) (x : Stage) : Type 0 where
  pub kept : KeptHints
  pub same : IsSameHints kept x.hints
  pub making : Making
  pub taken : x.work.taken ≡ making.taken
  pub made : x.work.made ≡ map add_item making.made
  pub gone : x.work.gone ≡ map gone_item making.gone
  pub messages : x.work.messages ≡ messages_of b.me x.work.time making.sent
  pub entries : x.work.entries ≡ making.told
  pub leads : Leads b.setting b.me d s matters x.work.ceiling making kept (forgotten_in b x.work) (own_acts b.me pending) left

-- what is held of the query's rows, before changes of a partition are taken in and behind them
abbrev pub IsBehind : Mutation → Query → List Held → List Held → Type 0
IsBehind m q part all =
    (content content' : List Change) → TakesIn content m.partition m.changes content' → IsAnswerTo content q part → IsAnswerTo content' q all

abbrev pub IsBehindItem : LogItem → Query → List Held → List Held → Type 0
IsBehindItem (Data arrival m) q part all = IsBehind m q part all
IsBehindItem i q part all = all ≡ part

abbrev pub AreBehind : List LogItem → Query → List Held → List Held → Type 0
AreBehind items q part all =
    (time : ℕ) → AllByRecursion (IsDataAt time) items → (d d' : Durable) → Commits items d d' → IsAnswerTo (changes_of d.content) q part → IsAnswerTo (changes_of d'.content) q all

-- what is held of the query's rows, whatever the changes make of d
abbrev pub AnswersBehind : List LogItem → Durable → Query → List Held → Type 0
AnswersBehind items d q part = (d' : Durable) → Commits items d d' → IsReplyTo (changes_of d'.content) q part

-- what a body is answered with, if it asks what is held
abbrev pub IsReadFor : List LogItem → Durable → Body → Option (List Held) → Type 0
IsReadFor items d (Read q) part = (p : List Held) × (part ≡ Some p) × AnswersBehind items d q p
IsReadFor items d (Write m) part = part ≡ None
IsReadFor items d WriteAck part = part ≡ None
IsReadFor items d (ReadReply content) part = part ≡ None
IsReadFor items d (Mend m) part = part ≡ None
IsReadFor items d MendAck part = part ≡ None
IsReadFor items d (Hint number m) part = part ≡ None
IsReadFor items d (HintAck number) part = part ≡ None

-- it is there where it is asked
abbrev pub HasPart : Body → Option (List Held) → Type 0
HasPart (Read q) part = (p : List Held) × (part ≡ Some p)
HasPart (Write m) part = Unit {0}
HasPart WriteAck part = Unit {0}
HasPart (ReadReply content) part = Unit {0}
HasPart (Mend m) part = Unit {0}
HasPart MendAck part = Unit {0}
HasPart (Hint number m) part = Unit {0}
HasPart (HintAck number) part = Unit {0}

abbrev pub replies : Asker → Body → Effects
replies a body = replies_to (record { from = a.from; request = a.request }) body

abbrev pub left_writes : Base → Work → List (ReqId × OpenWrite)
left_writes b w = left_open w.ended_writes b.writes.entries

abbrev pub left_reads : Base → Work → List (ReqId × OpenRead)
left_reads b w = left_open w.ended_reads b.reads.entries

-- changes come in, and are acknowledged
pub record TakesChanges (a : Asker) (m : Mutation) (reply : Body) (x : Stage) (g : Given) (x' : Stage) : Type 0 where
  pub gives : effects_given g ≡ replies a reply
  pub takes : x' ≡ at (record x.work { taken = x.work.taken ++ Data x.work.time m ∷ [] }) x.hints

-- a merge comes in, if it can be written
abbrev pub TakesMend : Bool → Asker → Mutation → Stage → Given → Stage → Type 0
TakesMend true a m x g x' = MutationFits m × TakesChanges a m MendAck x g x'
TakesMend false a m x g x' = (g.sends ≡ []) × (g.entries ≡ []) × (x' ≡ x)

-- what a body makes of the step, by what came
abbrev pub TakesBody : Base → Stage → Asker → Body → Option (List Held) → Given → Stage → Type 0
TakesBody b x a (Write m) part g x' = TakesChanges a m WriteAck x g x'
TakesBody b x a WriteAck part g x' = AckMoves b.setting a.request a.from (left_writes b x.work) x.work.write g x'.work.write × (x' ≡ at (record x.work { write = x'.work.write }) x.hints)
TakesBody b x a (Read q) part g x' = ((p : List Held) × (part ≡ Some p) × (effects_given g ≡ replies a (ReadReply p))) × (x' ≡ x)
TakesBody b x a (ReadReply content) part g x' = ReplyMoves b.setting a.request a.from content (left_reads b x.work) x.work.read g x'.work.read × (x' ≡ at (record x.work { read = x'.work.read }) x.hints)
TakesBody b x a (Mend m) part g x' = TakesMend (write_fits b.setting m) a m x g x'
TakesBody b x a MendAck part g x' = MendMoves b.setting a.request a.from (left_reads b x.work) x.work.read g x'.work.read × (x' ≡ at (record x.work { read = x'.work.read }) x.hints)
TakesBody b x a (Hint number m) part g x' = TakesChanges a m (HintAck number) x g x'
TakesBody b x a (HintAck number) part g x' = HearsHintAck b a.from number x g x'

-- what goes to the node itself is of this request, and can be kept
abbrev pub SendsOwn : Base → ReqId → Given → Type 0
SendsOwn b id g = AllByRecursion (IsOwn b.me id) (own_sent b.me g.sends)

-- a node sends itself no hints
abbrev pub IsOfOther : ℕ → ℕ → Body → Type 0
IsOfOther me from body = (IsPlain body → ⊥) → (from ≡ me → ⊥)

abbrev pub heard_from : Asker → ℕ → Body → Heard
heard_from a born body = record { from = a.from; born = born; request = a.request; body = body }

-- a body was heard, and this is given
pub record IsHeard (b : Base) (honest : Type 0) (d : Durable) (x : Stage) (h : Heard) (g : Given) (x' : Stage) : Type 0 where
  pub moves : honest → MovesTo b d x (heard_act h) g x'
  pub goes_on : GoesOn x.work x'.work
  pub sound : IsSound b x'.work
  pub own : SendsOwn b h.request g
  pub lighter : weight (own_sent b.me g.sends) < weight_of h.body
  pub quiet : filter is_entered_at_stop g.entries ≡ []

-- The node heard a body of its own, which was taken from the queue
pub record GoesBy (b : Base) (honest : Type 0) (d : Durable) (own : Outbound) (x x' : Stage) : Type 0 where
  pub given : Given
  pub mid : Stage
  pub heard : IsHeard b honest d x (record { from = b.me; born = own.born; request = own.request; body = own.body }) given mid
  pub sent : IsSent b.me given.sends (record mid.work { entries = mid.work.entries ++ given.entries }) x'.work
  pub hints : x'.hints ≡ mid.hints

-- ---- a stop inside the step

-- a chain of moves that took each request, with all of these entries that are entered at a stop
pub record IsCut (b : Base) (s : NodeState) (matters : List Act) (w : Work) : Type 0 where
  pub deeds : List Deed
  pub reached : NodeState
  pub pending : List Act
  pub left : List Act
  pub moves : Chain b.setting b.me s matters deeds reached pending left
  pub taken : (ask : Ask) → Contains left (Asks ask) → ⊥
  pub entries : filter is_entered_at_stop w.entries ≡ filter is_entered_at_stop (flat_map entries_of deeds)

-- a stop inside the step at w is one at w' too
abbrev pub CutsOn : Base → Work → Work → Type 0
CutsOn b w w' = (s : NodeState) (matters : List Act) → IsCut b s matters w → IsCut b s matters w'

-- ---- all that comes of it at the node itself

-- The node heard of its own what stood in its queue, up to here
pub record GoesAlong (b : Base) (honest : Type 0) (d : Durable) (x x' : Stage) : Type 0 where
  pub comes : honest → (s : NodeState) (matters left : List Act) → HasCome b d s matters left x.work.queue.items x → HasCome b d s matters left x'.work.queue.items x'
  pub cut : CutsOn b x.work x'.work
  pub sound : IsSound b x'.work
  pub time : x'.work.time ≡ x.work.time
  pub ceiling : x'.work.ceiling ≡ x.work.ceiling
  pub request : x'.work.request ≡ x.work.request

-- and nothing is left to hear
pub record IsSettled (b : Base) (honest : Type 0) (d : Durable) (x x' : Stage) : Type 0 where
  pub along : GoesAlong b honest d x x'
  pub done : x'.work.queue.items ≡ []

-- ---- the event's own matter

-- of what is entered at a stop, a client's request alone enters something
abbrev pub EntersQuietly : Act → List Entry → Type 0
EntersQuietly (Asks ask) es = Unit {0}
EntersQuietly (Rises t) es = filter is_entered_at_stop es ≡ []
EntersQuietly (Hears m) es = filter is_entered_at_stop es ≡ []
EntersQuietly (Marks peer up) es = filter is_entered_at_stop es ≡ []
EntersQuietly (DeadlineComes id) es = filter is_entered_at_stop es ≡ []
EntersQuietly (HintExpires peer number) es = filter is_entered_at_stop es ≡ []

-- the matter was taken by a step that had made nothing yet of it, and this is given
pub record TakesMatter (b : Base) (honest : Type 0) (d : Durable) (x : Stage) (a : Act) (g : Given) (x' : Stage) : Type 0 where
  pub moves : honest → MovesTo b d x a g x'
  pub goes_on : GoesOn x.work x'.work
  pub sound : IsSound b x'.work
  pub own : SendsOwn b x.work.request g
  pub quiet : EntersQuietly a g.entries

abbrev pub TakesMatters : Base → Type 0 → Durable → Stage → List Act → Given → Stage → Type 0
TakesMatters b honest d x [] g x' = (g.sends ≡ []) × (g.entries ≡ []) × (x' ≡ x)
TakesMatters b honest d x (a ∷ rest) g x' = (rest ≡ []) × TakesMatter b honest d x a g x'

-- a mark that fits is put down. Where it is up the first hints of the node are sent
abbrev pub MarksAs : Base → ℕ → Bool → KeptHints → Work → Given → Work → Type 0
MarksAs b peer true k w g w' = SendsFirst b peer k (record w { marked = Some (marked b.down peer true) }) g w'
MarksAs b peer false k w g w' = (g.sends ≡ []) × (g.entries ≡ []) × (w' ≡ record w { marked = Some (marked b.down peer false) })

abbrev pub MarksIf : Bool → Base → ℕ → Bool → KeptHints → Work → Given → Work → Type 0
MarksIf true b peer up k w g w' = MarksAs b peer up k w g w'
MarksIf false b peer up k w g w' = (g.sends ≡ []) × (g.entries ≡ []) × (w' ≡ w)

-- none is a client's request
abbrev pub AskNothing : List Act → Type 0
AskNothing matters = (ask : Ask) → Contains matters (Asks ask) → ⊥

-- ---- what is due

-- one matter that is due is taken, before the event's own
pub record EndsOne (b : Base) (d : Durable) (x : Stage) (a : Act) (x' : Stage) : Type 0 where
  pub given : Given
  pub mid : Stage
  pub moves : MovesTo b d x a given mid
  pub goes_on : GoesOn x.work mid.work
  pub none : given.sends ≡ []
  pub sent : IsSent b.me given.sends (record mid.work { entries = mid.work.entries ++ given.entries }) x'.work
  pub hints : x'.hints ≡ mid.hints

-- all that was due was taken
pub record TakesDue (b : Base) (x x' : Stage) : Type 0 where
  pub keys : List DueKey
  pub due : AreDueKeys b x.hints x.work.time keys
  pub comes : (d : Durable) (s : NodeState) (matters left : List Act) → HasCome b d s matters (map act_by keys ++ left) [] x → HasCome b d s matters left [] x'
  pub unmoved : IsUnmoved x'.work
  pub sound : IsSound b x'.work
  pub time : x'.work.time ≡ x.work.time
  pub ceiling : x'.work.ceiling ≡ x.work.ceiling
  pub request : x'.work.request ≡ x.work.request

-- ---- a step's part in memory, as a whole

-- the request is that of the message, or else the one that would begin now
abbrev pub IsAbout : ℕ → ℕ → What → ReqId → Type 0
IsAbout me time (Deliver m) id = id ≡ m.request
IsAbout me time (Client ask) id = id ≡ request_at me time
IsAbout me time (Alive peer up) id = id ≡ request_at me time
IsAbout me time (Collect request) id = id ≡ request_at me time
IsAbout me time Flush id = id ≡ request_at me time
IsAbout me time Tick id = id ≡ request_at me time

-- each of the open requests began before this time
abbrev pub BeganBefore : {A : Type 0} → ℕ → List (ReqId × A) → Type 0
BeganBefore {A} time xs = AllByRecursion (λ (x : ReqId × A). x.0.time < time) xs

pub record IsNewTo (b : Base) (time : ℕ) : Type 0 where
  pub writes : BeganBefore time b.writes.entries
  pub reads : BeganBefore time b.reads.entries

-- what a node holds between its steps: its open requests by id, all its own, with what can be kept of them, and how many wait
pub record IsHolding (b : Base) : Type 0 where
  pub writes : IsOrdered request_cmp b.writes
  pub reads : IsOrdered request_cmp b.reads
  pub own_writes : AreOwn b.me b.writes.entries
  pub own_reads : AreOwn b.me b.reads.entries
  pub fit : FitWrites b.writes.entries
  pub unanswered : b.unanswered ≡ unanswered_writes b.writes.entries

-- a chain that has come to x, with these matters left, is at a stop inside the step at w'
abbrev pub CutsIn : Base → Durable → List Act → Stage → Work → Type 0
CutsIn b d left x w' = (s : NodeState) (matters : List Act) → HasCome b d s matters left [] x → IsCut b s matters w'

-- a step took these matters, with all that comes of them
pub record IsWorkedOut (b : Base) (honest : Type 0) (d : Durable) (left : List Act) (x x' : Stage) : Type 0 where
  pub comes : honest → (s : NodeState) (matters : List Act) → HasCome b d s matters left [] x → HasCome b d s matters [] [] x'
  pub cut : honest → CutsIn b d left x x'.work
  pub sound : IsSound b x'.work
  pub time : x'.work.time ≡ x.work.time
  pub ceiling : x'.work.ceiling ≡ x.work.ceiling
  pub request : x'.work.request ≡ x.work.request

-- ---- a replica that is looked at, and keeps what it kept

pub record Peeks {R : Type 0} (stands_for : (ℕ → List ℕ) → Durable → Type 0) (disk : R → Disk) (durable : R → Durable) (log_end : R → ℕ) (since_flush : R → Option ℕ) (count : R → ℕ) (spares : R → ℕ → Type 0) (honest : Type 0) (old new : R) : Type 0 where
  pub looked : honest → Looked stands_for disk durable old new
  pub log : log_end new ≡ log_end old
  pub flushed : since_flush new ≡ since_flush old
  pub faults : count old ≤ count new
  pub spared : ((n : ℕ) → spares old n) → (n : ℕ) → spares new n
