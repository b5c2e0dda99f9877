-- Laws of what a step sends and keeps, and of what a stop leaves.
use Rattle.std.specs.Prelude.{◌≡◌, ◌↔◌, ℕ, List, Contains, IsTrue, false}
use Rattle.std.specs.List.{AllByRecursion}
use Rattle.changes.specs.declared.Held.{Held}
use Rattle.changes.specs.declared.Mutation.{Mutation}
use Rattle.stored_changes.specs.Spelling.{ChangesFit, MutationFits}
use Rattle.row_change.specs.declared.entry.LogItem.{LogItem}
use Rattle.row_change.specs.Grammar.{AreByKind}
use Rattle.row_change.specs.Spelling.{ItemFits}
use Rattle.peer_messages.specs.declared.event.Event.{Event}
use Rattle.peer_messages.specs.declared.event.What.TheVariants.{Deliver}
use Rattle.peer_messages.specs.declared.message.Body.{Body}
use Rattle.peer_messages.specs.declared.message.Body.TheVariants.{ReadReply, Mend}
use Rattle.peer_messages.specs.declared.message.Message.{Message}
use Rattle.peer_messages.specs.declared.outcome.Outputs.{Outputs}
use Rattle.peer_messages.specs.declared.setting.Setting.{Setting}
use Rattle.durable_state.specs.State.{Durable, changes_of}
use Rattle.durable_state.specs.Keeping.{Commits, IsWithOrWithout}
use Rattle.node_steps.specs.State.{NodeState, durable_of}
use Rattle.node_steps.specs.Answering.{IsForReplica, IsAnswer, reply_to}
use Rattle.node_steps.specs.Fitting.{is_node, changes_fit, mutation_fits, write_fits, message_fits}
use Rattle.node_steps.specs.Holding.{HoldsFit}
use Rattle.node_steps.specs.Acts.{Deed}
use Rattle.node_steps.specs.Steps.{NodeStep}
use Rattle.node_steps.specs.Keeping.{entry_of}
use Rattle.node_steps.specs.Stops.{remains_of, remains_in, CutStep, MayBeLeft, Leads}

-- the tests of what can be written are those of its form
abbrev pub ChangesAreTested : Type 0
ChangesAreTested = (xs : List Held) → IsTrue (changes_fit xs) ↔ ChangesFit xs

abbrev pub MutationsAreTested : Type 0
MutationsAreTested = (m : Mutation) → IsTrue (mutation_fits m) ↔ MutationFits m

-- the items that a step keeps stand in the order of their kinds, and each can be written, if the mutations of the node's open
-- writes and hints can
abbrev pub WhatIsKeptFits : Type 0
WhatIsKeptFits =
    (c : Setting) (me : ℕ) (s : NodeState) (e : Event) (deeds : List Deed) (o : Outputs) (s' : NodeState) → NodeStep c me s e deeds o s'
    → AreByKind (entry_of c s deeds s') × (HoldsFit s → AllByRecursion ItemFits (entry_of c s deeds s'))

-- and then they still can
abbrev pub WhatIsHeldFits : Type 0
WhatIsHeldFits =
    (c : Setting) (me : ℕ) (s : NodeState) (e : Event) (deeds : List Deed) (o : Outputs) (s' : NodeState) → NodeStep c me s e deeds o s' → HoldsFit s → HoldsFit s'

-- what a node of the ring sends fits where it comes to, if the mutations that it holds can be written, and the content of a reply
-- or of a merge can
abbrev pub WhatIsSentFits : Type 0
WhatIsSentFits =
    (c : Setting) (me : ℕ) (s : NodeState) (e : Event) (deeds : List Deed) (o : Outputs) (s' : NodeState) → NodeStep c me s e deeds o s' → IsTrue (is_node c me) → HoldsFit s
    → (m : Message) → Contains o.sends m → ((content : List Held) → m.body ≡ ReadReply content → IsTrue (changes_fit content))
    → ((merged : Mutation) → m.body ≡ Mend merged → IsTrue (write_fits c merged)) → IsTrue (message_fits c m.upto m)

-- a write, a read, a merge or a hint that comes to a node, fits and is not refused is answered in that event
abbrev pub ReplicasAnswerAtOnce : Type 0
ReplicasAnswerAtOnce =
    (c : Setting) (me : ℕ) (s : NodeState) (e : Event) (deeds : List Deed) (o : Outputs) (s' : NodeState) → NodeStep c me s e deeds o s'
    → (m : Message) → e.what ≡ Deliver m → IsTrue (message_fits c me m) → o.refused ≡ false → IsForReplica m.body
    → (b : Body) × IsAnswer (changes_of s.content) m.body b × Contains o.sends (reply_to me o.time m b)

-- what a step makes of what its node keeps is what its log entry makes of it
abbrev pub EachStepKeepsItsEntry : Type 0
EachStepKeepsItsEntry =
    (c : Setting) (me : ℕ) (s : NodeState) (e : Event) (deeds : List Deed) (o : Outputs) (s' : NodeState) → NodeStep c me s e deeds o s' → Commits (entry_of c s deeds s') (durable_of s) (durable_of s')

-- what a failed commit may leave is what a stop inside the step may leave
abbrev pub FailedCommitStops : Type 0
FailedCommitStops =
    (c : Setting) (me : ℕ) (s : NodeState) (e : Event) (o : Outputs) (entry : List LogItem) (d : Durable) → Leads c me s e o entry → IsWithOrWithout entry (durable_of s) d → MayBeLeft c me s e (remains_of o) d

-- a stop behind the last move of a step is one inside it
abbrev pub WholeStepIsCut : Type 0
WholeStepIsCut =
    (c : Setting) (me : ℕ) (s : NodeState) (e : Event) (deeds : List Deed) (o : Outputs) (s' : NodeState) → NodeStep c me s e deeds o s' → CutStep c me s e deeds × (remains_of o ≡ remains_in me s e deeds)
