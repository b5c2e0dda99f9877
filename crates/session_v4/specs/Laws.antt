-- What is so of each connection.
use Rattle.std.specs.Prelude.{◌≡◌, ◌≤◌, ◌⊎◌, ℕ, ℤ, true, false, List, length, Some, None, Ok}
use Rattle.frame_v4.specs.declared.frame.Frame.{Frame}
use Rattle.peer_messages.specs.declared.event.Ask.{Ask}
use Rattle.request_bodies.specs.Reading.{request_in}
use Rattle.request_bodies.specs.declared.parameters.QueryParameters.{QueryParameters}
use Rattle.request_bodies.specs.declared.request.Execute.{Execute}
use Rattle.request_bodies.specs.declared.request.Request.TheVariants as requests
use Rattle.request_bodies.specs.declared.startup.StringPair.{StringPair}
use Rattle.response_bodies.specs.declared.metadata.Prepared.{Prepared}
use Rattle.response_bodies.specs.declared.response.Response.{Response}
use Rattle.response_bodies.specs.declared.response.Response.TheVariants as responses
use Rattle.session_v4.specs.Kept.{id_of, kept_at}
use Rattle.session_v4.specs.Sessions.{State, IsDue, IsTakenDue, IsPrepareDue, IsQueryDue, IsExecuteDue}
use Rattle.session_v4.specs.Words.{HasWord}
use Rattle.session_v4.specs.declared.act.Act.{Act}
use Rattle.session_v4.specs.declared.act.Act.TheVariants as acts

-- A STARTUP is answered with READY by a connection that has not started, and starts it; it has started ever after.
pub record StartsOnce : Type 0 where
  pub starts : (s s' : State) (stream : ℤ) (options : List StringPair) (a : Act) → IsTakenDue s stream (requests.Startup options) a s'
      → a ≡ acts.Reply responses.Ready → (s.started ≡ false) × (s'.started ≡ true)
  pub stays : (s s' : State) (f : Frame) (a : Act) → IsDue s f a s' → s.started ≡ true → s'.started ≡ true

-- no node is asked before STARTUP was answered with READY
abbrev pub NothingBefore : Type 0
NothingBefore = (s s' : State) (f : Frame) (ask : Ask) → IsDue s f (acts.Submit ask) s' → s.started ≡ true

-- no node is asked for an EXECUTE of an id that no kept statement has
abbrev pub NothingUnknown : Type 0
NothingUnknown =
    (s s' : State) (f : Frame) (e : Execute) (ask : Ask) → request_in f.flags f.opcode f.body ≡ Ok (requests.Execute e) → kept_at s.kept e.id ≡ None
    → IsDue s f (acts.Submit ask) s' → ⊥

-- another keyspace is in use only where the client is told so
abbrev pub KeyspaceIsTold : Type 0
KeyspaceIsTold =
    (s s' : State) (f : Frame) (a : Act) → IsDue s f a s'
    → (s'.used ≡ s.used) ⊎ ((name : List ℕ) × (s'.used ≡ Some name) × (a ≡ acts.Reply (responses.SetKeyspace name)))

-- at most 1,024 statements are kept
abbrev pub FewKept : Type 0
FewKept = (s s' : State) (f : Frame) (a : Act) → IsDue s f a s' → length s.kept ≤ 1024 → length s'.kept ≤ 1024

-- What an EXECUTE of a statement that was just prepared comes to is what a QUERY of its text comes to with the same values.
abbrev pub SameAsked : Type 0
SameAsked =
    (s s' : State) (text : List ℕ) (p : Prepared) → kept_at s.kept (id_of s.used text) ≡ None
    → IsPrepareDue s text (acts.Reply (responses.Prepared p)) s' → HasWord (responses.Prepared p)
    → (stream : ℤ) (q : QueryParameters) (a : Act) (s'' : State)
    → IsExecuteDue s' stream (record { id = id_of s.used text; parameters = q }) a s''
    → IsQueryDue s' stream (record { query = text; parameters = q }) a s''

-- what is due for a frame leaves the connection open: what is due for bytes that are no frames alone closes it
abbrev pub StaysOpen : Type 0
StaysOpen = (s s' : State) (f : Frame) (r : Response) → IsDue s f (acts.Close r) s' → ⊥
