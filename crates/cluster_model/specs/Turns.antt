-- What comes of an event at a node is sent and entered.
use Rattle.std.specs.Prelude.{ℕ, Bool, true, false, None, List, [], ◌∷◌, ◌++◌}
use Rattle.peer_messages.specs.declared.event.What.{What}
use Rattle.peer_messages.specs.declared.event.What.TheVariants.{Client, Deliver, Alive, Collect, Flush, Tick}
use Rattle.peer_messages.specs.declared.chronicle.Entry.{Entry}
use Rattle.peer_messages.specs.declared.chronicle.Entry.TheVariants.{Asked, Marks, Time, Turned}
use Rattle.node_steps.specs.Stops.{asked_by, remains}
use Rattle.cluster_runs.specs.Run.{closing, failure}
use Rattle.cluster_model.specs.State.{Post, with_sent}
use Rattle.cluster_model.specs.declared.turn.Turn.{Turn}
use Rattle.cluster_model.specs.declared.turn.Turn.TheVariants.{Stepped, Stopped, Refused, NoNode}

abbrev pub asks : What → Bool
asks (Client ask) = true
asks (Deliver m) = false
asks (Alive peer up) = false
asks (Collect request) = false
asks Flush = false
asks Tick = false

abbrev pub turn_entries : ℕ → Bool → Turn → List Entry
turn_entries k asks (Stepped o alive) = (asked_by o.started ++ Marks k alive ∷ Time k o.time ∷ []) ++ (o.entries ++ closing k o.tables)
turn_entries k asks (Stopped l failed) = remains l.started l.entries ++ failure failed k
turn_entries k true (Refused refusal) = Asked None ∷ Turned k refusal ∷ []
turn_entries k false (Refused refusal) = []
turn_entries k asks NoNode = []

abbrev pub posted : Post → Turn → Post
posted post (Stepped o alive) = with_sent post o.sends
posted post (Stopped l failed) = post
posted post (Refused refusal) = post
posted post NoNode = post
