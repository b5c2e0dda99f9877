-- What the lines of a console ask of which nodes.
use Rattle.std.specs.Prelude.{ℕ, ◌<◌, Result, Ok, Err, List, [], ◌∷◌, map}
use Rattle.std.specs.List.{range_with_len}
use Rattle.peer_messages.specs.declared.event.What.{What}
use Rattle.peer_messages.specs.declared.event.What.TheVariants.{Alive, Flush, Tick}
use Rattle.node_calls.specs.Calls.{call_of}
use Rattle.node_console.specs.declared.command.Command.{Command}
use Rattle.node_console.specs.declared.command.Command.TheVariants as command
use Rattle.node_console.specs.declared.command.ConsoleError.{ConsoleError}
use Rattle.node_workers.specs.Calls.{Outcome, Called, called, event_at}

-- the nodes that a command names are some of so many
abbrev pub NamesNodes : ℕ → Command → Type 0
NamesNodes nodes (command.Mark node peer up) = node < nodes
NamesNodes nodes (command.Flush node) = node < nodes
NamesNodes nodes (command.Merge node) = node < nodes
NamesNodes nodes command.Status = Unit {0}
NamesNodes nodes command.Stop = Unit {0}

abbrev pub ask_of : ℕ → What → ℕ × What
ask_of node what = (node, what)

-- each of so many nodes is told the time
abbrev pub ticks : ℕ → List (ℕ × What)
ticks nodes = map (λ node. ask_of node Tick) (range_with_len 0 nodes)

-- What a command asks of so many nodes, in order. A flush and a merge ask the same; a status asks each node.
abbrev pub asks_for : ℕ → Command → List (ℕ × What)
asks_for nodes (command.Mark node peer up) = ask_of node (Alive peer up) ∷ []
asks_for nodes (command.Flush node) = ask_of node Flush ∷ []
asks_for nodes (command.Merge node) = ask_of node Flush ∷ []
asks_for nodes command.Status = ticks nodes
asks_for nodes command.Stop = []

-- what a line that says this asks of them
abbrev pub asks_of : ℕ → Result Command ConsoleError → List (ℕ × What)
asks_of nodes (Err e) = []
asks_of nodes (Ok c) = asks_for nodes c

-- what was asked of a node, when, and what came of it
pub record Asked : Type 0 where
  pub node : ℕ
  pub what : What
  pub clock : ℕ
  pub outcome : Outcome

abbrev pub asked : ℕ → What → ℕ → Outcome → Asked
asked node what clock outcome = record { node = node; what = what; clock = clock; outcome = outcome }

abbrev pub ask_in : Asked → ℕ × What
ask_in a = ask_of a.node a.what

abbrev pub outcome_in : Asked → Outcome
outcome_in a = a.outcome

-- the call by which it was asked
abbrev pub call_in : Asked → Called
call_in a = called (call_of (event_at a.clock a.what)) a.outcome
