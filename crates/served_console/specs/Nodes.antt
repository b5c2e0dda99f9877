-- Nodes that are asked.
use Rattle.std.specs.Prelude.{◌≡◌, ℕ, suc, ◌==◌, if◌then◌else◌, List, [], ◌∷◌, length, map, All}
use Rattle.peer_messages.specs.declared.event.What.{What}
use Rattle.node_calls.specs.Calls.{call_of}
use Rattle.node_calls.specs.declared.call.NodeCall.{NodeCall}
use Rattle.node_calls.specs.declared.reply.NodeReply.{NodeReply}
use Rattle.node_console.specs.Console.{command_of}
use Rattle.node_lock.specs.Passes.{IsPassOf, view_of, start_of}
use Rattle.node_lock.specs.Stepped.{IsSamePass}
use Rattle.node_workers.specs.Calls.{Outcome, Called, event_at}
use Rattle.node_workers.specs.Chains.{Comes, Makes}
use Rattle.served_console.specs.Answers.{told_of, and_told, turned_by}
use Rattle.served_console.specs.Asking.{Asked, asked, ask_in, outcome_in, call_in, asks_of}
use Rattle.served_console.specs.declared.node.OperatedNode.{OperatedNode}
use Rattle.served_console.specs.declared.obeying.Turned.{Turned}
use Rattle.served_console.specs.declared.told.Told.{Told}

-- the calls at the node of one place, with their order
abbrev pub calls_at : ℕ → List Asked → List Called
calls_at place [] = []
calls_at place (a ∷ as') = if a.node == place then call_in a ∷ calls_at place as' else calls_at place as'

module _ {W N C Entry : Type 0} (steps : N → Entry → N → Type 0) (event_of : Entry → NodeCall) (reply_of : Entry → NodeReply) (refuses : N → NodeCall → NodeCall → Type 0) (gives : C → ℕ → Type 0) where
  -- this is asked of a node once, at a time that its clock gives
  pub record Asks (x : OperatedNode W N C Entry) (what : What) (outcome : Outcome) (y : OperatedNode W N C Entry) : Type 0 where
    pub clock : ℕ
    pub given : gives x.site.clock.now clock
    pub site : y.site ≡ x.site
    pub lock : IsPassOf x.site.lock.now y.pass
    pub pass : IsSamePass (view_of x.pass) (view_of y.pass)
    pub comes : Comes steps event_of reply_of refuses (start_of x.site.lock.now) (view_of x.pass) (call_of (event_at clock what)) outcome (view_of y.pass)

  -- The node's pass, still the same one, made these calls and no other, at times that its clock gives.
  pub record NodeMakes (x : OperatedNode W N C Entry) (calls : List Called) (y : OperatedNode W N C Entry) : Type 0 where
    pub site : y.site ≡ x.site
    pub lock : IsPassOf x.site.lock.now y.pass
    pub pass : IsSamePass (view_of x.pass) (view_of y.pass)
    pub made : Makes steps event_of reply_of refuses (start_of x.site.lock.now) (view_of x.pass) calls (view_of y.pass)
    pub times : All (λ (c : Called). gives x.site.clock.now c.call.event.clock) calls

  -- of these nodes, the first of which has this place, each made the calls that were asked of it
  abbrev pub MakeFrom : ℕ → List (OperatedNode W N C Entry) → List Asked → List (OperatedNode W N C Entry) → Type 0
  MakeFrom place [] as' [] = Unit {0}
  MakeFrom place [] as' (y ∷ ys) = ⊥
  MakeFrom place (x ∷ xs) as' [] = ⊥
  MakeFrom place (x ∷ xs) as' (y ∷ ys) = NodeMakes x (calls_at place as') y × MakeFrom (suc place) xs as' ys

  -- this is asked of the node at a place, and told behind what was told
  pub record AsksAt (xs : List (OperatedNode W N C Entry)) (place : ℕ) (what : What) (told : Told) (ys : List (OperatedNode W N C Entry)) (told' : Told) : Type 0 where
    pub clock : ℕ
    pub outcome : Outcome
    pub make : MakeFrom 0 xs (asked place what clock outcome ∷ []) ys
    pub told_is : told' ≡ and_told told outcome

  -- just these asks are made, in order, and tell this
  pub record AsksThese (xs : List (OperatedNode W N C Entry)) (asks : List (ℕ × What)) (ys : List (OperatedNode W N C Entry)) (told : Told) : Type 0 where
    pub made : List Asked
    pub asks_are : map ask_in made ≡ asks
    pub make : MakeFrom 0 xs made ys
    pub told_is : told ≡ told_of (map outcome_in made)

  -- a line is obeyed: what it says is asked, and so it is answered
  pub record Obeys (xs : List (OperatedNode W N C Entry)) (line : List ℕ) (ys : List (OperatedNode W N C Entry)) (turned : Turned) : Type 0 where
    pub told : Told
    pub asks : AsksThese xs (asks_of (length xs) (command_of (length xs) line)) ys told
    pub turned_is : turned ≡ turned_by (command_of (length xs) line) told
