-- What the run of a node is.
use Rattle.std.specs.Prelude.{◌≡◌, ◌≢◌, ◌≤◌, ℕ, suc, List, [], ◌∷◌, length, Option}
use Rattle.std.specs.List.{AllByRecursion}
use Rattle.schema_book.specs.Books.{Book}
use Rattle.node_calls.specs.declared.call.NodeCall.{NodeCall}
use Rattle.node_calls.specs.declared.reply.NodeReply.{NodeReply}
use Rattle.node_lock.specs.Histories.{Replays, StartsWith, entries_by}
use Rattle.node_lock.specs.Views.{PassView}
use Rattle.served_jobs.specs.declared.duty.Duty.{Duty}
use Rattle.served_seats.specs.Seats.{fresh, made_by}
use Rattle.served_nodes.specs.Jobs.{JobRan}
use Rattle.served_nodes.specs.declared.node.JobLeft.{JobLeft}
use Rattle.served_nodes.specs.declared.node.NodeLeft.{NodeLeft}
use Rattle.served_nodes.specs.declared.node.NodeParts.{NodeParts}

module _ {N D Entry L : Type 0} (steps : N → Entry → N → Type 0) (event_of : Entry → NodeCall) (reply_of : Entry → NodeReply) (refuses : N → NodeCall → NodeCall → Type 0)
    (gives : ℕ → Type 0) (schema : Book) (remaining written : L → Option (List ℕ)) (link_faults : L → ℕ) (given : D → Option ℕ) (returned : D → Option (List L)) (faults : D → ℕ) where
  -- The jobs of a node with these duties, of the numbers from this one on, left this, and their passes ended so.
  abbrev pub JobsRan : (counted : Type 0) → N → ℕ → List (Duty D) → List (JobLeft D) → List (PassView Entry) → Type 0
  JobsRan counted start number [] [] [] = Unit {0}
  JobsRan counted start number [] [] (w ∷ ws) = ⊥
  JobsRan counted start number [] (l ∷ ls) ws = ⊥
  JobsRan counted start number (d ∷ ds) [] ws = ⊥
  JobsRan counted start number (d ∷ ds) (l ∷ ls) [] = ⊥
  JobsRan counted start number (d ∷ ds) (l ∷ ls) (w ∷ ws) =
      JobRan steps event_of reply_of refuses start gives schema remaining written link_faults given returned faults counted d (fresh number) l w
      × JobsRan counted start (suc number) ds ls ws

  -- A node was stepped by its console, whose pass of number 0 ended so, and by its jobs, of the numbers from 1 on. Its history replays
  -- from the node's first state to its last. Under each number stand just the entries of that pass's calls, in their order, and nothing else.
  pub record NodeRan (counted : Type 0) (node : NodeParts N D) (console : PassView Entry) (left : NodeLeft N D Entry) : Type 0 where
    pub ends : List (PassView Entry)
    pub jobs : JobsRan counted node.state 1 node.duties.items left.jobs.items ends
    pub replays : Replays steps node.state left.history left.state
    pub most : length left.history ≤ 400000
    pub each : AllByRecursion (λ (v : PassView Entry). entries_by v.number left.history ≡ made_by v) (console ∷ ends)
    pub none_else : (n : ℕ) → AllByRecursion (λ (v : PassView Entry). v.number ≢ n) (console ∷ ends) → entries_by n left.history ≡ []
    pub seen : AllByRecursion (λ (v : PassView Entry). StartsWith left.history v.seen) (console ∷ ends)
