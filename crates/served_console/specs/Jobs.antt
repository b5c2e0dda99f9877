-- How the job of a console ends.
use Rattle.std.specs.Prelude.{◌≡◌, ℕ, Option, List, [], ◌∷◌}
use Rattle.node_calls.specs.declared.call.NodeCall.{NodeCall}
use Rattle.node_calls.specs.declared.reply.NodeReply.{NodeReply}
use Rattle.node_lock.specs.Passes.{IsPassOf, view_of}
use Rattle.node_lock.specs.Stepped.{IsSamePass}
use Rattle.served_seats.specs.Seats.{IsOwn}
use Rattle.served_console.specs.Consoles.{Works}
use Rattle.served_console.specs.declared.end.ConsoleEnd.TheVariants as end
use Rattle.served_console.specs.declared.job.ConsoleDone.{ConsoleDone}
use Rattle.served_console.specs.declared.job.ConsoleJob.{ConsoleJob}
use Rattle.served_console.specs.declared.node.OperatedNode.{OperatedNode}

module _ {W N C Entry : Type 0} where
  -- The node's pass is given back: the same one, of the same lock. Where just its own entries stood under its number, they do so
  pub record KeepsPass (x y : OperatedNode W N C Entry) : Type 0 where
    pub site : y.site ≡ x.site
    pub lock : IsPassOf x.site.lock.now y.pass
    pub pass : IsSamePass (view_of x.pass) (view_of y.pass)
    pub own : IsOwn (view_of x.pass) → IsOwn (view_of y.pass)

  abbrev pub KeepPasses : List (OperatedNode W N C Entry) → List (OperatedNode W N C Entry) → Type 0
  KeepPasses [] [] = Unit {0}
  KeepPasses [] (y ∷ ys) = ⊥
  KeepPasses (x ∷ xs) [] = ⊥
  KeepPasses (x ∷ xs) (y ∷ ys) = KeepsPass x y × KeepPasses xs ys

module _ {W N C S T Entry : Type 0} where
  abbrev pub GivesBack : ConsoleJob W N C S T Entry → ConsoleDone W N C S T Entry → Type 0
  GivesBack job done = KeepPasses job.console.nodes.items done.console.nodes.items

  -- where the job is not begun all is given back as it was
  pub record IsUnstarted (job : ConsoleJob W N C S T Entry) (done : ConsoleDone W N C S T Entry) : Type 0 where
    pub same : done.console ≡ job.console
    pub end_is : done.end ≡ end.Ended

  module _ (steps : N → Entry → N → Type 0) (event_of : Entry → NodeCall) (reply_of : Entry → NodeReply) (refuses : N → NodeCall → NodeCall → Type 0)
      (gives : C → ℕ → Type 0) (remaining : S → Option (List ℕ)) (source_faults : S → ℕ) (contents : T → Option (List ℕ)) (sink_faults : T → ℕ) where
    pub record IsWorked (job : ConsoleJob W N C S T Entry) (done : ConsoleDone W N C S T Entry) : Type 0 where
      pub works : Works steps event_of reply_of refuses gives remaining source_faults contents sink_faults job.opening.items job.console done.end done.console
