use Rattle.std.proofs.Common.{None}
use Rattle.node_lock.specs.Passes.{IsPassOf, view_of, start_of}
use Rattle.node_workers.specs.Endings.{well}
use Rattle.node_workers.specs.Repeating.{what_of, RepeatsFrom}
use Rattle.node_workers.proofs.repeating.repeat.Given as goal

abbrev pub invariant-loop : goal.invariant-loop
invariant-loop g l = record {
  pass : IsPassOf l.site.lock.now l.pass;
  repeats : RepeatsFrom g.N.Stepper.steps g.N.Stepper.event_of g.N.Stepper.reply_of g.N.Stepper.refuses (start_of l.site.lock.now) (g.C.Clock.gives l.site.clock.now) (what_of l.chore) None (view_of l.initial.pass) l.last (view_of l.pass) well;
}
