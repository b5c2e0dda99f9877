use Rattle.std.proofs.Common.{◌≡◌, vec_len}
use Rattle.served_console.specs.Asking.{ticks}
use Rattle.served_console.specs.Nodes.{AsksThese}
use Rattle.served_console.proofs.asking.ask_each.Given as goal

abbrev pub invariant-loop-place : goal.invariant-loop-place
invariant-loop-place g l = record {
  len : vec_len l.nodes ≡ vec_len l.fn.nodes;
  asks : AsksThese g.N.Stepper.steps g.N.Stepper.event_of g.N.Stepper.reply_of g.N.Stepper.refuses g.C.Clock.gives l.fn.nodes.items (ticks l.place) l.nodes.items l.told;
}
