use Rattle.std.proofs.Common.{◌≡◌, map}
use Rattle.node_steps.specs.Hints.{send_hint}
use Rattle.node_core.proofs.hints.send_hints.Given as goal

abbrev pub invariant-loop-hint : goal.invariant-loop-hint
invariant-loop-hint l = l.sends ≡ map (send_hint l.me) l.yielded
