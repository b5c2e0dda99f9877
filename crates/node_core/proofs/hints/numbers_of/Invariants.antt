use Rattle.std.proofs.Common.{◌≡◌, map, take}
use Rattle.node_steps.specs.Hints.{number_of}
use Rattle.node_core.proofs.hints.numbers_of.Given as goal

abbrev pub invariant-loop-hint : goal.invariant-loop-hint
invariant-loop-hint l = l.numbers.items ≡ map number_of (take l.hint-index l.hints)
