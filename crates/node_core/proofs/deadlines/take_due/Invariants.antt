use Rattle.std.proofs.Common.{◌≡◌, ◌++◌}
use Rattle.node_core.specs.Due.{AreDueKeys}
use Rattle.node_core.specs.Hinting.{at}
use Rattle.node_core.proofs.Passing.{Passed}
use Rattle.node_core.proofs.deadlines.take_due.Given as goal

abbrev pub invariant-loop-key : goal.invariant-loop-key
invariant-loop-key l = record {
  due : AreDueKeys l.base l.fn.hints.now l.fn.work.time (l.yielded ++ l.key-iterator);
  passed : Passed l.base (at l.fn.work l.fn.hints.now) l.yielded (at l.work l.hints.now);
  before : l.hints.before ≡ l.fn.hints.before;
}
