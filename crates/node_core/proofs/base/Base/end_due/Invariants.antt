use Rattle.std.proofs.Common.{◌≡◌, take}
use Rattle.node_core.specs.Opening.{AreOrdered, known_of}
use Rattle.node_core.specs.Working.{left_open}
use Rattle.node_core.proofs.base.Base.end_due.Given as goal

abbrev pub invariant-loop-request : goal.invariant-loop-request
invariant-loop-request l = record {
  known : known_of l.self ≡ record (known_of l.fn.self) { writes = left_open (take l.request-index l.writes) l.fn.self.writes.entries };
  ordered : AreOrdered l.self;
}
