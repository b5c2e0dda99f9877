use Rattle.std.proofs.Common.{◌≡◌, take}
use Rattle.node_core.specs.Hinting.{at, LeavesHints}
use Rattle.node_core.proofs.work.Work.leave_hints.Given as goal

abbrev pub invariant-loop-peer : goal.invariant-loop-peer
invariant-loop-peer l = record {
  ok : LeavesHints (take l.peer-index l.peers) l.born l.mutation (at l.fn.self l.fn.hints.now) (at l.self l.hints.now);
  before : l.hints.before ≡ l.fn.hints.before;
}
