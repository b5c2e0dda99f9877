use Rattle.std.proofs.Common.{◌+◌, ◌-◌, ◌≤◌, length, IfSome}
use Rattle.source_lines.specs.Lines.{left_of}
use Rattle.source_lines.proofs.HeadLaws.{IsHeadUpTo, last_step}
use Rattle.source_lines.proofs.head.read_head.Given as goal

abbrev pub invariant-loop-ahead : goal.invariant-loop-ahead
invariant-loop-ahead g l = record {
  head : IfSome (left_of l.fn.ahead (g.S.Source.remaining l.fn.source)) (λ left. IsHeadUpTo left l.head (left_of l.ahead (g.S.Source.remaining l.source)));
  short : length l.head.bytes ≤ l.longest + 1;
  faults : g.S.Source.faults l.fn.source ≤ g.S.Source.faults l.source;
}

abbrev pub decreases-loop-ahead : goal.decreases-loop-ahead
decreases-loop-ahead g l = (l.longest + 1 - length l.head.bytes) + last_step l.head.ended
