use Rattle.std.proofs.Common.{◌≤◌, IfSome, vec_len, vec_capacity}
use Rattle.source_lines.specs.Lines.{left_of}
use Rattle.source_lines.proofs.LineLaws.{IsInLine}
use Rattle.source_lines.proofs.line.find_line.Given as goal

abbrev pub invariant-loop : goal.invariant-loop
invariant-loop g l = record {
  inside : IfSome (left_of l.fn.ahead (g.S.Source.remaining l.fn.source)) (λ left. IsInLine left l.line.items (left_of l.ahead (g.S.Source.remaining l.source)));
  short : vec_len l.line ≤ 4097;
  room : 4097 ≤ vec_capacity l.line;
  faults : g.S.Source.faults l.fn.source ≤ g.S.Source.faults l.source;
}
