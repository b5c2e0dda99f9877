use Rattle.std.proofs.Common.{◌≡◌, ◌-◌, ◌≤◌, vec_len, IfSome}
use Rattle.script_program.proofs.StreamLaws.{IsFrontOf}
use Rattle.script_program.proofs.streams.read_all.Given as goal

abbrev pub invariant-loop-source : goal.invariant-loop-source
invariant-loop-source g l = record {
  front : IfSome (g.S.Source.remaining l.fn.source) (λ left. IsFrontOf left l.text.items (g.S.Source.remaining l.source));
  faults : g.S.Source.faults l.fn.source ≤ g.S.Source.faults l.source;
  room : vec_len l.piece ≡ 65536;
}

abbrev pub decreases-loop-source : goal.decreases-loop-source
decreases-loop-source g l = 67108865 - vec_len l.text
