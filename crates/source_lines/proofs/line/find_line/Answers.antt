use Rattle.std.proofs.Common.{arith}
use Rattle.source_lines.specs.Lines.{left_of}
use Rattle.source_lines.proofs.LineLaws.{line_starts, line_kept}
use Rattle.source_lines.proofs.line.find_line.Goals as goal

pub loop-init : goal.loop-init
loop-init g c = record {
  inside = line_starts (left_of c.args.ahead.now (g.S.Source.remaining c.args.source.now)) c.args.line.now.items c.requires.0;
  short = c.requires.1;
  room = c.requires.2;
  faults = omega arith;
}

pub loop-preserved : goal.loop-preserved
loop-preserved g c = record {
  inside =
      line_kept (left_of c.args.ahead.now (g.S.Source.remaining c.args.source.now)) (left_of c.loop.ahead (g.S.Source.remaining c.loop.source)) (left_of c.next-in-loop.new.self (g.S.Source.remaining c.next-in-loop.new.source))
      c.loop.line.items c.keep.new.line.items c.in_ok-byte.field-0 c.in-Some-2.byte c.if-byte-eq10.false c.in-Some-2.is c.keep.ensures.line c.loop.invariant.inside c.in_ok-byte.ensures.ok;
  short = c.keep.ensures.room.0;
  room = c.keep.ensures.room.1;
  faults = omega (arith, c.loop.invariant.faults, c.next-in-loop.ensures.counted);
}
