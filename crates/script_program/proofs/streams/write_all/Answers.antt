use Rattle.std.proofs.Common.{arith, subst, sym}
use Rattle.script_program.proofs.StreamLaws.{IsWritten, written_more}
use Rattle.script_program.proofs.streams.write_all.Goals as goal

pub loop-rest-preserved : goal.loop-rest-preserved
loop-rest-preserved g c = record {
  written =
      subst (IsWritten (g.T.Sink.contents c.args.sink.now) (g.T.Sink.contents c.write.new.self) c.args.text.now) (sym c.split_at.ensures.back)
      (written_more (g.T.Sink.contents c.args.sink.now) (g.T.Sink.contents c.loop-rest.sink) (g.T.Sink.contents c.write.new.self) c.args.text.now c.loop-rest.rest.now c.in_ok-count.count c.loop-rest.invariant.written c.in_ok-count.ensures.within c.in_ok-count.ensures.written);
  faults = omega (arith, c.loop-rest.invariant.faults, c.write.ensures.counted);
}
