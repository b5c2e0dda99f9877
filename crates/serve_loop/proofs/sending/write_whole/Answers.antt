use Rattle.std.proofs.Common.{arith, subst, sym, ◌∙◌}
use Rattle.serve_loop.proofs.WriteLaws.{IsWritten, written_more}
use Rattle.serve_loop.proofs.sending.write_whole.Goals as goal

pub loop-rest-preserved : goal.loop-rest-preserved
loop-rest-preserved g c = record {
  written =
      subst (IsWritten (g.L.Link.written c.args.link.now) (g.L.Link.written c.write.new.self) c.args.bytes.now) (sym c.split_at.ensures.back)
      (written_more (g.L.Link.written c.args.link.now) (g.L.Link.written c.loop-rest.link) (g.L.Link.written c.write.new.self) c.args.bytes.now c.loop-rest.rest.now c.in_ok-count.count c.loop-rest.invariant.written c.in_ok-count.ensures.within c.in_ok-count.ensures.taken);
  unread = c.write.ensures.unread.0 ∙ c.loop-rest.invariant.unread;
  faults = omega (arith, c.loop-rest.invariant.faults, c.write.ensures.counted);
}
