use Rattle.std.proofs.Common.{None, refl, arith, ◌∙◌}
use Rattle.session_v4.specs.Sessions.{state_in}
use Rattle.serve_loop.proofs.ExchangeLaws.{one_served, ended_among, unraised}
use Rattle.serve_loop.proofs.serving.serve_frames.Goals as goal

pub returns-in-Some-clause-served : goal.returns-in-Some-clause-served
returns-in-Some-clause-served g c =
    ended_among c.in-Some.end (g.Q.StopSign.has_answered c.serve_frame.new.stop) c.args.frames.now c.loop-frame.frame-index c.frame-item.result c.frame-item.result
    (state_in c.args.session.now) (state_in c.loop-frame.session) (g.D.Desk.asks c.args.desk.now) (g.D.Desk.asks c.loop-frame.desk) (g.D.Desk.asks c.serve_frame.new.desk)
    (g.L.Link.written c.args.link.now) (g.L.Link.written c.loop-frame.link) (g.L.Link.written c.serve_frame.new.link) c.loop-frame-test.true c.frame-item.is c.loop-frame.invariant.served c.in-Some.ensures.served

pub loop-frame-preserved : goal.loop-frame-preserved
loop-frame-preserved g c = record {
  served =
      one_served c.args.frames.now c.loop-frame.frame-index c.frame-item.result c.frame-item.result
      (state_in c.args.session.now) (state_in c.loop-frame.session) (state_in c.serve_frame.new.session) (g.D.Desk.asks c.args.desk.now) (g.D.Desk.asks c.loop-frame.desk) (g.D.Desk.asks c.serve_frame.new.desk)
      (g.L.Link.written c.args.link.now) (g.L.Link.written c.loop-frame.link) (g.L.Link.written c.serve_frame.new.link) c.loop-frame-test.true c.frame-item.is c.loop-frame.invariant.served c.in_default.ensures.served;
  unraised = unraised None (g.Q.StopSign.has_answered c.serve_frame.new.stop) refl c.in_default.ensures.stop;
  home = c.in_default.ensures.home ∙ c.loop-frame.invariant.home;
  unread = c.in_default.ensures.unread ∙ c.loop-frame.invariant.unread;
  counted = omega (arith, c.loop-frame.invariant.counted, c.in_default.ensures.counted);
}
