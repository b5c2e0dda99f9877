use Rattle.std.proofs.Common.{◌≡◌, ◌≤◌, false, take}
use Rattle.session_v4.specs.Sessions.{state_in}
use Rattle.serve_loop.specs.Exchanges.{Exchanges}
use Rattle.serve_loop.specs.Steps.{Steps}
use Rattle.serve_loop.proofs.serving.serve_frames.Given as goal

abbrev pub invariant-loop-frame : goal.invariant-loop-frame
invariant-loop-frame g l = record {
  served : Steps (λ asked bytes. Exchanges (take l.frame-index l.frames) (state_in l.fn.session) asked bytes (state_in l.session)) (g.D.Desk.asks l.fn.desk) (g.D.Desk.asks l.desk) (g.L.Link.written l.fn.link) (g.L.Link.written l.link);
  unraised : g.Q.StopSign.has_answered l.stop ≡ false;
  home : g.D.Desk.home l.desk ≡ g.D.Desk.home l.fn.desk;
  unread : g.L.Link.remaining l.link ≡ g.L.Link.remaining l.fn.link;
  counted : g.L.Link.faults l.fn.link ≤ g.L.Link.faults l.link;
}
