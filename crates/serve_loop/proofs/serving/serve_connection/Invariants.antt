use Rattle.std.proofs.Common.{◌≡◌, ◌≤◌, false}
use Rattle.session_v4.specs.Sessions.{state_in}
use Rattle.serve_loop.proofs.ConversationLaws.{IsGoingOn}
use Rattle.serve_loop.proofs.serving.serve_connection.Given as goal

abbrev pub invariant-loop : goal.invariant-loop
invariant-loop g l = record {
  going : IsGoingOn l.fn.schema (g.L.Link.remaining l.fn.link) (g.L.Link.remaining l.link) (g.D.Desk.asks l.fn.desk) (g.D.Desk.asks l.desk) (g.L.Link.written l.fn.link) (g.L.Link.written l.link) l.framer (state_in l.session);
  unraised : g.Q.StopSign.has_answered l.stop ≡ false;
  home : g.D.Desk.home l.desk ≡ g.D.Desk.home l.fn.desk;
  counted : g.L.Link.faults l.fn.link ≤ g.L.Link.faults l.link;
}
