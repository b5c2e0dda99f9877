use Rattle.std.proofs.Common.{◌≡◌, false}
use Rattle.serve_loop.proofs.asking.collect.Given as goal

abbrev pub invariant-loop : goal.invariant-loop
invariant-loop g l = record {
  asks : g.D.Desk.asks l.desk ≡ g.D.Desk.asks l.initial.desk;
  home : g.D.Desk.home l.desk ≡ g.D.Desk.home l.initial.desk;
  unraised : g.Q.StopSign.has_answered l.stop ≡ false;
}
