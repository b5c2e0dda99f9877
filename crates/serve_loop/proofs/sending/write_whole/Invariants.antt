use Rattle.std.proofs.Common.{◌≡◌, ◌≤◌, length}
use Rattle.serve_loop.proofs.WriteLaws.{IsWritten}
use Rattle.serve_loop.proofs.sending.write_whole.Given as goal

abbrev pub invariant-loop-rest : goal.invariant-loop-rest
invariant-loop-rest g l = record {
  written : IsWritten (g.L.Link.written l.fn.link) (g.L.Link.written l.link) l.bytes l.rest;
  unread : g.L.Link.remaining l.link ≡ g.L.Link.remaining l.fn.link;
  faults : g.L.Link.faults l.fn.link ≤ g.L.Link.faults l.link;
}

abbrev pub decreases-loop-rest : goal.decreases-loop-rest
decreases-loop-rest g l = length l.rest
