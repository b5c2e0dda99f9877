use Rattle.std.proofs.Common.{◌≤◌, length}
use Rattle.script_program.proofs.StreamLaws.{IsWritten}
use Rattle.script_program.proofs.streams.write_all.Given as goal

abbrev pub invariant-loop-rest : goal.invariant-loop-rest
invariant-loop-rest g l = record {
  written : IsWritten (g.T.Sink.contents l.fn.sink) (g.T.Sink.contents l.sink) l.text l.rest;
  faults : g.T.Sink.faults l.fn.sink ≤ g.T.Sink.faults l.sink;
}

abbrev pub decreases-loop-rest : goal.decreases-loop-rest
decreases-loop-rest g l = length l.rest
