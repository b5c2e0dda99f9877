use Rattle.std.proofs.Common.{refl}
use Rattle.cluster_program.proofs.serving.serve_desk.Goals as goal

pub returns : goal.returns
returns g c = record {
  host = _;
  run = c.serve.result;
  schema_is = refl;
  clock_is = refl;
  streams_are_back = c.serve.ensures.console;
  read_fault = c.serve.ensures.read_fault;
  write_fault = c.serve.ensures.write_fault;
  store_fault = c.serve.ensures.store_fault;
  door_fault = c.serve.ensures.door_fault;
  no_thread = c.serve.ensures.no_thread;
  damaged = c.serve.ensures.damaged;
  closed = c.serve.ensures.closed;
  full = c.serve.ensures.full;
  goes_on = λ full h. record {
    goes_on = λ honest earlier run held. c.served_runs_are_runs.ensures _ _ _ _ _ _ _ _ full earlier h honest run held;
    begins = λ honest formatted.
        let left = c.formatted_stores_are_left.ensures _ _ formatted in
        c.served_runs_are_runs.ensures _ _ _ _ _ _ _ _ full _ h honest left.0 left.1;
    tells = λ begun last order is through. c.served_answers_are_entered.ensures _ _ _ _ _ _ _ _ full begun last order h is through;
  };
  source_is = c.told.ensures.source;
  told = c.told.ensures.told;
  later = c.told.ensures.later;
}
