use Rattle.served_run.proofs.CloseLaws.{all_apart, all_own, all_seats, closed_so, passes_of}
use Rattle.served_run.proofs.closing.close_one.Goals as goal

pub close-state-requires : goal.close-state-requires
close-state-requires g c =
    let back = c.args.back in
    let passes = c.in_ok-parted.parted.passes.items in
    let is = c.in_ok-parted.ensures.passes in
    let law = c.same_passes_have_all_seats.ensures in
    record {
      passes = passes_of back passes is c.args.lock c.requires;
      seats = all_seats back passes is c.args.lock c.requires law;
      apart = all_apart back passes is c.args.lock c.requires law;
      own = all_own back passes is c.args.lock c.requires;
    }

pub returns : goal.returns
returns g c =
    let closed = c.close-state.ensures in
    closed_so c.args.back c.in_ok-parted.parted.passes.items c.in_ok-parted.ensures.passes g.N.Stepper.steps c.args.lock
    record { state = c.close-state.result.0; history = c.close-state.result.1; jobs = c.in_ok-parted.parted.jobs }
    closed.replays closed.most closed.each closed.none_else closed.seen c.in_ok-parted.ensures.jobs
