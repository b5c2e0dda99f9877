use Rattle.std.proofs.Common.{OnOk, subst}
use Rattle.list_replica.specs.Staging.{Map}
use Rattle.list_replica.specs.Stores.{TakesData}
use Rattle.list_replica.proofs.Loading.{on_ok_both, taken_found}
use Rattle.list_replica.proofs.Looking.{away, is_found}
use Rattle.list_replica.proofs.loads.load_in.Goals as goal

pub returns-in-Some-clause-takes : goal.returns-in-Some-clause-takes
returns-in-Some-clause-takes c =
    let through = c.get_mut.follows.holds c.add.new.self in
    let updates = through.3 (is_found c.args.loads.now c.args.partition c.in-Some.loaded.now c.in-Some.ensures.value) in
    on_ok_both c.add.result
    (λ merge come. taken_found c.args.loads.now (c.get_mut.follows.lender c.add.new.self) c.args.partition c.in-Some.loaded.now c.add.new.self c.args.incoming c.args.at c.requires through.4 c.in-Some.ensures.value updates.1
    (λ q other. updates.2 q (away c.args.partition q other)) merge come)
    c.add.ensures.content c.add.ensures.arrivals

pub returns-in-None-clause-takes : goal.returns-in-None-clause-takes
returns-in-None-clause-takes c =
    subst (λ (m : Map). OnOk c.begin.result (TakesData c.args.at (record { partition = c.args.partition; changes = c.args.incoming }) m c.begin.new.loads)) c.get_mut.follows.holds-at-none c.begin.ensures.takes
