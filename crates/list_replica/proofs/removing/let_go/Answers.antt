use Rattle.std.proofs.Common.{sym, subst}
use Rattle.std.proofs.lemmas.Result.{on_ok_weaker}
use Rattle.durable_state.specs.Taking.{LetsGo}
use Rattle.list_replica.specs.Staging.{Map}
use Rattle.list_replica.specs.Stores.{all_of}
use Rattle.list_replica.proofs.Leaving.{lets_go_found, lets_go_none}
use Rattle.list_replica.proofs.Looking.{away, is_found}
use Rattle.list_replica.proofs.removing.let_go.Goals as goal

pub returns-in-Some-clause-gone : goal.returns-in-Some-clause-gone
returns-in-Some-clause-gone c =
    let through = c.get_mut.follows.holds c.remove.new.loaded in
    let updates = through.3 (is_found c.args.loads.now c.args.change.now.partition c.in-Some.loaded.now c.in-Some.ensures.value) in
    on_ok_weaker c.remove.result
    (λ without. lets_go_found c.args.loads.now (c.get_mut.follows.lender c.remove.new.loaded) c.args.change.now c.in-Some.loaded.now c.remove.new.loaded c.requires through.4 c.in-Some.ensures.value updates.1 without
    (λ q other. updates.2 q (away c.args.change.now.partition q other)))
    c.remove.ensures

pub returns-in-None-clause-gone : goal.returns-in-None-clause-gone
returns-in-None-clause-gone c =
    subst (λ (n : Map). LetsGo (all_of c.args.loads.now.entries) c.args.change.now (all_of n.entries)) (sym c.get_mut.follows.holds-at-none) (lets_go_none c.args.loads.now c.args.change.now c.requires c.in-None.ensures.value)
