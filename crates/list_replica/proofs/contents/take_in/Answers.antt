use Rattle.list_replica.proofs.Looking.{takes_found, arrives_found, comes_found, away, is_found}
use Rattle.list_replica.proofs.contents.take_in.Goals as goal

pub returns-in-Some-clause-takes : goal.returns-in-Some-clause-takes
returns-in-Some-clause-takes c =
    let through = c.get_mut.follows.holds c.apply.new.self in
    let updates = through.3 (is_found c.args.contents.now c.args.partition.now c.in-Some.content.now c.in-Some.ensures.value) in
    takes_found c.args.contents.now (c.get_mut.follows.lender c.apply.new.self) c.args.partition.now c.in-Some.content.now c.apply.new.self c.args.incoming c.requires.ordered through.4
    c.in-Some.ensures.value updates.1 c.apply.ensures.content (λ q other. updates.2 q (away c.args.partition.now q other))

pub returns-in-Some-clause-arrivals : goal.returns-in-Some-clause-arrivals
returns-in-Some-clause-arrivals c =
    let through = c.get_mut.follows.holds c.apply.new.self in
    let updates = through.3 (is_found c.args.contents.now c.args.partition.now c.in-Some.content.now c.in-Some.ensures.value) in
    arrives_found c.args.contents.now (c.get_mut.follows.lender c.apply.new.self) c.args.partition.now c.in-Some.content.now c.apply.new.self c.args.at c.requires.ordered through.4
    c.in-Some.ensures.value updates.1 c.apply.ensures.arrivals (λ q other. updates.2 q (away c.args.partition.now q other))

pub returns-in-Some-clause-comes : goal.returns-in-Some-clause-comes
returns-in-Some-clause-comes c =
    let through = c.get_mut.follows.holds c.apply.new.self in
    let updates = through.3 (is_found c.args.contents.now c.args.partition.now c.in-Some.content.now c.in-Some.ensures.value) in
    comes_found c.args.contents.now (c.get_mut.follows.lender c.apply.new.self) (record { partition = c.args.partition.now; changes = c.args.incoming }) c.in-Some.content.now c.apply.new.self c.args.at
    c.in-Some.ensures.value updates.1 c.apply.ensures.content c.apply.ensures.arrivals

pub returns-in-Some-clause-others : goal.returns-in-Some-clause-others
returns-in-Some-clause-others c q other =
    ((c.get_mut.follows.holds c.apply.new.self).3 (is_found c.args.contents.now c.args.partition.now c.in-Some.content.now c.in-Some.ensures.value)).2 q (away c.args.partition.now q other)
