use Rattle.std.proofs.Common.{map, subst, sym, ◌∙◌}
use Rattle.std.specs.List.{AllByRecursion}
use Rattle.node_lock.specs.Passes.{view_of}
use Rattle.served_seats.specs.Seats.{IsOwn}
use Rattle.served_seats.proofs.Seated.{all_same_chain, own_fresh, same_chain, seated_since_open}
use Rattle.served_seats.proofs.tests.add_in_rounds.Goals as goal

pub close-requires-clause-seats : goal.close-requires-clause-seats
close-requires-clause-seats g c =
    let first = view_of c.in_ok-seats.seats.first in
    let rest = map view_of c.in_ok-seats.seats.others.items in
    let first' = view_of c.add_one-first.result in
    let rest' = map view_of c.in_ok-others.others.items in
    let first'' = view_of c.add_one-first-2.result in
    let rest'' = map view_of c.in_ok-others-2.others.items in
    (seated_since_open c.args.others first first'' rest rest'' c.in_ok-seats.ensures.first.1 c.in_ok-seats.ensures.others.1
    (same_chain first first' first'' c.add_one-first.ensures.same c.add_one-first-2.ensures.same)
    (all_same_chain rest rest' rest'' c.in_ok-others.ensures.same c.in_ok-others-2.ensures.same)).0
    ∙ sym c.in_ok-seats.ensures.lock.1

pub close-requires-clause-apart : goal.close-requires-clause-apart
close-requires-clause-apart g c =
    let first = view_of c.in_ok-seats.seats.first in
    let rest = map view_of c.in_ok-seats.seats.others.items in
    let first' = view_of c.add_one-first.result in
    let rest' = map view_of c.in_ok-others.others.items in
    let first'' = view_of c.add_one-first-2.result in
    let rest'' = map view_of c.in_ok-others-2.others.items in
    (seated_since_open c.args.others first first'' rest rest'' c.in_ok-seats.ensures.first.1 c.in_ok-seats.ensures.others.1
    (same_chain first first' first'' c.add_one-first.ensures.same c.add_one-first-2.ensures.same)
    (all_same_chain rest rest' rest'' c.in_ok-others.ensures.same c.in_ok-others-2.ensures.same)).1

pub close-requires-clause-own : goal.close-requires-clause-own
close-requires-clause-own g c =
    let own = subst (λ vs. AllByRecursion IsOwn vs) (sym c.in_ok-seats.ensures.others.1) (own_fresh _ 1 c.args.others) in
    (c.add_one-first-2.ensures.own (c.add_one-first.ensures.own (subst IsOwn (sym c.in_ok-seats.ensures.first.1) tt)), c.in_ok-others-2.ensures.own (c.in_ok-others.ensures.own own))
