use Rattle.std.proofs.Common.{ℕ, List, inr, sym, subst, arith}
use Rattle.cs_doors.specs.Lending.{HasLent}
use Rattle.served_doors.specs.Ledger.{ledger}
use Rattle.served_stores.specs.Shown.{shown}
use Rattle.served_cluster.specs.Kinds.{ReplicaKind, kind_of_replica}
use Rattle.served_cluster.proofs.Parts.{StaysSafe, doors_long, even_links, few_doors, few_nodes, full_within, given_back, whole_links}
use Rattle.served_cluster.proofs.giving.give_back.Given.{Over}
use Rattle.served_cluster.proofs.giving.give_back.Goals as goal

abbrev kind : (g : Over) → ReplicaKind g.row.R.Denot
kind g = kind_of_replica g.R.Disk.Store.is_honest g.R.Replica.stands_for g.R.Replica.durable g.R.Replica.is_whole g.R.Replica.log_end g.R.Replica.since_flush g.R.Replica.disk g.R.Disk.Store.disk g.R.Disk.Store.faults

pub give_parts-requires-clause-few : goal.give_parts-requires-clause-few
give_parts-requires-clause-few g c =
    let p = c.in-Ok.parted in
    let few = few_nodes (kind g) c.args.left.items p c.in-Ok.ensures c.requires.can in
    let ok = p.nodes.ok.0 in
    omega (arith, few, ok)

pub give_parts-requires-clause-few_doors : goal.give_parts-requires-clause-few_doors
give_parts-requires-clause-few_doors g c =
    let p = c.in-Ok.parted in
    let few = few_doors (kind g) c.args.left.items p c.in-Ok.ensures c.requires.can in
    let ok = p.doors.ok.0 in
    omega (arith, few, ok)

pub give_parts-requires-clause-within : goal.give_parts-requires-clause-within
give_parts-requires-clause-within g c = full_within (kind g) c.args.left.items c.in-Ok.parted c.in-Ok.ensures c.requires.can

pub give_parts-requires-clause-even : goal.give_parts-requires-clause-even
give_parts-requires-clause-even g c = even_links (kind g) c.args.left.items c.in-Ok.parted c.in-Ok.ensures c.requires.can

pub give_parts-requires-clause-ends : goal.give_parts-requires-clause-ends
give_parts-requires-clause-ends g c = whole_links (kind g) c.args.left.items c.in-Ok.parted c.in-Ok.ensures c.requires.can

pub give_parts-requires-clause-lent : goal.give_parts-requires-clause-lent
give_parts-requires-clause-lent g c =
    subst (λ (n : ℕ). HasLent n (g.L.Doors.given c.args.doors.now) (g.L.Doors.returned c.args.doors.now))
    (sym (doors_long (kind g) c.args.left.items c.in-Ok.parted c.in-Ok.ensures c.requires.can)) c.requires.lent

pub returns-in-Ok : goal.returns-in-Ok
returns-in-Ok g c =
    let book = ledger g.L.Doors.given g.L.Doors.returned g.L.Doors.faults in
    let show = shown g.D.Stores.holds g.D.Stores.faults g.D.Stores.taken g.D.Stores.is_out in
    let p = c.in-Ok.parted in
    let ok = p.nodes.ok.0 in
    let safe : StaysSafe (kind g) = λ r honest whole files same. g.met.R.Replica.is_safe r honest whole files
    (λ k. subst (λ (bytes : List ℕ). (g.R.Disk.Store.disk (g.R.Replica.disk r)).left (g.R.Disk.Store.disk (g.R.Replica.disk r)).moment k bytes) (sym (same k)) (g.met.R.Disk.Store.may_stay (g.R.Replica.disk r) honest k)) in
    let done = c.give_parts.ensures in
    inr (given_back (kind g) c.args.left.items p c.in-Ok.ensures c.requires.can safe g.L.Door.Door.faults c.args.console
    (show c.args.stores.now) (show c.give_parts.new.stores) (book c.args.doors.now) (book c.give_parts.new.doors) c.give_parts.result
    done.told done.settled done.doors done.stores (λ n le. done.others n (omega (arith, le, ok))))
