use Rattle.std.proofs.Common.{rules, ◌≡◌, ℕ, ◌*◌, length, ap, ◌∙◌}
use Rattle.served_doors.specs.Ledger.{by_node, ledger}
use Rattle.served_doors.specs.Opening.{IsFresh}
use Rattle.served_doors.proofs.Ledgers.{by_node_length, gives_same, more_lent}
use Rattle.served_doors.proofs.opening.open_doors.Goals as goal

pub returns-then-is_full-clause-length : goal.returns-then-is_full-clause-length
returns-then-is_full-clause-length g c =
    let opened = c.fill_all-opened.result.0 in
    let ok = opened.ok.0 in
    let count : length opened.items ≡ c.args.nodes = search rules in
    by_node_length (IsFresh g.L.Door.Door.given g.L.Door.Door.returned g.L.Door.Door.faults) c.args.each 0 opened.items (c.fill_all-opened.ensures.all (search rules)) ∙ ap (λ (n : ℕ). n * c.args.each) count

pub returns-then-is_full-clause-gives : goal.returns-then-is_full-clause-gives
returns-then-is_full-clause-gives g c =
    let book = ledger g.L.Doors.given g.L.Doors.returned g.L.Doors.faults in
    let opened = c.fill_all-opened.result.0 in
    let ok = opened.ok.0 in
    let count : length opened.items ≡ c.args.nodes = search rules in
    let long = by_node_length (IsFresh g.L.Door.Door.given g.L.Door.Door.returned g.L.Door.Door.faults) c.args.each 0 opened.items (c.fill_all-opened.ensures.all (search rules)) ∙ ap (λ (n : ℕ). n * c.args.each) count in
    gives_same (length (by_node 0 opened.items)) (c.args.nodes * c.args.each) (book c.args.doors.now) (book c.fill_all-opened.new.doors) long c.fill_all-opened.ensures.gives

pub returns-then-is_full-clause-lent : goal.returns-then-is_full-clause-lent
returns-then-is_full-clause-lent g c =
    let book = ledger g.L.Doors.given g.L.Doors.returned g.L.Doors.faults in
    let opened = c.fill_all-opened.result.0 in
    let ok = opened.ok.0 in
    let count : length opened.items ≡ c.args.nodes = search rules in
    let long = by_node_length (IsFresh g.L.Door.Door.given g.L.Door.Door.returned g.L.Door.Door.faults) c.args.each 0 opened.items (c.fill_all-opened.ensures.all (search rules)) ∙ ap (λ (n : ℕ). n * c.args.each) count in
    more_lent (c.args.nodes * c.args.each) (book c.args.doors.now) (book c.fill_all-opened.new.doors)
    (gives_same (length (by_node 0 opened.items)) (c.args.nodes * c.args.each) (book c.args.doors.now) (book c.fill_all-opened.new.doors) long c.fill_all-opened.ensures.gives)
