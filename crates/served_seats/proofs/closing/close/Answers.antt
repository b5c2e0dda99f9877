use Rattle.std.proofs.Common.{◌≡◌, ◌∷◌, map, ap, ◌∙◌}
use Rattle.node_lock.specs.Histories.{StartsWith, entries_by}
use Rattle.node_lock.specs.Passes.{view_of}
use Rattle.node_lock.specs.Views.{PassView}
use Rattle.node_lock.proofs.HistoryLaws.{starts-chain}
use Rattle.served_seats.specs.Seats.{made_by}
use Rattle.served_seats.proofs.Joined.{all_weaker, each_in, mine_in, none_in}
use Rattle.served_seats.proofs.closing.close.Goals as goal

pub returns-clause-each : goal.returns-clause-each
returns-clause-each g c =
    let E = g.row.N-Entry.Denot in
    let all = map view_of (c.args.first ∷ c.args.others.items) in
    all_weaker (λ (v : PassView E). entries_by v.number (mine_in all) ≡ made_by v) (λ (v : PassView E). entries_by v.number c.close.result.1 ≡ made_by v)
    (λ v here. c.close.ensures.calls v.number ∙ (ap (entries_by v.number) c.join_all-whole.ensures.mine ∙ here)) all (each_in all c.requires.apart c.requires.own)

pub returns-clause-none_else : goal.returns-clause-none_else
returns-clause-none_else g c = λ n others.
    let all = map view_of (c.args.first ∷ c.args.others.items) in
    c.close.ensures.calls n ∙ (ap (entries_by n) c.join_all-whole.ensures.mine ∙ none_in n all others c.requires.own)

pub returns-clause-seen : goal.returns-clause-seen
returns-clause-seen g c =
    let E = g.row.N-Entry.Denot in
    let all = map view_of (c.args.first ∷ c.args.others.items) in
    all_weaker (λ (v : PassView E). StartsWith (view_of c.join_all-whole.result).seen v.seen) (λ (v : PassView E). StartsWith c.close.result.1 v.seen)
    (λ v here. starts-chain c.close.result.1 (view_of c.join_all-whole.result).seen v.seen c.close.ensures.seen here) all c.join_all-whole.ensures.seen
