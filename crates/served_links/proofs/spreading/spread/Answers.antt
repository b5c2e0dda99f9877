use Rattle.std.proofs.Common.{◌≡◌, ℕ, map, subst, arith}
use Rattle.served_links.specs.Ends.{LeadToOthers}
use Rattle.served_links.specs.Nodes.{ends_of, upto_of}
use Rattle.served_links.proofs.Linked.{all_distinct}
use Rattle.served_links.proofs.spreading.spread.Goals as goal

pub returns-clause-all : goal.returns-clause-all
returns-clause-all c =
    let all : c.loop-node.node ≡ c.args.nodes = omega arith in
    subst (λ (n : ℕ). LeadToOthers upto_of n (map ends_of c.loop-node.all.items)) all c.loop-node.invariant.all

pub returns-clause-distinct : goal.returns-clause-distinct
returns-clause-distinct c = all_distinct c.loop-node.node (map ends_of c.loop-node.all.items) c.loop-node.invariant.all
